-- Each rule of "Reading a request" by itself: whether it is broken by the AVP of a number in the list, from 0 on.
use Rattle.std.specs.Prelude.{ℕ, zero, suc, ◌+◌, List, Bool, true, false, not, ◌&&◌, ◌||◌, length, get_or, eqb, leb}
use Rattle.std.proofs.Math.Option.{Option, none, some}
use Rattle.diameter.specs.Avp.{avp_flags, avp_head, data_of, value_of, reserved, marked}
use Rattle.diameter.specs.AvpAt.{or_none}
use Rattle.diameter.specs.Walk.{walk}
use Rattle.reading.specs.declared.Content.{Content}
use Rattle.reading.specs.declared.Content.TheVariants.{Free, Number, Sized, Members}
use Rattle.reading.specs.declared.Dialect.{Dialect}
use Rattle.reading.specs.declared.Use.{Use}
use Rattle.reading.specs.declared.Use.TheVariants.{Unknown, Unnamed, Needed, Optional, Repeated, Several}
use Rattle.reading.specs.Groups.{members_of, gathers, group_fault}
use Rattle.reading.specs.Kinds.{kind_of, row_of, use_of, is_unknown, session_id}
use Rattle.reading.specs.Rules.{Seen}
use Rattle.plain_reading.specs.declared.Letter.{Letter}
use Rattle.plain_reading.specs.declared.Letter.TheVariants.{A, B, C, D, F, G, H, Newer}

-- the kinds that the command names, and those of them that may come only once: "the rest come once"
abbrev pub is_named : Use → Bool
is_named Unknown = false
is_named Unnamed = false
is_named Needed = true
is_named Optional = true
is_named Repeated = true
is_named Several = true

abbrev pub is_sole : Use → Bool
is_sole Unknown = false
is_sole Unnamed = false
is_sole Needed = true
is_sole Optional = true
is_sole Repeated = false
is_sole Several = false

-- the kind of the AVP of a number in the list, and whether one of the first n is of a kind, at fault or not
unfoldable pub kind_at : Seen → ℕ → ℕ
kind_at avps i = kind_of (or_none (get_or avps i none))

unfoldable pub came : Seen → ℕ → ℕ → Bool
came avps k zero = false
came avps k (suc n) = came avps k n || eqb (kind_at avps n) k

-- "a 4-byte kind of another length"
abbrev pub other_length : Content → List ℕ → Bool
other_length Free a = false
other_length (Number least most) a = not (eqb (length a) (avp_head a + 4))
other_length (Sized least most) a = false
other_length (Members g) a = false

-- "bad content"
abbrev pub bad_content : Dialect → Content → List ℕ → Bool
bad_content d Free a = false
bad_content d (Number least most) a = not (leb least (value_of a) && leb (value_of a) most)
bad_content d (Sized least most) a = not (leb least (length (data_of a)) && leb (length (data_of a)) most)
bad_content d (Members g) a = not (gathers (members_of d g) (walk (data_of a)))

-- 02 [10]: "RFC 6733, where 260 holds exactly one Vendor-Id"
abbrev pub several_in : Dialect → Content → List ℕ → Bool
several_in d Free a = false
several_in d (Number least most) a = false
several_in d (Sized least most) a = false
several_in d (Members g) a = eqb (group_fault d g (walk (data_of a))) 5009

-- The rules for a whole AVP: (e) is no fault, so that (d) asks of the unknown kinds alone, and (f) to (h) of those that are named.
unfoldable pub breaks_whole : Dialect → Seen → ℕ → List ℕ → Letter → Bool
breaks_whole d avps i a A = false
breaks_whole d avps i a B = eqb i 0 && not (eqb (kind_of a) session_id)
breaks_whole d avps i a C = not (eqb (reserved (avp_flags a)) 0)
breaks_whole d avps i a D = is_unknown (use_of d a) && marked (avp_flags a)
breaks_whole d avps i a F = is_sole (use_of d a) && came avps (kind_of a) i
breaks_whole d avps i a G = is_named (use_of d a) && other_length (row_of (kind_of a)).content a
breaks_whole d avps i a H = is_named (use_of d a) && bad_content d (row_of (kind_of a)).content a
breaks_whole d avps i a Newer = is_named (use_of d a) && several_in d (row_of (kind_of a)).content a

-- "a length fault": nothing else is asked of such an AVP
abbrev pub is_a : Letter → Bool
is_a A = true
is_a B = false
is_a C = false
is_a D = false
is_a F = false
is_a G = false
is_a H = false
is_a Newer = false

abbrev pub breaks_of : Dialect → Seen → ℕ → Option (List ℕ) → Letter → Bool
breaks_of d avps i none l = is_a l
breaks_of d avps i (some a) l = breaks_whole d avps i a l

unfoldable pub breaks : Dialect → Seen → Letter → ℕ → Bool
breaks d avps l i = breaks_of d avps i (get_or avps i none) l
