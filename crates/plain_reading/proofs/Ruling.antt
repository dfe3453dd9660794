-- What the walk makes of a whole AVP is what the first letter that it breaks makes of it.
use Rattle.octets.specs.Standard.{ℕ, ◌≡◌, refl, List, Option, none, some, Bool, true, false, cond, not, ◌&&◌, set, get_or, eqb, leb, length, ◌+◌}
use Rattle.diameter.specs.Avp.{avp_flags, avp_head, data_of, value_of, reserved, marked}
use Rattle.diameter.specs.AvpAt.{present}
use Rattle.diameter.specs.Walk.{walk}
use Rattle.reading.specs.declared.Content.{Content}
use Rattle.reading.specs.declared.Content.TheVariants.{Free, Number, Sized, Members}
use Rattle.reading.specs.declared.Dialect.{Dialect}
use Rattle.reading.specs.declared.Ruled.TheVariants.{Fault}
use Rattle.reading.specs.declared.Use.{Use}
use Rattle.reading.specs.declared.Use.TheVariants.{Unknown, Unnamed, Needed, Optional, Repeated, Several}
use Rattle.reading.specs.Contents.{plain_fault, number_fault}
use Rattle.reading.specs.Groups.{members_of, gathers, too_often, group_fault}
use Rattle.reading.specs.Kinds.{kind_of, row_of, use_of, is_unknown}
use Rattle.reading.specs.Rules.{Seen, content_fault, of_content, of_use, rule_by, rule}
use Rattle.requests.specs.Judged.{Judged, bad, on_rule}
use Rattle.plain_reading.specs.declared.Letter.{Letter}
use Rattle.plain_reading.specs.declared.Letter.TheVariants.{A, B, C, D, F, G, H, Newer}
use Rattle.plain_reading.specs.Broken.{is_named, is_sole, came, other_length, bad_content, several_in, breaks_whole, breaks}
use Rattle.plain_reading.specs.Passes.{letters}
use Rattle.plain_reading.specs.Plain.{blamed}
use Rattle.plain_reading.proofs.Picking.{or_else, first_letter}

-- (g), (h) and [10]'s, as the walk has them in one number
pub content_letters : (d : Dialect) (c : Content) (a : List ℕ)
    → content_fault d c a ≡ cond (other_length c a) 5014 (cond (bad_content d c a) 5004 (cond (several_in d c a) 5009 0))
unfolding content_fault plain_fault number_fault group_fault
content_letters d Free a = refl
content_letters d (Number least most) a = go (eqb (length a) (avp_head a + 4)) (leb least (value_of a) && leb (value_of a) most)
  where
    go : (x y : Bool) → ◌≡◌ {A = ℕ} (cond (not x) 5014 (cond y 0 5004)) (cond (not x) 5014 (cond (not y) 5004 0))
    go true true = refl
    go true false = refl
    go false y = refl
content_letters d (Sized least most) a = go (leb least (length (data_of a)) && leb (length (data_of a)) most)
  where
    go : (x : Bool) → ◌≡◌ {A = ℕ} (cond x 0 5004) (cond (not x) 5004 0)
    go true = refl
    go false = refl
content_letters d (Members g) a = go (gathers (members_of d g) (walk (data_of a))) (too_often d g (walk (data_of a)))
  where
    go : (x y : Bool) → ◌≡◌ {A = ℕ} (cond x (cond y 5009 0) 5004) (cond (not x) 5004 (cond (eqb (cond x (cond y 5009 0) 5004) 5009) 5009 0))
    go true true = refl
    go true false = refl
    go false y = refl

-- the first letter, by what each pass says
abbrev pub chosen : Bool → Bool → Bool → Bool → Bool → Bool → Bool → Bool → Option Letter
chosen a b c d f g h n =
    or_else (or_else (or_else (or_else (or_else (or_else (or_else (or_else none a A) b B) c C) d D) f F) g G) h H) n Newer

-- what comes of it: a fault, an AVP of a named kind, or one that is skipped
abbrev pub on_chosen : Option Letter → Bool → Seen → List ℕ → ℕ → (Seen → Judged) → Judged
on_chosen (some l) named seen a at next = bad (blamed l at)
on_chosen none true seen a at next = next (set seen (kind_of a) (some a))
on_chosen none false seen a at next = next seen

module _ (seen : Seen) (a : List ℕ) (at : ℕ) (next : Seen → Judged) where
  content_chosen : (g h n : Bool) → on_rule (of_content (cond g 5014 (cond h 5004 (cond n 5009 0)))) seen a at next
      ≡ on_chosen (chosen false false false false false g h n) true seen a at next
  content_chosen true h n = refl
  content_chosen false true n = refl
  content_chosen false false true = refl
  content_chosen false false false = refl

  use_chosen : (u : Use) (c e g h n m : Bool) (flags : ℕ) → marked flags ≡ m
      → on_rule (cond c (Fault 3009) (of_use u e flags (cond g 5014 (cond h 5004 (cond n 5009 0))))) seen a at next
      ≡ on_chosen (chosen false false c (is_unknown u && m) (is_sole u && e) (is_named u && g) (is_named u && h) (is_named u && n)) (is_named u) seen a at next
  use_chosen u true e g h n m flags f = refl
  use_chosen Unknown false e g h n true flags f = rw f
  use_chosen Unknown false e g h n false flags f = rw f
  use_chosen Unnamed false e g h n m flags f = refl
  use_chosen Needed false true g h n m flags f = refl
  use_chosen Needed false false g h n m flags f = content_chosen g h n
  use_chosen Optional false true g h n m flags f = refl
  use_chosen Optional false false g h n m flags f = content_chosen g h n
  use_chosen Repeated false e g h n m flags f = content_chosen g h n
  use_chosen Several false e g h n m flags f = content_chosen g h n

  -- "too often" is asked of the kinds that come once
  sole_alike : (u : Use) (c g h n : Bool) (flags : ℕ) (x y : Bool) → (is_sole u ≡ true → x ≡ y)
      → cond c (Fault 3009) (of_use u x flags (cond g 5014 (cond h 5004 (cond n 5009 0))))
      ≡ cond c (Fault 3009) (of_use u y flags (cond g 5014 (cond h 5004 (cond n 5009 0))))
  sole_alike Unknown c g h n flags x y e = refl
  sole_alike Unnamed c g h n flags x y e = refl
  sole_alike Needed c g h n flags x y e = rw (e refl)
  sole_alike Optional c g h n flags x y e = rw (e refl)
  sole_alike Repeated c g h n flags x y e = refl
  sole_alike Several c g h n flags x y e = refl

  module _ (d : Dialect) (avps : Seen) (i : ℕ) (here : get_or avps i none ≡ some a) where
    abbrev pub chosen_here : Bool → Option Letter
    chosen_here b =
        chosen false b (breaks_whole d avps i a C) (breaks_whole d avps i a D) (breaks_whole d avps i a F) (breaks_whole d avps i a G)
        (breaks_whole d avps i a H) (breaks_whole d avps i a Newer)

    pub letter_here : first_letter d avps i ≡ chosen_here (breaks_whole d avps i a B)
    unfolding letters breaks breaks_whole
    letter_here = rw here

    pub rule_letter : breaks_whole d avps i a B ≡ false
        → (is_sole (use_of d a) ≡ true → present (get_or seen (kind_of a) none) ≡ came avps (kind_of a) i)
        → on_rule (rule d seen a) seen a at next ≡ on_chosen (first_letter d avps i) (is_named (use_of d a)) seen a at next
    unfolding rule rule_by breaks_whole
    rule_letter b e =
        rw (letter_here, b, content_letters d (row_of (kind_of a)).content a)
        (rw (sole_alike (use_of d a) (not (eqb (reserved (avp_flags a)) 0)) (other_length (row_of (kind_of a)).content a)
        (bad_content d (row_of (kind_of a)).content a) (several_in d (row_of (kind_of a)).content a) (avp_flags a)
        (present (get_or seen (kind_of a) none)) (came avps (kind_of a) i) e)
        (use_chosen (use_of d a) (not (eqb (reserved (avp_flags a)) 0)) (came avps (kind_of a) i) (other_length (row_of (kind_of a)).content a)
        (bad_content d (row_of (kind_of a)).content a) (several_in d (row_of (kind_of a)).content a) (marked (avp_flags a)) (avp_flags a) refl))
