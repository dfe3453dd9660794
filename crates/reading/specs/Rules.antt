-- Rules (c) to (h) for one AVP. Rule (a) is the walk's, (b) the first AVP's.
use Rattle.std.specs.Prelude.{ℕ, List, Bool, cond, not, get_or, eqb}
use Rattle.std.proofs.Math.Option.{Option, none}
use Rattle.diameter.specs.Avp.{avp_flags, data_of, reserved, marked}
use Rattle.diameter.specs.Walk.{walk}
use Rattle.diameter.specs.AvpAt.{present}
use Rattle.reading.specs.declared.Content.{Content}
use Rattle.reading.specs.declared.Content.TheVariants.{Free, Number, Sized, Members}
use Rattle.reading.specs.declared.Dialect.{Dialect}
use Rattle.reading.specs.declared.Ruled.{Ruled}
use Rattle.reading.specs.declared.Ruled.TheVariants.{Taken, Skipped, Fault}
use Rattle.reading.specs.declared.Use.{Use}
use Rattle.reading.specs.declared.Use.TheVariants.{Unknown, Unnamed, Needed, Optional, Repeated, Several}
use Rattle.reading.specs.Kinds.{kind_of, row_of, use_of}
use Rattle.reading.specs.Contents.{plain_fault}
use Rattle.reading.specs.Groups.{group_fault}

-- (g), (h) The fault of what an AVP holds, 0 where there is none
unfoldable pub content_fault : Dialect → Content → List ℕ → ℕ
content_fault d Free a = plain_fault Free a
content_fault d (Number least most) a = plain_fault (Number least most) a
content_fault d (Sized least most) a = plain_fault (Sized least most) a
content_fault d (Members g) a = group_fault d g (walk (data_of a))

-- The state of the walk: for each kind number, the last AVP of it that was taken
abbrev pub Seen : Type 0
Seen = List (Option (List ℕ))

-- (d) "kind (vendor, code) unknown: with M B5001, else skipped"; (f) "too often: B5009"; (g) and (h)
abbrev pub of_unknown : ℕ → Ruled
of_unknown flags = cond (marked flags) (Fault 5001) Skipped

abbrev pub of_content : ℕ → Ruled
of_content fault = cond (eqb fault 0) Taken (Fault fault)

abbrev pub of_once : Bool → ℕ → Ruled
of_once earlier fault = cond earlier (Fault 5009) (of_content fault)

-- "M is ignored on known kinds"; (e) "known but not named in this command: skipped"
abbrev pub of_use : Use → Bool → ℕ → ℕ → Ruled
of_use Unknown earlier flags fault = of_unknown flags
of_use Unnamed earlier flags fault = Skipped
of_use Needed earlier flags fault = of_once earlier fault
of_use Optional earlier flags fault = of_once earlier fault
of_use Repeated earlier flags fault = of_content fault
of_use Several earlier flags fault = of_content fault

-- What (c) to (h) say of one AVP, by its kind's use, by whether one of its kind came earlier, by its flags and by the fault of what it holds
unfoldable pub rule_by : Use → Bool → ℕ → ℕ → Ruled
rule_by u earlier flags fault = cond (not (eqb (reserved flags) 0)) (Fault 3009) (of_use u earlier flags fault)

unfoldable pub rule : Dialect → Seen → List ℕ → Ruled
rule d seen a = rule_by (use_of d a) (present (get_or seen (kind_of a) none)) (avp_flags a) (content_fault d (row_of (kind_of a)).content a)
