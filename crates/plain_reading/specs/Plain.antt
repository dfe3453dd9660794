-- A request read by its list of places: the fault that comes first, or what the command names.
use Rattle.std.specs.Prelude.{ℕ, zero, suc, List, [], ◌∷◌, ◌++◌, cond, length, get_or, eqb, ltb}
use Rattle.std.proofs.Math.Option.{Option, none}
use Rattle.reading.specs.declared.Dialect.{Dialect}
use Rattle.reading.specs.declared.Verdict.{Verdict}
use Rattle.reading.specs.Kinds.{kinds, row_of, use_in, session_id}
use Rattle.reading.specs.Places.{seen_of}
use Rattle.reading.specs.Rules.{Seen}
use Rattle.reading.specs.Verdicts.{fault_at, fault_of, lack_of}
use Rattle.requests.specs.Judged.{Judged, bad, fine}
use Rattle.requests.specs.Request.{header_fault, complete}
use Rattle.plain_reading.specs.declared.Broken.{Broken}
use Rattle.plain_reading.specs.declared.Letter.{Letter}
use Rattle.plain_reading.specs.declared.Letter.TheVariants.{A, B, C, D, F, G, H, Newer}
use Rattle.plain_reading.specs.Broken.{is_named, kind_at}
use Rattle.plain_reading.specs.Passes.{picked}

-- what a rule's fault comes to, of an AVP at a place
abbrev pub blamed : Letter → ℕ → Verdict
blamed A place = fault_at 5014 place
blamed B place = lack_of session_id
blamed C place = fault_at 3009 place
blamed D place = fault_at 5001 place
blamed F place = fault_at 5009 place
blamed G place = fault_at 5014 place
blamed H place = fault_at 5004 place
blamed Newer place = fault_at 5009 place

-- the last of the first n AVPs that is of a kind; for each kind's number, that AVP, if the command names the kind
unfoldable pub last_of : Seen → ℕ → ℕ → Option (List ℕ)
last_of avps k zero = none
last_of avps k (suc n) = cond (eqb (kind_at avps n) k) (get_or avps n none) (last_of avps k n)

unfoldable pub taken_of : Dialect → Seen → ℕ → ℕ → Option (List ℕ)
taken_of d avps n k = cond (is_named (use_in d (row_of k))) (last_of avps k n) none

unfoldable pub each_below : {X : Type 0} → (ℕ → X) → ℕ → List X
each_below f zero = []
each_below f (suc n) = each_below f n ++ (f n ∷ [])

unfoldable pub taken : Dialect → Seen → ℕ → Seen
taken d avps n = each_below (taken_of d avps n) kinds

-- "the first fault decides"; "After the walk, the first missing AVP in the order below: B5005."
unfoldable pub after_passes : Dialect → List ℕ → Seen → Broken → Judged
after_passes d places avps x =
    cond (ltb x.at (length avps)) (bad (blamed x.letter (get_or places x.at 0)))
    (complete d (fine (taken d avps (length avps))))

unfoldable pub plain_body : Dialect → List ℕ → List ℕ → Judged
plain_body d req places = after_passes d places (seen_of req places) (picked d (seen_of req places))

unfoldable pub plain_read : Dialect → List ℕ → List ℕ → Judged
plain_read d req places = cond (eqb (header_fault d req) 0) (plain_body d req places) (bad (fault_of (header_fault d req)))
