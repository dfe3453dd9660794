-- What each function that looks at records says of what its callees said.
use Rattle.std.specs.Prelude.{Option, Some}
use Rattle.octets.specs.Standard.{ℕ, ◌+◌, ◌*◌, ◌≤◌, List, Bool, true, ◌&&◌, ◌≡◌, ◌∙◌, add-one, arith, get_or, ltb}
use Rattle.octets.specs.Name.{same}
use Rattle.record.specs.Fields.{private_of}
use Rattle.blocks.specs.Blocks.{block_of}
use Rattle.lookup.specs.Find.{end_of}
use Rattle.choices.specs.declared.types.AssignmentType.{AssignmentType}
use Rattle.choices.specs.declared.plan.Survey.{Survey}
use Rattle.assignment.specs.Assignment.{every, owned_here, owned_up_to, survey_of}
use Rattle.assignment.specs.Survey.{clean, glimpsed}
use Rattle.assignment.proofs.Surveys.{survey_more}

pub owned_all : (b user : List ℕ) {p : List ℕ} {x : Bool} → p ≡ private_of b → x ≡ same p user → (ltb 0 (get_or b 8 0) && x) ≡ owned_here b user
unfolding owned_here
owned_all b user e f = rw (f, e)

pub found_fits : (f : Option ℕ) (k n : ℕ) → f ≡ Some k → end_of f ≤ n → 512 * k + 512 ≤ n
found_fits f k n e h = rw e at h

-- The turns of the loop over a subscription.
module _ (t user server : List ℕ) (kind : AssignmentType) where
  pub sight_none : {seen : Survey} → seen ≡ clean → seen ≡ survey_of t user server kind true (owned_up_to t user 0)
  unfolding survey_of owned_up_to every
  sight_none e = e

  pub sight_turn : (i k n : ℕ) {seen r : Survey} {b : List ℕ} → seen ≡ survey_of t user server kind true (owned_up_to t user i) → b ≡ block_of t k
      → r ≡ glimpsed seen b user server kind → k ≡ i + 1 → n ≡ k → r ≡ survey_of t user server kind true (owned_up_to t user n)
  sight_turn i k n e f g p q = g ∙ rw (e, f, q, p, add-one i) (survey_more t user server kind i)

  pub sight_end : (k n : ℕ) {seen : Survey} → seen ≡ survey_of t user server kind true (owned_up_to t user k) → k ≤ n → n ≤ k
      → seen ≡ survey_of t user server kind true (owned_up_to t user n)
  sight_end k n e a b = let q : k ≡ n = omega arith in cc
