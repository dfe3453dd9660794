-- "SAR."
use Rattle.std.specs.Prelude.{ℕ, zero, suc, List, [], ◌∷◌, ◌++◌, map, Bool, true, false, cond, not, ◌&&◌, ◌||◌, eqb, ltb}
use Rattle.std.specs.Prelude.{Option, Some, None, Result, Ok, Err}
use Rattle.octets.specs.Name.{same}
use Rattle.record.specs.Fields.{private_of, server_of, server_size, state_of}
use Rattle.blocks.specs.Blocks.{block_of}
use Rattle.table.specs.Named.{private_at}
use Rattle.lookup.specs.Find.{is_at, find_public, find_private}
use Rattle.diameter.specs.Avp.{data_of}
use Rattle.reading.specs.Kinds.{public_identity}
use Rattle.reading.specs.Verdicts.{fault_at, lack_of}
use Rattle.reading.specs.declared.Verdict.{Verdict}
use Rattle.choices.specs.Types.{is_removal, allowed}
use Rattle.choices.specs.Given.{given_fault}
use Rattle.choices.specs.Plans.{finding_of, only, plan_of}
use Rattle.choices.specs.declared.types.AssignmentType.{AssignmentType}
use Rattle.choices.specs.declared.plan.Sar.{Sar}
use Rattle.choices.specs.declared.plan.Survey.{Survey}
use Rattle.choices.specs.declared.plan.Plan.{Plan}
use Rattle.lookup.specs.Find.{block_found}
use Rattle.assignment.specs.declared.Meant.{Meant}
use Rattle.assignment.specs.declared.Meant.TheVariants.{Owned, Listed}

-- What a SAR says: its numbers, its server name, the User-Name (empty where none is given), the identities (the AVPs themselves) and their places
pub record Assignment : Type 0 where
  pub numbers : Sar
  pub server : List ℕ
  pub user : List ℕ
  pub identities : List (List ℕ)
  pub places : List ℕ

-- whom a SAR means, or its fault
abbrev pub Means : Type 0
Means = Result Meant Verdict

-- "Others need exactly one identity: none B5005 for 601, more B5009 on the second. A removal without identity needs a User-Name (else B5005 for 601) and means
-- its records not in state 0."
unfoldable pub meant_by : Bool → Bool → List ℕ → Means
meant_by removal named [] = cond (removal && named) (Ok Owned) (Err (lack_of public_identity))
meant_by removal named (p ∷ []) = Ok (Listed p)
meant_by removal named (p ∷ (q ∷ others)) = cond removal (Ok (Listed p)) (Err (fault_at 5009 q))

-- a test holds of all
unfoldable pub every : {X : Type 0} → (X → Bool) → List X → Bool
every p [] = true
every p (x ∷ xs) = p x && every p xs

abbrev pub is_empty : {X : Type 0} → List X → Bool
is_empty [] = true
is_empty (x ∷ xs) = false

-- the records of the named identities, and the blocks of those that were found
unfoldable pub find_all : List ℕ → ℕ → List (List ℕ) → List (Option ℕ)
find_all t count avps = map (λ (a : List ℕ). find_public t count (data_of a)) avps

unfoldable pub numbers_of : List (Option ℕ) → List ℕ
numbers_of [] = []
numbers_of (Some k ∷ fs) = k ∷ numbers_of fs
numbers_of (None ∷ fs) = numbers_of fs

-- the block of the first identity's record, 0 where there is none
abbrev pub first_of : List (Option ℕ) → ℕ
first_of [] = 0
first_of (f ∷ fs) = block_found f

-- the User-Name's "records not in state 0", those up to block n
unfoldable pub owned_here : List ℕ → List ℕ → Bool
owned_here b user = ltb 0 (state_of b) && same (private_of b) user

unfoldable pub owned_up_to : List ℕ → List ℕ → ℕ → List ℕ
owned_up_to t user zero = []
owned_up_to t user (suc n) = owned_up_to t user n ++ cond (owned_here (block_of t (suc n)) user) (suc n ∷ []) []

-- "All in one subscription"; "stored name equal to the request's"; "A stored name of one of these records that differs from the request's"; "Wrong state"
unfoldable pub own_at : List ℕ → List ℕ → ℕ → Bool
own_at t owner k = same (private_at t k) owner

unfoldable pub stores_at : List ℕ → List ℕ → ℕ → Bool
stores_at t server k = same (server_of (block_of t k)) server

unfoldable pub fits_at : List ℕ → List ℕ → ℕ → Bool
fits_at t server k = eqb (server_size (block_of t k)) 0 || same (server_of (block_of t k)) server

unfoldable pub right_at : List ℕ → AssignmentType → ℕ → Bool
right_at t kind k = allowed kind (state_of (block_of t k))

-- What is seen of the records in these blocks, where it is said whether all is known, and whose they should be
unfoldable pub survey_of : List ℕ → List ℕ → List ℕ → AssignmentType → Bool → List ℕ → Survey
survey_of t owner server kind known ks =
    record {
      known = known;
      some = not (is_empty ks);
      own = every (own_at t owner) ks;
      stores = every (stores_at t server) ks;
      fits = every (fits_at t server) ks;
      right = every (right_at t kind) ks;
    }

-- "any named identity, or a User-Name given, unknown"
unfoldable pub user_known : List ℕ → ℕ → Bool → List ℕ → Bool
user_known t count named user = not named || is_at (find_private t count user)

-- "All in one subscription, the User-Name's if given": else that of the first identity's record
unfoldable pub owner_by : List ℕ → ℕ → Bool → List ℕ → List ℕ
owner_by t first named user = cond named user (private_at t first)

module _ (t : List ℕ) (count : ℕ) (s : Assignment) where
  abbrev pub found : List (Option ℕ)
  found = find_all t count s.identities

  unfoldable pub named_survey : Survey
  named_survey =
      survey_of t (owner_by t (first_of found) s.numbers.named s.user) s.server s.numbers.kind
      (every is_at found && user_known t count s.numbers.named s.user) (numbers_of found)

  unfoldable pub owned_survey : Survey
  owned_survey = survey_of t s.user s.server s.numbers.kind (user_known t count s.numbers.named s.user) (owned_up_to t s.user count)

  -- the plan, by whom the SAR means
  unfoldable pub assign_meant : Means → Plan
  assign_meant (Err v) = only (given_fault v)
  assign_meant (Ok Owned) = plan_of (finding_of owned_survey s.numbers.kind) s.numbers 0 true
  assign_meant (Ok (Listed place)) = plan_of (finding_of named_survey s.numbers.kind) s.numbers (first_of found) false

  unfoldable pub assign : Plan
  assign = assign_meant (meant_by (is_removal s.numbers.kind) s.numbers.named s.places)

-- What is written: the name that a record gets, and the records that the SAR means, each once
unfoldable pub stored_name : Bool → List ℕ → List ℕ
stored_name named server = cond named server []

unfoldable pub planned_records : List ℕ → ℕ → Assignment → Bool → List ℕ
planned_records t count s owned = cond owned (owned_up_to t s.user count) (numbers_of (find_all t count s.identities))
