-- A SAR means like records of tables of which it sees the same, sees the same of them, and plans alike.
use Rattle.std.specs.Prelude.{Option, Some, None, Ok, Err}
use Rattle.octets.specs.Standard.{ℕ, zero, suc, Bool, true, false, cond, ◌&&◌, ◌≡◌, refl, inr, List, [], ◌∷◌, arith, eqb, ltb}
use Rattle.record.specs.Fields.{state_of}
use Rattle.blocks.specs.Blocks.{block_of}
use Rattle.table.specs.Named.{private_at}
use Rattle.lookup.specs.Find.{is_at, private_is}
use Rattle.diameter.specs.Avp.{data_of}
use Rattle.diameter.specs.Put.{All}
use Rattle.reading.specs.declared.Outcome.{Outcome}
use Rattle.choices.specs.Given.{blameless, given_fault, given_plain, given_user}
use Rattle.choices.specs.Plans.{Finding, finding_of, grant, deed_of, plan_of}
use Rattle.choices.specs.Types.{is_removal, carries_user, effect_of}
use Rattle.choices.specs.declared.plan.Deed.{Deed}
use Rattle.choices.specs.declared.plan.Deed.TheVariants.{Leave, Settle}
use Rattle.choices.specs.declared.plan.Sar.{Sar}
use Rattle.choices.specs.declared.plan.Survey.{Survey}
use Rattle.choices.specs.declared.types.AssignmentType.{AssignmentType}
use Rattle.choices.specs.declared.types.Effect.{Effect}
use Rattle.assignment.specs.Assignment.{Means, Assignment, meant_by, every, find_all, numbers_of, first_of, owned_here, owned_up_to, own_at, stores_at, fits_at}
use Rattle.assignment.specs.Assignment.{right_at, survey_of, user_known, owner_by, named_survey, owned_survey, assign_meant, assign, planned_records}
use Rattle.assignment.specs.declared.Meant.TheVariants.{Owned, Listed}
use Rattle.seen_alike.specs.Shown.{SameSight, numbers_up_to, Each, FoundAlike, BlockAlike}
use Rattle.seen_alike.proofs.Rows.{numbers_each, at_each, every_each, empty_each}
use Rattle.seen_alike.proofs.Lookups.{private_known}
use Rattle.seen_alike.proofs.Decisions.{GivenAlike, PlanAlike, DeedAlike, none_alike, of_alike, fault_alike, only_alike}

-- a SAR means the User-Name's records only if a User-Name is given
meant_named : (removal named : Bool) (ps : List ℕ) → meant_by removal named ps ≡ Ok Owned → named ≡ true
unfolding meant_by
meant_named removal true ps e = refl
meant_named true false [] e = let z : ◌≡◌ {A = ℕ} 0 1 = cc in absurd (omega arith)
meant_named false false [] e = let z : ◌≡◌ {A = ℕ} 0 1 = cc in absurd (omega arith)
meant_named removal false (p ∷ []) e = let z : ◌≡◌ {A = ℕ} 0 1 = cc in absurd (omega arith)
meant_named true false (p ∷ (q ∷ ps)) e = let z : ◌≡◌ {A = ℕ} 0 1 = cc in absurd (omega arith)
meant_named false false (p ∷ (q ∷ ps)) e = let z : ◌≡◌ {A = ℕ} 0 1 = cc in absurd (omega arith)

-- the User-Name's records not in state 0 are a part of its records
abbrev present : List ℕ → ℕ → Bool
present t k = ltb 0 (state_of (block_of t k))

owned_row : (t user : List ℕ) (n : ℕ) → owned_up_to t user n ≡ numbers_up_to (λ k. present t k && private_is t user k) n
unfolding owned_up_to owned_here numbers_up_to private_is private_at
owned_row t user zero = refl
owned_row t user (suc n) = rw (owned_row t user n)

module _ (Like : ℕ → ℕ → Type 0) where
  numbers_found : (fs gs : List (Option ℕ)) → Each (FoundAlike Like) fs gs → Each Like (numbers_of fs) (numbers_of gs)
  unfolding numbers_of
  numbers_found [] [] e = tt
  numbers_found [] (g ∷ gs) e = absurd e
  numbers_found (f ∷ fs) [] e = absurd e
  numbers_found (Some j ∷ fs) (Some k ∷ gs) (l, e) = (l, numbers_found fs gs e)
  numbers_found (Some j ∷ fs) (None ∷ gs) (l, e) = absurd l
  numbers_found (None ∷ fs) (Some k ∷ gs) (l, e) = absurd l
  numbers_found (None ∷ fs) (None ∷ gs) (l, e) = numbers_found fs gs e

  all_found : (fs gs : List (Option ℕ)) → Each (FoundAlike Like) fs gs → every is_at fs ≡ every is_at gs
  unfolding every
  all_found [] [] e = refl
  all_found [] (g ∷ gs) e = absurd e
  all_found (f ∷ fs) [] e = absurd e
  all_found (f ∷ fs) (g ∷ gs) (l, e) = rw (at_each Like f g l, all_found fs gs e)

  first_found : (fs gs : List (Option ℕ)) → Each (FoundAlike Like) fs gs → BlockAlike Like (first_of fs) (first_of gs)
  first_found [] [] e = none_alike Like
  first_found [] (g ∷ gs) e = absurd e
  first_found (f ∷ fs) [] e = absurd e
  first_found (Some j ∷ fs) (Some k ∷ gs) (l, e) = inr l
  first_found (Some j ∷ fs) (None ∷ gs) (l, e) = absurd l
  first_found (None ∷ fs) (Some k ∷ gs) (l, e) = absurd l
  first_found (None ∷ fs) (None ∷ gs) (l, e) = none_alike Like

  -- the plan of a finding
  grant_alike : (s : Sar) (j k : ℕ) (r : Outcome) → BlockAlike Like j k → GivenAlike Like (grant s j r) (grant s k r)
  unfolding grant
  grant_alike s j k r l = go (carries_user s.kind) (eqb s.already 0)
    where
      go : (x y : Bool) → GivenAlike Like (cond x (given_user r j (cond y j 0)) (given_plain r)) (cond x (given_user r k (cond y k 0)) (given_plain r))
      go true true = of_alike Like (blameless r) j 0 0 j k 0 0 k l (none_alike Like) (none_alike Like) l
      go true false = of_alike Like (blameless r) j 0 0 0 k 0 0 0 l (none_alike Like) (none_alike Like) (none_alike Like)
      go false y = fault_alike Like (blameless r)

  deed_alike : (e : Effect) (owned : Bool) → DeedAlike Like (deed_of e owned) (deed_of e owned)
  unfolding deed_of
  deed_alike e owned = go e.write
    where
      deed : Deed
      deed = Settle (record { owned = owned; state = e.state; named = e.named })

      go : (x : Bool) → DeedAlike Like (cond x deed Leave) (cond x deed Leave)
      go true = refl
      go false = tt

  plan_alike : (f : Finding) (s : Sar) (j k : ℕ) (owned : Bool) → BlockAlike Like j k → PlanAlike Like (plan_of f s j owned) (plan_of f s k owned)
  unfolding plan_of
  plan_alike (Err r) s j k owned l = only_alike Like (given_plain r) (given_plain r) (fault_alike Like (blameless r))
  plan_alike (Ok done) s j k owned l =
      let e = effect_of s.kind s.keep in
      record { given = grant_alike s j k e.result l; deed = deed_alike e owned }

module _ {file other t u : List ℕ} {count many : ℕ} {Like : ℕ → ℕ → Type 0} {Public Private : List ℕ → Type 0}
    (sight : SameSight file other t u count many Like Public Private) where
  -- the records that it means
  found_each : (avps : List (List ℕ)) → All (λ (a : List ℕ). Public (data_of a)) avps → Each (FoundAlike Like) (find_all t count avps) (find_all u many avps)
  unfolding find_all
  found_each [] all = tt
  found_each (a ∷ avps) (p, all) = (sight.found (data_of a) p, found_each avps all)

  owned_each : (user : List ℕ) → Private user → Each Like (owned_up_to t user count) (owned_up_to u user many)
  owned_each user a =
      rw (owned_row t user count, owned_row u user many)
      (numbers_each Like (present t) (present u) (private_is t user) (private_is u user) count many (λ j k l. rw (sight.shown j k l).state)
      (sight.owned user a))

  -- what it sees of them
  survey_alike : (owner server : List ℕ) (kind : AssignmentType) (known : Bool) (js ks : List ℕ) → Each Like js ks
      → survey_of t owner server kind known js ≡ survey_of u owner server kind known ks
  unfolding survey_of own_at stores_at fits_at right_at private_at
  survey_alike owner server kind known js ks e =
      rw (
        empty_each Like js ks e,
        every_each Like (own_at t owner) (own_at u owner) (λ j k l. rw (sight.shown j k l).private) js ks e,
        every_each Like (stores_at t server) (stores_at u server) (λ j k l. rw (sight.shown j k l).server) js ks e,
        every_each Like (fits_at t server) (fits_at u server) (λ j k l. rw ((sight.shown j k l).size, (sight.shown j k l).server)) js ks e,
        every_each Like (right_at t kind) (right_at u kind) (λ j k l. rw (sight.shown j k l).state) js ks e,
      )

  known_alike : (named : Bool) (user : List ℕ) → (named ≡ true → Private user) → user_known t count named user ≡ user_known u many named user
  unfolding user_known
  known_alike true user a = rw (private_known sight user (a refl))
  known_alike false user a = refl

  module _ (s : Assignment) (all : All (λ (a : List ℕ). Public (data_of a)) s.identities) (mine : s.numbers.named ≡ true → Private s.user) where
    pub planned_each : (owned : Bool) → (owned ≡ true → Private s.user) → Each Like (planned_records t count s owned) (planned_records u many s owned)
    unfolding planned_records
    planned_each true a = owned_each s.user (a refl)
    planned_each false a = numbers_found Like (find_all t count s.identities) (find_all u many s.identities) (found_each s.identities all)

    owned_survey_lem : s.numbers.named ≡ true → owned_survey t count s ≡ owned_survey u many s
    unfolding owned_survey
    owned_survey_lem n =
        rw (known_alike s.numbers.named s.user mine)
        (survey_alike s.user s.server s.numbers.kind _ (owned_up_to t s.user count) (owned_up_to u s.user many) (owned_each s.user (mine n)))

    -- of the named records, by what was found; where the first identity is unknown it does not matter whose they should be
    abbrev seen_of : List ℕ → Bool → List (Option ℕ) → Survey
    seen_of x known fs =
        survey_of x (owner_by x (first_of fs) s.numbers.named s.user) s.server s.numbers.kind (every is_at fs && known) (numbers_of fs)

    abbrev FindsSame : Bool → List (Option ℕ) → List (Option ℕ) → Type 0
    FindsSame known fs gs = finding_of (seen_of t known fs) s.numbers.kind ≡ finding_of (seen_of u known gs) s.numbers.kind

    none_named : (known : Bool) → FindsSame known [] []
    unfolding survey_of every numbers_of
    none_named known = refl

    first_unknown : (known : Bool) (fs gs : List (Option ℕ)) → FindsSame known (None ∷ fs) (None ∷ gs)
    unfolding survey_of every finding_of
    first_unknown known fs gs = refl

    first_owner_lem : (j k : ℕ) → Like j k → owner_by t j s.numbers.named s.user ≡ owner_by u k s.numbers.named s.user
    unfolding owner_by private_at
    first_owner_lem j k l = rw (sight.shown j k l).private

    first_known : (known : Bool) (j k : ℕ) (fs gs : List (Option ℕ)) → Like j k → Each (FoundAlike Like) (Some j ∷ fs) (Some k ∷ gs)
        → FindsSame known (Some j ∷ fs) (Some k ∷ gs)
    first_known known j k fs gs l e =
        rw (
          first_owner_lem j k l,
          all_found Like (Some j ∷ fs) (Some k ∷ gs) e,
          survey_alike (owner_by u k s.numbers.named s.user) s.server s.numbers.kind (every is_at (Some k ∷ gs) && known) (numbers_of (Some j ∷ fs))
              (numbers_of (Some k ∷ gs)) (numbers_found Like (Some j ∷ fs) (Some k ∷ gs) e),
        )

    by_found : (known : Bool) (fs gs : List (Option ℕ)) → Each (FoundAlike Like) fs gs → FindsSame known fs gs
    by_found known [] [] e = none_named known
    by_found known [] (g ∷ gs) e = absurd e
    by_found known (f ∷ fs) [] e = absurd e
    by_found known (Some j ∷ fs) (Some k ∷ gs) e = first_known known j k fs gs e.0 e
    by_found known (Some j ∷ fs) (None ∷ gs) e = absurd e.0
    by_found known (None ∷ fs) (Some k ∷ gs) e = absurd e.0
    by_found known (None ∷ fs) (None ∷ gs) e = first_unknown known fs gs

    named_finding : finding_of (named_survey t count s) s.numbers.kind ≡ finding_of (named_survey u many s) s.numbers.kind
    unfolding named_survey
    named_finding =
        rw (known_alike s.numbers.named s.user mine)
        (by_found (user_known u many s.numbers.named s.user) (find_all t count s.identities) (find_all u many s.identities)
        (found_each s.identities all))

    -- the plan
    meant_alike : (m : Means) → meant_by (is_removal s.numbers.kind) s.numbers.named s.places ≡ m
        → PlanAlike Like (assign_meant t count s m) (assign_meant u many s m)
    unfolding assign_meant
    meant_alike (Err v) e = only_alike Like (given_fault v) (given_fault v) (fault_alike Like v)
    meant_alike (Ok Owned) e =
        rw (owned_survey_lem (meant_named (is_removal s.numbers.kind) s.numbers.named s.places e))
        (plan_alike Like (finding_of (owned_survey u many s) s.numbers.kind) s.numbers 0 0 true (none_alike Like))
    meant_alike (Ok (Listed place)) e =
        rw named_finding
        (plan_alike Like (finding_of (named_survey u many s) s.numbers.kind) s.numbers (first_of (find_all t count s.identities))
        (first_of (find_all u many s.identities)) false
        (first_found Like (find_all t count s.identities) (find_all u many s.identities) (found_each s.identities all)))

    pub assign_alike : PlanAlike Like (assign t count s) (assign u many s)
    unfolding assign
    assign_alike = meant_alike (meant_by (is_removal s.numbers.kind) s.numbers.named s.places) refl
