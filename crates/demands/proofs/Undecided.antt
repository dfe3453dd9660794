-- X5011 is given before all decisions, and by none of them: what a request that is decided upon comes to is another result.
use Rattle.std.specs.Prelude.{Option, Some, None, Ok}
use Rattle.octets.specs.Standard.{ℕ, List, [], ◌∷◌, Bool, true, false, not, ◌&&◌, true≢false, ◌≡◌, refl, sym, ap, ◌∙◌, eqb}
use Rattle.vectors.specs.declared.choice.Sent.{Sent}
use Rattle.lookup.specs.Find.{find_server}
use Rattle.reading.specs.Rules.{Seen}
use Rattle.reading.specs.declared.Dialect.{Dialect}
use Rattle.reading.specs.declared.Outcome.{Outcome}
use Rattle.reading.specs.declared.Outcome.TheVariants.{Base, Experimental}
use Rattle.requests.specs.Features.{beyond_set}
use Rattle.requests.specs.Judged.{Judged, bad, fine}
use Rattle.requests.specs.Request.{read_in}
use Rattle.choices.specs.Challenges.{claim_of, challenge_of}
use Rattle.choices.specs.Choices.{authorization, location}
use Rattle.choices.specs.Plans.{Finding, finding_of, grant, plan_of}
use Rattle.choices.specs.Types.{asks_only, carries_user, effect_of, is_removal}
use Rattle.choices.specs.declared.Given.{Given}
use Rattle.choices.specs.declared.challenge.Claimed.{Claimed}
use Rattle.choices.specs.declared.choice.Asked.{Asked}
use Rattle.choices.specs.declared.choice.Choice.{Choice}
use Rattle.choices.specs.declared.choice.Choice.TheVariants.{Alone, Server, Capabilities, First}
use Rattle.choices.specs.declared.choice.Sought.{Sought}
use Rattle.choices.specs.declared.plan.Plan.{Plan}
use Rattle.choices.specs.declared.plan.Sar.{Sar}
use Rattle.choices.specs.declared.plan.Survey.{Survey}
use Rattle.choices.specs.declared.types.AssignmentType.{AssignmentType}
use Rattle.choices.specs.declared.types.AssignmentType.TheVariants.{NoAssignment, Registration, ReRegistration, UnregisteredUser, Removal}
use Rattle.choices.specs.declared.types.AssignmentType.TheVariants.{StoringRemoval, Failure}
use Rattle.choices.specs.declared.types.Effect.{Effect}
use Rattle.questions.specs.Authentication.{authenticate_found, authenticate}
use Rattle.questions.specs.Authorization.{authorize_found, authorize}
use Rattle.questions.specs.Carried.{served_by, carried}
use Rattle.questions.specs.Location.{locate_found, locate}
use Rattle.assignment.specs.Assignment.{Assignment, meant_by, first_of, found, named_survey, owned_survey, assign_meant, assign}
use Rattle.deciding.specs.Decide.{faulted, feature_unsupported, performed_by, judged_by, decide_by, decide}
use Rattle.deciding.specs.Plans.{assignment_of, uar_plan, sar_plan, lir_plan, mar_plan, plan_read}
use Rattle.deciding.proofs.Tests.{either}
use Rattle.demands.proofs.Results.{of_reading, read_blames}

abbrev is_unsupported : Outcome → Bool
is_unsupported (Base n) = false
is_unsupported (Experimental n) = eqb n 5011

abbrev Other : Outcome → Type 0
Other r = is_unsupported r ≡ false

-- UAR and LIR
abbrev Others : Choice → Type 0
Others (Alone r) = Other r
Others (Server r) = Other r
Others (Capabilities r) = Other r
Others (First r other) = Other r × Other other

carried_other : (t : List ℕ) (count : ℕ) (user : List ℕ) (k : ℕ) (c : Choice) → Others c → Other (carried t count user k c).verdict.result
unfolding carried
carried_other t count user k (Alone r) h = h
carried_other t count user k (Server r) h = h
carried_other t count user k (Capabilities r) h = h
carried_other t count user k (First r other) h = go (find_server t count user)
  where
    go : (f : Option ℕ) → Other (served_by f r other k).verdict.result
    go (Some j) = h.0
    go None = h.1

authorization_other : (a : Asked) (kind : ℕ) → Others (authorization a kind)
unfolding authorization
authorization_other a kind =
    either Others (not a.known) refl
    (either Others (not a.together) refl
    (either Others a.barred refl
    (either Others (not (eqb kind 1) && not a.roams) refl
    (either Others (eqb kind 2) refl
    (either Others a.present (either Other (eqb kind 0) refl refl)
    (either Others (eqb kind 1) refl
    (refl, refl)))))))

location_other : (a : Sought) → Others (location a)
unfolding location
location_other a =
    either Others (not a.known) refl
    (either Others a.present refl
    (either Others (not a.services) refl
    (refl, refl)))

-- SAR
effect_other : (kind : AssignmentType) (keep : Bool) → Other (effect_of kind keep).result
effect_other Removal keep = refl
effect_other StoringRemoval keep = either (λ (e : Effect). Other e.result) keep refl refl
effect_other Failure keep = refl
effect_other NoAssignment keep = refl
effect_other Registration keep = refl
effect_other ReRegistration keep = refl
effect_other UnregisteredUser keep = refl

module _ (v : Survey) (s : Sar) (first : ℕ) (owned : Bool) (kind : AssignmentType) where
  abbrev FoundOther : Finding → Type 0
  FoundOther f = Other (plan_of f s first owned).given.verdict.result

  fine_other : FoundOther (Ok tt)
  unfolding plan_of grant
  fine_other =
      either (λ (g : Given). Other g.verdict.result) (carries_user s.kind) (effect_other s.kind s.keep) (effect_other s.kind s.keep)

  finding_other : FoundOther (finding_of v kind)
  unfolding finding_of plan_of
  finding_other =
      either FoundOther (not v.known) refl
      (either FoundOther (not v.own) refl
      (either FoundOther (asks_only kind) (either FoundOther v.stores fine_other refl)
      (either FoundOther (not v.fits) refl
      (either FoundOther (not (v.some && v.right)) refl
      fine_other))))

module _ (t : List ℕ) (count : ℕ) (s : Assignment) where
  assign_other : Other (assign t count s).given.verdict.result
  unfolding assign assign_meant meant_by
  assign_other = go (is_removal s.numbers.kind) s.numbers.named s.places
    where
      listed : Other (plan_of (finding_of (named_survey t count s) s.numbers.kind) s.numbers (first_of (found t count s)) false).given.verdict.result
      listed = finding_other (named_survey t count s) s.numbers (first_of (found t count s)) false s.numbers.kind

      go : (removal named : Bool) (ps : List ℕ) → Other (assign_meant t count s (meant_by removal named ps)).given.verdict.result
      go true true [] = finding_other (owned_survey t count s) s.numbers 0 true s.numbers.kind
      go true false [] = refl
      go false named [] = refl
      go removal named (p ∷ []) = listed
      go true named (p ∷ (q ∷ ps)) = listed
      go false named (p ∷ (q ∷ ps)) = refl

-- MAR
module _ (a : Claimed) (k : ℕ) (sent : Sent) where
  abbrev ClaimOther : Finding → Type 0
  ClaimOther f = Other (challenge_of f k sent).given.verdict.result

  claim_other : ClaimOther (claim_of a)
  unfolding claim_of challenge_of
  claim_other =
      either ClaimOther (not a.known) refl
      (either ClaimOther (not a.together) refl
      (either ClaimOther (not a.served) refl
      (either ClaimOther (not a.some) refl
      refl)))

-- every plan
abbrev Plain : Plan → Type 0
Plain p = Other p.given.verdict.result

plan_other : (d : Dialect) (req t : List ℕ) (count : ℕ) (v : List ℕ) (seen : Seen) → Plain (plan_read d req t count v seen)
unfolding plan_read uar_plan sar_plan lir_plan mar_plan authorize authorize_found locate locate_found authenticate authenticate_found
plan_other d req t count v seen =
    either Plain (eqb d.command 300) (carried_other t count _ _ _ (authorization_other _ _))
    (either Plain (eqb d.command 301) (assign_other t count (assignment_of req t seen))
    (either Plain (eqb d.command 302) (carried_other t count _ _ _ (location_other _))
    (claim_other _ _ _)))

-- So the result is X5011 exactly where a request that was read asks for more than the set.
pub record Unsupported (d : Dialect) (req : List ℕ) : Type 0 where
  pub seen : Seen
  pub read : read_in d req ≡ fine seen
  pub beyond : beyond_set d.terms req ≡ true

module _ (d : Dialect) (req t : List ℕ) (count : ℕ) (v : List ℕ) where
  pub unsupported_only : (decide d req t count v).given.verdict.result ≡ Experimental 5011 → Unsupported d req
  unfolding decide_by judged_by performed_by
  unsupported_only e = go (read_in d req) refl
    where
      on : (seen : Seen) → read_in d req ≡ fine seen → (x : Bool) → beyond_set d.terms req ≡ x → Unsupported d req
      on seen r true b = record { seen = seen; read = r; beyond = b }
      on seen r false b = absurd (true≢false (sym (ap is_unsupported (rw (r, b) at e)) ∙ plan_other d req t count v seen))

      go : (j : Judged) → read_in d req ≡ j → Unsupported d req
      go (bad f) r = absurd (true≢false (sym (read_blames d req f r) ∙ ap of_reading (rw r at e)))
      go (fine seen) r = on seen r (beyond_set d.terms req) refl

  pub unsupported_decides : Unsupported d req → decide d req t count v ≡ faulted t v feature_unsupported
  unfolding decide_by judged_by
  unsupported_decides u = rw (u.read, u.beyond)
