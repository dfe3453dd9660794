-- What one request in a dialect comes to under some rules, over a sound table of count records and a sound vector file; `decide` is that under the rules in
-- force.
use Rattle.std.specs.Prelude.{ℕ, List, cond}
use Rattle.reading.specs.Rules.{Seen}
use Rattle.reading.specs.declared.Dialect.{Dialect}
use Rattle.reading.specs.declared.Outcome.TheVariants.{Experimental}
use Rattle.reading.specs.declared.Verdict.{Verdict}
use Rattle.requests.specs.Judged.{Judged, bad, fine}
use Rattle.choices.specs.Given.{blameless, given_fault}
use Rattle.choices.specs.declared.Given.{Given}
use Rattle.choices.specs.declared.plan.Plan.{Plan}
use Rattle.deciding.specs.Deeds.{spent_by}
use Rattle.deciding.specs.Rules.{Rules, in_force}

-- A decision: what the answer carries, "the place of the AVP at fault, or 0 when no AVP of the request is at fault", the table and the vector file afterwards
pub record Decision : Type 0 where
  pub given : Given
  pub place : ℕ
  pub table : List ℕ
  pub vectors : List ℕ

-- a fault that reading found: nothing is altered
abbrev pub faulted : List ℕ → List ℕ → Verdict → Decision
faulted t v f = record { given = given_fault f; place = f.place; table = t; vectors = v }

-- what a plan comes to once it is carried out. No AVP is at fault in what a plan gives, so its place is 0: where a SAR names too many identities, too
unfoldable pub performed_by : Rules → List ℕ → List ℕ → ℕ → List ℕ → Seen → Plan → Decision
performed_by r req t count v seen p =
    record { given = p.given; place = 0; table = r.carry req t count seen p.deed; vectors = spent_by v p.given.sent p.deed }

-- "X5011 after the missing-AVP check, before all decisions": no AVP is at fault, and nothing is altered
abbrev pub feature_unsupported : Verdict
feature_unsupported = blameless (Experimental 5011)

unfoldable pub judged_by : Rules → Dialect → List ℕ → List ℕ → ℕ → List ℕ → Judged → Decision
judged_by r d req t count v (bad f) = faulted t v f
judged_by r d req t count v (fine seen) =
    cond (r.beyond d.terms req) (faulted t v feature_unsupported) (performed_by r req t count v seen (r.plan d req t count v seen))

unfoldable pub decide_by : Rules → Dialect → List ℕ → List ℕ → ℕ → List ℕ → Decision
decide_by r d req t count v = judged_by r d req t count v (r.read d req)

abbrev pub decide : Dialect → List ℕ → List ℕ → ℕ → List ℕ → Decision
decide = decide_by in_force
