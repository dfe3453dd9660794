-- The rules of a call: how a table is checked, how a request is read, which features it may ask for, what is planned for a request that was read, what
-- carrying it out writes, and what the answer says. Those in force are one value; rules that a later request replaced are others.
use Rattle.std.specs.Prelude.{ℕ, List, Bool, Result}
use Rattle.table.specs.Check.{check_table}
use Rattle.reading.specs.Rules.{Seen}
use Rattle.reading.specs.declared.Dialect.{Dialect}
use Rattle.reading.specs.declared.Terms.{Terms}
use Rattle.requests.specs.Features.{beyond_set}
use Rattle.requests.specs.Judged.{Judged}
use Rattle.requests.specs.Request.{read_in}
use Rattle.choices.specs.declared.Given.{Given}
use Rattle.choices.specs.declared.plan.Deed.{Deed}
use Rattle.choices.specs.declared.plan.Plan.{Plan}
use Rattle.answering.specs.Answer.{answer_bytes}
use Rattle.deciding.specs.Plans.{plan_read}
use Rattle.deciding.specs.Deeds.{carried_out}

pub record Rules : Type 0 where
  pub check : List ℕ → ℕ → Result ℕ ℕ
  pub read : Dialect → List ℕ → Judged
  pub beyond : Terms → List ℕ → Bool
  pub plan : Dialect → List ℕ → List ℕ → ℕ → List ℕ → Seen → Plan
  pub carry : List ℕ → List ℕ → ℕ → Seen → Deed → List ℕ
  pub answer : Terms → List ℕ → List ℕ → List ℕ → List ℕ → Given → List ℕ

abbrev pub in_force : Rules
in_force = record { check = check_table; read = read_in; beyond = beyond_set; plan = plan_read; carry = carried_out; answer = answer_bytes }
