-- What the code promises of a plan, of the answer that was written, and of what is told of it.
use Rattle.std.specs.Prelude.{ℕ, List, ◌≡◌}
use Rattle.octets.specs.Run.{Wrote}
use Rattle.vectors.specs.Sendable.{Sendable}
use Rattle.rewrite.specs.Change.{altered_up_to}
use Rattle.reading.specs.Kinds.{server_name}
use Rattle.reading.specs.Rules.{Seen}
use Rattle.reading.specs.declared.Dialect.{Dialect}
use Rattle.requests.specs.Request.{data_seen}
use Rattle.choices.specs.declared.plan.Plan.{Plan}
use Rattle.answering.specs.Answer.{answer_bytes}
use Rattle.deciding.specs.Plans.{plan_read}
use Rattle.deciding.specs.DeedFits.{DeedFits}
use Rattle.deciding.specs.Decide.{decide}
use Rattle.deciding.specs.declared.Told.{Told}

-- the plan of a request that was read: it fits the table, and what it sends is there
pub record Planned (d : Dialect) (req t : List ℕ) (count : ℕ) (v : List ℕ) (seen : Seen) (p : Plan) : Type 0 where
  pub plan_is : p ≡ plan_read d req t count v seen
  pub fits : DeedFits count (data_seen seen server_name) p.deed
  pub sendable : Sendable v p.given.sent

-- the answer of the decision, and nothing past it
abbrev pub Answers : Dialect → List ℕ → List ℕ → ℕ → List ℕ → List ℕ → List ℕ → List ℕ → ℕ → Type 0
Answers d req t count file v before after r = Wrote (answer_bytes d.terms req t file v (decide d req t count v).given) before after r

-- its length, the place of the AVP at fault, the request's command, the answer's result, and how many records the decision alters
pub record Tells (d : Dialect) (req t : List ℕ) (count : ℕ) (file v before after : List ℕ) (r : Told) : Type 0 where
  pub answers : Answers d req t count file v before after r.length
  pub place_is : r.place ≡ (decide d req t count v).place
  pub command_is : r.command ≡ d.command
  pub result_is : r.result ≡ (decide d req t count v).given.verdict.result
  pub altered_is : r.altered ≡ altered_up_to t (decide d req t count v).table count
