-- The numbers of a SAR; what is said of an answer is part of what `deciding` tells of it.
use Rattle.octets.specs.Standard.{ℕ, ◌≤◌, List, Bool, false, ◌≡◌, refl, length, eqb}
use Rattle.octets.specs.Run.{Wrote}
use Rattle.record.specs.Fields.{keep_of}
use Rattle.blocks.specs.Blocks.{block_of}
use Rattle.reading.specs.Kinds.{user_name, assignment_type, data_available}
use Rattle.reading.specs.Rules.{Seen}
use Rattle.reading.specs.declared.Dialect.{Dialect}
use Rattle.reading.specs.declared.Terms.{Terms}
use Rattle.reading.specs.declared.Verdict.{Verdict}
use Rattle.requests.specs.Features.{beyond_set}
use Rattle.requests.specs.Judged.{fine}
use Rattle.requests.specs.Request.{read_in, given, value_seen}
use Rattle.rewrite.specs.Change.{altered_up_to}
use Rattle.choices.specs.Given.{given_fault}
use Rattle.choices.specs.Types.{type_of}
use Rattle.choices.specs.declared.types.AssignmentType.{AssignmentType}
use Rattle.choices.specs.declared.Given.{Given}
use Rattle.choices.specs.declared.plan.Plan.{Plan}
use Rattle.answering.specs.Answer.{answer_bytes}
use Rattle.deciding.specs.Answers.{Planned}
use Rattle.deciding.specs.Decide.{faulted, decide}
use Rattle.deciding.specs.Deeds.{carried_out}
use Rattle.deciding.specs.Plans.{numbers_in}
use Rattle.deciding.proofs.Answering.{fault_tells, plan_tells, plan_room}
use Rattle.deciding.proofs.Deciding.{numbers_read}
use Rattle.table.specs.SoundTable.{SoundTable}
use Rattle.vectors.specs.Sendable.{Sendable}
use Rattle.refusals.specs.Passed.{Passed}
use Rattle.plain_deciding.specs.Says.{Says}

pub numbers_are : (t : List ℕ) (seen : Seen) {n already k : ℕ} {kind : AssignmentType} {named : Bool} {h : List ℕ} → n ≡ value_seen seen assignment_type
    → kind ≡ type_of n → already ≡ value_seen seen data_available → named ≡ given seen user_name → h ≡ block_of t 0 → k ≡ keep_of h
    → record { kind = kind; already = already; named = named; keep = eqb k 1 } ≡ numbers_in t seen
numbers_are t seen a b c d e f = numbers_read t seen a b c d (rw (f, e))

pub fault_says : (dialect : Dialect) (req t : List ℕ) (count : ℕ) (v : List ℕ) (f : Verdict) → decide dialect req t count v ≡ faulted t v f
    → (file before after : List ℕ) (g : Given) (n : ℕ) → g ≡ given_fault f → Wrote (answer_bytes dialect.terms req t file v g) before after n
    → Says dialect req t count file v before after (record { length = n; place = f.place })
fault_says dialect req t count v f is file before after g n e w =
    let s = fault_tells dialect req t count v f is file before after g n e w in
    record { answers = s.answers; place_is = s.place_is }

module _ (dialect : Dialect) (req t : List ℕ) (count : ℕ) (v : List ℕ) (seen : Seen) (is : read_in dialect req ≡ fine seen) (p : Plan)
    (plans : Planned dialect req t count v seen p) (g : Given) (e : g ≡ p.given) where
  pub plan_fits : (file o : List ℕ) (terms : Terms) → Passed req o → SoundTable t count → length (answer_bytes terms req t file v g) ≤ 36864
  plan_fits file o terms q s = rw e (plan_room dialect req t count v seen p file o terms plans is q s)

  pub plan_sends : Sendable v g.sent
  plan_sends = rw e plans.sendable

pub plan_says : (dialect : Dialect) (req t : List ℕ) (count : ℕ) (v : List ℕ) (seen : Seen) → read_in dialect req ≡ fine seen → (p : Plan)
    → Planned dialect req t count v seen p → beyond_set dialect.terms req ≡ false → (file before after : List ℕ) (n : ℕ)
    → Wrote (answer_bytes dialect.terms req t file v p.given) before after n
    → Says dialect req t count file v before after (record { length = n; place = 0 })
plan_says dialect req t count v seen is p plans inside file before after n w =
    let y : List ℕ = carried_out req t count seen p.deed in
    let s = plan_tells dialect req t count v seen is p plans inside file before after n (altered_up_to t y count) w refl refl in
    record { answers = s.answers; place_is = s.place_is }
