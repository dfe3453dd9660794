-- The rules as they were before sets: the check asked no agreement, an effect reached the records meant alone, and every barred identity was rejected.
-- They stand here to say what has not changed, and nothing but the theorems beside them uses them.
use Rattle.std.specs.Prelude.{ℕ, ◌+◌, ◌*◌, ◌≡◌, List, [], ◌∷◌, false, ◌&&◌, cond, length, eqb, leb, Result, Err, Option, Some, None}
use Rattle.record.specs.Fields.{set_of, bits_of, barred}
use Rattle.record.specs.HeaderBlock.{header_of, sound_header}
use Rattle.blocks.specs.Blocks.{block_of}
use Rattle.blocks.specs.Blocks.{first_bad}
use Rattle.table.specs.Check.{stands_at}
use Rattle.lookup.specs.Find.{is_at, find_public, find_private}
use Rattle.blocks.specs.Changed.{is_one}
use Rattle.rewrite.specs.Change.{after_of}
use Rattle.rewrite.specs.Renew.{settled, challenged}
use Rattle.reading.specs.Kinds.{user_name, public_identity, visited_network, server_name, authorization_type}
use Rattle.reading.specs.Rules.{Seen}
use Rattle.reading.specs.declared.Dialect.{Dialect}
use Rattle.requests.specs.Features.{beyond_set}
use Rattle.requests.specs.Request.{read_in, data_seen, value_seen}
use Rattle.choices.specs.Choices.{authorization}
use Rattle.choices.specs.Plans.{only}
use Rattle.choices.specs.declared.Given.{Given}
use Rattle.choices.specs.declared.choice.Asked.{Asked}
use Rattle.choices.specs.declared.plan.Deed.{Deed}
use Rattle.choices.specs.declared.plan.Deed.TheVariants.{Leave, Settle, Challenge}
use Rattle.choices.specs.declared.plan.Plan.{Plan}
use Rattle.questions.specs.Authorization.{asked_at}
use Rattle.lookup.specs.Find.{block_found}
use Rattle.questions.specs.Carried.{carried}
use Rattle.assignment.specs.Assignment.{stored_name, planned_records}
use Rattle.answering.specs.Answer.{answer_bytes}
use Rattle.deciding.specs.Plans.{assignment_of, sar_plan, lir_plan, mar_plan}
use Rattle.deciding.specs.Rules.{Rules}

-- a table in which no block has a set number
abbrev pub NoSets : List ℕ → Type 0
NoSets t = (k : ℕ) → set_of (block_of t k) ≡ 0

-- the check
unfoldable pub check_before : List ℕ → ℕ → Result ℕ ℕ
check_before t file =
    cond (leb 512 (length t) && sound_header (block_of t 0) && eqb (length t) (512 * ((header_of (block_of t 0)).count + 1)))
    (first_bad (stands_at t (header_of (block_of t 0)) file) (header_of (block_of t 0)).count (header_of (block_of t 0)).count 1)
    (Err 0)

-- "Document 01 rejects every barred identity in a UAR."
unfoldable pub asked_before : List ℕ → ℕ → List ℕ → List ℕ → Option ℕ → Asked
asked_before t count user network (Some k) =
    asked_at (block_of t 0) (block_of t k) (is_at (find_private t count user)) (barred (bits_of (block_of t k))) user network
asked_before t count user network None =
    record { known = false; together = false; barred = false; roams = false; present = false }

unfoldable pub authorize_before : List ℕ → ℕ → List ℕ → List ℕ → List ℕ → ℕ → Given
authorize_before t count user public network kind =
    carried t count user (block_found (find_public t count public)) (authorization (asked_before t count user network (find_public t count public)) kind)

-- effects on the records meant
unfoldable pub carried_out_before : List ℕ → List ℕ → ℕ → Seen → Deed → List ℕ
carried_out_before req t count seen Leave = t
carried_out_before req t count seen (Settle w) =
    after_of t count (is_one (planned_records t count (assignment_of req t seen) w.owned))
    (settled w.state (stored_name w.named (assignment_of req t seen).server))
carried_out_before req t count seen (Challenge k) = after_of t count (is_one (k ∷ [])) (challenged (data_seen seen server_name))

-- the rest is what it is
unfoldable pub plan_before : Dialect → List ℕ → List ℕ → ℕ → List ℕ → Seen → Plan
plan_before d req t count v seen =
    cond (eqb d.command 300)
    (only (authorize_before t count (data_seen seen user_name) (data_seen seen public_identity) (data_seen seen visited_network) (value_seen seen authorization_type)))
    (cond (eqb d.command 301) (sar_plan req t count seen)
    (cond (eqb d.command 302) (lir_plan t count seen)
    (mar_plan t count v seen)))

abbrev pub before_sets : Rules
before_sets = record { check = check_before; read = read_in; beyond = beyond_set; plan = plan_before; carry = carried_out_before; answer = answer_bytes }
