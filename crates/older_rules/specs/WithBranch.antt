-- 02 [7], "A branch nobody can reach.": the decisions of UAR and LIR with their B5012 in them, as they stood before. They stand here to say what has not
-- changed, and nothing but the theorems beside them uses them.
use Rattle.std.specs.Prelude.{ℕ, List, Bool, false, cond, not, ◌&&◌, eqb, ltb, Option, Some, None}
use Rattle.record.specs.Fields.{server_size}
use Rattle.blocks.specs.Blocks.{block_of}
use Rattle.table.specs.Named.{private_at}
use Rattle.table.specs.Check.{check_table}
use Rattle.lookup.specs.Find.{find_public, block_found}
use Rattle.reading.specs.Kinds.{user_name, public_identity, visited_network, authorization_type}
use Rattle.reading.specs.Rules.{Seen}
use Rattle.reading.specs.declared.Outcome.{Outcome}
use Rattle.reading.specs.declared.Outcome.TheVariants.{Base, Experimental}
use Rattle.reading.specs.declared.Dialect.{Dialect}
use Rattle.requests.specs.Features.{beyond_set}
use Rattle.requests.specs.Request.{read_in, data_seen, value_seen}
use Rattle.choices.specs.Plans.{only}
use Rattle.choices.specs.declared.Given.{Given}
use Rattle.choices.specs.declared.choice.Asked.{Asked}
use Rattle.choices.specs.declared.choice.Sought.{Sought}
use Rattle.choices.specs.declared.choice.Choice.{Choice}
use Rattle.choices.specs.declared.choice.Choice.TheVariants.{Alone, Server, Capabilities, First}
use Rattle.choices.specs.declared.plan.Plan.{Plan}
use Rattle.questions.specs.Authorization.{asked_of}
use Rattle.questions.specs.Carried.{carried}
use Rattle.questions.specs.Location.{sought_of}
use Rattle.answering.specs.Answer.{answer_bytes}
use Rattle.deciding.specs.Plans.{sar_plan, mar_plan}
use Rattle.deciding.specs.Rules.{Rules}
use Rattle.deciding.specs.Deeds.{carried_out}

-- "the server name (none stored: B5012)"
unfoldable pub server_if : Bool → Outcome → Choice
server_if stored r = cond stored (Server r) (Alone (Base 5012))

unfoldable pub old_authorization : Bool → Asked → ℕ → Choice
old_authorization stored a kind =
    cond (not a.known) (Alone (Experimental 5001))
    (cond (not a.together) (Alone (Experimental 5002))
    (cond a.barred (Alone (Base 5003))
    (cond (not (eqb kind 1) && not a.roams) (Alone (Experimental 5004))
    (cond (eqb kind 2) (Capabilities (Base 2001))
    (cond a.present (server_if stored (cond (eqb kind 0) (Experimental 2002) (Base 2001)))
    (cond (eqb kind 1) (Alone (Experimental 5003))
    (First (Experimental 2002) (Experimental 2001))))))))

unfoldable pub old_location : Bool → Sought → Choice
old_location stored a =
    cond (not a.known) (Alone (Experimental 5001))
    (cond a.present (server_if stored (Base 2001))
    (cond (not a.services) (Alone (Experimental 5003))
    (First (Base 2001) (Experimental 2003))))

-- whether the record that was found stores a server name
abbrev pub stored_in : List ℕ → Option ℕ → Bool
stored_in t (Some k) = ltb 0 (server_size (block_of t k))
stored_in t None = false

unfoldable pub old_authorize : List ℕ → ℕ → List ℕ → List ℕ → ℕ → Option ℕ → Given
old_authorize t count user network kind f =
    carried t count user (block_found f) (old_authorization (stored_in t f) (asked_of t count user network f) kind)

unfoldable pub old_locate : List ℕ → ℕ → Option ℕ → Given
old_locate t count f = carried t count (private_at t (block_found f)) (block_found f) (old_location (stored_in t f) (sought_of t f))

unfoldable pub old_plan : Dialect → List ℕ → List ℕ → ℕ → List ℕ → Seen → Plan
old_plan d req t count v seen =
    cond (eqb d.command 300)
    (only
    (old_authorize t count (data_seen seen user_name) (data_seen seen visited_network) (value_seen seen authorization_type)
    (find_public t count (data_seen seen public_identity))))
    (cond (eqb d.command 301) (sar_plan req t count seen)
    (cond (eqb d.command 302) (only (old_locate t count (find_public t count (data_seen seen public_identity))))
    (mar_plan t count v seen)))

abbrev pub with_branch : Rules
with_branch = record { check = check_table; read = read_in; beyond = beyond_set; plan = old_plan; carry = carried_out; answer = answer_bytes }
