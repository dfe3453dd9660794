-- "Decisions": what is planned for a request that was read, by its dialect's command. Nothing is written yet.
use Rattle.std.specs.Prelude.{ℕ, List, cond, eqb}
use Rattle.record.specs.Fields.{keep_of}
use Rattle.blocks.specs.Blocks.{block_of}
use Rattle.reading.specs.Kinds.{user_name, public_identity, visited_network, server_name, assignment_type, data_available, authorization_type}
use Rattle.reading.specs.Kinds.{number_auth_items}
use Rattle.reading.specs.Rules.{Seen}
use Rattle.reading.specs.declared.Dialect.{Dialect}
use Rattle.diameter.specs.Message.{body_of}
use Rattle.requests.specs.Request.{given, data_seen, value_seen, scheme_of, identities}
use Rattle.requests.specs.Identity.{places_from}
use Rattle.choices.specs.Types.{type_of}
use Rattle.choices.specs.Plans.{only}
use Rattle.choices.specs.declared.plan.Sar.{Sar}
use Rattle.choices.specs.declared.plan.Plan.{Plan}
use Rattle.questions.specs.Authentication.{authenticate}
use Rattle.questions.specs.Authorization.{authorize}
use Rattle.questions.specs.Location.{locate}
use Rattle.assignment.specs.Assignment.{Assignment, assign}

-- what a SAR says, and the header's keep
abbrev pub numbers_in : List ℕ → Seen → Sar
numbers_in t seen =
    record {
      kind = type_of (value_seen seen assignment_type);
      already = value_seen seen data_available;
      named = given seen user_name;
      keep = eqb (keep_of (block_of t 0)) 1;
    }

unfoldable pub assignment_of : List ℕ → List ℕ → Seen → Assignment
assignment_of req t seen =
    record {
      numbers = numbers_in t seen;
      server = data_seen seen server_name;
      user = data_seen seen user_name;
      identities = identities (body_of req);
      places = places_from 20 (body_of req);
    }

-- the plan of each command
unfoldable pub uar_plan : List ℕ → ℕ → Seen → Plan
uar_plan t count seen =
    only (authorize t count (data_seen seen user_name) (data_seen seen public_identity) (data_seen seen visited_network) (value_seen seen authorization_type))

unfoldable pub sar_plan : List ℕ → List ℕ → ℕ → Seen → Plan
sar_plan req t count seen = assign t count (assignment_of req t seen)

unfoldable pub lir_plan : List ℕ → ℕ → Seen → Plan
lir_plan t count seen = only (locate t count (data_seen seen public_identity))

unfoldable pub mar_plan : List ℕ → ℕ → List ℕ → Seen → Plan
mar_plan t count v seen =
    authenticate t count v (data_seen seen user_name) (data_seen seen public_identity) (scheme_of seen) (value_seen seen number_auth_items)

-- UAR 300, SAR 301, LIR 302, MAR 303: no other command is read without a fault of the header
unfoldable pub plan_read : Dialect → List ℕ → List ℕ → ℕ → List ℕ → Seen → Plan
plan_read d req t count v seen =
    cond (eqb d.command 300) (uar_plan t count seen)
    (cond (eqb d.command 301) (sar_plan req t count seen)
    (cond (eqb d.command 302) (lir_plan t count seen)
    (mar_plan t count v seen)))
