-- What the code sees of the records of a SAR, one after the other.
use Rattle.std.specs.Prelude.{List, ℕ, Bool, true, false, cond, ◌&&◌, ◌||◌, eqb, Option, Some, None}
use Rattle.octets.specs.Name.{same}
use Rattle.record.specs.Fields.{private_of, server_of, server_size, state_of}
use Rattle.blocks.specs.Blocks.{block_of}
use Rattle.lookup.specs.Find.{is_at}
use Rattle.diameter.specs.Message.{body_of}
use Rattle.requests.specs.Request.{identities}
use Rattle.requests.specs.Identity.{places_from}
use Rattle.choices.specs.Types.{allowed}
use Rattle.choices.specs.declared.types.AssignmentType.{AssignmentType}
use Rattle.choices.specs.declared.plan.Sar.{Sar}
use Rattle.choices.specs.declared.plan.Survey.{Survey}
use Rattle.assignment.specs.Assignment.{Assignment, every, numbers_of, owned_here, survey_of}

-- what a SAR says, by its parts
abbrev pub sar_of : List ℕ → Sar → List ℕ → List ℕ → Assignment
sar_of req s server user = record { numbers = s; server = server; user = user; identities = identities (body_of req); places = places_from 20 (body_of req) }

-- nothing seen yet; two surveys as one; that of an identity that is unknown; another word on what is known
abbrev pub clean : Survey
clean = record { known = true; some = false; own = true; stores = true; fits = true; right = true }

abbrev pub both : Survey → Survey → Survey
both a b =
    record {
      known = a.known && b.known;
      some = a.some || b.some;
      own = a.own && b.own;
      stores = a.stores && b.stores;
      fits = a.fits && b.fits;
      right = a.right && b.right;
    }

abbrev pub not_found : Survey
not_found = record { known = false; some = false; own = true; stores = true; fits = true; right = true }

unfoldable pub also_known : Survey → Bool → Survey
also_known v known = record { known = v.known && known; some = v.some; own = v.own; stores = v.stores; fits = v.fits; right = v.right }

-- of one record block; of a record that was found or not; of a block that may be one of a subscription's
unfoldable pub look_at : List ℕ → List ℕ → List ℕ → AssignmentType → Survey
look_at b owner server kind =
    record {
      known = true;
      some = true;
      own = same (private_of b) owner;
      stores = same (server_of b) server;
      fits = eqb (server_size b) 0 || same (server_of b) server;
      right = allowed kind (state_of b);
    }

unfoldable pub look_found : List ℕ → Option ℕ → List ℕ → List ℕ → AssignmentType → Survey
look_found t (Some k) owner server kind = look_at (block_of t k) owner server kind
look_found t None owner server kind = not_found

unfoldable pub glimpsed : Survey → List ℕ → List ℕ → List ℕ → AssignmentType → Survey
glimpsed seen b user server kind = cond (owned_here b user) (both seen (look_at b user server kind)) seen

-- of records that were found or not
abbrev pub found_survey : List ℕ → List ℕ → List ℕ → AssignmentType → List (Option ℕ) → Survey
found_survey t owner server kind fs = survey_of t owner server kind (every is_at fs) (numbers_of fs)
