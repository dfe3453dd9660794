-- 02 [11]: what the Supported-Features of a request ask for, and whether they call for the server's own list.
use Rattle.std.specs.Prelude.{ℕ, List, Bool, ◌&&◌, eqb}
use Rattle.diameter.specs.Message.{body_of}
use Rattle.diameter.specs.Walk.{Walk, some_avp, behind_first}
use Rattle.reading.specs.Features.{asks_beyond, calls_list}
use Rattle.reading.specs.declared.Terms.{Terms}
use Rattle.requests.specs.Request.{dialect_of, header_fault}
use Rattle.requests.specs.declared.features.Wanted.{Wanted}

-- "With M set, a request that asks for a bit outside the set, or for another list or vendor"
unfoldable pub beyond_set : Terms → List ℕ → Bool
beyond_set terms req = some_avp (asks_beyond terms.features) (body_of req)

-- "before any length fault, a 628 passing (a) to (h)": no 628 that is the first AVP passes (b)
abbrev pub called_in : Walk → Bool
called_in w = some_avp calls_list (behind_first w)

-- "a request with no header fault that had .."
unfoldable pub list_called : Terms → List ℕ → Bool
list_called terms req = eqb (header_fault (dialect_of terms req) req) 0 && called_in (body_of req)

abbrev pub wanted_of : Terms → List ℕ → Wanted
wanted_of terms req = record { listed = list_called terms req; beyond = beyond_set terms req }
