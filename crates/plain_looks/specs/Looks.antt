-- What else is looked for in a request, over the same list: Session-Id, Supported-Features, Proxy-Info.
use Rattle.std.specs.Prelude.{ℕ, zero, suc, List, [], ◌++◌, Bool, false, cond, not, ◌&&◌, ◌||◌, length, get_or, eqb}
use Rattle.std.proofs.Math.Option.{Option, none, some}
use Rattle.diameter.specs.Avp.{avp_flags, reserved}
use Rattle.envelope.specs.End.{proxy}
use Rattle.reading.specs.Features.{asks_beyond, calls_list}
use Rattle.reading.specs.Kinds.{kind_of, session_id}
use Rattle.reading.specs.Rules.{Seen}
use Rattle.reading.specs.declared.Terms.{Terms}
use Rattle.requests.specs.Request.{dialect_of, header_fault}
use Rattle.requests.specs.declared.features.Wanted.{Wanted}

-- "Session-Id if it is the first AVP and passes (a) to (c)"
abbrev pub session_by : Option (List ℕ) → List ℕ
session_by none = []
session_by (some a) = cond (eqb (kind_of a) session_id && eqb (reserved (avp_flags a)) 0) a []

unfoldable pub session_in : Seen → List ℕ
session_in avps = session_by (get_or avps 0 none)

-- a test of a whole AVP
abbrev pub whole : (List ℕ → Bool) → Option (List ℕ) → Bool
whole p none = false
whole p (some a) = p a

-- one of the n AVPs from number i on passes a test
unfoldable pub some_from : (ℕ → Bool) → ℕ → ℕ → Bool
some_from p zero i = false
some_from p (suc n) i = p i || some_from p n (suc i)

-- "before any length fault, a 628 passing (a) to (h)": the first AVP does not pass (b)
unfoldable pub calls_at : Seen → ℕ → Bool
calls_at avps i = not (eqb i 0) && whole calls_list (get_or avps i none)

-- "With M set, a request that asks for a bit outside the set, or for another list or vendor"
unfoldable pub asks_at : ℕ → Seen → ℕ → Bool
asks_at set avps i = whole (asks_beyond set) (get_or avps i none)

abbrev pub called_by : Seen → Bool
called_by avps = some_from (calls_at avps) (length avps) 0

abbrev pub asks_by : ℕ → Seen → Bool
asks_by set avps = some_from (asks_at set avps) (length avps) 0

-- "a request with no header fault that had .."
abbrev pub wanted_by : Terms → List ℕ → Seen → Wanted
wanted_by terms req avps =
    record { listed = eqb (header_fault (dialect_of terms req) req) 0 && called_by avps; beyond = asks_by terms.features avps }

-- "every Proxy-Info before the first length fault, other faults or not"
abbrev pub proxy_by : Option (List ℕ) → List ℕ
proxy_by none = []
proxy_by (some a) = proxy a

unfoldable pub proxies_from : Seen → ℕ → ℕ → List ℕ
proxies_from avps zero i = []
proxies_from avps (suc n) i = proxy_by (get_or avps i none) ++ proxies_from avps n (suc i)

abbrev pub proxies_by : Seen → List ℕ
proxies_by avps = proxies_from avps (length avps) 0
