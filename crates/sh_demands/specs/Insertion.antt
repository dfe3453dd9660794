-- Demand 3 for the Sh server: what is the same, and the answer to an AVP that is not supported.
use Rattle.std.specs.Prelude.{ℕ, ◌+◌, ◌≡◌, cond, ◌||◌, List, ◌∷◌, ◌++◌, length}
use Rattle.std.proofs.Math.Option.{Option, none, some}
use Rattle.octets.specs.Run.{over}
use Rattle.blocks.specs.Blocks.{block_of}
use Rattle.table.specs.Area.{table_in}
use Rattle.diameter.specs.Message.{body_of}
use Rattle.pen.specs.Groups.{failed}
use Rattle.reading.specs.declared.Outcome.TheVariants.{Base}
use Rattle.reading.specs.declared.Terms.{Terms}
use Rattle.requests.specs.Request.{dialect_of, header_fault_sh, session_of}
use Rattle.envelope.specs.End.{proxies}
use Rattle.envelope.specs.Front.{front_bytes, origin_bytes}
use Rattle.envelope.specs.Header.{header_bytes}
use Rattle.calling.specs.Call.{Answered}
use Rattle.ndushavire_sh.specs.Lent.{Lent, terms_in}
use Rattle.ndushavire_sh.specs.Serve.{Served, sh_serve}
use Rattle.diameter.specs.Put.{Piece}
use Rattle.demands.specs.Insertion.{Mark, Longer, call_placed, keep, place_now, fault_by, behind_row, first_mark}
use Rattle.sh_demands.specs.Call.{turned_away}

-- the same with another request
abbrev pub asking : Lent → List ℕ → Lent
asking x request = record { request = request; table = x.table; profile = x.profile; buffer = x.buffer; peer = x.peer }

-- the same but for the place of the AVP at fault
abbrev pub placed : (ℕ → ℕ) → Served → Served
placed f s = record { call = call_placed f s.call; buffer = s.buffer }

-- the answer of a base result with an AVP in Failed-AVP
abbrev pub fault_body : Terms → List ℕ → List ℕ → ℕ → List ℕ → List ℕ
fault_body terms req t n shown =
    front_bytes terms (session_of (body_of req)) (Base n) ++ (origin_bytes (block_of t 0) ++ (failed shown ++ proxies (body_of req)))

abbrev pub fault_bytes : Terms → List ℕ → List ℕ → ℕ → List ℕ → List ℕ
fault_bytes terms req t n shown = header_bytes req (Base n) (20 + length (fault_body terms req t n shown)) ++ fault_body terms req t n shown

abbrev pub blaming : Lent → ℕ → List ℕ → ℕ → Served
blaming x n shown place =
    let bytes = fault_bytes (terms_in x) x.request (table_in x.table) n shown in
    record { call = Answered (record { length = length bytes; place = place }); buffer = over bytes x.buffer }

-- What a call with AVPs of unknown kinds put into its request comes to: the same, the place of the AVP at fault moved with its AVP; but B5001 for the first
-- marked one, unless the call is refused or the header or an AVP before that one breaks a reading rule.
unfoldable pub newer : Lent → List ℕ → List ℕ → Piece → (ℕ → ℕ) → Option Mark → Served
newer x longer head q now none = placed now (sh_serve x)
newer x longer head q now (some m) =
    cond (turned_away x || fault_by (header_fault_sh (dialect_of (terms_in x) head) head) (dialect_of (terms_in x) head) (q ∷ m.front)) (placed now (sh_serve x))
    (blaming (asking x longer) 5001 m.mark.avp (behind_row (q ∷ m.before)))

abbrev pub Newer : (x : Lent) (longer : List ℕ) → Longer (terms_in x) x.request longer → Type 0
Newer x longer l =
    sh_serve (asking x longer)
    ≡ newer x longer l.cut.head l.cut.first (place_now (keep l.cut.first l.inserted)) (first_mark l.inserted)
