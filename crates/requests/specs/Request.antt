-- "Reading a request": the header's faults, the walk, and what is missing.
use Rattle.std.specs.Prelude.{ℕ, suc, ◌/◌, ◌%◌, List, [], ◌∷◌, Bool, false, cond, not, ◌&&◌, get_or, eqb, leb}
use Rattle.std.proofs.Math.Option.{Option, none, some}
use Rattle.diameter.specs.Avp.{data_of, value_of, avp_flags, reserved}
use Rattle.diameter.specs.Walk.{Walk, ended, faulty, avp}
use Rattle.diameter.specs.Message.{version_of, message_flags, command_of, application_of, body_of}
use Rattle.diameter.specs.AvpAt.{present, data_at}
use Rattle.reading.specs.declared.Dialect.{Dialect}
use Rattle.reading.specs.declared.Kind.{Kind}
use Rattle.reading.specs.declared.Terms.{Terms}
pub use Rattle.reading.specs.Kinds.{cx, sh}
use Rattle.reading.specs.Kinds.{known, kind_of, use_in, is_needed, session_id, public_identity, auth_data_item, user_identity}
use Rattle.reading.specs.Rules.{Seen}
use Rattle.reading.specs.Verdicts.{fault_of, lack_of}
use Rattle.requests.specs.Judged.{Judged, bad, fine, nothing, judge}

-- the dialect of a request: its command, and the terms of the call
abbrev pub dialect_of : Terms → List ℕ → Dialect
dialect_of terms req = record { command = command_of req; terms = terms }

-- the terms of a call to the server of each application by a peer that follows an edition of the base standard; "a set of bits .., given by the daemon at each
-- call", of which Sh's server has none
abbrev pub under_cx : ℕ → ℕ → Terms
under_cx peer features = record { application = cx; peer = peer; features = features }

abbrev pub under_sh : ℕ → Terms
under_sh peer = record { application = sh; peer = peer; features = 0 }

-- whether Cx has the command, which are 300 to 303; whether Sh has it, which is 306
abbrev pub spoken : Dialect → Bool
spoken d = eqb d.terms.application cx && leb 300 d.command && leb d.command 303

abbrev pub spoken_sh : Dialect → Bool
spoken_sh d = eqb d.terms.application sh && eqb d.command 306

-- "Header, in order: version not 1, B5011; E bit set, B3008; command not 300 to 302, B3001; application not 16777216, B3007"; "Multimedia-Auth (303)
-- joins". 0: no fault; by whether the application has the command, of the Cx server and of the Sh server
abbrev pub header_fault_by : Bool → Dialect → List ℕ → ℕ
header_fault_by has d req =
    cond (not (eqb (version_of req) 1)) 5011
    (cond (eqb (message_flags req / 32 % 2) 1) 3008
    (cond (not has) 3001
    (cond (not (eqb (application_of req) d.terms.application)) 3007
    0)))

unfoldable pub header_fault : Dialect → List ℕ → ℕ
header_fault d req = header_fault_by (spoken d) d req

unfoldable pub header_fault_sh : Dialect → List ℕ → ℕ
header_fault_sh d req = header_fault_by (spoken_sh d) d req

-- (b) "the first AVP is no Session-Id: B5005 for Session-Id"
abbrev pub first_other : Walk → Bool
first_other ended = false
first_other (faulty t) = false
first_other (avp a w) = not (eqb (kind_of a) session_id)

-- the first kind that the dialect needs and that did not come, 0 where all came
unfoldable pub missing_from : Dialect → Seen → List Kind → ℕ → ℕ
missing_from d seen [] n = 0
missing_from d seen (k ∷ ks) n =
    cond (is_needed (use_in d k) && not (present (get_or seen n none))) n
    (missing_from d seen ks (suc n))

unfoldable pub missing : Dialect → Seen → ℕ
missing d seen = missing_from d seen known 1

-- "After the walk, the first missing AVP in the order below: B5005. With no AVPs, Session-Id is missing."
unfoldable pub complete : Dialect → Judged → Judged
complete d (bad v) = bad v
complete d (fine seen) = cond (eqb (missing d seen) 0) (fine seen) (bad (lack_of (missing d seen)))

-- the AVPs begin behind the header's 20 bytes
unfoldable pub read_walk : Dialect → Walk → Judged
read_walk d w = cond (first_other w) (bad (lack_of session_id)) (complete d (judge d 20 w nothing))

-- a request read in a dialect, its header's fault being known; by the Cx server, and by the Sh server
abbrev pub read_by : ℕ → Dialect → List ℕ → Judged
read_by fault d req = cond (eqb fault 0) (read_walk d (body_of req)) (bad (fault_of fault))

unfoldable pub read_in : Dialect → List ℕ → Judged
read_in d req = read_by (header_fault d req) d req

unfoldable pub read_sh : Dialect → List ℕ → Judged
read_sh d req = read_by (header_fault_sh d req) d req

-- What a read request says: whether an AVP of a kind came, its data, its number
abbrev pub given : Seen → ℕ → Bool
given seen k = present (get_or seen k none)

abbrev pub data_if : Option (List ℕ) → List ℕ
data_if none = []
data_if (some a) = data_of a

abbrev pub value_if : Option (List ℕ) → ℕ
value_if none = 0
value_if (some a) = value_of a

abbrev pub data_seen : Seen → ℕ → List ℕ
data_seen seen k = data_if (get_or seen k none)

abbrev pub value_seen : Seen → ℕ → ℕ
value_seen seen k = value_if (get_or seen k none)

-- the data of the AVP in a group, nothing where no whole one stands there: the scheme that a MAR asks for, in its 612; the identity that a UDR asks for, in
-- its 700
abbrev pub member_seen : Seen → ℕ → List ℕ
member_seen seen k = data_at (data_seen seen k) 0

abbrev pub scheme_of : Seen → List ℕ
scheme_of seen = member_seen seen auth_data_item

abbrev pub identity_of : Seen → List ℕ
identity_of seen = member_seen seen user_identity

-- the Public-Identities in order, over the whole walk: a SAR may have many
unfoldable pub identities : Walk → List (List ℕ)
identities ended = []
identities (faulty t) = []
identities (avp a w) = cond (eqb (kind_of a) public_identity) (a ∷ identities w) (identities w)

-- "Session-Id if it is the first AVP and passes (a) to (c)"
abbrev pub session_of : Walk → List ℕ
session_of ended = []
session_of (faulty t) = []
session_of (avp a w) = cond (eqb (kind_of a) session_id && eqb (reserved (avp_flags a)) 0) a []
