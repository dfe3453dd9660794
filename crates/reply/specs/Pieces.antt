-- "The answer" in pieces: what every answer of the Cx server has, and what a decision gives, which names blocks by their numbers.
use Rattle.std.specs.Prelude.{ℕ, List, ◌++◌, length, ltb}
use Rattle.record.specs.Fields.{private_of, public_of, server_of, mandatory_of, optional_of}
use Rattle.blocks.specs.Blocks.{block_of, of_block}
use Rattle.pen.specs.Bytes.{avp_bytes, vendor_bytes, if_there}
use Rattle.pen.specs.Groups.{capabilities, own_features}
use Rattle.diameter.specs.Message.{body_of}
use Rattle.requests.specs.Features.{list_called}
use Rattle.requests.specs.Request.{session_of}
use Rattle.reading.specs.declared.Outcome.{Outcome}
use Rattle.reading.specs.declared.Terms.{Terms}
use Rattle.choices.specs.declared.Given.{Given}
use Rattle.envelope.specs.Front.{front_bytes, origin_bytes}
use Rattle.items.specs.Items.{sent_bytes}
use Rattle.parts.specs.Profile.{profile_at}

-- an AVP that is absent where there is nothing to hold: no name that is stored is empty
abbrev pub named_bytes : ℕ → List ℕ → List ℕ
named_bytes code d = if_there (ltb 0 (length d)) (avp_bytes code d)

abbrev pub vendor_named : ℕ → List ℕ → List ℕ
vendor_named code d = if_there (ltb 0 (length d)) (vendor_bytes code d)

-- "carries the server's own list once, right after 296"
unfoldable pub list_bytes : Terms → List ℕ → List ℕ
list_bytes terms req = if_there (list_called terms req) (own_features terms.features)

unfoldable pub top_bytes : Terms → List ℕ → List ℕ → Outcome → List ℕ
top_bytes terms req t result = front_bytes terms (session_of (body_of req)) result ++ (origin_bytes (block_of t 0) ++ list_bytes terms req)

-- "User-Name ..", of a SAR and a MAR, and a MAR's "Public-Identity"; "Server-Name where a decision gives one"
unfoldable pub identity_bytes : List ℕ → Given → List ℕ
identity_bytes t g = named_bytes 1 (of_block private_of t g.user) ++ vendor_named 601 (of_block public_of t g.public)

unfoldable pub name_bytes : List ℕ → Given → List ℕ
name_bytes t g = identity_bytes t g ++ vendor_named 602 (of_block server_of t g.server)

-- "Server-Capabilities 603 ..; User-Data 606"
unfoldable pub data_bytes : List ℕ → List ℕ → Given → List ℕ
data_bytes t file g = capabilities (of_block mandatory_of t g.capable) (of_block optional_of t g.capable) ++ vendor_named 606 (profile_at t file g.profile)

-- "After 296 the answer has User-Name, Public-Identity, the number sent, and the items"; no other answer has vectors
unfoldable pub given_bytes : List ℕ → List ℕ → List ℕ → Given → List ℕ
given_bytes t file v g = name_bytes t g ++ (sent_bytes v g.sent ++ data_bytes t file g)
