-- A message: the fields of its header (RFC 3588, 3) and its body.
use Rattle.std.specs.Prelude.{ℕ, List, get_or, drop}
use Rattle.octets.specs.Number.{be24_at, be32_at}
use Rattle.diameter.specs.Walk.{Walk, walk}

abbrev pub version_of : List ℕ → ℕ
version_of m = get_or m 0 0

abbrev pub message_flags : List ℕ → ℕ
message_flags m = get_or m 4 0

abbrev pub command_of : List ℕ → ℕ
command_of m = be24_at m 5

abbrev pub application_of : List ℕ → ℕ
application_of m = be32_at m 8

-- the body's AVPs, behind the header's 20 bytes
abbrev pub body_of : List ℕ → Walk
body_of m = walk (drop 20 m)
