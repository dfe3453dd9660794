-- The fields of a block by their names: its numbers, the names that stand in it, a record's capabilities, profile and bits.
use Rattle.std.specs.Prelude.{ℕ, ◌+◌, ◌*◌, ◌/◌, ◌%◌, ◌-◌, Bool, List, get_or, take, drop, eqb}
use Rattle.octets.specs.Number.{be16_at, be32_at}

-- Header: "8-11 count; 12 keep; 13, 14 lengths of host and realm; 15 networks"
abbrev pub count_of : List ℕ → ℕ
count_of b = be32_at b 8

abbrev pub keep_of : List ℕ → ℕ
keep_of b = get_or b 12 0

abbrev pub host_size : List ℕ → ℕ
host_size b = get_or b 13 0

abbrev pub realm_size : List ℕ → ℕ
realm_size b = get_or b 14 0

abbrev pub networks_of : List ℕ → ℕ
networks_of b = get_or b 15 0

-- "16-79 host; 80-143 realm"
unfoldable pub host_of : List ℕ → List ℕ
host_of b = take (host_size b) (drop 16 b)

unfoldable pub realm_of : List ℕ → List ℕ
realm_of b = take (realm_size b) (drop 80 b)

-- Record: "8 state; 9 bits; 10 roaming; 11, 12 counts of mandatory and optional capabilities; 13, 14, 15 lengths of public identity,
-- private identity, server name"
abbrev pub state_of : List ℕ → ℕ
state_of b = get_or b 8 0

abbrev pub bits_of : List ℕ → ℕ
bits_of b = get_or b 9 0

abbrev pub roaming_of : List ℕ → ℕ
roaming_of b = get_or b 10 0

abbrev pub mandatory_count : List ℕ → ℕ
mandatory_count b = get_or b 11 0

abbrev pub optional_count : List ℕ → ℕ
optional_count b = get_or b 12 0

abbrev pub public_size : List ℕ → ℕ
public_size b = get_or b 13 0

abbrev pub private_size : List ℕ → ℕ
private_size b = get_or b 14 0

abbrev pub server_size : List ℕ → ℕ
server_size b = get_or b 15 0

-- "16-143, 144-271, 272-367 these names"
unfoldable pub public_of : List ℕ → List ℕ
public_of b = take (public_size b) (drop 16 b)

-- the whole field of the first, with the zeros past the name
unfoldable pub public_field : List ℕ → List ℕ
public_field b = take 128 (drop 16 b)

unfoldable pub private_of : List ℕ → List ℕ
private_of b = take (private_size b) (drop 144 b)

unfoldable pub server_of : List ℕ → List ℕ
server_of b = take (server_size b) (drop 272 b)

-- "368-383, 384-399 capabilities, 32 bits each": the bytes of their words
unfoldable pub mandatory_of : List ℕ → List ℕ
mandatory_of b = take (4 * mandatory_count b) (drop 368 b)

unfoldable pub optional_of : List ℕ → List ℕ
optional_of b = take (4 * optional_count b) (drop 384 b)

-- "400-403 and 404-405 profile start and length": the part of the profile file that is a record's
abbrev pub profile_start : List ℕ → ℕ
profile_start b = be32_at b 400

abbrev pub profile_size : List ℕ → ℕ
profile_size b = be16_at b 404

unfoldable pub profile_of : List ℕ → List ℕ → List ℕ
profile_of b file = take (profile_size b) (drop (profile_start b) file)

-- 02 [5]: "edition 2 in byte 1"; "an implicit set number (bytes 406-407, 0 for none)"; "an issue number (bytes 408-411 of every block ..)"
abbrev pub edition_of : List ℕ → ℕ
edition_of b = get_or b 1 0

abbrev pub set_of : List ℕ → ℕ
set_of b = be16_at b 406

abbrev pub issue_of : List ℕ → ℕ
issue_of b = be32_at b 408

-- "bits 0 pending, 1 barred, 2 unregistered services"
abbrev pub pending : ℕ → Bool
pending bits = eqb (bits % 2) 1

abbrev pub barred : ℕ → Bool
barred bits = eqb (bits / 2 % 2) 1

abbrev pub unregistered_services : ℕ → Bool
unregistered_services bits = eqb (bits / 4 % 2) 1

-- "pending cleared"; "pending is set"
abbrev pub cleared : ℕ → ℕ
cleared bits = bits - bits % 2

abbrev pub pending_set : ℕ → ℕ
pending_set bits = bits - bits % 2 + 1
