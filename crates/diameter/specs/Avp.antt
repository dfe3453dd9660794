-- One AVP at the front of a list of bytes (RFC 3588, 4.1): code, flags, length, the vendor with V, data.
use Rattle.std.specs.Prelude.{ℕ, ◌+◌, ◌/◌, ◌%◌, List, Bool, cond, ◌&&◌, length, get_or, drop, eqb, leb}
use Rattle.octets.specs.Number.{in_fours, be24_at, be32_at}

-- the length with its padding
unfoldable pub padded : ℕ → ℕ
padded n = in_fours n

-- the header's length by the flags: 12 with V, else 8
unfoldable pub head_of : ℕ → ℕ
head_of flags = cond (leb 128 flags) 12 8

abbrev pub avp_code : List ℕ → ℕ
avp_code t = be32_at t 0

abbrev pub avp_flags : List ℕ → ℕ
avp_flags t = get_or t 4 0

abbrev pub avp_head : List ℕ → ℕ
avp_head t = head_of (avp_flags t)

abbrev pub avp_len : List ℕ → ℕ
avp_len t = be24_at t 5

-- the vendor, 0 without V
unfoldable pub vendor_of : List ℕ → ℕ
vendor_of a = cond (leb 128 (avp_flags a)) (be32_at a 8) 0

-- what an AVP holds; the number that a 4-byte AVP holds, 0 of another length
abbrev pub data_of : List ℕ → List ℕ
data_of a = drop (avp_head a) a

unfoldable pub value_of : List ℕ → ℕ
value_of a = cond (eqb (length a) (avp_head a + 4)) (be32_at a (avp_head a)) 0

-- the five reserved flags; M
abbrev pub reserved : ℕ → ℕ
reserved flags = flags % 32

abbrev pub marked : ℕ → Bool
marked flags = eqb (flags / 64 % 2) 1

-- Rule (a) kept: "length under 8, or under 12 with V, or past the end, or too few bytes left for the header: a length fault"
unfoldable pub sound : List ℕ → Bool
sound t = leb 8 (length t) && (leb (avp_head t) (length t) && (leb (avp_head t) (avp_len t) && leb (avp_len t) (length t)))
