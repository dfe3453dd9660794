-- A number made of a set's number and its subscription's name, by which a set is looked for. Any function of the two would do for the check to be right; this
-- one takes names that differ in a digit or two far apart.
use Rattle.std.specs.Prelude.{ℕ, zero, suc, ◌+◌, ◌-◌, ◌*◌, ◌/◌, ◌%◌, ◌^◌, cond, List, length, nat_lt, slice_index}
use Rattle.octets.specs.Number.{be32_at}
use Rattle.record.specs.Fields.{private_of, set_of}

-- eight bytes at a place: one half times the other, which is moved by i, so that the same bytes count otherwise elsewhere
unfoldable pub term_at : List ℕ → ℕ → ℕ → ℕ
term_at s at i = be32_at s at * ((be32_at s (at + 4) + i) % 4294967296)

unfoldable pub sum_terms : List ℕ → ℕ → ℕ → ℕ
sum_terms s h zero = h
sum_terms s h (suc n) = (sum_terms s h n + term_at s (8 * n) n) % 2 ^ 64

-- the halves of a number, each times a number of its own
unfoldable pub mixed : ℕ → ℕ
mixed h = h / 4294967296 * 1640531527 + h % 4294967296 * 2146121005

unfoldable pub mix_bytes : List ℕ → ℕ → ℕ → ℕ
mix_bytes s h zero = h
mix_bytes s h (suc n) = mixed (mix_bytes s h n) + slice_index s n

-- a name, eight bytes at a time and its last eight once more, or byte by byte if it is shorter
unfoldable pub hash_name : List ℕ → ℕ → ℕ
hash_name s h = cond (nat_lt (length s) 8) (mix_bytes s h (length s)) ((sum_terms s h (length s / 8) + term_at s (length s - 8) (length s)) % 2 ^ 64)

unfoldable pub hash_of : List ℕ → ℕ
hash_of b = mixed (hash_name (private_of b) (set_of b)) / 65536
