-- A case: its words, each of four bytes, and the slices behind them.
use Rattle.std.specs.Prelude.{ℕ, zero, suc, ◌+◌, ◌*◌, ◌/◌, ◌%◌, Bool, ◌&&◌, cond, List, [], length, slice_range, nat_eq, leb}
use Rattle.octets.specs.Number.{be32_at}

-- the number that word s is
abbrev pub word_at : List ℕ → ℕ → ℕ
word_at w s = be32_at w (4 * s)

-- the length of slice s, and whether it holds noise
abbrev pub length_at : List ℕ → ℕ → ℕ
length_at w s = word_at w s % 1073741824

abbrev pub noise_at : List ℕ → ℕ → Bool
noise_at w s = nat_eq (word_at w s / 1073741824 % 2) 1

-- where slice s begins
unfoldable pub start_at : List ℕ → ℕ → ℕ
start_at w zero = 0
start_at w (suc s) = start_at w s + length_at w s

-- slice s: an empty one if it has over 40,000 bytes or is not there
abbrev pub slice_at : List ℕ → List ℕ → ℕ → List ℕ
slice_at w given s =
    cond (leb (start_at w s + length_at w s) (length given) && leb (length_at w s) 40000) (slice_range given (start_at w s) (start_at w s + length_at w s)) []
