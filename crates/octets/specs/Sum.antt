-- "The 128 words of 32 bits in a block sum to zero, wrapping at 2^32."
use Rattle.std.specs.Prelude.{ℕ, zero, suc, ◌+◌, ◌*◌, ◌%◌, ◌^◌, List}
use Rattle.octets.specs.Number.{be32_at}

-- the sum of the first n words
unfoldable pub sum_words : List ℕ → ℕ → ℕ
sum_words s zero = 0
sum_words s (suc n) = (sum_words s n + be32_at s (4 * n)) % 2 ^ 32
