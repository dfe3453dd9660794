-- How the sum of words is made: they are added as the machine has them, their second and fourth bytes once more by themselves, and what comes of it is put
-- in the order of the bytes. No answer depends on any of this.
use Rattle.std.specs.Prelude.{ℕ, zero, suc, ◌+◌, ◌-◌, ◌*◌, ◌/◌, ◌%◌, ◌^◌, List}
use Rattle.octets.specs.Number.{le32_at}
use Rattle.octets.specs.declared.sum.Sums.{Sums}

abbrev pub odd_bytes : ℕ → ℕ
odd_bytes w = w / 256 % 256 + w / 16777216 * 65536

unfoldable pub whole_of : List ℕ → ℕ → ℕ
whole_of s zero = 0
whole_of s (suc n) = (whole_of s n + le32_at s (4 * n)) % 2 ^ 32

unfoldable pub odd_of : List ℕ → ℕ → ℕ
odd_of s zero = 0
odd_of s (suc n) = odd_of s n + odd_bytes (le32_at s (4 * n))

unfoldable pub columns_of : List ℕ → ℕ → Sums
columns_of s n = record { whole = whole_of s n; odd = odd_of s n }

abbrev pub even_of : ℕ → ℕ → ℕ
even_of whole odd = (whole + (2 ^ 32 - odd % 16777216 * 256)) % 2 ^ 32

abbrev pub turned : ℕ → ℕ → ℕ
turned even odd = (even % 256 * 16777216 + odd % 65536 * 65536 + (even / 65536 * 256 + odd / 65536)) % 2 ^ 32
