-- A report read back out of its area: "Counts of 64 bits", a word is 8 bytes, the highest first.
use Rattle.std.specs.Prelude.{ℕ, ◌+◌, ◌*◌, List}
use Rattle.octets.specs.Number.{be32_at}
use Rattle.counting.specs.Totals.{rows_sum, refusals_sum}

unfoldable pub word_in : List ℕ → ℕ → ℕ
word_in area i = be32_at area (8 * i) * 4294967296 + be32_at area (8 * i + 4)

-- the five rows, the refusals 1 to 15
abbrev pub rows_in : List ℕ → ℕ
rows_in area = rows_sum (word_in area)

abbrev pub refusals_in : List ℕ → ℕ
refusals_in area = refusals_sum (word_in area)
