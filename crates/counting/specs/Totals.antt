-- "the row totals add up to the requests read": those of the five rows, and of the refusals 1 to 15.
use Rattle.std.specs.Prelude.{ℕ, zero, suc, ◌+◌, List}
use Rattle.counting.specs.Counted.{number_at}
use Rattle.counting.specs.Event.{Event}
use Rattle.counting.specs.Layout.{refusal_word, cell_word}

-- the sum of n words from word i on; of a row's columns, of the five rows, of the refusals
unfoldable pub sum_from : (ℕ → ℕ) → ℕ → ℕ → ℕ
sum_from f i zero = 0
sum_from f i (suc n) = f i + sum_from f (suc i) n

abbrev pub row_sum : (ℕ → ℕ) → ℕ → ℕ
row_sum f row = sum_from f (cell_word row 0) 25

abbrev pub rows_sum : (ℕ → ℕ) → ℕ
rows_sum f = row_sum f 0 + (row_sum f 1 + (row_sum f 2 + (row_sum f 3 + row_sum f 4)))

abbrev pub refusals_sum : (ℕ → ℕ) → ℕ
refusals_sum f = sum_from f (refusal_word 1) 15

abbrev pub row_totals : List Event → ℕ
row_totals es = rows_sum (number_at es)

abbrev pub refusal_total : List Event → ℕ
refusal_total es = refusals_sum (number_at es)
