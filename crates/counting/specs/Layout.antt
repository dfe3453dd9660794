-- The words of a report by their places: five of the whole file, then one for each refusal 1 to 15, then one for each row and column, 145 in all.
use Rattle.std.specs.Prelude.{ℕ, ◌+◌, ◌*◌}

-- requests read; the byte where reading stopped; records altered; the largest answer; requests answered
abbrev pub read_word : ℕ
read_word = 0

abbrev pub stop_word : ℕ
stop_word = 1

abbrev pub altered_word : ℕ
altered_word = 2

abbrev pub largest_word : ℕ
largest_word = 3

abbrev pub answered_word : ℕ
answered_word = 4

-- a refusal by its number; a command and a result by their row and column, 25 columns a row
abbrev pub refusal_word : ℕ → ℕ
refusal_word n = 4 + n

abbrev pub cell_word : ℕ → ℕ → ℕ
cell_word row column = 20 + (25 * row + column)
