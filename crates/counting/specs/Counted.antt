-- "how many; for each refusal, how many; records altered, once per request; and the largest answer": the words of a report over requests that were read.
use Rattle.std.specs.Prelude.{ℕ, zero, suc, ◌+◌, ◌%◌, ◌^◌, max, Bool, true, false, cond, List, [], ◌∷◌, length, ◌==◌}
use Rattle.counting.specs.Layout.{read_word, stop_word, altered_word, largest_word, answered_word, refusal_word, cell_word}
use Rattle.counting.specs.Results.{command_row, column_of}
use Rattle.counting.specs.Event.{Event}
use Rattle.std.specs.Prelude.{Ok, Err}

-- the word that a request is counted in: by its command and result, or by its refusal
unfoldable pub cell_of : Event → ℕ
cell_of (Ok e) = cell_word (command_row e.command) (column_of e.result)
cell_of (Err n) = refusal_word n

-- a refused request is not answered, alters nothing and has no answer's length
abbrev pub is_answered : Event → Bool
is_answered (Ok e) = true
is_answered (Err n) = false

abbrev pub altered_by : Event → ℕ
altered_by (Ok e) = e.altered
altered_by (Err n) = 0

abbrev pub answer_length : Event → ℕ
answer_length (Ok e) = e.length
answer_length (Err n) = 0

abbrev pub stands_in : ℕ → Event → Bool
stands_in i e = cell_of e == i

-- how many of the requests a test holds of; records altered; the largest answer, 0 if there is none
unfoldable pub how_many : (Event → Bool) → List Event → ℕ
how_many p [] = 0
how_many p (e ∷ es) = cond (p e) 1 0 + how_many p es

unfoldable pub altered_in : List Event → ℕ
altered_in [] = 0
altered_in (e ∷ es) = altered_by e + altered_in es

unfoldable pub largest_in : List Event → ℕ
largest_in [] = 0
largest_in (e ∷ es) = max (answer_length e) (largest_in es)

-- the number in each word: what it counts; for a refusal or a cell, how many requests came to it. Where reading stopped is 0 here and written at the end
unfoldable pub number_at : List Event → ℕ → ℕ
number_at es i =
    cond (i == read_word) (length es)
    (cond (i == stop_word) 0
    (cond (i == altered_word) (altered_in es)
    (cond (i == largest_word) (largest_in es)
    (cond (i == answered_word) (how_many is_answered es) (how_many (stands_in i) es)))))

-- "Counts of 64 bits": a sum has its remainder there, and the largest answer is no sum
unfoldable pub word_at : List Event → ℕ → ℕ
word_at es i = cond (i == largest_word) (largest_in es) (number_at es i % 2 ^ 64)

-- the first n values of a function
unfoldable pub values_below : (ℕ → ℕ) → ℕ → ℕ → List ℕ
values_below f i zero = []
values_below f i (suc n) = f i ∷ values_below f (suc i) n

unfoldable pub counts_of : List Event → List ℕ
counts_of es = values_below (word_at es) 0 145
