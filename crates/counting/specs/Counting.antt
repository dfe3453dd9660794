-- What can be counted, and how the words are counted up, one request after the other.
use Rattle.std.specs.Prelude.{◌≡◌, ℕ, ◌+◌, ◌%◌, ◌^◌, ◌≤◌, max, Bool, true, List, [], ◌∷◌, length, replicate, nat_lt, slice_index, slice_set}
use Rattle.reading.specs.declared.Outcome.{Outcome}
use Rattle.reading.specs.declared.Outcome.TheVariants.{Base, Experimental}
use Rattle.counting.specs.Results.{base_results, experimental_results, index_in}
use Rattle.counting.specs.Layout.{read_word, altered_word, largest_word, answered_word}
use Rattle.counting.specs.Event.{Event}
use Rattle.std.specs.Prelude.{Ok, Err}
use Rattle.counting.specs.Counted.{cell_of}

-- a result that has a column
unfoldable pub listed : Outcome → Bool
listed (Base n) = nat_lt (index_in n base_results) (length base_results)
listed (Experimental n) = nat_lt (index_in n experimental_results) (length experimental_results)

abbrev pub Listed : Outcome → Type 0
Listed o = listed o ≡ true

-- what can be counted: a result that has a column, a refusal that has a word
abbrev pub Fits : Event → Type 0
Fits (Ok e) = Listed e.result
Fits (Err n) = (1 ≤ n) × (n ≤ 15)

abbrev pub AllFit : List Event → Type 0
AllFit [] = Unit
AllFit (e ∷ es) = Fits e × AllFit es

-- the words before the first request
abbrev pub no_counts : List ℕ
no_counts = replicate 145 0

-- so many more in word i; the larger of two answers
unfoldable pub plus : ℕ → ℕ → List ℕ → List ℕ
plus a i c = slice_set c i ((slice_index c i + a) % 2 ^ 64)

unfoldable pub larger : ℕ → List ℕ → List ℕ
larger n c = slice_set c largest_word (max (slice_index c largest_word) n)

-- one request more
unfoldable pub counted : List ℕ → Event → List ℕ
counted c (Ok e) = plus 1 (cell_of (Ok e)) (plus 1 answered_word (larger e.length (plus e.altered altered_word (plus 1 read_word c))))
counted c (Err n) = plus 1 (cell_of (Err n)) (plus 1 read_word c)

unfoldable pub counted_all : List ℕ → List Event → List ℕ
counted_all c [] = c
counted_all c (e ∷ es) = counted_all (counted c e) es
