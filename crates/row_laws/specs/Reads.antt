-- The word of a row, read back.
use Rattle.std.specs.Prelude.{ℕ, ◌/◌, ◌%◌, Bool, ◌≡◌, List, eqb}
use Rattle.ndushavire.specs.Reads.{number_in, place_in, value_in}
use Rattle.row_of_calls.specs.Row.{Rowed}

-- in the place's bits 1 if some request altered a record, 2 if some vector was marked, 3 if both
abbrev pub altered_in : ℕ → Bool
altered_in w = eqb (place_in w % 2) 1

abbrev pub marked_in : ℕ → Bool
marked_in w = eqb (place_in w / 2) 1

-- what a row came to, by its word and what it left
abbrev pub row_in : ℕ → List ℕ → List ℕ → List ℕ → List ℕ → Rowed
row_in w table vectors answers words =
    record {
      number = number_in w;
      table = table;
      vectors = vectors;
      answers = answers;
      words = words;
      served = value_in w;
      altered = altered_in w;
      marked = marked_in w;
    }

-- so is it read back
pub record ReadsRow (r : Rowed) (w : ℕ) : Type 0 where
  pub number : number_in w ≡ r.number
  pub value : value_in w ≡ r.served
  pub altered : altered_in w ≡ r.altered
  pub marked : marked_in w ≡ r.marked
