-- Where requests are counted, computed from the definitions.
use Rattle.octets.specs.Standard.{ℕ, false, ◌≡◌, refl, List, [], ◌∷◌}
use Rattle.reading.specs.declared.Outcome.{Outcome}
use Rattle.reading.specs.declared.Outcome.TheVariants.{Base, Experimental}
use Rattle.counting.specs.Results.{base_results, experimental_results, index_in, command_row, column_of}
use Rattle.counting.specs.Counting.{listed}
use Rattle.counting.specs.Counted.{cell_of, how_many, altered_in, largest_in, number_at}
use Rattle.counting.specs.Layout.{read_word, altered_word, largest_word, answered_word, refusal_word, cell_word}
use Rattle.counting.specs.Totals.{sum_from, row_totals, refusal_total}
use Rattle.counting.specs.Event.{Event}
use Rattle.std.specs.Prelude.{Ok, Err}

answer : ℕ → Outcome → ℕ → ℕ → Event
answer c o n k = Ok (record { command = c; result = o; length = n; altered = k })

-- B5012 of a MAR is column 11 of row 3; X and B of one number stand apart; the last column of every other command is the last word
-- a refusal by 1 comes after the five words, that by 15 right before row 0
record Places : Type 0 where
  unable : cell_of (answer 303 (Base 5012) 0 0) ≡ 106
  base_success : cell_of (answer 300 (Base 2001) 0 0) ≡ 20
  first_registration : cell_of (answer 300 (Experimental 2001) 0 0) ≡ 33
  version : cell_of (answer 301 (Base 5011) 0 0) ≡ 55
  feature : cell_of (answer 301 (Experimental 5011) 0 0) ≡ 69
  last : cell_of (answer 4242 (Experimental 5011) 0 0) ≡ 144
  no_room_lem : cell_of (Err 1) ≡ 5
  output : cell_of (Err 15) ≡ 19
  no_column : listed (Experimental 5012) ≡ false

places : Places
unfolding cell_of command_row column_of listed index_in base_results experimental_results answer
places =
    record {
      unable = refl;
      base_success = refl;
      first_registration = refl;
      version = refl;
      feature = refl;
      last = refl;
      no_room_lem = refl;
      output = refl;
      no_column = refl;
    }

-- four requests: a LIR answered in 200 bytes, a SAR that alters three records, a refusal by 2, and the LIR again
four : List Event
four =
    answer 302 (Base 2001) 200 0
    ∷ answer 301 (Base 2001) 620 3
    ∷ Err 2
    ∷ answer 302 (Base 2001) 196 0
    ∷ []

record Numbers : Type 0 where
  read : number_at four read_word ≡ 4
  altered : number_at four altered_word ≡ 3
  largest : number_at four largest_word ≡ 620
  answered : number_at four answered_word ≡ 3
  refused : number_at four (refusal_word 2) ≡ 1
  assigned : number_at four (cell_word 1 0) ≡ 1
  located : number_at four (cell_word 2 0) ≡ 2
  rows : row_totals four ≡ 3
  refusals : refusal_total four ≡ 1

numbers : Numbers
unfolding number_at how_many altered_in largest_in sum_from cell_of command_row column_of index_in base_results experimental_results answer four
numbers =
    record {
      read = refl;
      altered = refl;
      largest = refl;
      answered = refl;
      refused = refl;
      assigned = refl;
      located = refl;
      rows = refl;
      refusals = refl;
    }
