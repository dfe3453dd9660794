-- The word that a call returns: its number times 2^48, the place of the AVP at fault times 2^32, and what it returns besides below that.
use Rattle.listing.specs.Export.{Listed}
use Rattle.std.specs.Prelude.{ℕ, ◌+◌, Bool, cond, Result, Ok, Err}
use Rattle.moving.specs.Outcomes.{Move}
use Rattle.taking.specs.TakeOver.{Taken}
use Rattle.row_of_calls.specs.Row.{Rowed}
use Rattle.row_of_calls.specs.declared.Ended.{Ended}
pub use Rattle.row_of_calls.specs.Word.{number_unit, place_unit, word, call_word}

-- a sound file: number 0 with the count; an unsound one: its refusal's number (the table's is 5, the vector file's 6), with the first bad block
abbrev pub check_word : ℕ → Result ℕ ℕ → ℕ
check_word number (Ok count) = word 0 0 count
check_word number (Err block) = word number 0 block

abbrev pub move_word : Move → ℕ
move_word (Ok count) = word 0 0 count
move_word (Err r) = word r.number 0 r.block

-- "9 .. 10 .. 11": 0 besides
abbrev pub take_word : Taken → ℕ
take_word (Ok count) = word 0 0 count
take_word (Err r) = word r.number 0 0

-- an export or an import: the bytes written; 5 and 13 with a block, 14 with a line, 15 with 0
abbrev pub list_word : Listed → ℕ
list_word (Ok bytes) = word 0 0 bytes
list_word (Err e) = word e.number 0 e.value

-- the row's: in the place 1 if some request altered a record, 2 if some vector was marked, 3 if both; as the value, how many requests have a word. The same
-- from what the code says of it
abbrev pub mark_of : Bool → Bool → ℕ
mark_of altered marked = cond altered 1 0 + cond marked 2 0

abbrev pub row_word : Rowed → ℕ
row_word r = word r.number (mark_of r.altered r.marked) r.served

abbrev pub ended_word : Ended → ℕ
ended_word e = word e.number (mark_of e.altered e.marked) e.served
