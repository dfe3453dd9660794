-- What comes of taking over a new table, for any bytes: the count of its records or a refusal, and the area afterwards.
use Rattle.std.specs.Prelude.{ℕ, Bool, true, false, ◌||◌, not, cond, List, eqb, ltb, length, Result, Ok, Err}
use Rattle.octets.specs.Run.{over}
use Rattle.record.specs.Fields.{edition_of, count_of, issue_of}
use Rattle.blocks.specs.Blocks.{block_of}
use Rattle.table.specs.Check.{check_table}
use Rattle.taking.specs.Found.{greater_than_all}
use Rattle.taking.specs.declared.Refusal.{Refusal}

-- how many records the new table has, or a refusal's number
abbrev pub Taken : Type 0
Taken = Result ℕ Refusal

abbrev pub refused : ℕ → Taken
refused number = Err (record { number = number })

abbrev pub is_sound : Result ℕ ℕ → Bool
is_sound (Ok _) = true
is_sound (Err _) = false

-- "9, new table unsound or edition 1"; its length stays exact
unfoldable pub unfit : List ℕ → ℕ → Bool
unfit fresh file = not (is_sound (check_table fresh file)) || eqb (edition_of (block_of fresh 0)) 1

-- "10, issue number not greater than every issue found in kind 1 or 2 blocks of the area"
unfoldable pub not_greater : List ℕ → List ℕ → Bool
not_greater area fresh = not (greater_than_all area (issue_of (block_of fresh 0)))

-- "11, area too short"
unfoldable pub too_short : List ℕ → List ℕ → Bool
too_short area fresh = ltb (length area) (length fresh)

pub record AfterTake : Type 0 where
  pub taken : Taken
  pub area : List ℕ

abbrev pub came : Taken → List ℕ → AfterTake
came r area = record { taken = r; area = area }

-- "nothing written"
abbrev pub refusing : List ℕ → ℕ → AfterTake
refusing area number = came (refused number) area

-- the new table over the front of the area, and everything past it as it was
abbrev pub taking : List ℕ → List ℕ → AfterTake
taking area fresh = came (Ok (count_of (block_of fresh 0))) (over fresh area)

-- "in this order"
unfoldable pub take_over : List ℕ → List ℕ → ℕ → AfterTake
take_over area fresh file =
    cond (unfit fresh file) (refusing area 9)
    (cond (not_greater area fresh) (refusing area 10) (cond (too_short area fresh) (refusing area 11) (taking area fresh)))
