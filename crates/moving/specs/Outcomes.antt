-- What comes of a move, for any bytes: the count of records or a refusal, and the table afterwards.
use Rattle.std.specs.Prelude.{ℕ, cond, List, eqb, Result, Ok, Err}
use Rattle.record.specs.Fields.{edition_of}
use Rattle.blocks.specs.Blocks.{block_of}
use Rattle.table.specs.Check.{check_table}
use Rattle.moving.specs.Moves.{moved_all, first_set}
use Rattle.moving.specs.declared.Refusal.{Refusal}

-- how many records were moved, or a refusal's number with the block that it blames
abbrev pub Move : Type 0
Move = Result ℕ Refusal

abbrev pub refused : ℕ → ℕ → Move
refused number block = Err (record { number = number; block = block })

pub record AfterMove : Type 0 where
  pub move : Move
  pub table : List ℕ

abbrev pub came : Move → List ℕ → AfterMove
came m t = record { move = m; table = t }

-- a refusal leaves the table as it came
abbrev pub refusing : List ℕ → ℕ → ℕ → AfterMove
refusing t number block = came (refused number block) t

-- all blocks are of the edition and of the issue number
abbrev pub moving : List ℕ → ℕ → ℕ → ℕ → AfterMove
moving t count edition issue = came (Ok count) (moved_all t count edition issue)

-- a sound table: "5 also for a sound table not of the edition moved from, block 0"
unfoldable pub forward_sound : List ℕ → ℕ → ℕ → AfterMove
forward_sound t count issue = cond (eqb (edition_of (block_of t 0)) 1) (moving t count 2 issue) (refusing t 5 0)

-- over the first record with a set
unfoldable pub back_past : List ℕ → ℕ → Result ℕ ℕ → AfterMove
back_past t count (Ok _) = moving t count 1 0
back_past t count (Err k) = refusing t 8 k

unfoldable pub back_sound : List ℕ → ℕ → AfterMove
back_sound t count = cond (eqb (edition_of (block_of t 0)) 2) (back_past t count (first_set t count)) (refusing t 5 0)

-- over what the check said
unfoldable pub forward_checked : List ℕ → ℕ → Result ℕ ℕ → AfterMove
forward_checked t issue (Ok count) = forward_sound t count issue
forward_checked t issue (Err k) = refusing t 5 k

unfoldable pub back_checked : List ℕ → Result ℕ ℕ → AfterMove
back_checked t (Ok count) = back_sound t count
back_checked t (Err k) = refusing t 5 k

-- the count of a sound table's records, over what the check said, if it is of an edition
unfoldable pub edition_checked : List ℕ → ℕ → Result ℕ ℕ → Move
edition_checked t edition (Ok count) = cond (eqb (edition_of (block_of t 0)) edition) (Ok count) (refused 5 0)
edition_checked t edition (Err k) = refused 5 k

unfoldable pub of_edition : List ℕ → ℕ → ℕ → Move
of_edition t file edition = edition_checked t edition (check_table t file)

-- edition 1 to 2, given an issue number; edition 2 to 1
unfoldable pub forward : List ℕ → ℕ → ℕ → AfterMove
forward t file issue = forward_checked t issue (check_table t file)

unfoldable pub back : List ℕ → ℕ → AfterMove
back t file = back_checked t (check_table t file)
