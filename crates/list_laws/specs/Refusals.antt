-- The conditions of the refusals of an export, in their order.
use Rattle.std.specs.Prelude.{ℕ, ◌<◌, ◌≤◌, true, false, List, ◌≢◌, ◌≡◌, length, Ok, Err}
use Rattle.record.specs.Fields.{edition_of}
use Rattle.blocks.specs.Blocks.{block_of}
use Rattle.table.specs.Check.{check_table}
use Rattle.listing.specs.ListOf.{list_of, listable_at}

-- a sound table of edition 2
pub record SoundSecond (t : List ℕ) (file count : ℕ) : Type 0 where
  pub checked : check_table t file ≡ Ok count
  pub edition : edition_of (block_of t 0) ≡ 2

-- "13, a name that cannot be listed, with its block": the first record that has one
pub record FirstUnlisted (t : List ℕ) (count k : ℕ) : Type 0 where
  pub from : 1 ≤ k
  pub to : k ≤ count
  pub here : listable_at t k ≡ false
  pub before : (j : ℕ) → 1 ≤ j → j < k → listable_at t j ≡ true

-- export is refused by a number, with a value
pub data ExportRefuses (t : List ℕ) (file : ℕ) (area : List ℕ) : ℕ → ℕ → Type 0 where
  unsound : (k : ℕ) → check_table t file ≡ Err k → ExportRefuses t file area 5 k
  older : (count : ℕ) → check_table t file ≡ Ok count → edition_of (block_of t 0) ≢ 2 → ExportRefuses t file area 5 0
  unlisted : (count k : ℕ) → SoundSecond t file count → FirstUnlisted t count k → ExportRefuses t file area 13 k
  short : (count : ℕ) → SoundSecond t file count → ((k : ℕ) → 1 ≤ k → k ≤ count → listable_at t k ≡ true) → length area < length (list_of t)
      → ExportRefuses t file area 15 0
