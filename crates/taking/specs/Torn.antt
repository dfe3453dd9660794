-- What a cut leaves (Cut), said of every set of the new table's blocks, since a disk may write them in another order than it was told.
use Rattle.std.specs.Prelude.{ℕ, ◌<◌, ◌≤◌, min, Bool, true, false, List, ◌⊎◌, ◌≡◌, Result, Ok, Err}
use Rattle.record.specs.Fields.{count_of}
use Rattle.blocks.specs.Blocks.{block_of}
use Rattle.table.specs.Area.{table_in, check_area}
use Rattle.taking.specs.Written.{torn_after}

-- every block of a new table of so many records is chosen
abbrev pub AllChosen : (ℕ → Bool) → ℕ → Type 0
AllChosen chosen count = (j : ℕ) → j ≤ count → chosen j ≡ true

-- block 0 is chosen, and block k is the lowest that is not chosen
pub record FirstMissing (chosen : ℕ → Bool) (count k : ℕ) : Type 0 where
  pub from : 0 < k
  pub to : k ≤ count
  pub here : chosen k ≡ false
  pub before : (j : ℕ) → j < k → chosen j ≡ true

-- no block within the old header's count is chosen, so block 0 is not chosen
abbrev pub NoneWithin : List ℕ → (ℕ → Bool) → ℕ → Type 0
NoneWithin area chosen count = (j : ℕ) → j ≤ count → j ≤ count_of (block_of area 0) → chosen j ≡ false

-- block 0 is not chosen, and block k, within the old header's count, is the lowest that is chosen
pub record FirstWithin (area : List ℕ) (chosen : ℕ → Bool) (count k : ℕ) : Type 0 where
  pub from : 0 < k
  pub to : k ≤ count
  pub within : k ≤ count_of (block_of area 0)
  pub here : chosen k ≡ true
  pub before : (j : ℕ) → j < k → chosen j ≡ false

-- the lower of block k and of the bad block that was answered, if any
abbrev pub lower_block : ℕ → Result ℕ ℕ → ℕ
lower_block k (Ok n) = k
lower_block k (Err j) = min j k

abbrev pub lower_bad : ℕ → Result ℕ ℕ → Result ℕ ℕ
lower_bad k c = Err (lower_block k c)

-- the four ways, one of which every choice takes, and how the area then reads
abbrev pub Torn : List ℕ → List ℕ → ℕ → ℕ → (ℕ → Bool) → Type 0
Torn area fresh file count chosen =
    (AllChosen chosen count × (table_in (torn_after area fresh chosen) ≡ fresh))
    ⊎ (((k : ℕ) × FirstMissing chosen count k × (check_area (torn_after area fresh chosen) file ≡ Err k))
    ⊎ ((NoneWithin area chosen count × (table_in (torn_after area fresh chosen) ≡ table_in area))
    ⊎ ((k : ℕ) × FirstWithin area chosen count k × (check_area (torn_after area fresh chosen) file ≡ lower_bad k (check_area area file)))))
