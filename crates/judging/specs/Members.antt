-- The sets that are remembered, where a block is one that a list says.
use Rattle.std.specs.Prelude.{ℕ, ◌+◌, ◌*◌, ◌/◌, ◌%◌, ◌<◌, ◌≤◌, Bool, true, ◌&&◌, ◌||◌, cond, ◌≡◌, List, eqb, get_or, set}
use Rattle.record.specs.Sets.{same_set, agreeing}
use Rattle.blocks.specs.Blocks.{block_of}
use Rattle.table.specs.Remembered.{tag_of, SlotFound}
use Rattle.importing.specs.Said.{said_at, table_said}
use Rattle.saying.specs.Noted.{Noted}

-- the set of block b is looked for no further than a slot
unfoldable pub stops_by : List ℕ → List ℕ → ℕ → List ℕ → ℕ → Bool
stops_by list header hash b word = eqb word 0 || (eqb (word / 8192) (tag_of hash) && same_set (said_at list header (word % 8192)) b)

-- the block of a filled slot can be read again
pub record Reached (list places : List ℕ) (word : ℕ) : Type 0 where
  pub least : (word ≡ 0 → ⊥) → 1 ≤ word % 8192
  pub most : word % 8192 ≤ 4096
  pub noted : Noted list places (word % 8192)

-- and was, where the search ended at it
pub record SlotRead (list header : List ℕ) (word : ℕ) (stop : Bool) (a : List ℕ) : Type 0 where
  pub block : stop ≡ true → (word ≡ 0 → ⊥) → a ≡ said_at list header (word % 8192)

-- where record k's set was found by its hash, or an empty slot for it
pub record FoundSo (list header slots : List ℕ) (k : ℕ) (a : List ℕ) (hash at : ℕ) : Type 0 where
  pub found : SlotFound (table_said list header) slots hash k at
  pub slot : at < 4608
  pub block : (get_or slots at 0 ≡ 0 → ⊥) → a ≡ block_of (table_said list header) (get_or slots at 0 % 8192)

-- what is held against the slot, and the slots afterwards
unfoldable pub held_by : List ℕ → List ℕ → ℕ → Bool
held_by a b word = cond (eqb word 0) true (agreeing a b)

unfoldable pub slots_after : List ℕ → ℕ → ℕ → ℕ → List ℕ
slots_after slots hash at k = cond (eqb (get_or slots at 0) 0) (set slots at (tag_of hash * 8192 + k)) slots
