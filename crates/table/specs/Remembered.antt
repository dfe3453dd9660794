-- How the sets met so far are remembered: of each the first block, in one of 4,608 slots. A slot is 0, or a block's number with three bits of its hash
-- above it. No answer of the check depends on any of this.
use Rattle.std.specs.Prelude.{◌≡◌, ℕ, zero, suc, ◌+◌, ◌*◌, ◌/◌, ◌%◌, ◌<◌, ◌≤◌, Bool, true, false, cond, ◌&&◌, ◌||◌, List, length, ◌==◌, slice_index}
use Rattle.record.specs.Fields.{set_of}
use Rattle.table.specs.Hash.{hash_of}
use Rattle.record.specs.Sets.{same_set}
use Rattle.blocks.specs.Blocks.{block_of}
use Rattle.table.specs.Check.{agrees_at}

-- the three bits of a hash; a block as a slot has it
abbrev pub tag_of : ℕ → ℕ
tag_of hash = hash / 4608 % 8

abbrev pub word_of : ℕ → ℕ → ℕ
word_of hash k = tag_of hash * 8192 + k

-- the slots of a hash, one after the other
unfoldable pub probe : ℕ → ℕ → ℕ
probe hash i = (hash % 4608 + i) % 4608

unfoldable pub slot_at : List ℕ → ℕ → ℕ → ℕ
slot_at slots hash i = slice_index slots (probe hash i)

-- block k's set is looked for no further: the slot is empty, or its block is of that set
unfoldable pub stops_at : List ℕ → ℕ → ℕ → ℕ → Bool
stops_at t hash k word = word == 0 || (word / 8192 == tag_of hash && same_set (block_of t (word % 8192)) (block_of t k))

-- what a filled slot says
pub record Word (t : List ℕ) (word : ℕ) : Type 0 where
  pub block : 1 ≤ word % 8192
  pub tag : word / 8192 ≡ tag_of (hash_of (block_of t (word % 8192)))

-- record j, which has a set: no slot of its hash is empty, up to one whose block is of its set
pub record SetKept (t slots : List ℕ) (j : ℕ) : Type 0 where
  pub turn : ℕ
  pub filled : (i : ℕ) → i < turn → 0 < slot_at slots (hash_of (block_of t j)) i
  pub full : 0 < slot_at slots (hash_of (block_of t j)) turn
  pub own : same_set (block_of t (slot_at slots (hash_of (block_of t j)) turn % 8192)) (block_of t j) ≡ true

-- how many of the first n slots are filled
unfoldable pub filled : List ℕ → ℕ → ℕ
filled slots zero = zero
filled slots (suc n) = cond (slice_index slots n == 0) (filled slots n) (suc (filled slots n))

-- the sets of all records before block k
pub record Remembers (t slots : List ℕ) (k : ℕ) : Type 0 where
  pub size : length slots ≡ 4608
  pub few : filled slots 4608 < k
  pub before : (a : ℕ) → slice_index slots a % 8192 < k
  pub word : (a : ℕ) → 0 < slice_index slots a → Word t (slice_index slots a)
  pub kept : (j : ℕ) → 1 ≤ j → j < k → 0 < set_of (block_of t j) → SetKept t slots j

-- block k's set was looked for in so many slots in vain, and not in all
pub record SlotsPassed (t slots : List ℕ) (hash k turn : ℕ) : Type 0 where
  pub few : turn < 4608
  pub each : (i : ℕ) → i < turn → stops_at t hash k (slot_at slots hash i) ≡ false

-- where block k's set was found, or an empty slot for it
pub record SlotFound (t slots : List ℕ) (hash k at : ℕ) : Type 0 where
  pub turn : ℕ
  pub passed : SlotsPassed t slots hash k turn
  pub place : at ≡ probe hash turn
  pub stopped : stops_at t hash k (slot_at slots hash turn) ≡ true

-- every record before block k agrees with those before it
pub record Agreed (t : List ℕ) (k : ℕ) : Type 0 where
  pub each : (j : ℕ) → 1 ≤ j → j < k → agrees_at t j ≡ true
