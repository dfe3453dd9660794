-- An area of which only some blocks are written: "power or link may go after any block". A block is written whole.
use Rattle.std.specs.Prelude.{ℕ, suc, ◌*◌, ◌/◌, Bool, cond, List, ◌++◌, ◌≡◌, length, take, drop, replicate}
use Rattle.record.specs.Fields.{count_of}
use Rattle.blocks.specs.Blocks.{block_of, table_of}
use Rattle.blocks.specs.Changed.{changed_in, changed_all}

-- block k of the new table in its place
unfoldable pub with_block : List ℕ → List ℕ → ℕ → List ℕ
with_block area fresh k = changed_in area k (λ (b : List ℕ). block_of fresh k)

-- the first k blocks are the new table's: asked where block k is written, so that those before it are written before it. That the blocks behind it are still
-- the old ones, so that each waits for its turn, is not said here but by `cut_after`, in the loop's invariant. A block written again would leave the same bytes.
abbrev pub Begun : List ℕ → List ℕ → ℕ → Type 0
Begun area fresh k = take (512 * k) area ≡ take (512 * k) fresh

-- the first k blocks of the new table are written, and those from k on are still the old ones: "block by block from block 0"
unfoldable pub cut_after : List ℕ → List ℕ → ℕ → List ℕ
cut_after area fresh k = take (512 * k) fresh ++ drop (512 * k) area

-- the chosen ones of its blocks are written, and no other, in whatever order a disk wrote them
unfoldable pub torn_at : List ℕ → List ℕ → (ℕ → Bool) → ℕ → List ℕ
torn_at area fresh chosen k = cond (chosen k) (block_of fresh k) (block_of area k)

unfoldable pub torn_after : List ℕ → List ℕ → (ℕ → Bool) → List ℕ
torn_after area fresh chosen =
    table_of (torn_at area fresh chosen) (suc (count_of (block_of fresh 0))) ++ drop (512 * suc (count_of (block_of fresh 0))) area

-- the first k blocks of the area are zeroed
unfoldable pub zeroed_after : List ℕ → ℕ → List ℕ
zeroed_after area k = replicate (512 * k) 0 ++ drop (512 * k) area

-- the chosen ones of its whole blocks are zeroed, and no other
unfoldable pub zeroed_where : List ℕ → (ℕ → Bool) → List ℕ
zeroed_where area chosen = changed_all area (length area / 512) chosen (λ (b : List ℕ). replicate 512 0) ++ drop (512 * (length area / 512)) area
