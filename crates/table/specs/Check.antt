-- What the check of a table answers: the count of records, or the number of the first bad block.
use Rattle.std.specs.Prelude.{ℕ, suc, ◌+◌, ◌-◌, ◌*◌, Bool, true, false, cond, not, ◌&&◌, ◌||◌, List, length, ◌==◌, nat_le, Result, Err}
use Rattle.octets.specs.All.{all_below}
use Rattle.octets.specs.Name.{order_of}
use Rattle.std.specs.declared.cmp.Ordering.{Ordering}
use Rattle.std.specs.declared.cmp.Ordering.TheVariants.{Less, Equal, Greater}
use Rattle.record.specs.HeaderBlock.{header_of, sound_header}
use Rattle.record.specs.RecordBlock.{sound_record}
use Rattle.record.specs.Sets.{same_set, agreeing}
use Rattle.record.specs.declared.header.Header.{Header}
use Rattle.blocks.specs.Blocks.{block_of, first_bad}
use Rattle.table.specs.Named.{public_at}

abbrev pub is_less : Ordering → Bool
is_less Less = true
is_less Equal = false
is_less Greater = false

-- "Public identities rise strictly, bytewise, a prefix first; the later block is blamed."
unfoldable pub rises_at : List ℕ → ℕ → Bool
rises_at t k = cond (nat_le k 1) true (is_less (order_of (public_at t (k - 1)) (public_at t k)))

-- block k is a sound record in its place
unfoldable pub stands_at : List ℕ → Header → ℕ → ℕ → Bool
stands_at t h file k = sound_record (block_of t k) k h file && rises_at t k

-- 02 [6]: "sound only if all records of a set agree in state, pending and server name, the later block being blamed": block k agrees with record i + 1, if
-- that is of its set; with every record before it
unfoldable pub agrees_with : List ℕ → ℕ → ℕ → Bool
agrees_with t k i = not (same_set (block_of t (suc i)) (block_of t k)) || agreeing (block_of t (suc i)) (block_of t k)

unfoldable pub agrees_at : List ℕ → ℕ → Bool
agrees_at t k = all_below (agrees_with t k) (k - 1)

unfoldable pub sound_at : List ℕ → Header → ℕ → ℕ → Bool
sound_at t h file k = stands_at t h file k && agrees_at t k

unfoldable pub check_records : List ℕ → Header → ℕ → Result ℕ ℕ
check_records t h file = first_bad (sound_at t h file) h.count h.count 1

-- "Length is exactly 512 x (count + 1); if not, block 0 is bad." A table without a whole block has no header: block 0 is bad.
unfoldable pub check_table : List ℕ → ℕ → Result ℕ ℕ
check_table t file =
    cond (nat_le 512 (length t) && sound_header (block_of t 0) && length t == 512 * ((header_of (block_of t 0)).count + 1))
    (check_records t (header_of (block_of t 0)) file)
    (Err 0)
