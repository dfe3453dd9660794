-- A sound table is of one edition and one issue number throughout; of one that mixes them the later block is blamed.
use Rattle.std.specs.Prelude.{Ok, Err}
use Rattle.octets.specs.Standard.{ℕ, ◌+◌, ◌*◌, ◌≤◌, Bool, true, false, ◌≢◌, ◌⊎◌, inl, inr, ◌≡◌, refl, List, arith, length, eq-eqb, le-leb}
use Rattle.record.specs.Fields.{edition_of, issue_of}
use Rattle.record.specs.HeaderBlock.{header_of}
use Rattle.record.specs.RecordBlock.{sound_record}
use Rattle.record.specs.declared.header.Header.{Header}
use Rattle.blocks.specs.Blocks.{block_of}
use Rattle.table.specs.Check.{stands_at, sound_at, check_records, check_table}
use Rattle.table.proofs.Heads.{record_edition, record_issue}
use Rattle.table.proofs.Sound.{table_says}
use Rattle.moving.specs.Conditions.{Mixes}
use Rattle.blocks.proofs.First.{FirstNot, bad_holds}
use Rattle.moving.proofs.Moved.{each_edition, each_issue}

pub throughout : (t : List ℕ) (file count k : ℕ) → check_table t file ≡ Ok count → k ≤ count
    → (edition_of (block_of t k) ≡ edition_of (block_of t 0)) × (issue_of (block_of t k) ≡ issue_of (block_of t 0))
throughout t file count k e h =
    let was = table_says t file count e in
    (each_edition t file count was k h, each_issue t file count was k h)

-- a record that has not its header's is bad itself
record_bad : (b : List ℕ) (k : ℕ) (h : Header) (file : ℕ) → (edition_of b ≢ h.edition) ⊎ (issue_of b ≢ h.issue) → sound_record b k h file ≡ false
record_bad b k h file other = go (sound_record b k h file) refl other
  where
    go : (x : Bool) → sound_record b k h file ≡ x → (edition_of b ≢ h.edition) ⊎ (issue_of b ≢ h.issue) → x ≡ false
    go false e n = refl
    go true e (inl n) = absurd (n (record_edition b k h file e))
    go true e (inr n) = absurd (n (record_issue b k h file e))

module _ (t : List ℕ) (file k : ℕ) (m : Mixes t file k) where
  abbrev h : Header
  h = header_of (block_of t 0)

  here : sound_at t h file k ≡ false
  unfolding sound_at stands_at header_of
  here = rw (record_bad (block_of t k) k h file m.other)

  first : FirstNot (sound_at t h file) h.count 1 k
  first = record { from = m.from; to = omega (arith, m.to); here = here; before = m.before }

  pub mixed : check_table t file ≡ Err k
  unfolding check_table check_records
  mixed =
      rw (m.header, le-leb 512 (length t) (omega (arith, m.size)), eq-eqb (length t) (512 * (h.count + 1)) m.size)
      (bad_holds (sound_at t h file) h.count h.count 1 k first)
