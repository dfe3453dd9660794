-- The answer for a whole table, by the tests on the way.
use Rattle.std.specs.Prelude.{Result, Err}
use Rattle.octets.specs.Standard.{ℕ, ◌+◌, ◌*◌, ◌<◌, ◌≤◌, Bool, true, false, ◌≡◌, List, length, le-leb, lt-leb, eq-eqb, ne_eqb}
use Rattle.record.specs.HeaderBlock.{header_of, sound_header}
use Rattle.record.specs.declared.header.Header.{Header}
use Rattle.blocks.specs.Blocks.{block_of}
use Rattle.table.specs.Check.{check_records, check_table}

module _ (t : List ℕ) (file : ℕ) where
  pub table_short : length t < 512 → Err 0 ≡ check_table t file
  unfolding check_table
  table_short h = rw (lt-leb _ _ h)

  module _ (b : List ℕ) (h : Header) {x : Bool} (at : b ≡ block_of t 0) (is : h ≡ header_of b) (e : x ≡ sound_header b) (long : 512 ≤ length t) where
    pub table_header : x ≡ false → Err 0 ≡ check_table t file
    unfolding check_table
    table_header f = let s : sound_header b ≡ false = cc in rw (← at, le-leb _ _ long, s)

    pub table_length : x ≡ true → (length t ≡ 512 * (h.count + 1) → ⊥) → Err 0 ≡ check_table t file
    unfolding check_table
    table_length f n = let s : sound_header b ≡ true = cc in rw (← at, le-leb _ _ long, s, ← is, ne_eqb _ _ n)

    pub table_records : {r : Result ℕ ℕ} → x ≡ true → length t ≡ 512 * (h.count + 1) → r ≡ check_records t h file → r ≡ check_table t file
    unfolding check_table
    table_records f n g = let s : sound_header b ≡ true = cc in rw (← at, le-leb _ _ long, s, ← is, eq-eqb _ _ n) g
