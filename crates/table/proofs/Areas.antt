-- How an area reads: by its table alone, and as itself where it is as long as that.
use Rattle.std.proofs.lemmas.List.{take_min}
use Rattle.std.specs.Prelude.{Result, Ok, Err}
use Rattle.octets.specs.Standard.{ℕ, suc, ◌+◌, ◌-◌, ◌*◌, ◌<◌, ◌≤◌, ◌&&◌, and-false, ◌≡◌, ◌≢◌, sym, ◌∙◌, ap, List, ◌++◌, arith, leb, length, take, drop, min}
use Rattle.octets.specs.Standard.{take-append-drop, take_all, take_at, take-append-le, take-take, length-take-le, ne_eqb}
use Rattle.octets.specs.Number.{be32_at}
use Rattle.octets.proofs.All.{all_alike}
use Rattle.record.specs.Fields.{count_of}
use Rattle.record.specs.HeaderBlock.{header_of, sound_header}
use Rattle.record.specs.declared.header.Header.{Header}
use Rattle.blocks.specs.Blocks.{block_of, table_of}
use Rattle.blocks.specs.Changed.{changed_in}
use Rattle.blocks.proofs.Blocks.{table_front, take_block}
use Rattle.table.specs.Area.{size_in, table_in, check_area}
use Rattle.table.specs.Check.{rises_at, stands_at, agrees_with, agrees_at, sound_at, check_table}
use Rattle.table.specs.Named.{public_at}
use Rattle.table.proofs.Sound.{TableTests, table_says}

-- Whether block k is sound in its place rests on it and on the blocks before it.
module _ (t u : List ℕ) (h : Header) (file k : ℕ) (same : (j : ℕ) → j ≤ k → block_of t j ≡ block_of u j) where
  agrees_same : agrees_at t k ≡ agrees_at u k
  unfolding agrees_at agrees_with
  agrees_same = all_alike (agrees_with t k) (agrees_with u k) (k - 1) (λ i l. rw (same (suc i) (omega arith), same k (omega arith)))

  rises_same : rises_at t k ≡ rises_at u k
  unfolding rises_at public_at
  rises_same = rw (same (k - 1) (omega arith), same k (omega arith))

  pub sound_same : sound_at t h file k ≡ sound_at u h file k
  unfolding sound_at stands_at
  sound_same = rw (agrees_same, rises_same, same k (omega arith))

-- The table of an area, block by block, with what is behind it.
module _ (area : List ℕ) where
  pub in_blocks : table_in area ≡ table_of (block_of area) (count_of (block_of area 0) + 1)
  unfolding table_in size_in
  in_blocks = table_front area (count_of (block_of area 0) + 1)

  pub in_block : (j : ℕ) → j ≤ count_of (block_of area 0) → block_of (table_in area) j ≡ block_of area j
  unfolding table_in size_in
  in_block j h = take_block area (count_of (block_of area 0) + 1) j (omega arith)

  pub in_first : block_of (table_in area) 0 ≡ block_of area 0
  in_first = in_block 0 (omega arith)

  pub in_length : size_in area ≤ length area → length (table_in area) ≡ size_in area
  unfolding table_in
  in_length h = length-take-le (size_in area) area h

  pub in_rest : table_in area ++ drop (size_in area) area ≡ area
  unfolding table_in
  in_rest = take-append-drop (size_in area) area

  -- an area that is no longer is all table
  pub in_all : length area ≤ size_in area → table_in area ≡ area
  unfolding table_in
  in_all h = take_all (size_in area) area h

-- "Blocks past the count, and a last piece under 512 bytes, are not looked at": areas that agree up to the count of one of them read alike.
pub read_alike : (area other : List ℕ) → take (size_in area) other ≡ take (size_in area) area → table_in other ≡ table_in area
unfolding table_in size_in
read_alike area other e =
    let n : ℕ = count_of (block_of area 0) + 1 in
    let z : block_of other 0 ≡ block_of area 0 =
    sym (take_block other n 0 (omega arith)) ∙ ap (λ (s : List ℕ). block_of s 0) e ∙ take_block area n 0 (omega arith) in
    ap (λ (b : List ℕ). take (512 * (count_of b + 1)) other) z ∙ e

-- A block past the count may be changed at any time.
pub read_past : (area : List ℕ) (k : ℕ) (change : List ℕ → List ℕ) → count_of (block_of area 0) < k → 512 * k ≤ length area
    → table_in (changed_in area k change) ≡ table_in area
unfolding changed_in size_in
read_past area k change past fits =
    let l : size_in area ≤ 512 * k = omega arith in
    let m : length (take (512 * k) area) ≡ 512 * k = length-take-le (512 * k) area fits in
    read_alike area (changed_in area k change)
    (take-append-le (size_in area) (take (512 * k) area) (change (block_of area k) ++ drop (512 * k + 512) area) (omega arith)
    ∙ take-take (size_in area) (512 * k) area l)

-- A table with anything behind it reads as itself.
pub read_front : (t rest : List ℕ) → length t ≡ size_in t → table_in (t ++ rest) ≡ t
read_front t rest h =
    read_alike t (t ++ rest) (take_at t rest (size_in t) h ∙ sym (take_all (size_in t) t (omega arith))) ∙ in_all t (omega arith)

pub sound_size_in : (t : List ℕ) (file count : ℕ) → check_table t file ≡ Ok count → length t ≡ size_in t
unfolding size_in header_of
sound_size_in t file count e = let s : TableTests t file count = table_says t file count e in omega (arith, s.size, s.counted)

-- An exact area is checked as a table; a shorter one has a bad block 0.
module _ (area : List ℕ) (file : ℕ) where
  pub check_exact : length area ≡ size_in area → check_area area file ≡ check_table area file
  unfolding check_area
  check_exact h = ap (λ (t : List ℕ). check_table t file) (in_all area (omega arith))

  -- "elsewhere the length stays exact": a table of another length has a bad block 0
  pub table_exact : length area ≢ size_in area → check_table area file ≡ Err 0
  unfolding check_table size_in header_of
  table_exact n =
      rw (ne_eqb (length area) (512 * (count_of (block_of area 0) + 1)) n, and-false (leb 512 (length area) && sound_header (block_of area 0)))

  pub check_short : length area < size_in area → check_area area file ≡ Err 0
  unfolding check_area
  check_short h = ap (λ (t : List ℕ). check_table t file) (in_all area (omega arith)) ∙ table_exact (λ e. omega (arith, e))

-- What the function that finds its length says.
module _ (area : List ℕ) where
  pub length_piece : length area < 512 → take (length area) area ≡ table_in area
  unfolding size_in
  length_piece h = take_all (length area) area (omega arith) ∙ sym (in_all area (omega arith))

  module _ {b : List ℕ} {n : ℕ} (at : b ≡ block_of area 0) (is : n ≡ be32_at b 8) where
    size_is : 512 * (n + 1) ≡ size_in area
    unfolding size_in
    size_is = rw (is, at)

    pub length_long : take (512 * (n + 1)) area ≡ table_in area
    unfolding table_in
    length_long = ap (λ (m : ℕ). take m area) size_is

    pub length_min : {m : ℕ} → m ≡ min (512 * (n + 1)) (length area) → take m area ≡ table_in area
    length_min e = rw e (take_min (512 * (n + 1)) area ∙ length_long)

pub front_lent : (area : List ℕ) (n : ℕ) → take n area ≡ table_in area → take (n - 0) (drop 0 area) ≡ table_in area
front_lent area n e = let q : n - 0 ≡ n = omega arith in rw q e

pub area_checked : (area : List ℕ) (file : ℕ) {t : List ℕ} {r : Result ℕ ℕ} → t ≡ table_in area → r ≡ check_table t file → r ≡ check_area area file
unfolding check_area
area_checked area file e f = rw (← e) f
