-- An area that is zeroed from block 0 up, and one in which chosen blocks are zeroed.
use Rattle.std.specs.Prelude.{Err}
use Rattle.octets.specs.Standard.{ℕ, ◌+◌, ◌*◌, ◌/◌, ◌<◌, ◌≤◌, Bool, true, false, and-false, cond, ◌≡◌, refl, sym, ◌∙◌, ap, ◌⊎◌, inl, inr, List, arith}
use Rattle.octets.specs.Standard.{leb, ltb, ltb-true, ltb-false, lit<, length, get_or, drop, replicate, length-replicate, get_or-replicate, get_or-take, get_or-drop}
use Rattle.record.specs.Fields.{count_of, issue_of}
use Rattle.record.specs.HeaderBlock.{sound_header}
use Rattle.blocks.specs.Blocks.{block_of, table_of}
use Rattle.blocks.specs.Changed.{changed_at, changed_all}
use Rattle.blocks.proofs.Blocks.{block_length, table_same, table_length, table_block, front_block, past_block, front_length}
use Rattle.table.specs.Area.{table_in, check_area}
use Rattle.table.specs.Check.{check_table}
use Rattle.table.proofs.Areas.{in_blocks, in_first}
use Rattle.table.proofs.Heads.{header_kind}
use Rattle.taking.specs.Ended.{Fit, Found, Takes}
use Rattle.taking.specs.Written.{zeroed_after, zeroed_where}

zero_kind : (n k : ℕ) → 512 * k + 512 ≤ n → get_or (block_of (replicate n 0) k) 0 0 ≡ 0
unfolding block_of
zero_kind n k h =
    get_or-take 512 (drop (512 * k) (replicate n 0)) 0 0 (lit< tt) ∙ get_or-drop (512 * k) (replicate n 0) 0 0 ∙ get_or-replicate n (512 * k + 0) 0 0 (omega arith)

module _ (area : List ℕ) (n : ℕ) where
  long : length (replicate {A = ℕ} (512 * n) 0) ≡ 512 * n
  long = length-replicate (512 * n) 0

  -- no zeroed block is of kind 1 or 2
  pub zeroed_kind : (k : ℕ) → k < n → get_or (block_of (zeroed_after area n) k) 0 0 ≡ 0
  unfolding zeroed_after
  zeroed_kind k h =
      rw (front_block (replicate (512 * n) 0) (drop (512 * n) area) k (omega (arith, long))) (zero_kind (512 * n) k (omega arith))

  -- without a header it is refused all along,
  pub zeroing : (file : ℕ) → 0 < n → check_area (zeroed_after area n) file ≡ Err 0
  unfolding check_area check_table
  zeroing file h =
      rw (
        in_first (zeroed_after area n),
        go (sound_header (block_of (zeroed_after area n) 0)) refl,
        and-false (leb 512 (length (table_in (zeroed_after area n)))),
      )
    where
      go : (y : Bool) → sound_header (block_of (zeroed_after area n) 0) ≡ y → y ≡ false
      go false e = refl
      go true e = let q : ◌≡◌ {A = ℕ} 0 1 = sym (zeroed_kind 0 h) ∙ header_kind (block_of (zeroed_after area n) 0) e in absurd (omega arith)

  pub zeroed_length : 512 * n ≤ length area → length (zeroed_after area n) ≡ length area
  unfolding zeroed_after
  zeroed_length h = front_length (replicate (512 * n) 0) n area long h

-- and once all whole blocks are zeroed, any fit table is taken that it has room for, whatever its issue number.
pub zeroed : (area fresh : List ℕ) (file count : ℕ) → Fit fresh file count → 512 * (count + 1) ≤ length area
    → Takes (zeroed_after area (length area / 512)) fresh file count
zeroed area fresh file count f room =
    record {
      fit = f;
      greater = λ i g. absurd (none g.block (omega (arith, g.whole, size)) g.kind);
      size = omega (arith, size);
    }
  where
    n : ℕ
    n = length area / 512

    size : length (zeroed_after area n) ≡ length area
    size = zeroed_length area n (omega arith)

    none : (k : ℕ) → k < n → (get_or (block_of (zeroed_after area n) k) 0 0 ≡ 1) ⊎ (get_or (block_of (zeroed_after area n) k) 0 0 ≡ 2) → ⊥
    none k l (inl e) = let q : ◌≡◌ {A = ℕ} 0 1 = sym (zeroed_kind area n k l) ∙ e in omega arith
    none k l (inr e) = let q : ◌≡◌ {A = ℕ} 0 2 = sym (zeroed_kind area n k l) ∙ e in omega arith

-- Chosen blocks that are zeroed, and all others as they were.
module _ (area : List ℕ) (chosen : ℕ → Bool) where
  abbrev blocks : ℕ
  blocks = length area / 512

  abbrev zeros : List ℕ → List ℕ
  zeros b = replicate 512 0

  whole : (j : ℕ) → j < blocks → length (changed_at area chosen zeros j) ≡ 512
  unfolding changed_at
  whole j l = go (chosen j)
    where
      go : (y : Bool) → length (cond y (replicate {A = ℕ} 512 0) (block_of area j)) ≡ 512
      go true = length-replicate {A = ℕ} 512 0
      go false = block_length area j (omega arith)

  front : length (changed_all area blocks chosen zeros) ≡ 512 * blocks
  unfolding changed_all
  front = table_length (changed_at area chosen zeros) blocks whole

  where_length : length (zeroed_where area chosen) ≡ length area
  unfolding zeroed_where
  where_length = front_length (changed_all area blocks chosen zeros) blocks area front (omega arith)

  where_block : (j : ℕ) → j < blocks → block_of (zeroed_where area chosen) j ≡ changed_at area chosen zeros j
  unfolding zeroed_where changed_all
  where_block j l =
      front_block (changed_all area blocks chosen zeros) (drop (512 * blocks) area) j (omega (arith, front))
      ∙ table_block (changed_at area chosen zeros) blocks whole j l

  -- a block that is not chosen
  where_kept : (j : ℕ) → chosen j ≡ false → block_of (zeroed_where area chosen) j ≡ block_of area j
  unfolding zeroed_where changed_at
  where_kept j e = go (ltb j blocks) refl
    where
      go : (y : Bool) → ltb j blocks ≡ y → block_of (zeroed_where area chosen) j ≡ block_of area j
      go true f = where_block j (ltb-true j blocks f) ∙ rw e
      go false f = past_block (changed_all area blocks chosen zeros) blocks area front j (ltb-false j blocks f)

  -- and one that is
  where_kind : (j : ℕ) → j < blocks → chosen j ≡ true → get_or (block_of (zeroed_where area chosen) j) 0 0 ≡ 0
  unfolding changed_at
  where_kind j l e =
      let s : block_of (zeroed_where area chosen) j ≡ replicate 512 0 = where_block j l ∙ rw e in
      ap (λ (b : List ℕ). get_or b 0 0) s ∙ get_or-replicate 512 0 0 0 (lit< tt)

  -- Past the count nobody reads them.
  pub where_reads : ((j : ℕ) → j ≤ count_of (block_of area 0) → chosen j ≡ false) → table_in (zeroed_where area chosen) ≡ table_in area
  where_reads h =
      let z : block_of (zeroed_where area chosen) 0 ≡ block_of area 0 = where_kept 0 (h 0 (omega arith)) in
      in_blocks (zeroed_where area chosen) ∙ ap (λ (b : List ℕ). table_of (block_of (zeroed_where area chosen)) (count_of b + 1)) z
      ∙ table_same (block_of (zeroed_where area chosen)) (block_of area) (count_of (block_of area 0) + 1) (λ j l. where_kept j (h j (omega arith)))
      ∙ sym (in_blocks area)

  -- What is found then was found in a block that was not chosen.
  pub where_takes : (fresh : List ℕ) (file count : ℕ) → Fit fresh file count → 512 * (count + 1) ≤ length area
      → ((issue : ℕ) (f : Found area issue) → chosen f.block ≡ false → issue < issue_of (block_of fresh 0)) → Takes (zeroed_where area chosen) fresh file count
  where_takes fresh file count f room rest =
      record { fit = f; greater = λ i g. go i g (chosen g.block) refl; size = omega (arith, where_length) }
    where
      no : (k : ℕ) → k ≡ 0 → (k ≡ 1) ⊎ (k ≡ 2) → ⊥
      no k e (inl q) = omega arith
      no k e (inr q) = omega arith

      go : (i : ℕ) (g : Found (zeroed_where area chosen) i) (y : Bool) → chosen g.block ≡ y → i < issue_of (block_of fresh 0)
      go i g true e = absurd (no _ (where_kind g.block (omega (arith, g.whole, where_length)) e) g.kind)
      go i g false e =
          let s : block_of (zeroed_where area chosen) g.block ≡ block_of area g.block = where_kept g.block e in
          rest i (record { block = g.block; whole = omega (arith, g.whole, where_length); kind = rw (← s) g.kind; here = sym (ap issue_of s) ∙ g.here }) e
