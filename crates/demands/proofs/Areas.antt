-- What a call over a table leaves alone, over the area in which the table is lent.
use Rattle.std.specs.Prelude.{Ok}
use Rattle.octets.specs.Standard.{ℕ, ◌+◌, ◌-◌, ◌*◌, ◌/◌, ◌<◌, ◌≤◌, Bool, true, false, List, some, ◌≡◌, refl, sym, ap, ◌∙◌, ◌⊎◌, inl, inr, ◌≢◌, arith}
use Rattle.octets.specs.Standard.{leb, leb-true, leb-false, length, get_or, take, drop, drop-drop}
use Rattle.record.specs.Fields.{count_of}
use Rattle.record.specs.HeaderBlock.{header_of}
use Rattle.blocks.specs.Blocks.{block_of}
use Rattle.table.specs.Area.{table_in}
use Rattle.table.specs.Check.{check_table}
use Rattle.table.specs.Named.{private_at}
use Rattle.table.proofs.Areas.{in_first, in_block}
use Rattle.table.proofs.Sound.{table_says}
use Rattle.rewrite.specs.Keeps.{alterable}
use Rattle.calling.specs.Lent.{Lent, table_only, dialect_in}
use Rattle.calling.specs.Serve.{check_of, serve_table, serve}
use Rattle.calling.proofs.Areas.{served_in, served_rest, served_stays}
use Rattle.demands.specs.Frame.{subscription_of}
use Rattle.demands.proofs.Frame.{others_kept, header_kept, bytes_kept, bits_kept, sound_kept}

-- Where the table stays, the whole area does.
pub area_stays : (a : Lent) → (serve_table (table_only a)).table ≡ table_in a.table → (serve a).table ≡ a.table
area_stays a e = served_stays a (served_in a ∙ e)

-- The blocks of a sound table at the front of an area are the area's.
module _ (area : List ℕ) (file count : ℕ) (sound : check_table (table_in area) file ≡ Ok count) where
  front_count : count_of (block_of area 0) ≡ count
  unfolding header_of
  front_count = ap count_of (sym (in_first area)) ∙ (table_says (table_in area) file count sound).counted

  pub front_block : (k : ℕ) → k ≤ count → block_of (table_in area) k ≡ block_of area k
  front_block k h = in_block area k (omega (arith, front_count, h))

module _ (a : Lent) (count : ℕ) (sound : check_of (table_only a) ≡ Ok count) where
  pub area_checked : check_table (table_in (serve a).table) (length a.profile) ≡ Ok count
  area_checked = ap (λ (t : List ℕ). check_table t (length a.profile)) (served_in a) ∙ sound_kept (table_only a) count sound

  -- a block within the count, before and after; one past it
  was : (k : ℕ) → k ≤ count → block_of (table_in a.table) k ≡ block_of a.table k
  was = front_block a.table (length a.profile) count sound

  is : (k : ℕ) → k ≤ count → block_of (serve a).table k ≡ block_of (serve_table (table_only a)).table k
  is k h = sym (front_block (serve a).table (length a.profile) count area_checked k h) ∙ ap (λ (t : List ℕ). block_of t k) (served_in a)

  past : (k : ℕ) → count < k → block_of (serve a).table k ≡ block_of a.table k
  unfolding block_of
  past k h =
      let n : ℕ = length (table_in a.table) in
      let e : n ≡ 512 * (count + 1) = (table_says (table_in a.table) (length a.profile) count sound).size in
      let q : n + (512 * k - n) ≡ 512 * k = omega (arith, e, h) in
      let from : (t : List ℕ) → drop (512 * k) t ≡ drop (512 * k - n) (drop n t) =
      λ t. ap (λ (m : ℕ). drop m t) (sym q) ∙ sym (drop-drop (512 * k - n) n t) in
      ap (take 512) (from (serve a).table ∙ ap (drop (512 * k - n)) (served_rest a) ∙ sym (from a.table))

  -- What holds of a block within the count, and of one that stays, holds of every block.
  every : (P : List ℕ → List ℕ → Type 0) (k : ℕ) → (k ≤ count → P (block_of (serve_table (table_only a)).table k) (block_of (table_in a.table) k))
      → (block_of (serve a).table k ≡ block_of a.table k → P (block_of (serve a).table k) (block_of a.table k))
      → P (block_of (serve a).table k) (block_of a.table k)
  every P k f g = go (leb k count) refl
    where
      go : (b : Bool) → leb k count ≡ b → P (block_of (serve a).table k) (block_of a.table k)
      go true e = let h : k ≤ count = leb-true k count e in rw (is k h, ← was k h) (f h)
      go false e = g (past k (leb-false k count e))

  pub area_others : (k : ℕ) → (count < k) ⊎ (some (private_at a.table k) ≢ subscription_of (dialect_in a) a.request (table_in a.table) count)
      → block_of (serve a).table k ≡ block_of a.table k
  unfolding private_at
  area_others k (inl h) = past k h
  area_others k (inr n) =
      every (λ b c. b ≡ c) k (λ h. others_kept (table_only a) count sound k h (λ e. n (rw (← was k h) e))) (λ e. e)

  pub area_header : block_of (serve a).table 0 ≡ block_of a.table 0
  area_header = every (λ b c. b ≡ c) 0 (λ h. header_kept (table_only a) count sound) (λ e. e)

  pub area_bytes : (k i : ℕ) → i < 512 → alterable i ≡ false → get_or (block_of (serve a).table k) i 0 ≡ get_or (block_of a.table k) i 0
  area_bytes k i l e =
      every (λ b c. get_or b i 0 ≡ get_or c i 0) k (λ h. bytes_kept (table_only a) count sound k i h l e) (λ f. ap (λ (b : List ℕ). get_or b i 0) f)

  pub area_bits : (k : ℕ) → get_or (block_of (serve a).table k) 9 0 / 2 ≡ get_or (block_of a.table k) 9 0 / 2
  area_bits k =
      every (λ b c. get_or b 9 0 / 2 ≡ get_or c 9 0 / 2) k (λ h. bits_kept (table_only a) count sound k h) (λ f. ap (λ (b : List ℕ). get_or b 9 0 / 2) f)
