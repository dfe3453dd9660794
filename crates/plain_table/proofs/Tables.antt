-- The tests of a record in its place, and the answer for a whole table.
use Rattle.std.specs.Prelude.{Err}
use Rattle.octets.specs.Standard.{ℕ, suc, ◌+◌, ◌-◌, ◌*◌, ◌<◌, ◌≤◌, Bool, true, false, ◌&&◌, ◌||◌, not, ◌≡◌, sym, ◌∙◌, List, arith, length, leb}
use Rattle.octets.specs.Standard.{eqb, le-leb, lt-leb, leb-true, eqb-true}
use Rattle.octets.specs.Name.{order_of}
use Rattle.octets.proofs.All.{and_left, and_right}
use Rattle.record.specs.Fields.{public_of}
use Rattle.record.specs.HeaderBlock.{header_of, sound_header}
use Rattle.record.specs.Sets.{same_set, agreeing}
use Rattle.record.specs.declared.header.Header.{Header}
use Rattle.record.proofs.Tests.{HeaderTests, header_says}
use Rattle.blocks.specs.Blocks.{block_of, first_bad}
use Rattle.table.specs.Check.{is_less, rises_at, agrees_with, sound_at, check_records, check_table}
use Rattle.table.specs.Named.{public_at}

module _ (t : List ℕ) (k : ℕ) where
  pub rises_first : k ≤ 1 → true ≡ rises_at t k
  unfolding rises_at
  rises_first h = rw (le-leb _ _ h)

  pub rises_later : {a b p q : List ℕ} {x : Bool} → 1 < k → a ≡ block_of t (k - 1) → b ≡ block_of t k → p ≡ public_of a → q ≡ public_of b
      → x ≡ is_less (order_of p q) → x ≡ rises_at t k
  unfolding rises_at public_at
  rises_later h ea eb ep eq e = rw (lt-leb _ _ h, ← ea, ← eb, ← ep, ← eq) e

  pub pair_agrees : (i : ℕ) {a b : List ℕ} {x y : Bool} → 1 ≤ i → a ≡ block_of t i → b ≡ block_of t k → x ≡ same_set a b → y ≡ agreeing a b
      → (not x || y) ≡ agrees_with t k (i - 1)
  unfolding agrees_with
  pair_agrees i h ea eb e f = let n : suc (i - 1) ≡ i = omega arith in rw (n, ← ea, ← eb, e, f)

module _ (t : List ℕ) where
  -- block 0: a sound header, and the length that it says
  abbrev first_sound : Bool
  first_sound = leb 512 (length t) && sound_header (block_of t 0) && eqb (length t) (512 * ((header_of (block_of t 0)).count + 1))

  pub header_none : length t < 512 → false ≡ first_sound
  header_none h = rw (lt-leb _ _ h)

  pub header_long : {b : List ℕ} {h : Header} {x : Bool} → 512 ≤ length t → b ≡ block_of t 0 → h ≡ header_of b → x ≡ sound_header b
      → (x && eqb (length t) (512 * (h.count + 1))) ≡ first_sound
  header_long l eb eh ex = rw (le-leb _ _ l, ← eb, ← eh, ex)

  module _ (file : ℕ) {x : Bool} (is : x ≡ first_sound) where
    pub table_refused : x ≡ false → Err 0 ≡ check_table t file
    unfolding check_table
    table_refused f = let s : first_sound ≡ false = cc in rw s

    module _ (b : List ℕ) (h : Header) (good : x ≡ true) (at : b ≡ block_of t 0) (eh : h ≡ header_of b) where
      holds : first_sound ≡ true
      holds = sym is ∙ good

      says : HeaderTests b
      says = header_says b (rw at (and_right (leb 512 (length t)) _ (and_left (leb 512 (length t) && sound_header (block_of t 0)) _ holds)))

      pub table_count : h.count ≤ 4096
      table_count = rw eh says.count

      pub table_networks : h.networks ≤ 8
      table_networks = rw eh says.networks

      pub table_size : length t ≡ 512 * (h.count + 1)
      table_size = rw (eh, at) (eqb-true _ _ (and_right (leb 512 (length t) && sound_header (block_of t 0)) _ holds))

      pub table_starts : check_table t file ≡ first_bad (sound_at t h file) h.count (h.count + 1 - 1) 1
      unfolding check_table check_records
      table_starts = let n : h.count + 1 - 1 ≡ h.count = omega arith in rw (holds, n, eh, at)

    pub table_room : x ≡ true → 512 * 0 + 512 ≤ length t
    table_room f =
        let l : leb 512 (length t) ≡ true = and_left (leb 512 (length t)) _ (and_left (leb 512 (length t) && sound_header (block_of t 0)) _ (sym is ∙ f)) in
        omega (arith, leb-true 512 (length t) l)
