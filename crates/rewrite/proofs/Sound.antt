-- What rests on what every effect keeps: a table stays sound, and what is found in it is found again.
use Rattle.std.specs.Prelude.{Ok}
use Rattle.octets.specs.Standard.{ℕ, ◌+◌, ◌*◌, ◌<◌, ◌≤◌, Bool, true, false, ◌≡◌, refl, sym, ◌∙◌, List, [], arith, eqb, leb, eqb-true, eqb-false}
use Rattle.octets.specs.Standard.{leb-true, leb-false, length, drop_of_length-le}
use Rattle.octets.proofs.Numbers.{be16_alike}
use Rattle.octets.proofs.Parts.{part_alike}
use Rattle.record.specs.Fields.{public_size, private_size, public_of, private_of, set_of}
use Rattle.record.specs.HeaderBlock.{header_of}
use Rattle.record.specs.RecordBlock.{record_of}
use Rattle.record.specs.Sets.{same_set}
use Rattle.record.specs.declared.header.Header.{Header}
use Rattle.record.proofs.OneSet.{set_alike}
use Rattle.blocks.specs.Blocks.{block_of}
use Rattle.table.specs.Named.{public_at}
use Rattle.table.specs.Check.{rises_at, stands_at, agrees_at, sound_at, check_table}
use Rattle.table.specs.SoundTable.{SoundTable}
use Rattle.table.proofs.Agreement.{agrees_holds}
use Rattle.table.proofs.Rising.{rises_alike}
use Rattle.table.proofs.Sound.{TableTests, table_holds, tests_rises, sound_tests, sound_record_lem, sound_agrees, sound_limits_lem, sound_public}
use Rattle.rewrite.specs.Keeps.{Kept}
use Rattle.rewrite.proofs.Bytes.{kept_low, kept_high}
use Rattle.rewrite.proofs.Tables.{Keeping}

-- The identities of a record, whose names have room.
module _ (b c : List ℕ) (kept : Kept b c) where
  pub kept_public : public_size b ≤ 128 → public_of c ≡ public_of b
  unfolding public_of
  kept_public h =
      rw (kept.others 13 (omega arith) refl)
      (part_alike c b 16 (public_size b) kept.size (λ i u v. kept.others i (omega arith) (kept_low i (omega arith) (omega arith))))

  pub kept_private : private_size b ≤ 128 → private_of c ≡ private_of b
  unfolding private_of
  kept_private h =
      rw (kept.others 14 (omega arith) refl)
      (part_alike c b 144 (private_size b) kept.size (λ i u v. kept.others i (omega arith) (kept_low i (omega arith) (omega arith))))

-- its set
pub kept_set : (b c : List ℕ) → Kept b c → set_of c ≡ set_of b
kept_set b c kept = be16_alike c b 406 406 (λ j l. kept.others (406 + j) (omega arith) (kept_high (406 + j) (omega arith) (omega arith)))

pub sound_private : (t : List ℕ) (count : ℕ) → SoundTable t count → (k : ℕ) → 1 ≤ k → k ≤ count → private_size (block_of t k) ≤ 128
unfolding record_of
sound_private t count s k a b = (sound_limits_lem t count s k a b).private

-- Past the end there is none.
block_past : (t : List ℕ) (k : ℕ) → length t ≤ 512 * k → block_of t k ≡ []
unfolding block_of
block_past t k h = rw (drop_of_length-le t {i = 512 * k} h)

module _ (x y : List ℕ) (count : ℕ) (keeping : Keeping x y count) (sound : SoundTable x count) where
  abbrev h : Header
  h = header_of (block_of x 0)

  was : TableTests x sound.file count
  was = sound_tests x count sound

  pub keeping_public : (k : ℕ) → 1 ≤ k → k ≤ count → public_at y k ≡ public_at x k
  unfolding public_at
  keeping_public k a b = kept_public (block_of x k) (block_of y k) (keeping.each k a b) (sound_public x count sound k a b)

  rises_same : (k : ℕ) → 1 ≤ k → k ≤ count → rises_at y k ≡ rises_at x k
  rises_same k a b = rises_alike x y k a (λ j u v. keeping_public j u (omega arith))

  -- what sets are made of stays, whatever the block
  keeping_block : (k : ℕ) → (set_of (block_of y k) ≡ set_of (block_of x k)) × (private_of (block_of y k) ≡ private_of (block_of x k))
  keeping_block k = go (eqb k 0) (leb k count) refl refl
    where
      alike : block_of y k ≡ block_of x k → (set_of (block_of y k) ≡ set_of (block_of x k)) × (private_of (block_of y k) ≡ private_of (block_of x k))
      alike e = (rw e, rw e)

      go : (u v : Bool) → eqb k 0 ≡ u → leb k count ≡ v
          → (set_of (block_of y k) ≡ set_of (block_of x k)) × (private_of (block_of y k) ≡ private_of (block_of x k))
      go true v e f = let q : k ≡ 0 = eqb-true k 0 e in alike (rw q keeping.header)
      go false true e f =
          let a : 1 ≤ k = omega (arith, eqb-false k 0 e) in
          let b : k ≤ count = leb-true k count f in
          let kept = keeping.each k a b in
          (kept_set (block_of x k) (block_of y k) kept, kept_private (block_of x k) (block_of y k) kept (sound_private x count sound k a b))
      go false false e f =
          let b : count < k = leb-false k count f in
          let n : length x ≤ 512 * k = omega (arith, was.size) in
          alike (block_past y k (omega (arith, n, keeping.size)) ∙ sym (block_past x k n))

  pub keeping_sets : (j k : ℕ) → same_set (block_of y j) (block_of y k) ≡ same_set (block_of x j) (block_of x k)
  keeping_sets j k =
      let u = keeping_block j in
      let v = keeping_block k in
      set_alike (block_of y j) (block_of y k) (block_of x j) (block_of x k) u.0 u.1 v.0 v.1

  agrees_still : (k : ℕ) → 1 ≤ k → k ≤ count → agrees_at y k ≡ true
  agrees_still k a b =
      agrees_holds y k
      (λ j u v s.
      let t : same_set (block_of x j) (block_of x k) ≡ true = sym (keeping_sets j k) ∙ s in
      keeping.agree j k (omega arith) b t (sound_agrees x count sound j k u v b t))

  good_at : (k : ℕ) → 1 ≤ k → k ≤ count → sound_at y h sound.file k ≡ true
  unfolding sound_at stands_at
  good_at k a b =
      rw (
        (keeping.each k a b).sound k h sound.file (sound_record_lem x count sound k a b),
        rises_same k a b,
        agrees_still k a b,
        tests_rises x sound.file count was k a b,
      )

  pub keeping_sound : check_table y sound.file ≡ Ok count
  keeping_sound =
      table_holds y sound.file count
      (record {
        size = keeping.size ∙ was.size;
        counted = rw keeping.header was.counted;
        header = rw keeping.header was.header;
        each = λ k a b. rw keeping.header (good_at k a b);
      })

  pub keeping_says : SoundTable y count
  keeping_says = record { file = sound.file; checked = keeping_sound }
