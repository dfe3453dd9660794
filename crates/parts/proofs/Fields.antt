-- How long the parts of a sound table are, and what stands at the number of no record.
use Rattle.octets.specs.Standard.{ℕ, zero, suc, ◌+◌, ◌-◌, ◌*◌, ◌≤◌, ◌<◌, min, ◌≡◌, refl, sym, Bool, true, false, ◌&&◌, List, [], arith}
use Rattle.octets.specs.Standard.{add-sub_cancel_left, leb, ltb, length, take, drop, length-take, drop_of_length-le, take-nil, ltb-true, leb-true}
use Rattle.octets.specs.Standard.{leb-false, ne_eqb, lt-ltb}
use Rattle.octets.specs.Number.{be16_at, be32_at}
use Rattle.octets.proofs.All.{and_left, and_right}
use Rattle.octets.proofs.Parts.{part_cut}
use Rattle.record.specs.Fields.{mandatory_count, optional_count, host_of, realm_of, private_of, public_of, server_of, mandatory_of, optional_of, profile_of}
use Rattle.record.specs.HeaderBlock.{header_of}
use Rattle.record.specs.RecordBlock.{record_of}
use Rattle.blocks.specs.Blocks.{block_of, of_block}
use Rattle.table.specs.SoundTable.{SoundTable}
use Rattle.table.proofs.Sound.{sound_size, sound_header_lem, sound_limits_lem}
use Rattle.parts.specs.Profile.{profile_at}

cut : (n m : ℕ) (l : List ℕ) → n ≤ m → length (take n l) ≤ m
cut n m l h = rw length-take (omega arith)

-- Something that a block gives: of no bytes nothing, and of a record so many bytes at the most.
pub record Field (f : List ℕ → List ℕ) (most : ℕ) (t : List ℕ) (count : ℕ) : Type 0 where
  pub size : length t ≡ 512 * (count + 1)
  pub nothing : f [] ≡ []
  pub short : (k : ℕ) → 1 ≤ k → k ≤ count → length (f (block_of t k)) ≤ most

past : (t : List ℕ) (count k : ℕ) → length t ≡ 512 * (count + 1) → count < k → block_of t k ≡ []
unfolding block_of
past t count k e h = rw (drop_of_length-le t {i = 512 * k} (omega arith)) (take-nil 512)

-- a block number is a record's or not
record_first : (count k : ℕ) → (ltb 0 k && leb k count) ≡ true → 1 ≤ k
record_first count k h = ltb-true 0 k (and_left (ltb 0 k) (leb k count) h)

record_last : (count k : ℕ) → (ltb 0 k && leb k count) ≡ true → k ≤ count
record_last count k h = leb-true k count (and_right (ltb 0 k) (leb k count) h)

pub record_room : (t : List ℕ) (count k : ℕ) → SoundTable t count → (ltb 0 k && leb k count) ≡ true → 512 * k + 512 ≤ length t
record_room t count k s h = let b : k ≤ count = record_last count k h in omega (arith, sound_size t count s)

module _ (f : List ℕ → List ℕ) (most : ℕ) (t : List ℕ) (count : ℕ) (s : Field f most t count) where
  other : (k : ℕ) → (ltb 0 k && leb k count) ≡ false → of_block f t k ≡ []
  other zero e = refl
  other (suc k) e =
      let l : leb (suc k) count ≡ false = rw (lt-ltb 0 (suc k) (omega arith)) at e in
      rw (past t count (suc k) s.size (leb-false (suc k) count l), ne_eqb (suc k) 0 (omega arith)) s.nothing

  module _ (k : ℕ) (b y : List ℕ) (h : (ltb 0 k && leb k count) ≡ true) (eb : b ≡ block_of t k) (ey : y ≡ f b) where
    pub part_there : y ≡ of_block f t k
    part_there = let a : 1 ≤ k = record_first count k h in rw (ne_eqb k 0 (omega arith), ← eb) ey

    pub part_short : length y ≤ most
    part_short = rw (ey, eb) (s.short k (record_first count k h) (record_last count k h))

    pub part_given : (y ≡ of_block f t k) × (length y ≤ most)
    part_given = (part_there, part_short)

  pub part_none : (k : ℕ) → (ltb 0 k && leb k count) ≡ false → ([] ≡ of_block f t k) × (0 ≤ most)
  part_none k h = (sym (other k h), omega arith)

  pub part_length : (k : ℕ) → length (of_block f t k) ≤ most
  part_length k = go (ltb 0 k && leb k count) refl
    where
      go : (x : Bool) → (ltb 0 k && leb k count) ≡ x → length (of_block f t k) ≤ most
      go true e =
          rw (← part_there k (block_of t k) (f (block_of t k)) e refl refl)
          (part_short k (block_of t k) (f (block_of t k)) e refl refl)
      go false e = rw (other k e) (omega arith)

-- The header's names.
module _ (t : List ℕ) (count : ℕ) (s : SoundTable t count) where
  pub host_length : length (host_of (block_of t 0)) ≤ 64
  unfolding host_of header_of
  host_length = cut _ 64 _ (sound_header_lem t count s).host

  pub realm_length : length (realm_of (block_of t 0)) ≤ 64
  unfolding realm_of header_of
  realm_length = cut _ 64 _ (sound_header_lem t count s).realm

  module _ (b y : List ℕ) (eb : b ≡ block_of t 0) where
    pub host_there : y ≡ host_of b → y ≡ host_of (block_of t 0)
    host_there ey = rw (← eb) ey

    pub host_short : y ≡ host_of b → length y ≤ 64
    host_short ey = rw (ey, eb) host_length

    pub realm_there : y ≡ realm_of b → y ≡ realm_of (block_of t 0)
    realm_there ey = rw (← eb) ey

    pub realm_short : y ≡ realm_of b → length y ≤ 64
    realm_short ey = rw (ey, eb) realm_length

  -- A record's names and capabilities.
  pub user_field : Field private_of 128 t count
  unfolding private_of record_of
  user_field = record { size = sound_size t count s; nothing = refl; short = λ k a b. cut _ 128 _ (sound_limits_lem t count s k a b).private }

  pub public_field_lem : Field public_of 128 t count
  unfolding public_of record_of
  public_field_lem = record { size = sound_size t count s; nothing = refl; short = λ k a b. cut _ 128 _ (sound_limits_lem t count s k a b).public }

  pub server_field : Field server_of 96 t count
  unfolding server_of record_of
  server_field = record { size = sound_size t count s; nothing = refl; short = λ k a b. cut _ 96 _ (sound_limits_lem t count s k a b).server }

  pub mandatory_field : Field mandatory_of 16 t count
  unfolding mandatory_of record_of
  mandatory_field = record {
    size = sound_size t count s;
    nothing = refl;
    short = λ k a b. cut (4 * mandatory_count (block_of t k)) 16 _ (omega (arith, (sound_limits_lem t count s k a b).mandatory));
  }

  pub optional_field : Field optional_of 16 t count
  unfolding optional_of record_of
  optional_field = record {
    size = sound_size t count s;
    nothing = refl;
    short = λ k a b. cut (4 * optional_count (block_of t k)) 16 _ (omega (arith, (sound_limits_lem t count s k a b).optional));
  }

  module _ (k : ℕ) (b : List ℕ) (n : ℕ) (h : (ltb 0 k && leb k count) ≡ true) (eb : b ≡ block_of t k) where
    pub mandatory_few : n ≡ mandatory_count b → n ≤ 4
    unfolding record_of
    mandatory_few en =
        let l = sound_limits_lem t count s k (record_first count k h) (record_last count k h) in
        rw (en, eb) l.mandatory

    pub optional_few : n ≡ optional_count b → n ≤ 4
    unfolding record_of
    optional_few en =
        let l = sound_limits_lem t count s k (record_first count k h) (record_last count k h) in
        rw (en, eb) l.optional

-- The words that are lent; as the capabilities of a block.
pub words_lent : (b : List ℕ) (at n : ℕ) → take (at + 4 * n - at) (drop at b) ≡ take (4 * n) (drop at b)
words_lent b at n = rw (add-sub_cancel_left at (4 * n))

pub mandatory_words : (b y : List ℕ) (n : ℕ) → n ≡ mandatory_count b → y ≡ take (4 * n) (drop 368 b) → y ≡ mandatory_of b
unfolding mandatory_of
mandatory_words b y n en ey = rw (← en) ey

pub optional_words : (b y : List ℕ) (n : ℕ) → n ≡ optional_count b → y ≡ take (4 * n) (drop 384 b) → y ≡ optional_of b
unfolding optional_of
optional_words b y n en ey = rw (← en) ey

-- The part of the profile file.
pub profile_lent : (b file : List ℕ) (start from size n : ℕ) → start ≡ be32_at b 400 → from ≡ min start (length file) → size ≡ be16_at b 404
    → n ≡ min size (length file - from) → take (from + n - from) (drop from file) ≡ profile_of b file
unfolding profile_of
profile_lent b file start from size n es ef en et = go (leb start (length file)) refl
  where
    go : (x : Bool) → leb start (length file) ≡ x → take (from + n - from) (drop from file) ≡ take (be16_at b 404) (drop (be32_at b 400) file)
    go true e =
        let l : start ≤ length file = leb-true start (length file) e in
        let q : from ≡ start = omega arith in
        rw (← es, ← en, q) (part_cut file start size (start + n) (length file) refl l (omega arith))
    go false e =
        let l : length file < start = leb-false start (length file) e in
        let u : length file ≤ from = omega arith in
        let v : length file ≤ be32_at b 400 = omega arith in
        rw (drop_of_length-le file {i = from} u, drop_of_length-le file {i = be32_at b 400} v, take-nil (from + n - from), take-nil (be16_at b 404))

module _ (t file : List ℕ) (count : ℕ) (s : SoundTable t count) where
  pub profile_field : Field (λ (b : List ℕ). profile_of b file) 4096 t count
  unfolding profile_of record_of be16_at be32_at
  profile_field = record { size = sound_size t count s; nothing = refl; short = λ k a b. cut _ 4096 _ (sound_limits_lem t count s k a b).size }

  pub profile_length : (k : ℕ) → length (profile_at t file k) ≤ 4096
  profile_length k = part_length (λ (d : List ℕ). profile_of d file) 4096 t count profile_field k
