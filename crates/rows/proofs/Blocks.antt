-- The block that the row of a sound record says is that record, and the row of a block that a row says is that row.
use Rattle.octets.specs.Standard.{ℕ, zero, suc, ◌+◌, ◌-◌, ◌*◌, ◌/◌, ◌%◌, ◌<◌, ◌≤◌, true, ◌&&◌, ◌≡◌, refl, sym, ◌∙◌, ap, arith, eqb}
use Rattle.octets.specs.Standard.{leb, le-leb, eqb-true, leb-true, List, [], ◌∷◌, ◌++◌, append_assoc, length, get_or, take, drop, replicate}
use Rattle.octets.specs.Standard.{length-append, length-replicate, length-take-le, length-drop, replicate-append-replicate, get_or-take, get_or-append}
use Rattle.octets.specs.Standard.{take_at}
use Rattle.octets.specs.Standard.{drop_at, drop-drop, take_all, get_or-drop}
use Rattle.octets.specs.Number.{be16_at, be32_at}
use Rattle.octets.proofs.All.{and_left, and_right}
use Rattle.octets.proofs.Chains.{chain_says}
use Rattle.octets.proofs.Numbers.{Bytes, word_lt, be16_alike, be32_alike}
use Rattle.octets.proofs.Parts.{part_alike}
use Rattle.octets.proofs.Runs.{zero_at}
use Rattle.blocks.specs.Sealed.{sealed}
use Rattle.blocks.proofs.Sealed.{seal_alike, sealed_held, seal_before, sealed_length}
use Rattle.record.specs.Fields.{public_of, private_of, server_of, public_size, private_size, server_size}
use Rattle.record.specs.RecordBlock.{record_of, sound_record}
use Rattle.record.specs.declared.header.Header.{Header}
use Rattle.record.proofs.Tests.{RecordTests, record_says, Limits, limits_say, Zeros, rest_says}
use Rattle.rows.specs.Row.{Row, numbers_of, row_of}
use Rattle.rows.specs.RowIn.{limits}
use Rattle.rows.specs.Block.{padded, half_bytes, word_bytes, words_bytes, front_bytes, names_bytes, rest_bytes, unsealed, block_from}
use Rattle.rows.proofs.Lines.{fits, Fitting}
use Rattle.rows.proofs.Pieces.{listed, part_listed, part_two, part_zeros, part_padded, padded_length, word_listed, half_listed, words_from, words_part}
use Rattle.rows.proofs.Pieces.{word_made, half_made, bits_made, bits_read}

-- A sound record of edition 2, piece by piece.
module _ (b : List ℕ) (k : ℕ) (h : Header) (file : ℕ) (size : length b ≡ 512) (bytes : Bytes b) (second : h.edition ≡ 2)
    (sound : sound_record b k h file ≡ true) where
  tests : RecordTests b k h file
  tests = record_says b k h file sound

  named_limits : Limits (record_of b)
  named_limits = limits_say (record_of b) tests.limits

  blank : Zeros b (record_of b)
  blank = rest_says b (record_of b) tests.rest

  front : front_bytes k (numbers_of b) (length (public_of b)) (length (private_of b)) (length (server_of b)) ≡ take 16 b
  unfolding numbers_of record_of public_of private_of server_of
  front =
      let s = chain_says (eqb (get_or b 0 0) 2) (_ ∷ _ ∷ _ ∷ []) tests.head in
      let kind : get_or b 0 0 ≡ 2 = eqb-true _ _ (s 0) in
      let edition : get_or b 1 0 ≡ 2 = eqb-true _ _ (s 1) ∙ second in
      let number : be32_at b 4 ≡ k = eqb-true _ _ (s 2) in
      let word : word_bytes k ≡ listed b 4 4 = rw (← number) (word_listed b 4 bytes) in
      let z2 : get_or b 2 0 ≡ 0 = zero_at b 2 4 blank.blank 2 (omega arith) (omega arith) in
      let z3 : get_or b 3 0 ≡ 0 = zero_at b 2 4 blank.blank 3 (omega arith) (omega arith) in
      let bits : get_or b 9 0 % 2 + 2 * (get_or b 9 0 / 2 % 2) + 4 * (get_or b 9 0 / 4 % 2) ≡ get_or b 9 0 = bits_made (get_or b 9 0) named_limits.bits in
      let p : length (public_of b) ≡ get_or b 13 0 = length-take-le (public_size b) (drop 16 b) (omega (arith, length-drop 16 b, named_limits.public)) in
      let q : length (private_of b) ≡ get_or b 14 0 = length-take-le (private_size b) (drop 144 b) (omega (arith, length-drop 144 b, named_limits.private)) in
      let r : length (server_of b) ≡ get_or b 15 0 = length-take-le (server_size b) (drop 272 b) (omega (arith, length-drop 272 b, named_limits.server)) in
      cc (part_listed b 0 16 (omega arith))

  names : names_bytes (public_of b) (private_of b) (server_of b) ≡ take 352 (drop 16 b)
  unfolding names_bytes public_of private_of server_of record_of
  names =
      rw (
        part_padded b 16 (public_size b) 128 named_limits.public (omega arith) blank.public,
        part_padded b 144 (private_size b) 128 named_limits.private (omega arith) blank.private,
        part_padded b 272 (server_size b) 96 named_limits.server (omega arith) blank.server,
      )
      (sym (part_two b 16 128 224 ∙ ap (λ (l : List ℕ). take 128 (drop 16 b) ++ l) (part_two b 144 128 96)))

  rest : rest_bytes (numbers_of b) ≡ take 40 (drop 368 b)
  unfolding rest_bytes numbers_of
  rest =
      let halves : List ℕ = half_bytes (be16_at b 404) ++ half_bytes (be16_at b 406) in
      let w : words_bytes (words_from b 368 4) ≡ take 16 (drop 368 b) = words_part b 368 4 bytes (omega arith) in
      let v : words_bytes (words_from b 384 5) ≡ take 20 (drop 384 b) = words_part b 384 5 bytes (omega arith) in
      let p : half_bytes (be16_at b 404) ≡ take 2 (drop 404 b) = half_listed b 404 bytes ∙ sym (part_listed b 404 2 (omega arith)) in
      let q : half_bytes (be16_at b 406) ≡ take 2 (drop 406 b) = half_listed b 406 bytes ∙ sym (part_listed b 406 2 (omega arith)) in
      ap (λ (l : List ℕ). l ++ (words_bytes (words_from b 384 5) ++ halves)) w
      ∙ ap (λ (l : List ℕ). take 16 (drop 368 b) ++ (l ++ halves)) v
      ∙ ap (λ (l : List ℕ). take 16 (drop 368 b) ++ (take 20 (drop 384 b) ++ (l ++ half_bytes (be16_at b 406)))) p
      ∙ ap (λ (l : List ℕ). take 16 (drop 368 b) ++ (take 20 (drop 384 b) ++ (take 2 (drop 404 b) ++ l))) q
      ∙ sym
      (part_two b 368 16 24
      ∙ ap (λ (l : List ℕ). take 16 (drop 368 b) ++ l)
      (part_two b 384 20 4 ∙ ap (λ (l : List ℕ). take 20 (drop 384 b) ++ l) (part_two b 404 2 2)))

  issue : word_bytes h.issue ≡ take 4 (drop 408 b)
  unfolding record_of
  issue =
      let s = chain_says (eqb (get_or b 0 0) 2) (_ ∷ _ ∷ _ ∷ []) tests.head in
      let e : be32_at b 408 ≡ h.issue = eqb-true _ _ (s 3) in
      rw (← e) (word_listed b 408 bytes ∙ sym (part_listed b 408 4 (omega arith)))

  five : (p q r s t u : List ℕ) → (p ++ (q ++ (r ++ (s ++ t)))) ++ u ≡ p ++ (q ++ (r ++ (s ++ (t ++ u))))
  five p q r s t u = simp append_assoc

  pub block_said_lem : block_from h.issue k (row_of b) ≡ b
  unfolding block_from unsealed row_of
  block_said_lem =
      let f : List ℕ = front_bytes k (numbers_of b) (length (public_of b)) (length (private_of b)) (length (server_of b)) in
      let w : List ℕ = word_bytes h.issue in
      let z : replicate {A = ℕ} 100 0 ≡ take 96 (drop 412 b) ++ replicate 4 0 =
      sym (replicate-append-replicate {A = ℕ} 96 4 0) ∙ ap (λ (l : List ℕ). l ++ replicate 4 0) (sym (part_zeros b 412 96 (omega arith) blank.last)) in
      let n : List ℕ = names_bytes (public_of b) (private_of b) (server_of b) in
      let whole : unsealed h.issue k (row_of b) ≡ take 508 b ++ replicate 4 0 =
      ap (λ (l : List ℕ). l ++ (n ++ (rest_bytes (numbers_of b) ++ (w ++ replicate 100 0)))) front
      ∙ ap (λ (l : List ℕ). take 16 b ++ (l ++ (rest_bytes (numbers_of b) ++ (w ++ replicate 100 0)))) names
      ∙ ap (λ (l : List ℕ). take 16 b ++ (take 352 (drop 16 b) ++ (l ++ (w ++ replicate 100 0)))) rest
      ∙ ap (λ (l : List ℕ). take 16 b ++ (take 352 (drop 16 b) ++ (take 40 (drop 368 b) ++ (l ++ replicate 100 0)))) issue
      ∙ ap (λ (l : List ℕ). take 16 b ++ (take 352 (drop 16 b) ++ (take 40 (drop 368 b) ++ (take 4 (drop 408 b) ++ l)))) z
      ∙ sym
      (ap (λ (l : List ℕ). l ++ replicate 4 0)
      (part_two b 0 16 492
      ∙ ap (λ (l : List ℕ). take 16 b ++ l)
      (part_two b 16 352 140
      ∙ ap (λ (l : List ℕ). take 352 (drop 16 b) ++ l)
      (part_two b 368 40 100 ∙ ap (λ (l : List ℕ). take 40 (drop 368 b) ++ l) (part_two b 408 4 96))))
      ∙ five (take 16 b) (take 352 (drop 16 b)) (take 40 (drop 368 b)) (take 4 (drop 408 b)) (take 96 (drop 412 b)) (replicate 4 0)) in
      let long : length (take 508 b) ≡ 508 = length-take-le 508 b (omega arith) in
      let full : length (unsealed h.issue k (row_of b)) ≡ 512 =
      ap length whole ∙ length-append (take 508 b) (replicate 4 0) ∙ omega (arith, length-replicate {A = ℕ} 4 0) in
      seal_alike (unsealed h.issue k (row_of b)) b full size
      (λ i l. ap (λ (y : List ℕ). get_or y i 0) whole ∙ get_or-append (take 508 b) (replicate 4 0) 0 i (omega arith) ∙ get_or-take 508 b i 0 l)
      ∙ sealed_held b bytes tests.sum

-- Numbers that fit: how many they are, and each of them.
pub fits_length : (ms ns : List ℕ) → fits ms ns ≡ true → length ns ≡ length ms
unfolding fits
fits_length [] [] e = refl
fits_length [] (n ∷ ns) e = let z : ◌≡◌ {A = ℕ} 0 1 = cc in absurd (omega arith)
fits_length (m ∷ ms) [] e = let z : ◌≡◌ {A = ℕ} 0 1 = cc in absurd (omega arith)
fits_length (m ∷ ms) (n ∷ ns) e = ap suc (fits_length ms ns (and_right (leb n m && leb m 4294967295) (fits ms ns) e))

pub fits_at_lem : (ms ns : List ℕ) → fits ms ns ≡ true → (i : ℕ) → get_or ns i 0 ≤ get_or ms i 0
unfolding fits
fits_at_lem [] [] e i = omega arith
fits_at_lem [] (n ∷ ns) e i = let z : ◌≡◌ {A = ℕ} 0 1 = cc in absurd (omega arith)
fits_at_lem (m ∷ ms) [] e i = let z : ◌≡◌ {A = ℕ} 0 1 = cc in absurd (omega arith)
fits_at_lem (m ∷ ms) (n ∷ ns) e zero = leb-true n m (and_left (leb n m) (leb m 4294967295) (and_left (leb n m && leb m 4294967295) (fits ms ns) e))
fits_at_lem (m ∷ ms) (n ∷ ns) e (suc i) = fits_at_lem ms ns (and_right (leb n m && leb m 4294967295) (fits ms ns) e) i

-- The block that a row says.
module _ (issue k : ℕ) (r : Row) (fitting : Fitting r) where
  abbrev ns : List ℕ
  ns = r.numbers

  abbrev raw : List ℕ
  raw = unsealed issue k r

  abbrev tail : List ℕ
  tail = word_bytes issue ++ replicate 100 0

  eighteen : length ns ≡ 18
  eighteen = fits_length limits ns fitting.numbers

  listed_numbers : listed ns 0 18 ≡ ns
  listed_numbers = sym (part_listed ns 0 18 (omega (arith, eighteen))) ∙ take_all 18 ns (omega (arith, eighteen))

  -- the bytes behind the names, number by number
  explicit : rest_bytes ns
      ≡ words_bytes (listed ns 6 4) ++ (words_bytes (listed ns 11 5) ++ (half_bytes (get_or ns 16 0) ++ half_bytes (get_or ns 17 0)))
  unfolding rest_bytes
  explicit = rw (part_listed ns 6 4 (omega (arith, eighteen)), part_listed ns 11 5 (omega (arith, eighteen)))

  names_length : length (names_bytes r.public r.private r.server) ≡ 352
  unfolding names_bytes
  names_length =
      simp length-append
      (omega (
        arith,
        padded_length 128 r.public fitting.public_size_lem,
        padded_length 128 r.private fitting.private_size_lem,
        padded_length 96 r.server fitting.server_size_lem,
      ))

  rest_length : length (rest_bytes ns) ≡ 40
  unfolding words_bytes
  rest_length = rw explicit

  pub raw_length : length raw ≡ 512
  unfolding unsealed
  raw_length = simp length-append (omega (arith, names_length, rest_length, length-replicate {A = ℕ} 100 0))

  -- what stands behind the front, behind each name, and behind all three
  behind_front : drop 16 raw ≡ names_bytes r.public r.private r.server ++ (rest_bytes ns ++ tail)
  unfolding unsealed
  behind_front = refl

  abbrev privately : List ℕ
  privately = padded 128 r.private ++ (padded 96 r.server ++ (rest_bytes ns ++ tail))

  abbrev served : List ℕ
  served = padded 96 r.server ++ (rest_bytes ns ++ tail)

  public_on : drop 16 raw ≡ padded 128 r.public ++ privately
  unfolding names_bytes
  public_on = behind_front ∙ simp append_assoc

  private_on : drop 144 raw ≡ privately
  private_on =
      sym (drop-drop 128 16 raw) ∙ ap (drop 128) public_on
      ∙ drop_at (padded 128 r.public) privately 128 (padded_length 128 r.public fitting.public_size_lem)

  server_on : drop 272 raw ≡ served
  server_on =
      sym (drop-drop 128 144 raw) ∙ ap (drop 128) private_on
      ∙ drop_at (padded 128 r.private) served 128 (padded_length 128 r.private fitting.private_size_lem)

  rest_on : drop 368 raw ≡ rest_bytes ns ++ tail
  rest_on =
      sym (drop-drop 96 272 raw) ∙ ap (drop 96) server_on
      ∙ drop_at (padded 96 r.server) (rest_bytes ns ++ tail) 96 (padded_length 96 r.server fitting.server_size_lem)

  -- a part of the sealed block is one of the raw block
  part_raw : (at n : ℕ) → at + n ≤ 508 → take n (drop at (sealed raw)) ≡ take n (drop at raw)
  part_raw at n h = part_alike (sealed raw) raw at n (sealed_length raw) (λ i a b. seal_before raw i (omega arith))

  name_raw : (at n : ℕ) (name rest : List ℕ) → drop at raw ≡ padded n name ++ rest → at + length name ≤ 508 → take (length name) (drop at (sealed raw)) ≡ name
  unfolding padded
  name_raw at n name rest e h =
      part_raw at (length name) h
      ∙ ap (take (length name)) (e ∙ append_assoc name (replicate (n - length name) 0) rest)
      ∙ take_at name (replicate (n - length name) 0 ++ rest) (length name) refl

  front_raw : (i : ℕ) → i < 508 → get_or (sealed raw) i 0 ≡ get_or raw i 0
  front_raw i h = seal_before raw i h

  public_raw : public_of (sealed raw) ≡ r.public
  unfolding public_of unsealed
  public_raw =
      let e : get_or (sealed raw) 13 0 ≡ length r.public = front_raw 13 (omega arith) in
      rw e (name_raw 16 128 r.public privately public_on (omega (arith, fitting.public_size_lem)))

  private_raw : private_of (sealed raw) ≡ r.private
  unfolding private_of unsealed
  private_raw =
      let e : get_or (sealed raw) 14 0 ≡ length r.private = front_raw 14 (omega arith) in
      rw e (name_raw 144 128 r.private served private_on (omega (arith, fitting.private_size_lem)))

  server_raw : server_of (sealed raw) ≡ r.server
  unfolding server_of unsealed
  server_raw =
      let e : get_or (sealed raw) 15 0 ≡ length r.server = front_raw 15 (omega arith) in
      rw e (name_raw 272 96 r.server (rest_bytes ns ++ tail) server_on (omega (arith, fitting.server_size_lem)))

  -- the numbers behind the names
  rest_byte : (j : ℕ) → j < 40 → get_or (sealed raw) (368 + j) 0 ≡ get_or (rest_bytes ns) j 0
  rest_byte j h =
      front_raw (368 + j) (omega arith) ∙ sym (get_or-drop 368 raw j 0) ∙ ap (λ (l : List ℕ). get_or l j 0) rest_on
      ∙ get_or-append (rest_bytes ns) tail 0 j (omega (arith, rest_length))

  word_raw : (j : ℕ) → j + 4 ≤ 40 → be32_at (sealed raw) (368 + j) ≡ be32_at (rest_bytes ns) j
  word_raw j h =
      be32_alike (sealed raw) (rest_bytes ns) (368 + j) j (λ i l. let e : 368 + j + i ≡ 368 + (j + i) = omega arith in rw e (rest_byte (j + i) (omega arith)))

  half_raw : (j : ℕ) → j + 2 ≤ 40 → be16_at (sealed raw) (368 + j) ≡ be16_at (rest_bytes ns) j
  half_raw j h =
      be16_alike (sealed raw) (rest_bytes ns) (368 + j) j (λ i l. let e : 368 + j + i ≡ 368 + (j + i) = omega arith in rw e (rest_byte (j + i) (omega arith)))

  at_most : (i : ℕ) → get_or ns i 0 ≤ get_or limits i 0
  at_most i = fits_at_lem limits ns fitting.numbers i

  bits_raw : get_or (sealed raw) 9 0 ≡ get_or ns 1 0 + 2 * get_or ns 2 0 + 4 * get_or ns 3 0
  unfolding unsealed
  bits_raw = front_raw 9 (omega arith)

  numbers_raw : numbers_of (sealed raw) ≡ listed ns 0 18
  unfolding numbers_of unsealed words_bytes be32_at be16_at
  numbers_raw =
      let bits = bits_read (get_or ns 1 0) (get_or ns 2 0) (get_or ns 3 0) (at_most 1) (at_most 2) (at_most 3) in
      rw (
        front_raw 8 (omega arith),
        bits_raw,
        bits.0,
        bits.1,
        bits.2,
        front_raw 10 (omega arith),
        front_raw 11 (omega arith),
        front_raw 12 (omega arith),
        word_raw 0 (omega arith) ∙ ap (λ (l : List ℕ). be32_at l 0) explicit ∙ word_made (get_or ns 6 0) (at_most 6),
        word_raw 4 (omega arith) ∙ ap (λ (l : List ℕ). be32_at l 4) explicit ∙ word_made (get_or ns 7 0) (at_most 7),
        word_raw 8 (omega arith) ∙ ap (λ (l : List ℕ). be32_at l 8) explicit ∙ word_made (get_or ns 8 0) (at_most 8),
        word_raw 12 (omega arith) ∙ ap (λ (l : List ℕ). be32_at l 12) explicit ∙ word_made (get_or ns 9 0) (at_most 9),
        word_raw 16 (omega arith) ∙ ap (λ (l : List ℕ). be32_at l 16) explicit ∙ word_made (get_or ns 11 0) (at_most 11),
        word_raw 20 (omega arith) ∙ ap (λ (l : List ℕ). be32_at l 20) explicit ∙ word_made (get_or ns 12 0) (at_most 12),
        word_raw 24 (omega arith) ∙ ap (λ (l : List ℕ). be32_at l 24) explicit ∙ word_made (get_or ns 13 0) (at_most 13),
        word_raw 28 (omega arith) ∙ ap (λ (l : List ℕ). be32_at l 28) explicit ∙ word_made (get_or ns 14 0) (at_most 14),
        word_raw 32 (omega arith) ∙ ap (λ (l : List ℕ). be32_at l 32) explicit ∙ word_made (get_or ns 15 0) (at_most 15),
        half_raw 36 (omega arith) ∙ ap (λ (l : List ℕ). be16_at l 36) explicit ∙ half_made (get_or ns 16 0) (at_most 16),
        half_raw 38 (omega arith) ∙ ap (λ (l : List ℕ). be16_at l 38) explicit ∙ half_made (get_or ns 17 0) (at_most 17),
      )

  pub row_said : row_of (block_from issue k r) ≡ r
  unfolding row_of block_from
  row_said = rw (public_raw, private_raw, server_raw, numbers_raw, listed_numbers)

  pub said_length : length (block_from issue k r) ≡ 512
  unfolding block_from
  said_length = sealed_length raw ∙ raw_length

-- The numbers of a block of bytes fit.
fits_more : (m n : ℕ) (ms ns : List ℕ) → n ≤ m → m ≤ 4294967295 → fits ms ns ≡ true → fits (m ∷ ms) (n ∷ ns) ≡ true
unfolding fits
fits_more m n ms ns h i e = rw (le-leb n m h, le-leb m 4294967295 i) e

module _ (b : List ℕ) (bytes : Bytes b) where
  byte_fits : (i : ℕ) → get_or b i 0 ≤ 255
  byte_fits i = omega (arith, bytes i)

  bit_fits : (x : ℕ) → x % 2 ≤ 1
  bit_fits x = omega arith

  word_fits : (at : ℕ) → be32_at b at ≤ 4294967295
  word_fits at = omega (arith, word_lt b at bytes)

  half_fits : (at : ℕ) → be16_at b at ≤ 65535
  unfolding be16_at
  half_fits at = omega (arith, bytes at, bytes (at + 1))

  byte_more : (n : ℕ) (ms ns : List ℕ) → n ≤ 255 → fits ms ns ≡ true → fits (255 ∷ ms) (n ∷ ns) ≡ true
  byte_more n ms ns h e = fits_more 255 n ms ns h (omega arith) e

  bit_more : (x : ℕ) (ms ns : List ℕ) → fits ms ns ≡ true → fits (1 ∷ ms) (x % 2 ∷ ns) ≡ true
  bit_more x ms ns e = fits_more 1 (x % 2) ms ns (bit_fits x) (omega arith) e

  word_more : (at : ℕ) (ms ns : List ℕ) → fits ms ns ≡ true → fits (4294967295 ∷ ms) (be32_at b at ∷ ns) ≡ true
  word_more at ms ns e = fits_more 4294967295 (be32_at b at) ms ns (word_fits at) (omega arith) e

  half_more : (at : ℕ) (ms ns : List ℕ) → fits ms ns ≡ true → fits (65535 ∷ ms) (be16_at b at ∷ ns) ≡ true
  half_more at ms ns e = fits_more 65535 (be16_at b at) ms ns (half_fits at) (omega arith) e

  fits_none : fits [] [] ≡ true
  unfolding fits
  fits_none = refl

  pub numbers_fit : fits limits (numbers_of b) ≡ true
  unfolding numbers_of
  numbers_fit =
      byte_more (get_or b 8 0) _ _ (byte_fits 8)
      (bit_more (get_or b 9 0) _ _
      (bit_more (get_or b 9 0 / 2) _ _
      (bit_more (get_or b 9 0 / 4) _ _
      (byte_more (get_or b 10 0) _ _ (byte_fits 10)
      (byte_more (get_or b 11 0) _ _ (byte_fits 11)
      (word_more 368 _ _
      (word_more 372 _ _
      (word_more 376 _ _
      (word_more 380 _ _
      (byte_more (get_or b 12 0) _ _ (byte_fits 12)
      (word_more 384 _ _
      (word_more 388 _ _ (word_more 392 _ _ (word_more 396 _ _ (word_more 400 _ _ (half_more 404 _ _ (half_more 406 _ _ fits_none)))))))))))))))))
