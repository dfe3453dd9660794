-- A record that may always follow: a public identity, private identity `a`, no server, every number 0.
use Rattle.octets.specs.Standard.{ℕ, zero, suc, ◌+◌, ◌-◌, ◌*◌, ◌^◌, ◌<◌, ◌≤◌, true, ◌≡◌, refl, sym, ◌∙◌, ap, arith}
use Rattle.octets.specs.Standard.{eq-eqb, le-leb, lt-ltb, List, [], ◌∷◌, ◌++◌, append_assoc, length, length-append, length-replicate}
use Rattle.octets.specs.Standard.{get_or, replicate, get_or-append-add}
use Rattle.octets.specs.Number.{be32_at}
use Rattle.octets.proofs.Chains.{◌also◌}
use Rattle.octets.proofs.Runs.{at_zero}
use Rattle.record.specs.Fields.{public_of, private_of, server_of, profile_start, profile_size, set_of}
use Rattle.record.specs.RecordBlock.{record_of, sound_record}
use Rattle.record.specs.declared.header.Header.{Header}
use Rattle.record.proofs.Tests.{record_holds, Limits, limits_hold, Zeros, rest_holds}
use Rattle.blocks.proofs.Sealed.{sealed_zero, seal_before}
use Rattle.quoting.specs.Quoted.{listable}
use Rattle.rows.specs.Row.{Row, row_of, numbers_of}
use Rattle.rows.specs.Block.{padded, word_bytes, words_bytes, front_bytes, names_bytes, rest_bytes, unsealed, block_from}
use Rattle.rows.proofs.Lines as line
use Rattle.rows.proofs.Blocks.{raw_length, row_said}
use Rattle.rows.proofs.Pieces.{word_made}

unfoldable pub fresh : List ℕ → Row
fresh name = record { public = name; private = 97 ∷ []; server = []; numbers = replicate 18 0 }

pub fresh_fits : (name : List ℕ) → listable name ≡ true → length name ≤ 128 → line.Fitting (fresh name)
unfolding fresh listable line.fits
fresh_fits name e h =
    record {
      public = e;
      private = refl;
      server = refl;
      public_size_lem = h;
      private_size_lem = omega arith;
      server_size_lem = omega arith;
      numbers = refl;
    }

-- zeros in the middle of a list
run_zero : (a b : List ℕ) (n i : ℕ) → length a ≤ i → i < length a + n → get_or (a ++ (replicate n 0 ++ b)) i 0 ≡ 0
run_zero [] b zero i h l = absurd (omega arith)
run_zero [] b (suc n) zero h l = refl
run_zero [] b (suc n) (suc i) h l = run_zero [] b n i (omega arith) (omega arith)
run_zero (x ∷ a) b n zero h l = absurd (omega arith)
run_zero (x ∷ a) b n (suc i) h l = run_zero a b n i (omega arith) (omega arith)

module _ (issue k : ℕ) (name : List ℕ) (listed : listable name ≡ true) (least : 1 ≤ length name) (size : length name ≤ 128)
    (small : k ≤ 4294967295) (word : issue ≤ 4294967295) where
  r : Row
  r = fresh name

  fits : line.Fitting (fresh name)
  fits = fresh_fits name listed size

  abbrev raw : List ℕ
  raw = unsealed issue k (fresh name)

  abbrev b : List ℕ
  b = block_from issue k (fresh name)

  -- its bytes: the front, the name, and what follows
  abbrev front : List ℕ
  front = front_bytes k (replicate 18 0) (length name) 1 0

  abbrev gap : List ℕ
  gap = replicate (128 - length name) 0

  abbrev last : List ℕ
  last = word_bytes issue ++ replicate 100 0

  abbrev behind : List ℕ
  behind = padded 128 (97 ∷ []) ++ padded 96 []

  abbrev rest : List ℕ
  rest = rest_bytes (replicate 18 0) ++ last

  raw_is : raw ≡ front ++ (name ++ (gap ++ (97 ∷ (replicate 263 0 ++ last))))
  unfolding unsealed fresh names_bytes rest_bytes padded words_bytes
  raw_is = ap (λ (y : List ℕ). front ++ y) (append_assoc (padded 128 name) behind rest ∙ append_assoc name gap (behind ++ rest))

  byte : (i : ℕ) → i < 508 → get_or b i 0 ≡ get_or raw i 0
  unfolding block_from
  byte i h = seal_before raw i h

  front_byte : (i : ℕ) → i < 16 → get_or b i 0 ≡ get_or front i 0
  front_byte i h = byte i (omega arith) ∙ ap (λ (y : List ℕ). get_or y i 0) raw_is ∙ first front (name ++ (gap ++ (97 ∷ (replicate 263 0 ++ last)))) i h
    where
      first : (a c : List ℕ) (i : ℕ) → i < length a → get_or (a ++ c) i 0 ≡ get_or a i 0
      first [] c i l = absurd (omega arith)
      first (x ∷ a) c zero l = refl
      first (x ∷ a) c (suc i) l = first a c i (omega arith)

  gap_size : length gap ≡ 128 - length name
  gap_size = length-replicate {A = ℕ} (128 - length name) 0

  -- the three runs of zeros
  name_zero : (i : ℕ) → 16 + length name ≤ i → i < 144 → get_or b i 0 ≡ 0
  name_zero i h l =
      byte i (omega arith) ∙ ap (λ (y : List ℕ). get_or y i 0) (raw_is ∙ sym (append_assoc front name (gap ++ (97 ∷ (replicate 263 0 ++ last)))))
      ∙ run_zero (front ++ name) (97 ∷ (replicate 263 0 ++ last)) (128 - length name) i (omega (arith, length-append front name))
      (omega (arith, length-append front name))

  abbrev former : List ℕ
  former = front ++ (name ++ (gap ++ (97 ∷ [])))

  former_size : length former ≡ 145
  former_size =
      omega (arith, length-append front (name ++ (gap ++ (97 ∷ []))), length-append name (gap ++ (97 ∷ [])), length-append gap (97 ∷ []), gap_size)

  former_is : raw ≡ former ++ (replicate 263 0 ++ last)
  former_is = raw_is ∙ sym (simp append_assoc)

  middle_zero : (i : ℕ) → 145 ≤ i → i < 408 → get_or b i 0 ≡ 0
  middle_zero i h l =
      byte i (omega arith) ∙ ap (λ (y : List ℕ). get_or y i 0) former_is ∙ run_zero former last 263 i (omega (arith, former_size)) (omega (arith, former_size))

  abbrev zeros : List ℕ
  zeros = replicate 263 0

  zeros_size : length zeros ≡ 263
  zeros_size = length-replicate {A = ℕ} 263 0

  latter_is : raw ≡ (former ++ zeros) ++ last
  latter_is = former_is ∙ sym (append_assoc former zeros last)

  latter_size : length (former ++ zeros) ≡ 408
  latter_size = omega (arith, length-append former zeros, former_size, zeros_size)

  last_byte : (j : ℕ) → j < 100 → get_or b (408 + j) 0 ≡ get_or last j 0
  last_byte j h =
      byte (408 + j) (omega arith) ∙ ap (λ (y : List ℕ). get_or y (408 + j) 0) latter_is
      ∙ ap (λ (n : ℕ). get_or ((former ++ zeros) ++ last) (n + j) 0) (sym latter_size)
      ∙ get_or-append-add (former ++ zeros) last j 0

  end_zero : (i : ℕ) → 412 ≤ i → i < 508 → get_or b i 0 ≡ 0
  end_zero i h l =
      let d : 408 + (i - 408) ≡ i = omega arith in
      ap (λ (n : ℕ). get_or b n 0) (sym d) ∙ last_byte (i - 408) (omega arith)
      ∙ rw (ap (λ (y : List ℕ). get_or y (i - 408) 0) (append_nil_zeros))
      (run_zero (word_bytes issue) [] 100 (i - 408) (omega arith) (omega arith))
    where
      append_nil_zeros : last ≡ word_bytes issue ++ (replicate 100 0 ++ [])
      append_nil_zeros = refl

  -- its numbers
  pub row_is : row_of b ≡ fresh name
  row_is = row_said issue k (fresh name) fits

  number_is : (i : ℕ) → get_or (numbers_of b) i 0 ≡ get_or (replicate 18 0) i 0
  unfolding row_of fresh
  number_is i = ap (λ (q : Row). get_or q.numbers i 0) row_is

  number_k : be32_at b 4 ≡ k
  unfolding be32_at
  number_k =
      rw (front_byte 4 (omega arith), front_byte 5 (omega arith), front_byte 6 (omega arith), front_byte 7 (omega arith)) (word_made k small)

  issue_is : be32_at b 408 ≡ issue
  unfolding be32_at
  issue_is = rw (last_byte 0 (omega arith), last_byte 1 (omega arith), last_byte 2 (omega arith), last_byte 3 (omega arith)) (word_made issue word)

  pub fresh_set : set_of b ≡ 0
  unfolding numbers_of
  fresh_set = number_is 17

  module _ (h : Header) (file : ℕ) (edition : h.edition ≡ 2) (same : h.issue ≡ issue) where
    size_zero : profile_size b ≡ 0
    unfolding numbers_of
    size_zero = number_is 16

    start_zero : profile_start b ≡ 0
    unfolding numbers_of
    start_zero = number_is 15

    limits : Limits (record_of b)
    unfolding record_of
    limits =
        record {
          state = omega (arith, front_byte 8 (omega arith));
          bits = omega (arith, front_byte 9 (omega arith));
          mandatory = omega (arith, front_byte 11 (omega arith));
          optional = omega (arith, front_byte 12 (omega arith));
          public_some = omega (arith, front_byte 13 (omega arith));
          public = omega (arith, front_byte 13 (omega arith));
          private_some = omega (arith, front_byte 14 (omega arith));
          private = omega (arith, front_byte 14 (omega arith));
          server = omega (arith, front_byte 15 (omega arith));
          size = omega (arith, size_zero);
        }

    zeros_all : Zeros b (record_of b)
    unfolding record_of
    zeros_all =
        let p : get_or b 13 0 ≡ length name = front_byte 13 (omega arith) in
        let q : get_or b 14 0 ≡ 1 = front_byte 14 (omega arith) in
        record {
          blank = at_zero b 2 4 (λ i x y. pair i x y);
          public = at_zero b (16 + get_or b 13 0) 144 (λ i x y. name_zero i (omega arith) y);
          private = at_zero b (144 + get_or b 14 0) 272 (λ i x y. middle_zero i (omega arith) (omega arith));
          server = at_zero b (272 + get_or b 15 0) 368 (λ i x y. middle_zero i (omega arith) (omega arith));
          mandatory = at_zero b (368 + 4 * get_or b 11 0) 384 (λ i x y. middle_zero i (omega arith) (omega arith));
          optional = at_zero b (384 + 4 * get_or b 12 0) 400 (λ i x y. middle_zero i (omega arith) (omega arith));
          last = at_zero b 412 508 (λ i x y. end_zero i x y);
        }
      where
        pair : (i : ℕ) → 2 ≤ i → i < 4 → get_or b i 0 ≡ 0
        pair zero x y = absurd (omega arith)
        pair (suc zero) x y = absurd (omega arith)
        pair (suc (suc zero)) x y = front_byte 2 (omega arith)
        pair (suc (suc (suc zero))) x y = front_byte 3 (omega arith)
        pair (suc (suc (suc (suc i)))) x y = absurd (omega arith)

    pub fresh_sound : sound_record b k h file ≡ true
    unfolding block_from record_of
    fresh_sound =
        record_holds b k h file
        (record {
          sum = sealed_zero raw (raw_length issue k (fresh name) fits);
          head =
              eq-eqb (get_or b 0 0) 2 (front_byte 0 (omega arith)) also eq-eqb (get_or b 1 0) h.edition (front_byte 1 (omega arith) ∙ sym edition)
              also eq-eqb (be32_at b 4) k number_k
              also eq-eqb (be32_at b 408) h.issue (issue_is ∙ sym same);
          set = rw (eq-eqb (set_of b) 0 fresh_set);
          limits = limits_hold (record_of b) limits;
          server = rw (front_byte 15 (omega arith), front_byte 8 (omega arith), front_byte 9 (omega arith));
          roaming = rw (front_byte 10 (omega arith)) (lt-ltb 0 (2 ^ h.networks) (power h.networks));
          profile = rw (start_zero, size_zero) (le-leb 0 file (omega arith));
          rest = rest_holds b (record_of b) zeros_all;
        })
      where
        power : (n : ℕ) → 0 < 2 ^ n
        power zero = omega arith
        power (suc n) = omega (arith, power n)

  -- its names
  pub fresh_public : public_of b ≡ name
  unfolding row_of fresh
  fresh_public = ap (λ (q : Row). q.public) row_is

  pub fresh_private : private_of b ≡ 97 ∷ []
  unfolding row_of fresh
  fresh_private = ap (λ (q : Row). q.private) row_is

  pub fresh_server : server_of b ≡ []
  unfolding row_of fresh
  fresh_server = ap (λ (q : Row). q.server) row_is
