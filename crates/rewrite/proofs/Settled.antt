-- A renewed block: that it is sound if its new fields fit; and that settling a record is a change of its block that keeps what every effect keeps.
use Rattle.octets.specs.Standard.{ℕ, ◌+◌, ◌-◌, ◌/◌, ◌%◌, ◌<◌, ◌≤◌, true, false, ◌≡◌, refl, sym, ◌∙◌, ap, List, [], arith, ne_eqb, lt-ltb, length}
use Rattle.octets.specs.Standard.{get_or, get_or-eq_default}
use Rattle.octets.specs.Number.{be16_at, be32_at}
use Rattle.octets.specs.Sum.{sum_words}
use Rattle.octets.proofs.Numbers.{be16_alike, be32_alike}
use Rattle.octets.proofs.Runs.{at_zero, zero_alike}
use Rattle.record.specs.Fields.{bits_of, cleared}
use Rattle.record.specs.RecordBlock.{record_of, is_record, sound_set, server_fits, sound_record}
use Rattle.record.specs.Sets.{agreeing}
use Rattle.record.specs.declared.header.Header.{Header}
use Rattle.record.proofs.OneSet.{agree_holds}
use Rattle.record.proofs.Tests.{RecordTests, record_says, record_holds, Limits, limits_say, limits_hold, Zeros, rest_says, rest_holds}
use Rattle.rewrite.specs.Keeps.{alterable, Kept, Keeps}
use Rattle.rewrite.specs.Renew.{renewed, settled}
use Rattle.rewrite.specs.Fitting.{Fitting}
use Rattle.rewrite.proofs.Bytes.{kept_first, kept_low, kept_high, drafted, drafted_length, renewed_length, renewed_other, renewed_state}
use Rattle.rewrite.proofs.Bytes.{renewed_bits, renewed_server, renewed_name, renewed_stores, renewed_alike}
use Rattle.blocks.proofs.Sealed.{sealed_zero}

module _ (b : List ℕ) (state bits : ℕ) (name : List ℕ) (whole : length b ≡ 512) where
  abbrev new : List ℕ
  new = renewed b state bits name

  state_at : get_or new 8 0 ≡ state
  state_at = renewed_state b state bits name whole

  bits_at : get_or new 9 0 ≡ bits
  bits_at = renewed_bits b state bits name whole

  server_at : get_or new 15 0 ≡ length name
  server_at = renewed_server b state bits name whole

  past : (i : ℕ) → 272 + length name ≤ i → i < 368 → get_or new i 0 ≡ 0
  past i u v =
      let q : i ≡ 272 + (i - 272) = omega arith in
      rw q (renewed_name b state bits name whole (i - 272) (omega arith) ∙ get_or-eq_default name 0 (omega arith))

  new_zero : sum_words new 128 ≡ 0
  unfolding renewed
  new_zero = sealed_zero (drafted b state bits name) (drafted_length b state bits name ∙ whole)

  -- what stays
  byte : (i : ℕ) → alterable i ≡ false → get_or new i 0 ≡ get_or b i 0
  byte = renewed_other b state bits name

  start_at : be32_at new 400 ≡ be32_at b 400
  start_at = be32_alike new b 400 400 (λ j l. byte (400 + j) (kept_high (400 + j) (omega arith) (omega arith)))

  size_at : be16_at new 404 ≡ be16_at b 404
  size_at = be16_alike new b 404 404 (λ j l. byte (404 + j) (kept_high (404 + j) (omega arith) (omega arith)))

  set_at : be16_at new 406 ≡ be16_at b 406
  set_at = be16_alike new b 406 406 (λ j l. byte (406 + j) (kept_high (406 + j) (omega arith) (omega arith)))

  issue_at : be32_at new 408 ≡ be32_at b 408
  issue_at = be32_alike new b 408 408 (λ j l. byte (408 + j) (kept_high (408 + j) (omega arith) (omega arith)))

  head_same : (k : ℕ) (h : Header) → is_record (record_of new) k h ≡ is_record (record_of b) k h
  unfolding record_of
  head_same k h = rw (byte 0 refl, byte 1 refl, be32_alike new b 4 4 (λ j l. byte (4 + j) (kept_first (4 + j) (omega arith))), issue_at)

  set_same : sound_set (record_of new) ≡ sound_set (record_of b)
  unfolding record_of
  set_same = rw (set_at, byte 1 refl)

  limits_kept : state ≤ 2 → bits ≤ 7 → length name ≤ 96 → Limits (record_of b) → Limits (record_of new)
  unfolding record_of
  limits_kept two seven most l =
      record {
        state = rw state_at two;
        bits = rw bits_at seven;
        mandatory = rw (byte 11 refl) l.mandatory;
        optional = rw (byte 12 refl) l.optional;
        public_some = rw (byte 13 refl) l.public_some;
        public = rw (byte 13 refl) l.public;
        private_some = rw (byte 14 refl) l.private_some;
        private = rw (byte 14 refl) l.private;
        server = rw server_at most;
        size = rw size_at l.size;
      }

  zeros_kept : Zeros b (record_of b) → Zeros new (record_of new)
  unfolding record_of
  zeros_kept z =
      record {
        blank = zero_alike new b 2 4 (λ i u v. byte i (kept_first i (omega arith))) ∙ z.blank;
        public = rw (byte 13 refl) (zero_alike new b _ 144 (λ i u v. byte i (kept_low i (omega arith) (omega arith))) ∙ z.public);
        private = rw (byte 14 refl) (zero_alike new b _ 272 (λ i u v. byte i (kept_low i (omega arith) (omega arith))) ∙ z.private);
        server = rw server_at (at_zero new (272 + length name) 368 past);
        mandatory = rw (byte 11 refl) (zero_alike new b _ 384 (λ i u v. byte i (kept_high i (omega arith) (omega arith))) ∙ z.mandatory);
        optional = rw (byte 12 refl) (zero_alike new b _ 400 (λ i u v. byte i (kept_high i (omega arith) (omega arith))) ∙ z.optional);
        last = zero_alike new b 412 508 (λ i u v. byte i (kept_high i (omega arith) (omega arith))) ∙ z.last;
      }

  -- A sound record, renewed with fields that fit, is sound.
  pub renewed_sound : state ≤ 2 → bits / 2 ≡ bits_of b / 2 → length name ≤ 96 → server_fits (length name) state bits ≡ true → (k : ℕ) (h : Header) (file : ℕ)
      → sound_record b k h file ≡ true → sound_record (renewed b state bits name) k h file ≡ true
  unfolding record_of
  renewed_sound two above most fit k h file sound =
      record_holds new k h file
      (record {
        sum = new_zero;
        head = rw (head_same k h) was.head;
        set = rw set_same was.set;
        limits = limits_hold (record_of new) (limits_kept two (omega (arith, within.bits)) most within);
        server = rw (server_at, state_at, bits_at) fit;
        roaming = rw (byte 10 refl) was.roaming;
        profile = rw (start_at, size_at) was.profile;
        rest = rest_holds new (record_of new) (zeros_kept (rest_says b (record_of b) was.rest));
      })
    where
      was : RecordTests b k h file
      was = record_says b k h file sound

      within : Limits (record_of b)
      within = limits_say (record_of b) was.limits

-- Renewed alike, two records agree.
pub renewed_agree : (a b : List ℕ) (state x y : ℕ) (name : List ℕ) → length a ≡ 512 → length b ≡ 512 → length name ≤ 96 → x % 2 ≡ y % 2
    → agreeing (renewed a state x name) (renewed b state y name) ≡ true
renewed_agree a b state x y name k l most e =
    agree_holds (renewed a state x name) (renewed b state y name)
    (record {
      state = renewed_state a state x name k ∙ sym (renewed_state b state y name l);
      pending = rw (renewed_bits a state x name k, renewed_bits b state y name l) e;
      server = renewed_stores a state x name k most ∙ sym (renewed_stores b state y name l most);
    })

-- A state 1 or 2 fits with a name, and state 0 with none.
pub fits_named : (state : ℕ) (name : List ℕ) → 1 ≤ state → state ≤ 2 → 1 ≤ length name → length name ≤ 96 → Fitting state name
fits_named state name a b c d = record { two = b; most = d; served = rw (ne_eqb (length name) 0 (omega arith), lt-ltb 0 (length name) c, lt-ltb 0 state a) }

pub fits_none : Fitting 0 []
fits_none = record { two = omega arith; most = omega arith; served = refl }

-- Settling: a row of the table of effects is a change of blocks.
module _ (state : ℕ) (name : List ℕ) (fits : Fitting state name) where
  module _ (b : List ℕ) (whole : length b ≡ 512) where
    served : server_fits (length name) state (cleared (bits_of b)) ≡ true
    served = rw (ne_eqb (cleared (bits_of b) % 2) 1 (omega arith)) fits.served

    settled_kept : Kept b (settled state name b)
    unfolding settled
    settled_kept =
        record {
          size = renewed_length b state (cleared (bits_of b)) name;
          others = λ i l e. renewed_other b state (cleared (bits_of b)) name i e;
          bits = rw (renewed_bits b state (cleared (bits_of b)) name whole) (omega arith);
          sound = renewed_sound b state (cleared (bits_of b)) name whole fits.two (omega arith) fits.most served;
        }

    -- an identity named twice counts once
    settled_twice : settled state name (settled state name b) ≡ settled state name b
    unfolding settled
    settled_twice =
        let bits = cleared (bits_of b) in
        let again = renewed b state bits name in
        let e : cleared (bits_of again) ≡ bits = omega (arith, renewed_bits b state bits name whole) in
        ap (λ (x : ℕ). renewed again state x name) e
        ∙ renewed_alike again b state bits name (renewed_length b state bits name ∙ whole) whole (λ i l f. renewed_other b state bits name i f)

  settled_agree : (a b : List ℕ) → length a ≡ 512 → length b ≡ 512 → agreeing a b ≡ true → agreeing (settled state name a) (settled state name b) ≡ true
  unfolding settled
  settled_agree a b k l e = renewed_agree a b state (cleared (bits_of a)) (cleared (bits_of b)) name k l fits.most (omega arith)

  pub settled_keeps : Keeps (settled state name)
  settled_keeps = record { each = settled_kept; agree = settled_agree; twice = settled_twice }
