-- The members of a set are altered together or not at all: whether a sound record gets other bytes, what a set agrees in says.
use Rattle.octets.specs.Standard.{ℕ, ◌+◌, ◌*◌, ◌%◌, ◌≤◌, Bool, true, false, ◌&&◌, ◌||◌, not, cond, ◌≡◌, refl, sym, ◌∙◌, List, arith, eqb, ltb, length}
use Rattle.octets.specs.Standard.{eqb-true, eq-eqb, ltb-true, ltb-false}
use Rattle.octets.specs.Name.{same}
use Rattle.octets.specs.Run.{zero_between}
use Rattle.octets.specs.Sum.{sum_words}
use Rattle.octets.proofs.Names.{same_eq}
use Rattle.octets.proofs.Numbers.{Bytes}
use Rattle.record.specs.Fields.{state_of, bits_of, server_of, cleared, pending_set}
use Rattle.record.specs.RecordBlock.{record_of, sound_record}
use Rattle.record.specs.Sets.{same_set, agreeing}
use Rattle.record.specs.declared.header.Header.{Header}
use Rattle.record.proofs.OneSet.{Agree, agree_says, agree_refl, agree_sym, set_sym}
use Rattle.record.proofs.Tests.{RecordTests, record_says, rest_says}
use Rattle.blocks.specs.Blocks.{block_of}
use Rattle.table.specs.SoundTable.{SoundTable}
use Rattle.blocks.proofs.Blocks.{block_length, block_bytes}
use Rattle.table.proofs.Sound.{sound_size, sound_block, sound_record_lem, sound_agrees}
use Rattle.rewrite.specs.Change.{after_of, reaches, differ}
use Rattle.rewrite.specs.Keeps.{Keeps}
use Rattle.rewrite.specs.Renew.{renewed, settled, challenged}
use Rattle.rewrite.specs.Fitting.{change_of, ChangeFits}
use Rattle.rewrite.specs.declared.Change.{Change}
use Rattle.rewrite.specs.declared.Change.TheVariants.{Settled, Challenged}
use Rattle.rewrite.proofs.Reaching.{both_ways, reaches_closed}
use Rattle.rewrite.proofs.Tables.{after_chosen, after_frame}
use Rattle.rewrite.proofs.Turns.{change_keeps}
use Rattle.rewrite.proofs.Unchanged.{server_size_lem, held_all}
use Rattle.rewrite.proofs.Writes.{differ_same}

pending_cleared : (bits : ℕ) → eqb bits (cleared bits) ≡ eqb (bits % 2) 0
pending_cleared bits =
    both_ways (eqb bits (cleared bits)) (eqb (bits % 2) 0) (λ e. eq-eqb (bits % 2) 0 (omega (arith, eqb-true bits (cleared bits) e)))
    (λ e. eq-eqb bits (cleared bits) (omega (arith, eqb-true (bits % 2) 0 e)))

pending_set_lem : (bits : ℕ) → eqb bits (pending_set bits) ≡ eqb (bits % 2) 1
pending_set_lem bits =
    both_ways (eqb bits (pending_set bits)) (eqb (bits % 2) 1) (λ e. eq-eqb (bits % 2) 1 (omega (arith, eqb-true bits (pending_set bits) e)))
    (λ e. eq-eqb bits (pending_set bits) (omega (arith, eqb-true (bits % 2) 1 e)))

module _ (name : List ℕ) (most : length name ≤ 96) where
  -- A sound record is already as it would be renewed if its state, its bits and its name are.
  module _ (b : List ℕ) (k : ℕ) (h : Header) (file : ℕ) (sound : sound_record b k h file ≡ true) (bytes : Bytes b) (whole : length b ≡ 512) where
    was : RecordTests b k h file
    was = record_says b k h file sound

    rest_zero : server_of b ≡ name → zero_between b (272 + length name) 368 ≡ true
    unfolding record_of
    rest_zero e = rw (server_size_lem b 0 0 name bytes whole most e) (rest_says b (record_of b) was.rest).server

    held_sound : (state bits : ℕ) → same b (renewed b state bits name) ≡ (eqb (state_of b) state && eqb (bits_of b) bits && same (server_of b) name)
    held_sound state bits =
        sym (held_all b state bits name bytes whole most refl refl refl refl)
        ∙ go (eqb (state_of b) state && eqb (bits_of b) bits) (same (server_of b) name) refl
      where
        go : (x y : Bool) → same (server_of b) name ≡ y → (x && y && zero_between b (272 + length name) 368 && eqb (sum_words b 128) 0) ≡ (x && y)
        go true true e = rw (rest_zero (same_eq _ _ e), was.sum)
        go true false e = refl
        go false y e = refl

  module _ (a b : List ℕ) (j k : ℕ) (h : Header) (file : ℕ) (first : sound_record a j h file ≡ true) (second : sound_record b k h file ≡ true)
      (bytes : Bytes a) (other-bytes : Bytes b) (whole : length a ≡ 512) (other_whole : length b ≡ 512) (agree : agreeing a b ≡ true) where
    s : Agree a b
    s = agree_says a b agree

    settled_together : (state : ℕ) → differ a (settled state name a) ≡ differ b (settled state name b)
    unfolding settled differ
    settled_together state =
        rw (
          held_sound a j h file first bytes whole state (cleared (bits_of a)),
          held_sound b k h file second other-bytes other_whole state (cleared (bits_of b)),
          pending_cleared (bits_of a),
          pending_cleared (bits_of b),
          s.state,
          s.pending,
          s.server,
        )

    -- where a challenge writes
    renewed_together : differ a (renewed a (state_of b) (pending_set (bits_of a)) name) ≡ differ b (renewed b (state_of b) (pending_set (bits_of b)) name)
    unfolding differ
    renewed_together =
        rw (
          held_sound a j h file first bytes whole (state_of b) (pending_set (bits_of a)),
          held_sound b k h file second other-bytes other_whole (state_of b) (pending_set (bits_of b)),
          pending_set_lem (bits_of a),
          pending_set_lem (bits_of b),
          s.state,
          s.pending,
          s.server,
        )

    challenged_together : differ a (challenged name a) ≡ differ b (challenged name b)
    unfolding challenged
    challenged_together = rw (s.state, s.server) (go (eqb (state_of b) 0 || not (same (server_of b) name)))
      where
        go : (x : Bool) → differ a (cond x (renewed a (state_of b) (pending_set (bits_of a)) name) a)
            ≡ differ b (cond x (renewed b (state_of b) (pending_set (bits_of b)) name) b)
        go true = renewed_together
        go false = differ_same a ∙ sym (differ_same b)

    change_together : (c : Change) → differ a (change_of c name a) ≡ differ b (change_of c name b)
    unfolding change_of
    change_together (Settled state) = settled_together state
    change_together Challenged = challenged_together

fits_most : (c : Change) (name : List ℕ) → ChangeFits c name → length name ≤ 96
fits_most (Settled state) name f = f.most
fits_most Challenged name (least, most) = most

module _ (t : List ℕ) (count : ℕ) (sound : SoundTable t count) where
  -- the records of one set agree, whichever stands first
  pub members_agree : (j k : ℕ) → 1 ≤ j → j ≤ count → 1 ≤ k → k ≤ count → same_set (block_of t j) (block_of t k) ≡ true
      → agreeing (block_of t j) (block_of t k) ≡ true
  members_agree j k a b c d s = go (ltb j k) (ltb k j) refl refl
    where
      go : (x y : Bool) → ltb j k ≡ x → ltb k j ≡ y → agreeing (block_of t j) (block_of t k) ≡ true
      go true y e f = sound_agrees t count sound j k a (ltb-true j k e) d s
      go false true e f =
          agree_sym (block_of t k) (block_of t j) (sound_agrees t count sound k j c (ltb-true k j f) b (set_sym (block_of t j) (block_of t k) s))
      go false false e f = let q : j ≡ k = omega (arith, ltb-false j k e, ltb-false k j f) in rw q (agree_refl (block_of t k))

  -- of two records of one set both have other bytes after an effect, or neither
  pub altered_together : Bytes t → (c : Change) (name : List ℕ) → ChangeFits c name → (ks : List ℕ) (j k : ℕ) → 1 ≤ j → j ≤ count → 1 ≤ k → k ≤ count
      → same_set (block_of t j) (block_of t k) ≡ true
      → differ (block_of t j) (block_of (after_of t count (reaches t ks) (change_of c name)) j)
      ≡ differ (block_of t k) (block_of (after_of t count (reaches t ks) (change_of c name)) k)
  altered_together bytes c name fits ks j k a b d e s = go (reaches t ks k) refl
    where
      size : length t ≡ 512 * (count + 1)
      size = sound_size t count sound

      keeps : Keeps (change_of c name)
      keeps = change_keeps c name fits

      go : (x : Bool) → reaches t ks k ≡ x
          → differ (block_of t j) (block_of (after_of t count (reaches t ks) (change_of c name)) j)
          ≡ differ (block_of t k) (block_of (after_of t count (reaches t ks) (change_of c name)) k)
      go true f =
          rw (
            after_chosen t count (change_of c name) size (reaches t ks) keeps j b (reaches_closed t ks j k s ∙ f),
            after_chosen t count (change_of c name) size (reaches t ks) keeps k e f,
          )
          (change_together name (fits_most c name fits) (block_of t j) (block_of t k) j k _ _ (sound_record_lem t count sound j a b)
          (sound_record_lem t count sound k d e) (block_bytes t bytes j) (block_bytes t bytes k) (block_length t j (sound_block t count sound j b))
          (block_length t k (sound_block t count sound k e)) (members_agree j k a b d e s) c)
      go false f =
          rw (
            after_frame t count (change_of c name) size (reaches t ks) keeps j b (reaches_closed t ks j k s ∙ f),
            after_frame t count (change_of c name) size (reaches t ks) keeps k e f,
          )
          (differ_same (block_of t j) ∙ sym (differ_same (block_of t k)))
