-- The bytes of a renewed block: what is written anew, and what stays.
use Rattle.octets.specs.Standard.{ℕ, ◌+◌, ◌-◌, ◌<◌, ◌≤◌, Bool, true, false, ◌&&◌, ◌||◌, true≢false, ◌≡◌, refl, sym, ◌∙◌, ◌≢◌, List, arith, ltb, leb}
use Rattle.octets.specs.Standard.{eqb, ltb-true, ltb-false, leb-true, leb-false, lt-leb, le-leb, le-ltb, eqb-true, eqb-false, ne_eqb, length, get_or}
use Rattle.octets.specs.Standard.{set, take, drop, length-set, length-take, length-drop, get_or-set_same, get_or-set_other, get_or-take, get_or-drop}
use Rattle.octets.specs.Standard.{ext_get_or}
use Rattle.octets.specs.Run.{put_name}
use Rattle.octets.proofs.Runs.{name_length, name_apart, name_here}
use Rattle.record.specs.Fields.{server_of}
use Rattle.blocks.proofs.Sealed.{sealed_length, seal_before, seal_alike}
use Rattle.rewrite.specs.Keeps.{alterable}
use Rattle.rewrite.specs.Renew.{renewed}

-- A byte that no effect may write: where it is not, and where such bytes are.
record Apart (i : ℕ) : Type 0 where
  state : i ≢ 8
  bits : i ≢ 9
  size : i ≢ 15
  name : (j : ℕ) → j < 96 → i ≢ 272 + j
  before : i < 508

apart : (i : ℕ) → alterable i ≡ false → Apart i
apart i h = go (eqb i 8) (eqb i 9) (eqb i 15) (leb 272 i) (ltb i 368) (leb 508 i) refl refl refl refl refl refl h
  where
    go : (u v w x y z : Bool) → eqb i 8 ≡ u → eqb i 9 ≡ v → eqb i 15 ≡ w → leb 272 i ≡ x → ltb i 368 ≡ y → leb 508 i ≡ z
        → (u || v || w || x && y || z) ≡ false → Apart i
    go false false false false y false a b c d e f g =
        record {
          state = eqb-false i 8 a;
          bits = eqb-false i 9 b;
          size = eqb-false i 15 c;
          name = λ j l. let m : i < 272 = leb-false 272 i d in omega arith;
          before = leb-false 508 i f;
        }
    go false false false true false false a b c d e f g =
        record {
          state = eqb-false i 8 a;
          bits = eqb-false i 9 b;
          size = eqb-false i 15 c;
          name = λ j l. let m : 368 ≤ i = ltb-false i 368 e in omega arith;
          before = leb-false 508 i f;
        }
    go true v w x y z a b c d e f g = absurd (true≢false g)
    go false true w x y z a b c d e f g = absurd (true≢false g)
    go false false true x y z a b c d e f g = absurd (true≢false g)
    go false false false true true z a b c d e f g = absurd (true≢false g)
    go false false false false y true a b c d e f g = absurd (true≢false g)
    go false false false true false true a b c d e f g = absurd (true≢false g)

module _ (i : ℕ) where
  pub kept_low : 16 ≤ i → i < 272 → alterable i ≡ false
  kept_low a b = rw (ne_eqb i 8 (omega arith), ne_eqb i 9 (omega arith), ne_eqb i 15 (omega arith), lt-leb 272 i b) (lt-leb 508 i (omega arith))

  pub kept_first : i < 8 → alterable i ≡ false
  kept_first a = rw (ne_eqb i 8 (omega arith), ne_eqb i 9 (omega arith), ne_eqb i 15 (omega arith), lt-leb 272 i (omega arith)) (lt-leb 508 i (omega arith))

  pub kept_high : 368 ≤ i → i < 508 → alterable i ≡ false
  kept_high a b =
      rw (ne_eqb i 8 (omega arith), ne_eqb i 9 (omega arith), ne_eqb i 15 (omega arith), le-leb 272 i (omega arith), le-ltb i 368 a)
      (lt-leb 508 i b)

-- The block before its check word.
abbrev pub drafted : List ℕ → ℕ → ℕ → List ℕ → List ℕ
drafted b state bits name = put_name (set (set (set b 8 state) 9 bits) 15 (length name)) 272 name 96

module _ (b : List ℕ) (state bits : ℕ) (name : List ℕ) where
  pub drafted_length : length (drafted b state bits name) ≡ length b
  drafted_length = simp (name_length, length-set)

  pub renewed_length : length (renewed b state bits name) ≡ length b
  unfolding renewed
  renewed_length = sealed_length (drafted b state bits name) ∙ drafted_length

  drafted_other : (i : ℕ) → alterable i ≡ false → get_or (drafted b state bits name) i 0 ≡ get_or b i 0
  drafted_other i h =
      let p : Apart i = apart i h in
      let x : i ≢ 8 = p.state in
      let y : i ≢ 9 = p.bits in
      let z : i ≢ 15 = p.size in
      name_apart _ 272 name 96 i p.name ∙ simp get_or-set_other

  -- what stays
  pub renewed_other : (i : ℕ) → alterable i ≡ false → get_or (renewed b state bits name) i 0 ≡ get_or b i 0
  unfolding renewed
  renewed_other i h = seal_before _ i (apart i h).before ∙ drafted_other i h

  -- what is new
  module _ (whole : length b ≡ 512) where
    drafted_state : get_or (drafted b state bits name) 8 0 ≡ state
    drafted_state =
        name_apart _ 272 name 96 8 (λ j k. omega arith)
        ∙ get_or-set_other (set (set b 8 state) 9 bits) 15 8 (length name) 0 (omega arith)
        ∙ get_or-set_other (set b 8 state) 9 8 bits 0 (omega arith)
        ∙ get_or-set_same b 8 state 0 (omega arith)

    drafted_bits : get_or (drafted b state bits name) 9 0 ≡ bits
    drafted_bits =
        name_apart _ 272 name 96 9 (λ j k. omega arith)
        ∙ get_or-set_other (set (set b 8 state) 9 bits) 15 9 (length name) 0 (omega arith)
        ∙ get_or-set_same (set b 8 state) 9 bits 0 (simp length-set (omega arith))

    drafted_server : get_or (drafted b state bits name) 15 0 ≡ length name
    drafted_server =
        name_apart _ 272 name 96 15 (λ j k. omega arith)
        ∙ get_or-set_same (set (set b 8 state) 9 bits) 15 (length name) 0 (simp length-set (omega arith))

    drafted_name : (j : ℕ) → j < 96 → get_or (drafted b state bits name) (272 + j) 0 ≡ get_or name j 0
    drafted_name j h = name_here _ 272 name 96 j (simp length-set (omega arith)) h

    pub renewed_state : get_or (renewed b state bits name) 8 0 ≡ state
    unfolding renewed
    renewed_state = seal_before _ 8 (omega arith) ∙ drafted_state

    pub renewed_bits : get_or (renewed b state bits name) 9 0 ≡ bits
    unfolding renewed
    renewed_bits = seal_before _ 9 (omega arith) ∙ drafted_bits

    pub renewed_server : get_or (renewed b state bits name) 15 0 ≡ length name
    unfolding renewed
    renewed_server = seal_before _ 15 (omega arith) ∙ drafted_server

    pub renewed_name : (j : ℕ) → j < 96 → get_or (renewed b state bits name) (272 + j) 0 ≡ get_or name j 0
    unfolding renewed
    renewed_name j h = seal_before _ (272 + j) (omega arith) ∙ drafted_name j h

-- The name that a renewed block stores.
pub renewed_stores : (b : List ℕ) (state bits : ℕ) (name : List ℕ) → length b ≡ 512 → length name ≤ 96 → server_of (renewed b state bits name) ≡ name
unfolding server_of
renewed_stores b state bits name whole most =
    let c = renewed b state bits name in
    let l : length c ≡ 512 = renewed_length b state bits name ∙ whole in
    let n : length (take (length name) (drop 272 c)) ≡ length name = simp (length-take, length-drop) (omega arith) in
    rw (renewed_server b state bits name whole)
    (ext_get_or 0 (take (length name) (drop 272 c)) name n
    (λ i h.
    let k : i < length name = omega (arith, n) in
    get_or-take (length name) (drop 272 c) i 0 k ∙ get_or-drop 272 c i 0 ∙ renewed_name b state bits name whole i (omega arith)))

-- Blocks that differ at most in what is written anew are alike once they are renewed.
module _ (b c : List ℕ) (state bits : ℕ) (name : List ℕ) (k : length b ≡ 512) (l : length c ≡ 512)
    (others : (i : ℕ) → i < 512 → alterable i ≡ false → get_or b i 0 ≡ get_or c i 0) where
  drafted_alike : (i : ℕ) → i < 508 → get_or (drafted b state bits name) i 0 ≡ get_or (drafted c state bits name) i 0
  drafted_alike i h = go (eqb i 8) (eqb i 9) (eqb i 15) (leb 272 i) (ltb i 368) refl refl refl refl refl
    where
      other : alterable i ≡ false → get_or (drafted b state bits name) i 0 ≡ get_or (drafted c state bits name) i 0
      other e = drafted_other b state bits name i e ∙ others i (omega arith) e ∙ sym (drafted_other c state bits name i e)

      go : (u v w x y : Bool) → eqb i 8 ≡ u → eqb i 9 ≡ v → eqb i 15 ≡ w → leb 272 i ≡ x → ltb i 368 ≡ y
          → get_or (drafted b state bits name) i 0 ≡ get_or (drafted c state bits name) i 0
      go true v w x y a d e f g = rw (eqb-true i 8 a) (drafted_state b state bits name k ∙ sym (drafted_state c state bits name l))
      go false true w x y a d e f g = rw (eqb-true i 9 d) (drafted_bits b state bits name k ∙ sym (drafted_bits c state bits name l))
      go false false true x y a d e f g = rw (eqb-true i 15 e) (drafted_server b state bits name k ∙ sym (drafted_server c state bits name l))
      go false false false true true a d e f g =
          let q : i ≡ 272 + (i - 272) = omega (arith, leb-true 272 i f) in
          let m : i - 272 < 96 = omega (arith, ltb-true i 368 g) in
          rw q (drafted_name b state bits name k (i - 272) m ∙ sym (drafted_name c state bits name l (i - 272) m))
      go false false false true false a d e f g = other (rw (a, d, e, f, g) (lt-leb 508 i h))
      go false false false false y a d e f g = other (rw (a, d, e, f) (lt-leb 508 i h))

  pub renewed_alike : renewed b state bits name ≡ renewed c state bits name
  unfolding renewed
  renewed_alike =
      seal_alike (drafted b state bits name) (drafted c state bits name) (drafted_length b state bits name ∙ k) (drafted_length c state bits name ∙ l)
      drafted_alike
