-- The scan of the places of visited networks, and the bits of a roaming byte.
use Rattle.octets.specs.Standard.{ℕ, suc, ◌+◌, ◌-◌, ◌/◌, ◌%◌, ◌^◌, ◌<◌, ◌≤◌, Bool, true, false, ◌&&◌, cond, true≢false, ◌≡◌, refl, sym, ◌∙◌, ap, List}
use Rattle.octets.specs.Standard.{arith, div-eq_of_lt, lt_of_lt_of_le, add-one, eqb, ltb, pow_mono, length, get_or, take, drop, length-take}
use Rattle.octets.specs.Standard.{length-drop, get_or-take, get_or-drop, ext_get_or, ltb-true, ltb-false, eq-eqb, ne_eqb, eqb-true, eqb-false}
use Rattle.octets.specs.All.{all_below}
use Rattle.octets.proofs.All.{all_more, all_at}
use Rattle.octets.proofs.Names.{same_yes, same_no}
use Rattle.record.specs.Fields.{networks_of, roaming_of}
use Rattle.record.specs.Networks.{place_at, network_of}
use Rattle.blocks.specs.Blocks.{block_of}
use Rattle.table.specs.SoundTable.{SoundTable}
use Rattle.table.proofs.Sound.{sound_networks_lem, sound_place_lem}
use Rattle.lookup.specs.Network.{agree_at, network_is, seek, network_number, roams_in, may_roam}

-- One byte of a place.
module _ (b : List ℕ) (at : ℕ) (name : List ℕ) (i : ℕ) where
  pub agree_none : {n : ℕ} → i ≡ 0 → n ≡ get_or b at 0 → eqb n (length name) ≡ agree_at b at name i
  unfolding agree_at
  agree_none e f = rw (e, f)

  pub agree_some : {x : ℕ} → (i ≡ 0 → ⊥) → x ≡ get_or b (at + i) 0 → eqb x (get_or name (i - 1) 0) ≡ agree_at b at name i
  unfolding agree_at
  agree_some n f = rw (ne_eqb i 0 n, f)

agree_first : (b : List ℕ) (at : ℕ) (name : List ℕ) → agree_at b at name 0 ≡ true → get_or b at 0 ≡ length name
unfolding agree_at
agree_first b at name e = eqb-true (get_or b at 0) (length name) e

agree_later : (b : List ℕ) (at : ℕ) (name : List ℕ) (j : ℕ) → agree_at b at name (j + 1) ≡ true → get_or b (at + 1 + j) 0 ≡ get_or name j 0
unfolding agree_at
agree_later b at name j e =
    let q : at + (j + 1) ≡ at + 1 + j = omega arith in
    let r : j + 1 - 1 ≡ j = omega arith in
    eqb-true (get_or b (at + 1 + j) 0) (get_or name j 0) (rw (ne_eqb (j + 1) 0 (omega arith), q, r) at e)

-- A place holds the name exactly if all its bytes agree.
module _ (b name : List ℕ) (k at : ℕ) (whole : length b ≡ 512) (place : at ≡ place_at k) (low : at ≤ 368) (short : get_or b at 0 ≤ 31) where
  of : network_of b k ≡ take (get_or b at 0) (drop (at + 1) b)
  unfolding network_of
  of = rw (← place)

  size : length (take (get_or b at 0) (drop (at + 1) b)) ≡ get_or b at 0
  size = simp (length-take, length-drop) (omega arith)

  byte : (i : ℕ) → i < get_or b at 0 → get_or (take (get_or b at 0) (drop (at + 1) b)) i 0 ≡ get_or b (at + 1 + i) 0
  byte i h = rw (get_or-take (get_or b at 0) (drop (at + 1) b) i 0 h, get_or-drop (at + 1) b i 0)

  agrees : (i : ℕ) → i ≤ length name → take (get_or b at 0) (drop (at + 1) b) ≡ name → agree_at b at name i ≡ true
  unfolding agree_at
  agrees i h e = go (eqb i 0) refl
    where
      long : get_or b at 0 ≡ length name
      long = sym size ∙ ap length e

      go : (u : Bool) → eqb i 0 ≡ u → cond u (eqb (get_or b at 0) (length name)) (eqb (get_or b (at + i) 0) (get_or name (i - 1) 0)) ≡ true
      go true f = eq-eqb (get_or b at 0) (length name) long
      go false f =
          let n : (i ≡ 0 → ⊥) = eqb-false i 0 f in
          let q : at + 1 + (i - 1) ≡ at + i = omega arith in
          eq-eqb (get_or b (at + i) 0) (get_or name (i - 1) 0)
          (rw (← q) (sym (byte (i - 1) (omega (arith, long))) ∙ ap (λ (l : List ℕ). get_or l (i - 1) 0) e))

  place_other : (i : ℕ) {u : Bool} → i ≤ length name → u ≡ agree_at b at name i → u ≡ false → network_is b name k ≡ false
  unfolding network_is
  place_other i h e f =
      same_no (network_of b k) name
      (λ q. let a : agree_at b at name i ≡ true = agrees i h (sym of ∙ q) in true≢false (sym a ∙ sym e ∙ f))

  place_same : (i : ℕ) {u : Bool} → i ≡ length name → true ≡ all_below (agree_at b at name) i → u ≡ agree_at b at name i → u ≡ true → network_is b name k ≡ true
  unfolding network_is
  place_same i {u} h a e f = same_yes (network_of b k) name (of ∙ ext_get_or 0 (take (get_or b at 0) (drop (at + 1) b)) name (size ∙ long) bytes)
    where
      every : (j : ℕ) → j ≤ length name → agree_at b at name j ≡ true
      every j l = go (ltb j i) refl
        where
          go : (v : Bool) → ltb j i ≡ v → agree_at b at name j ≡ true
          go true g = all_at (agree_at b at name) i (sym a) j (ltb-true j i g)
          go false g = let q : j ≡ i = omega (arith, ltb-false j i g, h) in rw q (sym e ∙ f)

      long : get_or b at 0 ≡ length name
      long = agree_first b at name (every 0 (omega arith))

      bytes : (j : ℕ) → j < length (take (get_or b at 0) (drop (at + 1) b)) → get_or (take (get_or b at 0) (drop (at + 1) b)) j 0 ≡ get_or name j 0
      bytes j l = let m : j < get_or b at 0 = omega (arith, size) in byte j m ∙ agree_later b at name j (every (j + 1) (omega (arith, long)))

-- One byte more of a place.
pub bytes_more : (p : ℕ → Bool) (i : ℕ) {u : Bool} → true ≡ all_below p i → u ≡ p i → u ≡ true → true ≡ all_below p (i + 1)
bytes_more p i a e f = sym f ∙ all_more p i a e

-- The turns of the loop over the places: what is left from place k on gives the number of the whole.
pub places_start : (t : List ℕ) (name : List ℕ) {h : List ℕ} {n : ℕ} → h ≡ block_of t 0 → n ≡ networks_of h
    → network_number (block_of t 0) (networks_of (block_of t 0)) name ≡ seek (network_is h name) (n - 0) 0
unfolding network_number
places_start t name {h} {n} e f = let m : n - 0 ≡ n = omega arith in rw (m, f, e)

pub places_few : (t : List ℕ) (count : ℕ) → SoundTable t count → {h : List ℕ} {n : ℕ} → h ≡ block_of t 0 → n ≡ networks_of h → n ≤ 8
places_few t count s e f = rw f (sound_networks_lem t count s e)

pub places_end : (p : ℕ → Bool) (n k : ℕ) {whole : ℕ} → whole ≡ seek p (n - k) k → k ≤ n → n ≤ k → k ≡ whole
unfolding seek
places_end p n k left a b = let m : n - k ≡ 0 = omega arith in rw (left, m)

module _ (t : List ℕ) (count : ℕ) (sound : SoundTable t count) (h : List ℕ) (n : ℕ) (name : List ℕ) (k at i : ℕ) {u : Bool} {whole : ℕ} (eh : h ≡ block_of t 0)
    (en : n ≡ networks_of h) (left : whole ≡ seek (network_is h name) (n - k) k) (size : length h ≡ 512) (more : k < n) (place : at ≡ place_at k) (low : at ≤ 368)
    (so : true ≡ all_below (agree_at h at name) i) (is : u ≡ agree_at h at name i) where
  near : get_or h at 0 ≤ 31
  near = rw place (sound_place_lem t count sound eh k (rw en at more))

  pub place_miss : i ≤ length name → u ≡ false → whole ≡ seek (network_is h name) (n - (k + 1)) (k + 1)
  unfolding seek
  place_miss l f =
      let m : n - k ≡ suc (n - (k + 1)) = omega arith in
      rw (left, m, place_other h name k at size place low near i l is f, add-one k)

  pub place_hit : i ≡ length name → u ≡ true → k ≡ whole
  unfolding seek
  place_hit l f =
      let m : n - k ≡ suc (n - k - 1) = omega arith in
      rw (left, m, place_same h name k at size place low near i l so is f)

-- A roaming byte has no bit past its eighth.
pub roams_past : (roaming n : ℕ) → roaming < 2 ^ 8 → 8 ≤ n → false ≡ eqb (roaming / 2 ^ n % 2) 1
roams_past roaming n h k =
    let z : roaming / 2 ^ n ≡ 0 = div-eq_of_lt (lt_of_lt_of_le h (pow_mono k)) in
    sym (ne_eqb (roaming / 2 ^ n % 2) 1 (omega arith))

pub roams_all : (roaming networks n : ℕ) {x : Bool} → x ≡ eqb (roaming / 2 ^ n % 2) 1 → (ltb n networks && x) ≡ roams_in roaming networks n
unfolding roams_in
roams_all roaming networks n e = rw e

pub roams_there : (t b name : List ℕ) {h : List ℕ} {networks n roaming : ℕ} {x : Bool} → h ≡ block_of t 0 → networks ≡ networks_of h → roaming ≡ roaming_of b
    → n ≡ network_number (block_of t 0) (networks_of (block_of t 0)) name → x ≡ roams_in roaming networks n → x ≡ may_roam (block_of t 0) b name
unfolding may_roam
roams_there t b name eh en er e f = f ∙ rw (er, en, eh, e)
