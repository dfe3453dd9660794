-- Laws of zero runs, of the tail of a field, and of a name put into its field.
use Rattle.octets.specs.Standard.{ℕ, zero, suc, ◌+◌, ◌-◌, ◌*◌, ◌<◌, ◌≤◌, max, Bool, true, false, ◌&&◌, ◌≡◌, refl, sym, ◌∙◌, ap, ◌≢◌, List, []}
use Rattle.octets.specs.Standard.{arith, add-one, bit_or, or_add_and, and_le_l, and_le_r, or_zero_l, eqb, length, get_or, set, length-set}
use Rattle.octets.specs.Standard.{get_or-eq_default, get_or-set_same, get_or-set_other, eq-eqb, ne_eqb, eqb-true, eqb-false}
use Rattle.octets.specs.Standard.{◌++◌, ◌∷◌, append_assoc, length-append, length-take-le, take, drop, take-append-drop, take-suc, take_all, drop-cons, drop-drop}
use Rattle.octets.specs.Standard.{set_at, put_mid, mid_len, mid_of, replicate, length-replicate, get_or-replicate, get_or-take, get_or-drop, length-drop, min}
use Rattle.octets.specs.All.{all_below}
use Rattle.octets.specs.Number.{two, eight, be16_at, le64_at}
use Rattle.octets.specs.Run.{zeros, zero_between, put_name}
use Rattle.octets.proofs.All.{all_at, all_true, all_alike, all_join}
use Rattle.octets.proofs.Chains.{◌also◌}

-- The turns of a loop that looks for zeros.
pub zeros_more : (s : List ℕ) (from i : ℕ) {good : Bool} → from ≤ i → good ≡ zeros s from (i - from)
    → (good && eqb (get_or s i 0) 0) ≡ zeros s from (i + 1 - from)
unfolding zeros all_below
zeros_more s from i h e =
    let n : i + 1 - from ≡ suc (i - from) = omega arith in
    let k : from + (i - from) ≡ i = omega arith in
    rw (n, k, e)

pub zeros_all : (s : List ℕ) (from to i : ℕ) {good : Bool} → from ≤ i → i ≤ max from to → to ≤ i → good ≡ zeros s from (i - from) → good ≡ zero_between s from to
unfolding zero_between
zeros_all s from to i a b h e = let n : i - from ≡ to - from = omega arith in rw (← n) e

-- The same over the part of a list.
abbrev pub part : List ℕ → ℕ → ℕ → List ℕ
part s from to = take (to - min from to) (drop (min from to) s)

pub run_none : (s : List ℕ) (from : ℕ) → true ≡ zeros s from 0
unfolding zeros all_below
run_none s from = refl

module _ (s run : List ℕ) (from to : ℕ) (is : run ≡ part s from to) (within : to ≤ length s) where
  pub run_more : (i : ℕ) {good : Bool} → i < length run → good ≡ zeros s from i → (good && eqb (get_or run i 0) 0) ≡ zeros s from (i + 1)
  unfolding zeros all_below
  run_more i h e =
      let l : length (part s from to) ≡ to - min from to = length-take-le (to - min from to) (drop (min from to) s) (rw length-drop (omega arith)) in
      let k : i < to - min from to = omega (arith, ap length is, l) in
      let m : min from to ≡ from = omega arith in
      rw (add-one, is, get_or-take (to - min from to) (drop (min from to) s) i 0 k, get_or-drop, m, e)

  pub run_all : (i : ℕ) {good : Bool} → i ≤ length run → length run ≤ i → good ≡ zeros s from i → good ≡ zero_between s from to
  unfolding zero_between
  run_all i a b e =
      let l : length (part s from to) ≡ to - min from to = length-take-le (to - min from to) (drop (min from to) s) (rw length-drop (omega arith)) in
      let k : i ≡ to - from = omega (arith, ap length is, l) in
      rw (← k) e

-- Two numbers have no bit set exactly if neither has.
pub or_zero : (a b : ℕ) → eqb (bit_or a b) 0 ≡ (eqb a 0 && eqb b 0)
or_zero a b = go (eqb a 0) (eqb b 0) refl refl
  where
    go : (x y : Bool) → eqb a 0 ≡ x → eqb b 0 ≡ y → eqb (bit_or a b) 0 ≡ (x && y)
    go true y e f = rw (eqb-true a 0 e, or_zero_l b) f
    go false true e f = ne_eqb (bit_or a b) 0 (λ z. eqb-false a 0 e (omega (arith, or_add_and a b, and_le_r a b, eqb-true b 0 f)))
    go false false e f = ne_eqb (bit_or a b) 0 (λ z. eqb-false b 0 f (omega (arith, or_add_and a b, and_le_l a b)))

-- A field of which no byte has been looked at yet.
pub tail_none : (s : List ℕ) (at n : ℕ) → eqb 0 0 ≡ zeros s (at + n) (at + 0 - (at + n))
unfolding zeros all_below
tail_none s at n = let e : at + 0 - (at + n) ≡ 0 = omega arith in rw e

-- Eight bytes make zero exactly if each is zero.
pub eight_zero : (f : ℕ → ℕ) → eqb (eight (f 7) (f 6) (f 5) (f 4) (f 3) (f 2) (f 1) (f 0)) 0 ≡ all_below (λ (j : ℕ). eqb (f j) 0) 8
unfolding all_below
eight_zero f = go (eqb all 0) (all_below each 8) refl refl
  where
    all : ℕ
    all = eight (f 7) (f 6) (f 5) (f 4) (f 3) (f 2) (f 1) (f 0)

    each : ℕ → Bool
    each j = eqb (f j) 0

    byte : all_below each 8 ≡ true → (j : ℕ) → j < 8 → f j ≡ 0
    byte e j h = eqb-true (f j) 0 (all_at each 8 e j h)

    none : all ≡ 0 → all_below each 8 ≡ true
    none e =
        refl also eq-eqb (f 0) 0 (omega arith) also eq-eqb (f 1) 0 (omega arith) also eq-eqb (f 2) 0 (omega arith) also eq-eqb (f 3) 0 (omega arith)
        also eq-eqb (f 4) 0 (omega arith) also eq-eqb (f 5) 0 (omega arith) also eq-eqb (f 6) 0 (omega arith) also eq-eqb (f 7) 0 (omega arith)

    go : (x y : Bool) → eqb all 0 ≡ x → all_below each 8 ≡ y → eqb all 0 ≡ y
    go true y e g = e ∙ sym (none (eqb-true _ _ e)) ∙ g
    go false false e g = e
    go false true e g =
        absurd
        (eqb-false all 0 e
        (omega (
          arith,
          byte g 0 (omega arith),
          byte g 1 (omega arith),
          byte g 2 (omega arith),
          byte g 3 (omega arith),
          byte g 4 (omega arith),
          byte g 5 (omega arith),
          byte g 6 (omega arith),
          byte g 7 (omega arith),
        )))

-- Two bytes likewise.
pub pair_zero : (s : List ℕ) (at : ℕ) → eqb (be16_at s at) 0 ≡ zero_between s at (at + 2)
unfolding be16_at zero_between zeros all_below
pair_zero s at =
    let k : at + 2 - at ≡ 2 = omega arith in
    let p : at + 0 ≡ at = omega arith in
    rw (k, p) (go (eqb (get_or s at 0) 0) (eqb (get_or s (at + 1) 0) 0) refl refl)
  where
    go : (x y : Bool) → eqb (get_or s at 0) 0 ≡ x → eqb (get_or s (at + 1) 0) 0 ≡ y → eqb (two (get_or s at 0) (get_or s (at + 1) 0)) 0 ≡ (x && y)
    go true true e f = eq-eqb (two (get_or s at 0) (get_or s (at + 1) 0)) 0 (omega (arith, eqb-true (get_or s at 0) 0 e, eqb-true (get_or s (at + 1) 0) 0 f))
    go true false e f = ne_eqb (two (get_or s at 0) (get_or s (at + 1) 0)) 0 (λ z. eqb-false (get_or s (at + 1) 0) 0 f (omega arith))
    go false y e f = ne_eqb (two (get_or s at 0) (get_or s (at + 1) 0)) 0 (λ z. eqb-false (get_or s at 0) 0 e (omega arith))

-- The turns of the loop over eights: none has a bit set so far, one more, and all.
le_zero : (s : List ℕ) (at : ℕ) → eqb (le64_at s at) 0 ≡ zeros s at 8
unfolding zeros le64_at
le_zero s at = let k : at + 0 ≡ at = omega arith in rw k at (eight_zero (λ (j : ℕ). get_or s (at + j) 0))

module _ (s : List ℕ) (at : ℕ) where
  pub set_none : eqb 0 0 ≡ zeros s at (8 * 0)
  unfolding zeros all_below
  set_none = refl

  pub set_more : (i bits w : ℕ) → eqb bits 0 ≡ zeros s at (8 * i) → w ≡ le64_at s (at + 8 * i) → eqb (bit_or bits w) 0 ≡ zeros s at (8 * (i + 1))
  unfolding zeros
  set_more i bits w e f =
      let n : 8 * (i + 1) ≡ 8 * i + 8 = omega arith in
      let j = all_join (λ (k : ℕ). eqb (get_or s (at + k) 0) 0) (λ (k : ℕ). eqb (get_or s (at + 8 * i + k) 0) 0) (8 * i)
      (λ k. let p : at + 8 * i + k ≡ at + (8 * i + k) = omega arith in rw p) 8 in
      rw (n, j, or_zero bits w, e, f, le_zero s (at + 8 * i))

  pub set_all : (i n bits : ℕ) → i ≤ n → n ≤ i → eqb bits 0 ≡ zeros s at (8 * i) → eqb bits 0 ≡ zero_between s at (at + 8 * n)
  unfolding zero_between
  set_all i n bits a b e = let k : at + 8 * n - at ≡ 8 * i = omega arith in rw k e

-- The turns of the loop that puts a name.
pub name_none : (s : List ℕ) (at : ℕ) (name : List ℕ) → s ≡ put_name s at name 0
unfolding put_name
name_none s at name = refl

pub name_more : (s : List ℕ) (at : ℕ) (name : List ℕ) (i : ℕ) {x : List ℕ} {b : ℕ} → x ≡ put_name s at name i → b ≡ get_or name i 0
    → set x (at + i) b ≡ put_name s at name (i + 1)
unfolding put_name
name_more s at name i e f = rw (add-one, e, f)

pub name_all : (s : List ℕ) (at : ℕ) (name : List ℕ) (i n : ℕ) {x : List ℕ} → i ≤ n → n ≤ i → x ≡ put_name s at name i → x ≡ put_name s at name n
name_all s at name i n a b e = let k : i ≡ n = omega arith in cc

-- A part of a list with a name's bytes in its place.
module _ (s : List ℕ) (at : ℕ) (name w : List ℕ) (n : ℕ) (room : at + n ≤ length s) (size : length w ≡ n)
    (bytes : (i : ℕ) → i < n → get_or w i 0 ≡ get_or name i 0) where
  mid_first : (k : ℕ) → k ≤ n → take at s ++ (take k w ++ drop (at + k) s) ≡ put_name s at name k
  unfolding put_name
  mid_first zero h = let e : at + 0 ≡ at = omega arith in rw e (take-append-drop at s)
  mid_first (suc k) h =
      let e : at + suc k ≡ suc (at + k) = omega arith in
      let l : length (take at s ++ take k w) ≡ at + k =
      length-append (take at s) (take k w) ∙ rw (length-take-le at s (omega arith), length-take-le k w (omega arith)) in
      let i = mid_first k (omega arith) in
      rw (e, take-suc w k 0 (omega arith), bytes k h, ← i, drop-cons s (at + k) 0 (omega arith), append_assoc (take k w) (get_or name k 0 ∷ []) (drop (suc (at + k)) s))
      (sym (append_assoc (take at s) (take k w) (get_or name k 0 ∷ drop (suc (at + k)) s))
      ∙ sym (set_at (take at s ++ take k w) (get_or s (at + k) 0) (drop (suc (at + k)) s) (get_or name k 0) (at + k) l)
      ∙ ap (λ (x : List ℕ). set x (at + k) (get_or name k 0)) (append_assoc (take at s) (take k w) (get_or s (at + k) 0 ∷ drop (suc (at + k)) s)))

  pub mid_name : (k : ℕ) → k ≡ n → put_mid at k s w ≡ put_name s at name n
  mid_name k e =
      rw (e, drop-drop n at s) (ap (λ (x : List ℕ). take at s ++ (x ++ drop (at + n) s)) (sym (take_all n w (omega arith))) ∙ mid_first n (omega arith))

pub past_zero : (s : List ℕ) (i : ℕ) → length s ≤ i → 0 ≡ get_or s i 0
past_zero s i h = sym (get_or-eq_default s 0 h)

-- A name and zeros after it, put one after the other.
pub name_then : (s : List ℕ) (at : ℕ) (name : List ℕ) (m k : ℕ) → length name ≤ m → put_name (put_name s at name m) (at + m) [] k ≡ put_name s at name (m + k)
unfolding put_name
name_then s at name m zero h = let n : m + 0 ≡ m = omega arith in rw n
name_then s at name m (suc k) h =
    let n : m + suc k ≡ suc (m + k) = omega arith in
    let p : at + m + k ≡ at + (m + k) = omega arith in
    rw (n, p, name_then s at name m k h, ← past_zero name (m + k) (omega arith))

pub name_length : (s : List ℕ) (at : ℕ) (name : List ℕ) (n : ℕ) → length (put_name s at name n) ≡ length s
unfolding put_name
name_length s at name zero = refl
name_length s at name (suc n) = simp length-set (name_length s at name n)

pub name_whole : (s : List ℕ) (at : ℕ) (name : List ℕ) (n : ℕ) {x z : List ℕ} (m : ℕ) → at + n ≤ length s → length name ≤ n
    → x ≡ put_name s at name (length name) → z ≡ replicate m 0 → m ≡ length (mid_of (at + length name) (at + n - (at + length name)) x)
    → put_mid (at + length name) (at + n - (at + length name)) x z ≡ put_name s at name n
name_whole s at name n {x} m room h p f q =
    let k : length name + (n - length name) ≡ n = omega arith in
    let g : m ≡ n - length name =
    q ∙ rw p (mid_len (at + length name) (at + n) (put_name s at name (length name)) (rw name_length room) ∙ omega arith) in
    let z = mid_name (put_name s at name (length name)) (at + length name) [] (replicate m 0) (n - length name) (rw name_length (omega arith))
    (length-replicate {A = ℕ} m 0 ∙ g) (λ i l. get_or-replicate {A = ℕ} m i 0 0 (omega arith)) (at + n - (at + length name)) (omega arith) in
    rw (p, f, z) (name_then s at name (length name) (n - length name) (omega arith) ∙ ap (put_name s at name) k)

-- A byte of a zero run is zero, and the other way round.
module _ (s : List ℕ) (from to : ℕ) where
  pub zero_at : zero_between s from to ≡ true → (i : ℕ) → from ≤ i → i < to → get_or s i 0 ≡ 0
  unfolding zero_between zeros
  zero_at e i a b =
      let k : from + (i - from) ≡ i = omega arith in
      rw k at (eqb-true (get_or s (from + (i - from)) 0) 0 (all_at _ (to - from) e (i - from) (omega arith)))

  pub at_zero : ((i : ℕ) → from ≤ i → i < to → get_or s i 0 ≡ 0) → zero_between s from to ≡ true
  unfolding zero_between zeros
  at_zero h = all_true _ (to - from) (λ i l. eq-eqb _ _ (h (from + i) (omega arith) (omega arith)))

pub zero_alike : (x y : List ℕ) (from to : ℕ) → ((i : ℕ) → from ≤ i → i < to → get_or x i 0 ≡ get_or y i 0) → zero_between x from to ≡ zero_between y from to
unfolding zero_between zeros
zero_alike x y from to h = all_alike _ _ (to - from) (λ i l. rw (h (from + i) (omega arith) (omega arith)))

-- A name that is put into its field.
module _ (s : List ℕ) (at : ℕ) (name : List ℕ) where
  pub name_apart : (n i : ℕ) → ((j : ℕ) → j < n → i ≢ at + j) → get_or (put_name s at name n) i 0 ≡ get_or s i 0
  unfolding put_name
  name_apart zero i h = refl
  name_apart (suc n) i h =
      rw (get_or-set_other (put_name s at name n) (at + n) i (get_or name n 0) 0 (h n (omega arith))) (name_apart n i (λ j k. h j (omega arith)))

  pub name_here : (n j : ℕ) → at + n ≤ length s → j < n → get_or (put_name s at name n) (at + j) 0 ≡ get_or name j 0
  unfolding put_name
  name_here zero j l h = absurd (omega arith)
  name_here (suc n) j l h = go (eqb j n) refl (name_here n j (omega arith))
    where
      go : (x : Bool) → eqb j n ≡ x → (j < n → get_or (put_name s at name n) (at + j) 0 ≡ get_or name j 0)
          → get_or (set (put_name s at name n) (at + n) (get_or name n 0)) (at + j) 0 ≡ get_or name j 0
      go true e r =
          let q : j ≡ n = eqb-true j n e in
          let m : at + n < length (put_name s at name n) = rw name_length (omega arith) in
          rw (q, get_or-set_same (put_name s at name n) (at + n) (get_or name n 0) 0 m)
      go false e r =
          let q : j ≢ n = eqb-false j n e in
          let k : at + j ≢ at + n = omega arith in
          rw (get_or-set_other (put_name s at name n) (at + n) (at + j) (get_or name n 0) 0 k) (r (omega arith))
