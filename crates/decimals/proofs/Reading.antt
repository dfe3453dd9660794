-- Reading a number: the turns of the loop; what was written is read, and what is read is what is written.
use Rattle.octets.specs.Standard.{ℕ, zero, suc, ◌+◌, ◌-◌, ◌*◌, ◌/◌, ◌%◌, ◌^◌, ◌<◌, ◌≤◌, Bool, true, false, ◌&&◌, cond, ◌≡◌, refl, sym, ◌∙◌, arith}
use Rattle.octets.specs.Standard.{◌⊎◌, inl, inr, ne_eqb, lt-leb, and-false}
use Rattle.octets.specs.Standard.{add-one, eqb, leb, ltb, eqb-true, eq-eqb, le-leb, leb-true, ltb-true, ltb-false, true≢false}
use Rattle.octets.specs.Standard.{List, [], ◌∷◌, ◌++◌, length, take, drop, get_or, take-suc, get_or-append, get_or-eq_default}
use Rattle.octets.specs.Standard.{get_or-append-add, take-append-drop, none, some, lit<, pow-le-pow_right, zero-add}
use lib.Seq.{get_or_at}
use Rattle.octets.proofs.All.{and_left, and_right}
use Rattle.octets.proofs.Numbers.{Bytes}
use Rattle.decimals.specs.Decimal.{digit_count, digits_of, decimal, is_digit, past_digits, value_of, number_in, as_number}
use Rattle.std.specs.Prelude.{Some, None}
use Rattle.decimals.specs.declared.Number.{Number}
use Rattle.decimals.proofs.Sizes.{size_enough, size_few, digits_length}

-- The turns: nothing yet, a digit more, no digit, and ten.
module _ (s : List ℕ) where
  pub value_none : 0 ≡ value_of s 0
  unfolding value_of
  value_none = refl

  pub value_more : (i value x : ℕ) {r : ℕ} → value ≡ value_of s i → x ≡ get_or s i 0 → r ≡ value * 10 + (x - 48) → r ≡ value_of s (i + 1)
  unfolding value_of
  value_more i value x e f g = rw (add-one i, ← e, ← f) g

  -- whatever the bytes are, ten of them make no great number
  value_least : Bytes s → (i : ℕ) → value_of s i + 23 ≤ 23 * 10 ^ i
  unfolding value_of
  value_least bytes zero = omega arith
  value_least bytes (suc i) = omega (arith, value_least bytes i, bytes i)

  pub value_room : (i value : ℕ) → Bytes s → value ≡ value_of s i → i < 10 → value ≤ 230000000000
  value_room i value bytes e h = let l : i ≤ 10 = omega arith in let p : 10 ^ i ≤ 10 ^ 10 = pow-le-pow_right (lit< tt) l in omega (arith, value_least bytes i)

  pub digit_more : (i x : ℕ) {b : Bool} → past_digits s 10 0 ≡ past_digits s (10 - i) i → i < 10 → x ≡ get_or s i 0 → b ≡ is_digit x → b ≡ true
      → past_digits s 10 0 ≡ past_digits s (10 - (i + 1)) (i + 1)
  unfolding past_digits
  digit_more i x e h f g t =
      let d : 10 - i ≡ suc (10 - (i + 1)) = omega arith in
      let k : is_digit (get_or s i 0) ≡ true = rw (← f, ← g) t in
      rw (add-one i) (e ∙ rw (d, k, add-one i))

  pub digit_stop : (i x : ℕ) {b : Bool} → past_digits s 10 0 ≡ past_digits s (10 - i) i → i < 10 → x ≡ get_or s i 0 → b ≡ is_digit x → b ≡ false
      → i ≡ past_digits s 10 0
  unfolding past_digits
  digit_stop i x e h f g t =
      let d : 10 - i ≡ suc (10 - (i + 1)) = omega arith in
      let k : is_digit (get_or s i 0) ≡ false = rw (← f, ← g) t in
      sym (e ∙ rw (d, k))

  pub digit_end : (i : ℕ) → past_digits s 10 0 ≡ past_digits s (10 - i) i → 10 ≤ i → i ≡ past_digits s 10 0
  unfolding past_digits
  digit_end i e h = let d : 10 - i ≡ 0 = omega arith in sym (e ∙ rw d)

pub digit_least : (x : ℕ) {b : Bool} → b ≡ is_digit x → b ≡ true → 48 ≤ x
digit_least x e t = leb-true 48 x (and_left (leb 48 x) (leb x 57) (sym e ∙ t))

-- The answer: a number, or none.
module _ (s : List ℕ) (most n : ℕ) (d : Number) (e : d.size ≡ past_digits s 10 0) (f : d.value ≡ value_of s d.size) (g : n ≡ digit_count d.value) where
  pub number_read : n ≡ d.size → d.value ≤ most → Some d ≡ as_number (number_in most s)
  unfolding number_in
  number_read k l =
      let z : digit_count d.value ≡ d.size = sym g ∙ k in
      rw (← e, ← f, eq-eqb (digit_count d.value) d.size z, le-leb d.value most l, z)

  pub number_none : (n ≡ d.size × (most < d.value)) ⊎ (n ≡ d.size → ⊥) → None ≡ as_number (number_in most s)
  unfolding number_in
  number_none (inl h) = rw (← e, ← f, lt-leb d.value most h.1, and-false)
  number_none (inr h) = rw (← e, ← f, ne_eqb (digit_count d.value) d.size (λ z. h (g ∙ z)))

-- Digits that were written are digits, and make the number again.
digits_are : (k n : ℕ) (j : ℕ) → j < k → is_digit (get_or (digits_of k n) j 0) ≡ true
unfolding digits_of
digits_are zero n j h = absurd (omega arith)
digits_are (suc k) n j h = go (ltb j k) refl (digits_are k (n / 10) j)
  where
    last : is_digit (48 + n % 10) ≡ true
    last = rw (le-leb 48 (48 + n % 10) (omega arith)) (le-leb (48 + n % 10) 57 (omega arith))

    go : (x : Bool) → ltb j k ≡ x → (j < k → is_digit (get_or (digits_of k (n / 10)) j 0) ≡ true)
        → is_digit (get_or (digits_of k (n / 10) ++ ((48 + n % 10) ∷ [])) j 0) ≡ true
    go true e r =
        let l : j < k = ltb-true j k e in
        rw (get_or-append (digits_of k (n / 10)) ((48 + n % 10) ∷ []) 0 j (omega (arith, digits_length k (n / 10)))) (r l)
    go false e r =
        let q : j ≡ k = omega (arith, ltb-false j k e) in
        rw (q, get_or_at (digits_of k (n / 10)) (48 + n % 10) [] 0 k (digits_length k (n / 10))) last

-- the value of the first k bytes looks at no others
value_front : (s rest : List ℕ) (k : ℕ) → k ≤ length s → value_of (s ++ rest) k ≡ value_of s k
unfolding value_of
value_front s rest zero h = refl
value_front s rest (suc k) h = rw (value_front s rest k (omega arith), get_or-append s rest 0 k (omega arith))

digits_value : (k n : ℕ) → n < 10 ^ k → value_of (digits_of k n) k ≡ n
unfolding digits_of value_of
digits_value zero n h = omega arith
digits_value (suc k) n h =
    let l : k ≤ length (digits_of k (n / 10)) = omega (arith, digits_length k (n / 10)) in
    let q : n / 10 < 10 ^ k = omega arith in
    rw (
      value_front (digits_of k (n / 10)) ((48 + n % 10) ∷ []) k l,
      digits_value k (n / 10) q,
      get_or_at (digits_of k (n / 10)) (48 + n % 10) [] 0 k (digits_length k (n / 10)),
    )
    (omega arith)

-- Past k digits, up to n bytes.
past_all : (s : List ℕ) (n k i : ℕ) → k ≤ n → ((j : ℕ) → j < k → is_digit (get_or s (i + j) 0) ≡ true) → past_digits s n i ≡ past_digits s (n - k) (i + k)
unfolding past_digits
past_all s n zero i h each = let a : n - 0 ≡ n = omega arith in let b : i + 0 ≡ i = omega arith in rw (a, b)
past_all s zero (suc k) i h each = absurd (omega arith)
past_all s (suc n) (suc k) i h each =
    let a : i + 0 ≡ i = omega arith in
    let d : is_digit (get_or s i 0) ≡ true = rw a at (each 0 (omega arith)) in
    let b : i + suc k ≡ suc i + k = omega arith in
    let c : suc n - suc k ≡ n - k = omega arith in
    rw (d, b, c) (past_all s n k (suc i) (omega arith) (λ j l. let c : suc i + j ≡ i + suc j = omega arith in rw c (each (suc j) (omega arith))))

past_stop : (s : List ℕ) (n i : ℕ) → is_digit (get_or s i 0) ≡ false → past_digits s n i ≡ i
unfolding past_digits
past_stop s zero i e = refl
past_stop s (suc n) i e = rw e

-- What was written is read: at the front of a list that goes on with no digit.
pub read_written : (most n : ℕ) (rest : List ℕ) → n ≤ most → n < 10 ^ 10 → is_digit (get_or rest 0 0) ≡ false → number_in most (decimal n ++ rest) ≡ some n
unfolding number_in decimal
read_written most n rest h l e =
    let d : List ℕ = digits_of (digit_count n) n in
    let k : ℕ = digit_count n in
    let size : length d ≡ k = digits_length k n in
    let each : (j : ℕ) → j < k → is_digit (get_or (d ++ rest) (0 + j) 0) ≡ true =
    λ j m. let z : 0 + j ≡ j = omega arith in rw (z, get_or-append d rest 0 j (omega arith)) (digits_are k n j m) in
    let after : get_or (d ++ rest) (0 + k) 0 ≡ get_or rest 0 0 =
    (let z : 0 + k ≡ length d + 0 = omega arith in rw z (get_or-append-add d rest 0 0)) in
    let past : past_digits (d ++ rest) 10 0 ≡ k =
    past_all (d ++ rest) 10 k 0 (size_few n) each ∙ past_stop (d ++ rest) (10 - k) (0 + k) (rw after e) ∙ zero-add k in
    let value : value_of (d ++ rest) k ≡ n = value_front d rest k (omega arith) ∙ digits_value k n (size_enough n l) in
    rw (past, value, eq-eqb k k refl, le-leb n most h)

-- Digits that stand at the front are what is written of the number that they make.
digit_within : (s : List ℕ) (i : ℕ) → is_digit (get_or s i 0) ≡ true → i < length s
digit_within s i e = go (ltb i (length s)) refl
  where
    go : (x : Bool) → ltb i (length s) ≡ x → i < length s
    go true f = ltb-true _ _ f
    go false f = absurd (true≢false (sym e ∙ rw (get_or-eq_default s 0 (ltb-false i (length s) f))))

value_digits : (s : List ℕ) (k : ℕ) → ((j : ℕ) → j < k → is_digit (get_or s j 0) ≡ true) → digits_of k (value_of s k) ≡ take k s
unfolding digits_of value_of
value_digits s zero each = refl
value_digits s (suc k) each =
    let x : ℕ = get_or s k 0 in
    let d : is_digit x ≡ true = each k (omega arith) in
    let a : 48 ≤ x = leb-true 48 x (and_left (leb 48 x) (leb x 57) d) in
    let b : x ≤ 57 = leb-true x 57 (and_right (leb 48 x) (leb x 57) d) in
    let q : (value_of s k * 10 + (x - 48)) / 10 ≡ value_of s k = omega arith in
    let r : 48 + (value_of s k * 10 + (x - 48)) % 10 ≡ x = omega arith in
    rw (q, r, value_digits s k (λ j l. each j (omega arith)), take-suc s k 0 (digit_within s k d))

past_each : (s : List ℕ) (n i : ℕ) (j : ℕ) → i ≤ j → j < past_digits s n i → is_digit (get_or s j 0) ≡ true
unfolding past_digits
past_each s zero i j a b = absurd (omega arith)
past_each s (suc n) i j a b = go (is_digit (get_or s i 0)) (ltb i j) refl refl b (past_each s n (suc i) j)
  where
    go : (x y : Bool) → is_digit (get_or s i 0) ≡ x → ltb i j ≡ y → j < cond x (past_digits s n (suc i)) i
        → (suc i ≤ j → j < past_digits s n (suc i) → is_digit (get_or s j 0) ≡ true) → is_digit (get_or s j 0) ≡ true
    go false y e f h r = absurd (omega arith)
    go true true e f h r = r (ltb-true i j f) h
    go true false e f h r = let q : j ≡ i = omega (arith, ltb-false i j f) in rw q e

-- What is read is what is written.
pub record ReadNumber (most : ℕ) (s : List ℕ) (v : ℕ) : Type 0 where
  pub within : v ≤ most
  pub front : s ≡ decimal v ++ drop (digit_count v) s

pub written_read : (most : ℕ) (s : List ℕ) (v : ℕ) → number_in most s ≡ some v → ReadNumber most s v
unfolding number_in decimal
written_read most s v e = go (eqb (digit_count w) k) (leb w most) refl refl e
  where
    k : ℕ
    k = past_digits s 10 0

    w : ℕ
    w = value_of s k

    go : (x y : Bool) → eqb (digit_count w) k ≡ x → leb w most ≡ y → cond (x && y) (some w) none ≡ some v → ReadNumber most s v
    go false y f g h = let z : ◌≡◌ {A = ℕ} 0 1 = cc in absurd (omega arith)
    go true false f g h = let z : ◌≡◌ {A = ℕ} 0 1 = cc in absurd (omega arith)
    go true true f g h =
        let is : w ≡ v = cc in
        let c : digit_count w ≡ k = eqb-true _ _ f in
        let d : digits_of k w ≡ take k s = value_digits s k (λ j l. past_each s 10 0 j (omega arith) l) in
        rw (← is) (record { within = leb-true _ _ g; front = rw (c, d) (sym (take-append-drop k s)) })
