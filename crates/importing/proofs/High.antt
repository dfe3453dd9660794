-- Names that begin with the greatest byte 126 times, and how many stand above each of them; above every other there are enough.
use Rattle.octets.specs.Standard.{ℕ, zero, suc, ◌+◌, ◌-◌, ◌*◌, ◌<◌, ◌≤◌, Bool, true, false, ◌&&◌, true≢false, ◌≡◌, refl, sym, ◌∙◌, ap, arith}
use Rattle.octets.specs.Standard.{eqb, leb, eqb-true, eqb-false, eq-eqb, ne_eqb, le-leb, List, [], ◌∷◌, length, drop, get_or}
use Rattle.octets.specs.Standard.{drop-cons, drop_of_length-le, take, replicate}
use Rattle.std.specs.List.{starts_with}
use Rattle.std.specs.Cmp.Lexicographic.{pointwise}
use native.Mathlib.Nat.{mul-le-mul_right}
use Rattle.octets.proofs.All.{and_left, and_right}
use Rattle.quoting.specs.Quoted.{listable}
use Rattle.importing.specs.Above.{strings_of, above, tildes}
use Rattle.importing.proofs.Falling.{least, others}

-- The first bytes are those of so many `~`.
tildes_first : (n : ℕ) (s : List ℕ) → pointwise eqb (replicate n 126) (take n s) ≡ tildes n s
unfolding tildes
tildes_first zero s = refl
tildes_first (suc n) [] = refl
tildes_first (suc n) (x ∷ s) = rw (turned (eqb x 126) refl, tildes_first n s) refl
  where
    turned : (c : Bool) → eqb x 126 ≡ c → eqb 126 x ≡ eqb x 126
    turned true e = let q : x ≡ 126 = eqb-true x 126 e in eq-eqb 126 x (sym q) ∙ sym e
    turned false e = ne_eqb 126 x (λ q. eqb-false x 126 e (sym q)) ∙ sym e

pub tildes_start : (s : List ℕ) → starts_with eqb s (replicate 126 126) ≡ tildes 126 s
tildes_start s = tildes_first 126 s

-- A byte of a name that can be listed.
listed_most : (s : List ℕ) (i : ℕ) → listable s ≡ true → i < length s → get_or s i 0 ≤ 126
listed_most [] i e h = absurd (omega arith)
listed_most (x ∷ s) zero e h = (least x s e).1
listed_most (x ∷ s) (suc i) e h = listed_most s i (others x s e) (omega arith)

pub listed_byte_lem : (s : List ℕ) (i b : ℕ) → listable s ≡ true → i < length s → b ≡ get_or s i 0 → b ≤ 126
listed_byte_lem s i b e h f = omega (arith, listed_most s i e h)

-- There are more strings the longer they may be.
strings_many : (m : ℕ) → 9121 ≤ strings_of (m + 2)
unfolding strings_of
strings_many zero = omega arith
strings_many (suc m) =
    let e : suc m + 2 ≡ suc (m + 2) = omega arith in
    rw e (omega (arith, strings_many m))

-- Above another name there are more than a table has records.
many : (m : ℕ) (s : List ℕ) → listable s ≡ true → tildes m s ≡ false → 4096 ≤ above (m + 2) s
unfolding tildes above
many zero s e f = absurd (true≢false f)
many (suc m) [] e f = let q : suc m + 2 ≡ suc (m + 2) = omega arith in rw q (omega (arith, strings_many (suc m), ap strings_of q))
many (suc m) (x ∷ s) e f = let q : suc m + 2 ≡ suc (m + 2) = omega arith in rw q (go (eqb x 126) refl f (many m s (others x s e)))
  where
    go : (c : Bool) → eqb x 126 ≡ c → (c && tildes m s) ≡ false → (tildes m s ≡ false → 4096 ≤ above (m + 2) s)
        → 4096 ≤ (126 - x) * strings_of (m + 2) + above (m + 2) s
    go true g h r = omega (arith, r h)
    go false g h r =
        let l : x ≤ 126 = (least x s e).1 in
        let d : x ≡ 126 → ⊥ = eqb-false x 126 g in
        let k : 1 ≤ 126 - x = omega arith in
        omega (arith, mul-le-mul_right (strings_of (m + 2)) k, strings_many m)

-- Those that begin so.
high : (m n : ℕ) (s : List ℕ) → tildes m s ≡ true → above (m + n) s ≡ above n (drop m s)
unfolding tildes above
high zero n s e = let q : 0 + n ≡ n = omega arith in rw q
high (suc m) n [] e = absurd (true≢false (sym e))
high (suc m) n (x ∷ s) e =
    let q : suc m + n ≡ suc (m + n) = omega arith in
    let t : x ≡ 126 = eqb-true x 126 (and_left (eqb x 126) (tildes m s) e) in
    rw (q, t) (omega (arith, high m n s (and_right (eqb x 126) (tildes m s) e)))

module _ (s : List ℕ) (left : ℕ) (few : left ≤ 4096) (listed : listable s ≡ true) where
  pub enough_other : {x : Bool} → x ≡ tildes 126 s → x ≡ false → true ≡ leb left (above 128 s)
  enough_other e f = sym (le-leb left (above 128 s) (omega (arith, many 126 s listed (sym e ∙ f))))

  pub is_high : {x : Bool} → x ≡ tildes 126 s → x ≡ true → tildes 126 s ≡ true
  is_high e f = sym e ∙ f

  module _ (tall : tildes 126 s ≡ true) where
    above_is : above 128 s ≡ above 2 (drop 126 s)
    above_is = high 126 2 s tall

    pub enough_short : length s < 127 → true ≡ leb left (above 128 s)
    unfolding above strings_of
    enough_short h = rw (above_is, drop_of_length-le s {i = 126} (omega arith)) (sym (le-leb left 9120 (omega arith)))

    module _ (c : ℕ) (ec : c ≡ 126 - get_or s 126 0) (h : 127 ≤ length s) where
      pub enough_127 : length s < 128 → leb left (96 * c + 95) ≡ leb left (above 128 s)
      unfolding above strings_of
      enough_127 l =
          let d : drop 126 s ≡ get_or s 126 0 ∷ [] =
          drop-cons s 126 0 (omega arith) ∙ ap (λ (y : List ℕ). get_or s 126 0 ∷ y) (drop_of_length-le s {i = 127} (omega arith)) in
          let a : above 128 s ≡ 96 * c + 95 = above_is ∙ rw d (omega arith) in
          rw a

      pub enough_128 : (d : ℕ) → d ≡ 126 - get_or s 127 0 → 128 ≤ length s → length s ≤ 128 → leb left (96 * c + d) ≡ leb left (above 128 s)
      unfolding above strings_of
      enough_128 d ed l m =
          let t : drop 126 s ≡ get_or s 126 0 ∷ get_or s 127 0 ∷ [] =
          drop-cons s 126 0 (omega arith)
          ∙ ap (λ (y : List ℕ). get_or s 126 0 ∷ y) (drop-cons s 127 0 (omega arith)
          ∙ ap (λ (y : List ℕ). get_or s 127 0 ∷ y) (drop_of_length-le s {i = 128} (omega arith))) in
          let a : above 128 s ≡ 96 * c + d = above_is ∙ rw t (omega arith) in
          rw a
