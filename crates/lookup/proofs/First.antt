-- The first number that a test holds of: the turns of a scan, and what its answer says.
use Rattle.std.specs.Prelude.{Option, Some, None}
use Rattle.octets.specs.Standard.{ℕ, zero, suc, ◌+◌, ◌-◌, ◌<◌, ◌≤◌, Bool, true, false, cond, List, true≢false, ◌≡◌, refl, sym, ◌∙◌, ap, arith, add-one, ltb}
use Rattle.octets.specs.Standard.{ltb-true, ltb-false}
use Rattle.blocks.specs.Blocks.{block_of}
use Rattle.lookup.specs.Find.{first_from, is_at}

-- The turns of a scan of all records: what is left from block k on gives the answer of the whole.
pub first_start : (p : ℕ → Bool) (count : ℕ) {whole : Option ℕ} → whole ≡ first_from p count 1 → whole ≡ first_from p (count + 1 - 1) 1
first_start p count e = let m : count + 1 - 1 ≡ count = omega arith in rw m e

module _ (p : ℕ → Bool) (count k : ℕ) {whole : Option ℕ} (left : whole ≡ first_from p (count + 1 - k) k) where
  pub first_here : {x : Bool} → k ≤ count → x ≡ p k → x ≡ true → Some k ≡ whole
  unfolding first_from
  first_here h e f =
      let n : count + 1 - k ≡ suc (count - k) = omega arith in
      let g : p k ≡ true = cc in
      rw (left, n, g)

  pub first_next : {x : Bool} → k ≤ count → x ≡ p k → x ≡ false → whole ≡ first_from p (count + 1 - (k + 1)) (k + 1)
  unfolding first_from
  first_next h e f =
      let n : count + 1 - k ≡ suc (count + 1 - (k + 1)) = omega arith in
      let g : p k ≡ false = cc in
      rw (left, n, g, add-one k)

  pub first_nothing : count < k → None ≡ whole
  unfolding first_from
  first_nothing h = let n : count + 1 - k ≡ 0 = omega arith in rw (left, n)

-- Numbers that the test fails of may be left out in front and behind.
pub first_skip : (p : ℕ → Bool) (m n k : ℕ) → ((j : ℕ) → k ≤ j → j < k + m → p j ≡ false) → first_from p (m + n) k ≡ first_from p n (k + m)
unfolding first_from
first_skip p zero n k h =
    let a : zero + n ≡ n = omega arith in
    let b : k + zero ≡ k = omega arith in
    rw (a, b)
first_skip p (suc m) n k h =
    let a : suc m + n ≡ suc (m + n) = omega arith in
    let b : k + suc m ≡ suc k + m = omega arith in
    rw (a, b, h k (omega arith) (omega arith)) (first_skip p m n (suc k) (λ j u v. h j (omega arith) (omega arith)))

pub first_short : (p : ℕ → Bool) (m n k : ℕ) → ((j : ℕ) → k + m ≤ j → j < k + m + n → p j ≡ false) → first_from p (m + n) k ≡ first_from p m k
unfolding first_from
first_short p zero zero k h = refl
first_short p zero (suc n) k h =
    let a : zero + suc n ≡ suc (zero + n) = omega arith in
    rw (a, h k (omega arith) (omega arith)) (first_short p zero n (suc k) (λ j u v. h j (omega arith) (omega arith)))
first_short p (suc m) n k h =
    let a : suc m + n ≡ suc (m + n) = omega arith in
    rw a (ap (cond (p k) (Some k)) (first_short p m n (suc k) (λ j u v. h j (omega arith) (omega arith))))

pub first_hit : (p : ℕ → Bool) (m n k : ℕ) → ((j : ℕ) → k ≤ j → j < k + m → p j ≡ false) → p (k + m) ≡ true → first_from p (m + suc n) k ≡ Some (k + m)
unfolding first_from
first_hit p m n k h e = first_skip p m (suc n) k h ∙ rw e

-- The answer is none exactly if the test fails of all, and a number exactly if the test holds of it and of none before.
pub first_none : (p : ℕ → Bool) (n k : ℕ) → ((j : ℕ) → k ≤ j → j < k + n → p j ≡ false) → first_from p n k ≡ None
unfolding first_from
first_none p zero k h = refl
first_none p (suc n) k h = rw (h k (omega arith) (omega arith)) (first_none p n (suc k) (λ j u v. h j (omega arith) (omega arith)))

pub first_fails : (p : ℕ → Bool) (n k : ℕ) → first_from p n k ≡ None → (j : ℕ) → k ≤ j → j < k + n → p j ≡ false
unfolding first_from
first_fails p zero k e j a b = absurd (omega arith)
first_fails p (suc n) k e j a b = go (p k) (ltb k j) refl refl e (λ g h. first_fails p n (suc k) g j h (omega arith))
  where
    go : (x y : Bool) → p k ≡ x → ltb k j ≡ y → cond x (Some k) (first_from p n (suc k)) ≡ None → (first_from p n (suc k) ≡ None → suc k ≤ j → p j ≡ false)
        → p j ≡ false
    go true y f h g r = absurd (let z : ◌≡◌ {A = ℕ} 0 1 = cc in omega arith)
    go false true f h g r = r g (ltb-true k j h)
    go false false f h g r = let i : j ≡ k = omega (arith, ltb-false k j h) in rw i f

pub first_at : (p : ℕ → Bool) (count k : ℕ) → 1 ≤ k → k ≤ count → p k ≡ true → ((j : ℕ) → 1 ≤ j → j < k → p j ≡ false) → first_from p count 1 ≡ Some k
first_at p count k a b e h =
    let m : count ≡ (k - 1) + suc (count - k) = omega arith in
    let q : 1 + (k - 1) ≡ k = omega arith in
    ap (λ (n : ℕ). first_from p n 1) m ∙ first_hit p (k - 1) (count - k) 1 (λ j u v. h j u (omega arith)) (rw q e) ∙ ap Some q

-- A number that the test holds of is enough for an answer.
pub first_some : (p : ℕ → Bool) (count k : ℕ) → 1 ≤ k → k ≤ count → p k ≡ true → true ≡ is_at (first_from p count 1)
first_some p count k a b e = go (first_from p count 1) refl
  where
    go : (f : Option ℕ) → first_from p count 1 ≡ f → true ≡ is_at f
    go (Some j) h = refl
    go None h = absurd (true≢false (sym e ∙ first_fails p count 1 h k a (omega arith)))

-- A scan of blocks, by a relation that says what the test of a block may answer: those before block k have failed.
abbrev pub Failed : (List ℕ → Bool → Type 0) → List ℕ → ℕ → Type 0
Failed R t k = (j : ℕ) → 1 ≤ j → j < k → R (block_of t j) false

module _ (R : List ℕ → Bool → Type 0) (t : List ℕ) (k : ℕ) (before : Failed R t k) where
  pub failed_more : R (block_of t k) false → Failed R t (k + 1)
  failed_more here j a b = go (ltb j k) refl
    where
      go : (x : Bool) → ltb j k ≡ x → R (block_of t j) false
      go true e = before j a (ltb-true j k e)
      go false e = let i : j ≡ k = omega (arith, ltb-false j k e) in rw i here

  module _ (p : List ℕ → Bool) (says : (b : List ℕ) (x : Bool) → R b x → x ≡ p b) where
    pub failed_found : (count : ℕ) → 1 ≤ k → k ≤ count → R (block_of t k) true → Some k ≡ first_from (λ (j : ℕ). p (block_of t j)) count 1
    failed_found count a b here =
        sym (first_at (λ (j : ℕ). p (block_of t j)) count k a b (sym (says _ _ here)) (λ j u v. sym (says _ _ (before j u v))))

    pub failed_all : (count : ℕ) → count < k → None ≡ first_from (λ (j : ℕ). p (block_of t j)) count 1
    failed_all count a = sym (first_none (λ (j : ℕ). p (block_of t j)) count 1 (λ j u v. sym (says _ _ (before j u (omega arith)))))

pub record FirstAt (p : ℕ → Bool) (n k m : ℕ) : Type 0 where
  pub from : k ≤ m
  pub to : m < k + n
  pub holds : p m ≡ true
  pub first : (j : ℕ) → k ≤ j → j < m → p j ≡ false

pub first_stands : (p : ℕ → Bool) (n k m : ℕ) → first_from p n k ≡ Some m → FirstAt p n k m
unfolding first_from
first_stands p zero k m e = absurd (let z : ◌≡◌ {A = ℕ} 0 1 = cc in omega arith)
first_stands p (suc n) k m e = go (p k) refl e (first_stands p n (suc k) m)
  where
    go : (x : Bool) → p k ≡ x → cond x (Some k) (first_from p n (suc k)) ≡ Some m → (first_from p n (suc k) ≡ Some m → FirstAt p n (suc k) m) → FirstAt p (suc n) k m
    go true f g r =
        let i : k ≡ m = cc in
        record { from = omega arith; to = omega arith; holds = rw (← i) f; first = λ j a b. absurd (omega arith) }
    go false f g r =
        let s : FirstAt p n (suc k) m = r g in
        record { from = omega arith; to = omega arith; holds = s.holds; first = λ j a b. earlier s f j (ltb k j) refl a b }
      where
        earlier : FirstAt p n (suc k) m → p k ≡ false → (j : ℕ) (y : Bool) → ltb k j ≡ y → k ≤ j → j < m → p j ≡ false
        earlier s f j true h a b = s.first j (ltb-true k j h) b
        earlier s f j false h a b = let i : j ≡ k = omega (arith, ltb-false k j h) in rw i f

-- Tests that agree give one answer.
pub first_same : (p q : ℕ → Bool) (n k : ℕ) → ((j : ℕ) → k ≤ j → j < k + n → p j ≡ q j) → first_from p n k ≡ first_from q n k
unfolding first_from
first_same p q zero k h = refl
first_same p q (suc n) k h = rw (h k (omega arith) (omega arith), first_same p q n (suc k) (λ j a b. h j (omega arith) (omega arith)))
