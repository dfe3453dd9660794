-- A list made of a function of the numbers below a bound; what stands at a number of a list's rest.
use Rattle.octets.specs.Standard.{ℕ, zero, suc, ◌+◌, ◌≤◌, ◌<◌, ◌≡◌, refl, sym, ap, ◌∙◌, List, [], ◌∷◌, ◌++◌, Bool, true, false, arith, length, get_or, set}
use Rattle.octets.specs.Standard.{drop}
use Rattle.octets.specs.Standard.{length-append, length-set, get_or-append, get_or-append-add, get_or-set_same, get_or-set_other, ext_get_or}
use Rattle.octets.specs.Standard.{drop-cons, drop_of_length-le, ltb, ltb-true, ltb-false, eqb, eqb-true, eqb-false}
use Rattle.plain_reading.specs.Plain.{each_below}

pub each_length : {X : Type 0} (f : ℕ → X) (n : ℕ) → length (each_below f n) ≡ n
unfolding each_below
each_length f zero = refl
each_length f (suc n) = rw (length-append (each_below f n) (f n ∷ []), each_length f n) (omega arith)

pub each_at : {X : Type 0} (f : ℕ → X) (n k : ℕ) (x : X) → k < n → get_or (each_below f n) k x ≡ f k
unfolding each_below
each_at f zero k x h = absurd (omega arith)
each_at f (suc n) k x h = go (ltb k n) refl (each_at f n k x)
  where
    go : (b : Bool) → ltb k n ≡ b → (k < n → get_or (each_below f n) k x ≡ f k) → get_or (each_below f n ++ (f n ∷ [])) k x ≡ f k
    go true e r =
        let l : k < n = ltb-true k n e in
        get_or-append (each_below f n) (f n ∷ []) x k (rw (each_length f n) l) ∙ r l
    go false e r =
        let s : k ≡ n = omega (arith, ltb-false k n e) in
        let m : n ≡ length (each_below f n) + 0 = omega (arith, each_length f n) in
        rw s (ap (λ (j : ℕ). get_or (each_below f n ++ (f n ∷ [])) j x) m ∙ get_or-append-add (each_below f n) (f n ∷ []) 0 x)

pub each_alike : {X : Type 0} (f g : ℕ → X) (n : ℕ) → ((k : ℕ) → k < n → f k ≡ g k) → each_below f n ≡ each_below g n
unfolding each_below
each_alike f g zero h = refl
each_alike f g (suc n) h = rw (each_alike f g n (λ k l. h k (omega arith)), h n (omega arith))

-- one of them put anew
pub each_set : {X : Type 0} (f g : ℕ → X) (n k : ℕ) (x : X) → k < n → g k ≡ x → ((j : ℕ) → (j ≡ k → ⊥) → g j ≡ f j)
    → set (each_below f n) k x ≡ each_below g n
each_set f g n k x low here other =
    ext_get_or x (set (each_below f n) k x) (each_below g n) (length-set (each_below f n) k x ∙ each_length f n ∙ sym (each_length g n))
    (λ i h. at i (omega (arith, h, length-set (each_below f n) k x, each_length f n)))
  where
    at : (i : ℕ) → i < n → get_or (set (each_below f n) k x) i x ≡ get_or (each_below g n) i x
    at i h = go (eqb i k) refl
      where
        go : (b : Bool) → eqb i k ≡ b → get_or (set (each_below f n) k x) i x ≡ get_or (each_below g n) i x
        go true e =
            let s : i ≡ k = eqb-true i k e in
            rw s (get_or-set_same (each_below f n) k x x (omega (arith, each_length f n)) ∙ sym here ∙ sym (each_at g n k x low))
        go false e =
            get_or-set_other (each_below f n) k i x x (eqb-false i k e)
            ∙ each_at f n i x h ∙ sym (other i (eqb-false i k e)) ∙ sym (each_at g n i x h)

-- the first of what is left of a list from a number on
pub record Cut {X : Type 0} (l : List X) (i : ℕ) (y x : X) (xs : List X) : Type 0 where
  pub low : i < length l
  pub head : get_or l i y ≡ x
  pub tail : drop (suc i) l ≡ xs

pub cut : {X : Type 0} (l : List X) (i : ℕ) (y x : X) (xs : List X) → drop i l ≡ x ∷ xs → Cut l i y x xs
cut l i y x xs e = go (ltb i (length l)) refl
  where
    go : (b : Bool) → ltb i (length l) ≡ b → Cut l i y x xs
    go true f =
        let h : i < length l = ltb-true i (length l) f in
        let c = sym (drop-cons l i y h) ∙ e in
        record { low = h; head = cc; tail = cc }
    go false f =
        let z = sym (drop_of_length-le l (ltb-false i (length l) f)) ∙ e in
        let o : ◌≡◌ {A = ℕ} 0 1 = cc in
        absurd (omega arith)

pub cut_none : {X : Type 0} (l : List X) (i : ℕ) (y : X) → drop i l ≡ [] → length l ≤ i
cut_none l i y e = go (ltb i (length l)) refl
  where
    go : (b : Bool) → ltb i (length l) ≡ b → length l ≤ i
    go true f =
        let c = sym (drop-cons l i y (ltb-true i (length l) f)) ∙ e in
        let o : ◌≡◌ {A = ℕ} 0 1 = cc in
        absurd (omega arith)
    go false f = ltb-false i (length l) f
