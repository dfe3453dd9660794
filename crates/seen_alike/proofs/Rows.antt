-- Rows of block numbers that are like each other one by one: what a look-up finds first in them, and what is left of them by a test.
use Rattle.std.specs.Prelude.{Option, Some, None}
use Rattle.octets.specs.Standard.{ℕ, zero, suc, ◌+◌, ◌≤◌, Bool, true, false, cond, ◌&&◌, ◌≡◌, refl, sym, ◌∙◌, List, [], ◌∷◌, ◌++◌, arith, add-suc}
use Rattle.octets.specs.Standard.{suc-add}
use Rattle.lookup.specs.Find.{first_from, is_at}
use Rattle.diameter.specs.Put.{All}
use Rattle.assignment.specs.Assignment.{every, is_empty}
use Rattle.seen_alike.specs.Shown.{numbers_up_to, Each, FoundAlike}

-- the first of a row
abbrev head_of : List ℕ → Option ℕ
head_of [] = None
head_of (k ∷ ks) = Some k

abbrev or_else : Option ℕ → Option ℕ → Option ℕ
or_else (Some k) f = Some k
or_else None f = f

head_append : (js ks : List ℕ) → head_of (js ++ ks) ≡ or_else (head_of js) (head_of ks)
head_append [] ks = refl
head_append (j ∷ js) ks = refl

here : (p : ℕ → Bool) (k : ℕ) → Option ℕ
here p k = cond (p k) (Some k) None

first_more : (p : ℕ → Bool) (n k : ℕ) → first_from p (suc n) k ≡ or_else (first_from p n k) (here p (k + n))
unfolding first_from here
first_more p zero k = let e : k + zero ≡ k = omega arith in rw e
first_more p (suc n) k = rw (first_more p n (suc k), add-suc k n, suc-add k n) (go (p k))
  where
    go : (x : Bool) → cond x (Some k) (or_else (first_from p n (suc k)) (here p (suc (k + n))))
        ≡ or_else (cond x (Some k) (first_from p n (suc k))) (here p (suc (k + n)))
    go true = refl
    go false = refl

first_head : (p : ℕ → Bool) (n : ℕ) → first_from p n 1 ≡ head_of (numbers_up_to p n)
unfolding first_from numbers_up_to here
first_head p zero = refl
first_head p (suc n) =
    let e : 1 + n ≡ suc n = omega arith in
    first_more p n 1 ∙ rw (e, head_append (numbers_up_to p n) (cond (p (suc n)) (suc n ∷ []) []), ← first_head p n) (go (p (suc n)))
  where
    go : (x : Bool) → or_else (first_from p n 1) (cond x (Some (suc n)) None) ≡ or_else (first_from p n 1) (head_of (cond x (suc n ∷ []) []))
    go true = refl
    go false = refl

-- what holds of every number of a row holds of the one that is found
head_all : (P : ℕ → Type 0) (ks : List ℕ) (k : ℕ) → All P ks → head_of ks ≡ Some k → P k
head_all P [] k a e = let z : ◌≡◌ {A = ℕ} 0 1 = cc in absurd (omega arith)
head_all P (j ∷ ks) k a e = let i : j ≡ k = cc in rw (← i) a.0

pub first_all : (P : ℕ → Type 0) (p : ℕ → Bool) (n k : ℕ) → All P (numbers_up_to p n) → first_from p n 1 ≡ Some k → P k
first_all P p n k a e = head_all P (numbers_up_to p n) k a (sym (first_head p n) ∙ e)

-- what a test leaves of a row
kept : (ℕ → Bool) → List ℕ → List ℕ
kept r [] = []
kept r (k ∷ ks) = cond (r k) (k ∷ kept r ks) (kept r ks)

kept_append : (r : ℕ → Bool) (js ks : List ℕ) → kept r (js ++ ks) ≡ kept r js ++ kept r ks
unfolding kept
kept_append r [] ks = refl
kept_append r (j ∷ js) ks = rw (kept_append r js ks) (go (r j))
  where
    go : (x : Bool) → cond x (j ∷ (kept r js ++ kept r ks)) (kept r js ++ kept r ks) ≡ cond x (j ∷ kept r js) (kept r js) ++ kept r ks
    go true = refl
    go false = refl

numbers_kept : (r q : ℕ → Bool) (n : ℕ) → numbers_up_to (λ k. r k && q k) n ≡ kept r (numbers_up_to q n)
unfolding numbers_up_to kept
numbers_kept r q zero = refl
numbers_kept r q (suc n) =
    rw (numbers_kept r q n, kept_append r (numbers_up_to q n) (cond (q (suc n)) (suc n ∷ []) [])) (go (r (suc n)) (q (suc n)) refl)
  where
    go : (x y : Bool) → r (suc n) ≡ x → kept r (numbers_up_to q n) ++ cond (x && y) (suc n ∷ []) []
        ≡ kept r (numbers_up_to q n) ++ kept r (cond y (suc n ∷ []) [])
    go true true e = rw e
    go true false e = refl
    go false true e = rw e
    go false false e = refl

pub numbers_same : (p q : ℕ → Bool) (n : ℕ) → ((k : ℕ) → 1 ≤ k → k ≤ n → p k ≡ q k) → numbers_up_to p n ≡ numbers_up_to q n
unfolding numbers_up_to
numbers_same p q zero h = refl
numbers_same p q (suc n) h = rw (numbers_same p q n (λ k a b. h k a (omega arith)), h (suc n) (omega arith) (omega arith))

module _ (Like : ℕ → ℕ → Type 0) where
  kept_each : (r s : ℕ → Bool) → ((j k : ℕ) → Like j k → r j ≡ s k) → (js ks : List ℕ) → Each Like js ks → Each Like (kept r js) (kept s ks)
  unfolding kept
  kept_each r s same [] [] e = tt
  kept_each r s same [] (k ∷ ks) e = absurd e
  kept_each r s same (j ∷ js) [] e = absurd e
  kept_each r s same (j ∷ js) (k ∷ ks) (l, e) = rw (← same j k l) (go (r j) (kept_each r s same js ks e))
    where
      go : (x : Bool) → Each Like (kept r js) (kept s ks) → Each Like (cond x (j ∷ kept r js) (kept r js)) (cond x (k ∷ kept s ks) (kept s ks))
      go true next = (l, next)
      go false next = next

  -- the records that are left of a row by a test, and the first of them
  pub numbers_each : (r s p q : ℕ → Bool) (count many : ℕ) → ((j k : ℕ) → Like j k → r j ≡ s k) → Each Like (numbers_up_to p count) (numbers_up_to q many)
      → Each Like (numbers_up_to (λ k. r k && p k) count) (numbers_up_to (λ k. s k && q k) many)
  numbers_each r s p q count many same e =
      rw (numbers_kept r p count, numbers_kept s q many) (kept_each r s same (numbers_up_to p count) (numbers_up_to q many) e)

  head_each : (js ks : List ℕ) → Each Like js ks → FoundAlike Like (head_of js) (head_of ks)
  head_each [] [] e = tt
  head_each [] (k ∷ ks) e = absurd e
  head_each (j ∷ js) [] e = absurd e
  head_each (j ∷ js) (k ∷ ks) (l, e) = l

  pub first_each : (p q : ℕ → Bool) (count many : ℕ) → Each Like (numbers_up_to p count) (numbers_up_to q many)
      → FoundAlike Like (first_from p count 1) (first_from q many 1)
  first_each p q count many e = rw (first_head p count, first_head q many) (head_each (numbers_up_to p count) (numbers_up_to q many) e)

  -- whether something was found; whether a test holds of all; whether there is none
  pub at_each : (f g : Option ℕ) → FoundAlike Like f g → is_at f ≡ is_at g
  at_each (Some j) (Some k) l = refl
  at_each (Some j) None l = absurd l
  at_each None (Some k) l = absurd l
  at_each None None l = refl

  pub every_each : (p q : ℕ → Bool) → ((j k : ℕ) → Like j k → p j ≡ q k) → (js ks : List ℕ) → Each Like js ks → every p js ≡ every q ks
  unfolding every
  every_each p q same [] [] e = refl
  every_each p q same [] (k ∷ ks) e = absurd e
  every_each p q same (j ∷ js) [] e = absurd e
  every_each p q same (j ∷ js) (k ∷ ks) (l, e) = rw (same j k l, every_each p q same js ks e)

  pub empty_each : (js ks : List ℕ) → Each Like js ks → is_empty js ≡ is_empty ks
  empty_each [] [] e = refl
  empty_each [] (k ∷ ks) e = absurd e
  empty_each (j ∷ js) [] e = absurd e
  empty_each (j ∷ js) (k ∷ ks) e = refl
