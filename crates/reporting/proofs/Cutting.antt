-- A file of requests is cut: the first piece, and the rest of the file behind it.
use Rattle.octets.specs.Standard.{ℕ, ◌≢◌, zero, suc, ◌≤◌, ◌<◌, List, [], ◌∷◌, Bool, true, false, cond, ◌||◌, ◌≡◌, refl, ap, ◌∙◌, arith, length, take, drop}
use Rattle.octets.specs.Standard.{length-drop, ltb, lt-ltb, le-ltb, ltb-false}
use Rattle.octets.specs.Number.{be24_at}
use Rattle.refusals.proofs.Passing.{neither}
use Rattle.reporting.specs.Pieces.{broken, pieces_in, pieces}
use Rattle.reporting.specs.Run.{first_length}

-- where a request stands: its length is at least 20 and it ends within the file
record Whole (s : List ℕ) : Type 0 where
  least : 20 ≤ be24_at s 1
  most : be24_at s 1 ≤ length s

whole : (s : List ℕ) → broken s ≡ false → Whole s
unfolding broken
whole s e =
    let a = (neither (ltb (length s) 4) _ e).1 in
    let b = neither (ltb (be24_at s 1) 20) (ltb (length s) (be24_at s 1)) a in
    record { least = ltb-false (be24_at s 1) 20 b.0; most = ltb-false (length s) (be24_at s 1) b.1 }

used_up : (s : List ℕ) → length s ≤ 0 → broken s ≡ true
unfolding broken
used_up s h = rw (lt-ltb (length s) 4 (omega arith))

-- any number of pieces that is enough gives the same
enough : (m n : ℕ) (s : List ℕ) → length s ≤ m → length s ≤ n → pieces_in m s ≡ pieces_in n s
unfolding pieces_in
enough zero zero s a b = refl
enough zero (suc n) s a b = rw (used_up s a)
enough (suc m) zero s a b = rw (used_up s b)
enough (suc m) (suc n) s a b = go (broken s) refl (enough m n (drop (be24_at s 1) s))
  where
    shorter : Whole s → (k : ℕ) → length s ≤ suc k → length (drop (be24_at s 1) s) ≤ k
    shorter w k h = rw length-drop (omega (arith, w.least))

    go : (x : Bool) → broken s ≡ x
        → (length (drop (be24_at s 1) s) ≤ m → length (drop (be24_at s 1) s) ≤ n → pieces_in m (drop (be24_at s 1) s) ≡ pieces_in n (drop (be24_at s 1) s))
        → cond x [] (take (be24_at s 1) s ∷ pieces_in m (drop (be24_at s 1) s)) ≡ cond x [] (take (be24_at s 1) s ∷ pieces_in n (drop (be24_at s 1) s))
    go true e more = refl
    go false e more = ap (λ (ps : List (List ℕ)). take (be24_at s 1) s ∷ ps) (more (shorter (whole s e) m a) (shorter (whole s e) n b))

pub pieces_none : (s : List ℕ) → broken s ≡ true → pieces s ≡ []
unfolding pieces_in
pieces_none s e = go (length s)
  where
    go : (n : ℕ) → pieces_in n s ≡ []
    go zero = refl
    go (suc n) = rw e

pub pieces_first : (s : List ℕ) → broken s ≡ false → pieces s ≡ take (be24_at s 1) s ∷ pieces (drop (be24_at s 1) s)
unfolding pieces_in
pieces_first s e = enough (length s) (suc (length s)) s (omega arith) (omega arith) ∙ rw e (ap (λ (ps : List (List ℕ)). take (be24_at s 1) s ∷ ps) same)
  where
    same : pieces_in (length s) (drop (be24_at s 1) s) ≡ pieces (drop (be24_at s 1) s)
    same = enough (length s) (length (drop (be24_at s 1) s)) (drop (be24_at s 1) s) (rw length-drop (omega arith)) (omega arith)

-- by the length of the first
record First (s : List ℕ) (n : ℕ) : Type 0 where
  stands : broken s ≡ false
  is : n ≡ be24_at s 1
  least : 20 ≤ n
  most : n ≤ length s

first_is : (s : List ℕ) {n : ℕ} → n ≡ first_length s → (n ≡ 0 → ⊥) → First s n
unfolding first_length
first_is s {n} e z = go (broken s) refl e
  where
    go : (x : Bool) → broken s ≡ x → n ≡ cond x 0 (be24_at s 1) → First s n
    go true f g = absurd (z g)
    go false f g = let w = whole s f in record { stands = f; is = g; least = rw g w.least; most = rw g w.most }

pub first_least : (s : List ℕ) {n : ℕ} → n ≡ first_length s → (n ≡ 0 → ⊥) → 20 ≤ n
first_least s e z = (first_is s e z).least

pub first_cut : (s : List ℕ) {n : ℕ} → n ≡ first_length s → (n ≡ 0 → ⊥) → pieces s ≡ take n s ∷ pieces (drop n s)
first_cut s {n} e z = let f = first_is s e z in rw f.is (pieces_first s f.stands)

pub first_none : (s : List ℕ) {n : ℕ} → n ≡ first_length s → n ≡ 0 → pieces s ≡ []
unfolding first_length
first_none s {n} e z = go (broken s) refl e
  where
    go : (x : Bool) → broken s ≡ x → n ≡ cond x 0 (be24_at s 1) → pieces s ≡ []
    go true f g = pieces_none s f
    go false f g = absurd (omega (arith, g, (whole s f).least))

pub past_none : (s : List ℕ) → length s ≤ 0 → pieces s ≡ []
past_none s h = pieces_none s (used_up s h)

-- the code's tests
module _ (s : List ℕ) where
  pub short_none : length s < 4 → first_length s ≡ 0
  unfolding first_length broken
  short_none h = rw (lt-ltb (length s) 4 h)

  module _ (long : 4 ≤ length s) {n : ℕ} (is : n ≡ be24_at s 1) where
    pub other_none : (ltb n 20 || ltb (length s) n) ≡ true → first_length s ≡ 0
    unfolding first_length broken
    other_none h = rw (le_four, ← is, h)
      where
        le_four : ltb (length s) 4 ≡ false
        le_four = le-ltb (length s) 4 long

    pub length_first : (ltb n 20 || ltb (length s) n) ≡ false → n ≡ first_length s
    unfolding first_length broken
    length_first h = rw (le-ltb (length s) 4 long, ← is, h)

    pub first_some : (ltb n 20 || ltb (length s) n) ≡ false → n ≢ 0
    first_some h z = let least : 20 ≤ n = ltb-false n 20 (neither (ltb n 20) (ltb (length s) n) h).0 in omega arith

    pub first_within : (ltb n 20 || ltb (length s) n) ≡ false → n ≤ length s
    first_within h = ltb-false (length s) n (neither (ltb n 20) (ltb (length s) n) h).1
