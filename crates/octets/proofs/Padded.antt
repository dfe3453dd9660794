-- Two names that stand in fields of one length, with zeros past them: the fields' order tells theirs, and where the fields are the same their lengths do.
use Rattle.octets.specs.Standard.{ℕ, zero, suc, ◌≤◌, Bool, true, false, cond, ◌≡◌, refl, List, [], ◌∷◌, arith, ltb, length, get_or, take, lt-ltb}
use Rattle.octets.specs.Standard.{le-ltb, ltb-true, ltb-false}
use Rattle.octets.proofs.Names.{never}
use Rattle.octets.specs.Name.{order_of, by_length}
use Rattle.std.specs.declared.cmp.Ordering.{Ordering}
use Rattle.std.specs.declared.cmp.Ordering.TheVariants.{Less, Equal, Greater}

abbrev pub by_field : Ordering → Ordering → Ordering
by_field Less o = Less
by_field Equal o = o
by_field Greater o = Greater

-- No name comes before none, and none after another.
empty_first : {A : Type 0} (u : List ℕ) → order_of [] u ≡ Greater → A
unfolding order_of
empty_first [] e = never cc
empty_first (x ∷ u) e = never cc

empty_last : {A : Type 0} (u : List ℕ) → order_of u [] ≡ Less → A
unfolding order_of
empty_last [] e = never cc
empty_last (x ∷ u) e = never cc

lengths_more : (m n : ℕ) → by_length (suc m) (suc n) ≡ by_length m n
lengths_more m n = go (ltb m n) (ltb n m) refl refl
  where
    go : (a b : Bool) → ltb m n ≡ a → ltb n m ≡ b → by_length (suc m) (suc n) ≡ by_length m n
    go true b e f = rw (e, lt-ltb (suc m) (suc n) (omega (arith, ltb-true m n e)))
    go false true e f = rw (e, f, le-ltb (suc m) (suc n) (omega (arith, ltb-false m n e)), lt-ltb (suc n) (suc m) (omega (arith, ltb-true n m f)))
    go false false e f =
        rw (e, f, le-ltb (suc m) (suc n) (omega (arith, ltb-false m n e)), le-ltb (suc n) (suc m) (omega (arith, ltb-false n m f)))

pub padded_order : (s t : List ℕ) (m n : ℕ) → length s ≡ length t → m ≤ length s → n ≤ length t → ((i : ℕ) → m ≤ i → get_or s i 0 ≡ 0)
    → ((i : ℕ) → n ≤ i → get_or t i 0 ≡ 0) → order_of (take m s) (take n t) ≡ by_field (order_of s t) (by_length m n)
unfolding order_of
padded_order [] [] m n l a b z w = let e : m ≡ 0 = omega arith in let f : n ≡ 0 = omega arith in rw (e, f)
padded_order [] (y ∷ t) m n l a b z w = absurd (omega arith)
padded_order (x ∷ s) [] m n l a b z w = absurd (omega arith)
padded_order (x ∷ s) (y ∷ t) zero zero l a b z w =
    rw (z 0 (omega arith), w 0 (omega arith))
    (padded_order s t 0 0 (omega arith) (omega arith) (omega arith) (λ i h. z (suc i) (omega arith)) (λ i h. w (suc i) (omega arith)))
padded_order (x ∷ s) (y ∷ t) zero (suc n) l a b z w =
    rw (z 0 (omega arith))
    (go (ltb 0 y) refl (order_of s t)
    (padded_order s t 0 n (omega arith) (omega arith) (omega arith) (λ i h. z (suc i) (omega arith)) (λ i h. w (suc i) (omega arith))))
  where
    go : (c : Bool) → ltb 0 y ≡ c → (o : Ordering) → order_of [] (take n t) ≡ by_field o (by_length 0 n)
        → Less ≡ by_field (cond (ltb 0 y) Less (cond (ltb y 0) Greater o)) (by_length 0 (suc n))
    go true e o f = rw e
    go false e Less f = rw (e, le-ltb y 0 (omega arith))
    go false e Equal f = rw (e, le-ltb y 0 (omega arith), lt-ltb 0 (suc n) (omega arith))
    go false e Greater f = empty_first (take n t) f
padded_order (x ∷ s) (y ∷ t) (suc m) zero l a b z w =
    rw (w 0 (omega arith))
    (go (ltb 0 x) refl (order_of s t)
    (padded_order s t m 0 (omega arith) (omega arith) (omega arith) (λ i h. z (suc i) (omega arith)) (λ i h. w (suc i) (omega arith))))
  where
    go : (c : Bool) → ltb 0 x ≡ c → (o : Ordering) → order_of (take m s) [] ≡ by_field o (by_length m 0)
        → Greater ≡ by_field (cond (ltb x 0) Less (cond (ltb 0 x) Greater o)) (by_length (suc m) 0)
    go true e o f = rw (e, le-ltb x 0 (omega arith))
    go false e Less f = empty_last (take m s) f
    go false e Equal f = rw (e, le-ltb x 0 (omega arith), le-ltb (suc m) 0 (omega arith), lt-ltb 0 (suc m) (omega arith))
    go false e Greater f = rw (e, le-ltb x 0 (omega arith))
padded_order (x ∷ s) (y ∷ t) (suc m) (suc n) l a b z w =
    rw (lengths_more m n)
    (go (ltb x y) (ltb y x)
    (padded_order s t m n (omega arith) (omega arith) (omega arith) (λ i h. z (suc i) (omega arith)) (λ i h. w (suc i) (omega arith))))
  where
    go : (c d : Bool) → order_of (take m s) (take n t) ≡ by_field (order_of s t) (by_length m n)
        → cond c Less (cond d Greater (order_of (take m s) (take n t))) ≡ by_field (cond c Less (cond d Greater (order_of s t))) (by_length m n)
    go true d e = refl
    go false true e = refl
    go false false e = e
