-- Parts of a list: none, one that is cut at the list's end, parts that are alike, and one that others take the place of.
use Rattle.octets.specs.Standard.{ℕ, ◌+◌, ◌-◌, ◌<◌, ◌≤◌, min, ◌≡◌, refl, sym, ◌∙◌, ap, Bool, true, false, List, [], ◌∷◌, ◌++◌, arith, leb}
use Rattle.octets.specs.Standard.{length, get_or, take, drop, length-take, length-drop, length-append, get_or-append, take_all, take_at}
use Rattle.octets.specs.Standard.{drop_at, length-take-le, get_or-take, get_or-drop, get_or-append-add, ext_get_or, leb-true, leb-false}

pub nothing : (s : List ℕ) → length s ≤ 0 → s ≡ []
nothing [] h = refl
nothing (x ∷ s) h = absurd (omega arith)

pub part_cut : (s : List ℕ) (at n to size : ℕ) → length s ≡ size → at ≤ size → to ≡ min (at + n) (length s) → take (to - at) (drop at s) ≡ take n (drop at s)
part_cut s at n to size whole h e = go (leb (at + n) (length s)) refl
  where
    go : (x : Bool) → leb (at + n) (length s) ≡ x → take (to - at) (drop at s) ≡ take n (drop at s)
    go true f = let k : to - at ≡ n = omega (arith, leb-true (at + n) (length s) f) in ap (λ (m : ℕ). take m (drop at s)) k
    go false f =
        take_all (to - at) (drop at s) (omega (arith, length-drop at s, leb-false (at + n) (length s) f))
        ∙ sym (take_all n (drop at s) (omega (arith, length-drop at s, leb-false (at + n) (length s) f)))

pub part_short : (s : List ℕ) (at n most to : ℕ) → n ≤ most → to ≡ min (at + n) (length s) → length (take (to - at) (drop at s)) ≤ most
part_short s at n most to h e = simp length-take (omega arith)

pub part_alike : (x y : List ℕ) (at n : ℕ) → length x ≡ length y → ((i : ℕ) → at ≤ i → i < at + n → get_or x i 0 ≡ get_or y i 0)
    → take n (drop at x) ≡ take n (drop at y)
part_alike x y at n e h =
    ext_get_or 0 (take n (drop at x)) (take n (drop at y)) (simp (length-take, length-drop, e))
    (λ i l.
    let k : i < n = omega (arith, simp length-take at l) in
    rw (get_or-take n (drop at x) i 0 k, get_or-take n (drop at y) i 0 k, get_or-drop at x i 0, get_or-drop at y i 0) (h (at + i) (omega arith) (omega arith)))

-- A list with y in the place of as many elements from a place on.
abbrev pub spliced : List ℕ → ℕ → List ℕ → List ℕ
spliced t at y = take at t ++ (y ++ drop (at + length y) t)

module _ (t : List ℕ) (at : ℕ) (y : List ℕ) (fits : at + length y ≤ length t) where
  front : length (take at t) ≡ at
  front = length-take-le at t (omega arith)

  pub spliced_part : take (length y) (drop at (spliced t at y)) ≡ y
  spliced_part = rw (drop_at (take at t) (y ++ drop (at + length y) t) at front, take_at y (drop (at + length y) t) (length y))

  pub spliced_length : length (spliced t at y) ≡ length t
  spliced_length = simp (length-append, length-take, length-drop) (omega arith)

  pub spliced_before : (i : ℕ) → i < at → get_or (spliced t at y) i 0 ≡ get_or t i 0
  spliced_before i h =
      let k : i < length (take at t) = simp length-take (omega arith) in
      rw (get_or-append (take at t) (y ++ drop (at + length y) t) 0 i k, get_or-take at t i 0 h)

  pub spliced_after : (i : ℕ) → at + length y ≤ i → get_or (spliced t at y) i 0 ≡ get_or t i 0
  spliced_after i h =
      let n : i ≡ length (take at t) + (length y + (i - (at + length y))) = omega (arith, front) in
      let m : at + length y + (i - (at + length y)) ≡ i = omega arith in
      ap (λ (j : ℕ). get_or (spliced t at y) j 0) n
      ∙ get_or-append-add (take at t) (y ++ drop (at + length y) t) (length y + (i - (at + length y))) 0
      ∙ get_or-append-add y (drop (at + length y) t) (i - (at + length y)) 0
      ∙ get_or-drop (at + length y) t (i - (at + length y)) 0
      ∙ ap (λ (j : ℕ). get_or t j 0) m
