-- The numbers of a line: the turns of the loop that reads them.
use Rattle.octets.specs.Standard.{ℕ, ◌+◌, ◌<◌, ◌≤◌, Bool, true, false, ◌≡◌, refl, sym, ◌∙◌, ap, arith, add-one}
use Rattle.octets.specs.Standard.{List, [], ◌∷◌, ◌++◌, append_assoc, append-nil, length, take, drop, get_or, set, length-append}
use Rattle.octets.specs.Standard.{take_all, drop-cons, drop-drop, Option, none, some}
use lib.Seq.{take-suc-set}
use Rattle.decimals.specs.Decimal.{digit_count, decimal}
use Rattle.decimals.specs.declared.Number.{Number}
use Rattle.decimals.proofs.Sizes.{decimal_length}
use Rattle.rows.specs.Row.{numbers_line}
use Rattle.rows.specs.RowIn.{and_then, number_after, ends_line, numbers_in, limits}
use Rattle.std.specs.Prelude.{None, Some}
use Rattle.parsing.specs.Parsed.{given, number_behind, as_numbers}
use Rattle.parsing.proofs.Fields.{Given, given_some, given_none}

-- numbers before others that go on
abbrev and_numbers : List ℕ → Option (List ℕ) → Option (List ℕ)
and_numbers done none = none
and_numbers done (some vs) = some (done ++ vs)

and_none : (o : Option (List ℕ)) → o ≡ and_numbers [] o
and_none none = refl
and_none (some vs) = refl

and_more : (done : List ℕ) (v : ℕ) (o : Option (List ℕ)) → and_numbers done (and_then o (λ (vs : List ℕ). some (v ∷ vs))) ≡ and_numbers (done ++ (v ∷ [])) o
and_more done v none = refl
and_more done v (some vs) = ap some (sym (append_assoc done (v ∷ []) vs))

-- The first i numbers are read, and the rest goes on at place p.
pub record Reading (s : List ℕ) (at : ℕ) (out : List ℕ) (i p : ℕ) : Type 0 where
  pub place : p + 2 ≡ at + length (numbers_line (take i out))
  pub left : numbers_in limits (drop at s) ≡ and_numbers (take i out) (numbers_in (drop i limits) (drop p s))

module _ (s : List ℕ) (at : ℕ) where
  pub reading_none : (out : List ℕ) → Reading s at out 0 at
  unfolding numbers_line
  reading_none out = record { place = refl; left = and_none (numbers_in limits (drop at s)) }

  -- one number more
  lines_snoc : (ns : List ℕ) (v : ℕ) → length (numbers_line (ns ++ (v ∷ []))) ≡ length (numbers_line ns) + (1 + digit_count v)
  unfolding numbers_line
  lines_snoc [] v = omega (arith, length-append (decimal v) (13 ∷ 10 ∷ []), decimal_length v)
  lines_snoc (n ∷ ns) v =
      omega (arith, length-append (decimal n) (numbers_line ns), length-append (decimal n) (numbers_line (ns ++ (v ∷ []))), lines_snoc ns v)

  module _ (out : List ℕ) (i p : ℕ) (r : Reading s at out i p) (h : i < 18) where
    next : numbers_in (drop i limits) (drop p s)
        ≡ and_then (number_after (get_or limits i 0) (drop p s))
        (λ (v : ℕ). and_then (numbers_in (drop (i + 1) limits) (drop (1 + digit_count v) (drop p s))) (λ (vs : List ℕ). some (v ∷ vs)))
    unfolding numbers_in
    next = rw (add-one i, drop-cons limits i 0 h)

    pub not_read : None ≡ given number_behind (number_after (get_or limits i 0) (drop p s)) → None ≡ given (as_numbers at) (numbers_in limits (drop at s))
    not_read e =
        let f : number_after (get_or limits i 0) (drop p s) ≡ none = given_none number_behind _ e in
        let q : numbers_in (drop i limits) (drop p s) ≡ none = next ∙ rw f in
        let z : numbers_in limits (drop at s) ≡ none = r.left ∙ ap (and_numbers (take i out)) q in
        rw z

    pub reading_more : {n : Number} → Some n ≡ given number_behind (number_after (get_or limits i 0) (drop p s)) → length out ≡ 18
        → Reading s at (set out i n.value) (i + 1) (p + n.size)
    reading_more {n} e l = let g : Given number_behind (number_after (get_or limits i 0) (drop p s)) n = given_some number_behind _ e in go g.value n g.is g.made
      where
        go : (v : ℕ) (n : Number) → number_after (get_or limits i 0) (drop p s) ≡ some v → n ≡ number_behind v
            → Reading s at (set out i n.value) (i + 1) (p + n.size)
        go v n f made =
            let took : take (i + 1) (set out i v) ≡ take i out ++ (v ∷ []) = rw (add-one i) (take-suc-set out i v (omega arith)) in
            let after : Option (List ℕ) = numbers_in (drop (i + 1) limits) (drop (1 + digit_count v) (drop p s)) in
            let q : numbers_in (drop i limits) (drop p s) ≡ and_then after (λ (vs : List ℕ). some (v ∷ vs)) = next ∙ rw f in
            let l : numbers_in limits (drop at s) ≡ and_numbers (take i out ++ (v ∷ [])) after =
            r.left ∙ ap (and_numbers (take i out)) q ∙ and_more (take i out) v after in
            rw made
            (record {
              place = rw (took, lines_snoc (take i out) v) (omega (arith, r.place));
              left = l ∙ rw (drop-drop (1 + digit_count v) p s, took);
            })

  module _ (out : List ℕ) (i p : ℕ) (r : Reading s at out i p) (a : i ≤ 18) (b : 18 ≤ i) (l : length out ≡ 18) {x : Bool} (e : x ≡ ends_line (drop p s)) where
    eighteen : i ≡ 18
    eighteen = omega arith

    whole : take i out ≡ out
    whole = take_all i out (omega arith)

    pub ended : x ≡ true → Some (record { numbers = out; end = p + 2 }) ≡ given (as_numbers at) (numbers_in limits (drop at s))
    unfolding numbers_in
    ended t =
        let k : ends_line (drop p s) ≡ true = sym e ∙ t in
        let o : numbers_in limits (drop at s) ≡ some out = r.left ∙ rw (whole, eighteen, k, append-nil out) in
        let z : p + 2 ≡ at + length (numbers_line out) = r.place ∙ rw whole in
        rw (o, z)

    pub unended : x ≡ false → None ≡ given (as_numbers at) (numbers_in limits (drop at s))
    unfolding numbers_in
    unended t =
        let k : ends_line (drop p s) ≡ false = sym e ∙ t in
        let o : numbers_in limits (drop at s) ≡ none = r.left ∙ rw (whole, eighteen, k) in
        rw o
