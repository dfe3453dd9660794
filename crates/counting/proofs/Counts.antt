-- Requests counted one by one come to the numbers of the definitions.
use Rattle.octets.specs.Standard.{ℕ, zero, suc, ◌+◌, ◌%◌, ◌^◌, ◌<◌, max, arith, mod-eq_of_lt, zero-max, max-zero, zero-add, add-zero, ◌≡◌, refl, sym}
use Rattle.octets.specs.Standard.{ap, ◌∙◌, List, [], ◌∷◌, ◌++◌, length, get_or, length-replicate, get_or-replicate, ext_get_or, Bool, true, false, eqb}
use Rattle.octets.specs.Standard.{eqb-true, eqb-false}
use Rattle.counting.specs.Counted.{altered_in, largest_in, how_many, number_at, word_at, values_below, counts_of}
use Rattle.counting.specs.Counting.{AllFit, no_counts, counted, counted_all}
use Rattle.counting.specs.Event.{Event}
use Rattle.counting.proofs.Word.{counted_length, counted_at, counted_small, counted_largest}
use Rattle.counting.proofs.Numbers.{each_word, number_cell, number_more, word_largest, word_other}

pub all_length : (c : List ℕ) (es : List Event) → length (counted_all c es) ≡ length c
unfolding counted_all
all_length c [] = refl
all_length c (e ∷ es) = all_length (counted c e) es ∙ counted_length c e

-- the requests of one row, and then those of another
pub all_append : (c : List ℕ) (es fs : List Event) → counted_all c (es ++ fs) ≡ counted_all (counted_all c es) fs
unfolding counted_all
all_append c [] fs = refl
all_append c (e ∷ es) fs = all_append (counted c e) es fs

number_none : (j : ℕ) → (j ≡ 3 → ⊥) → number_at [] j ≡ 0
unfolding number_at altered_in how_many
number_none =
    each_word (λ (j : ℕ). (j ≡ 3 → ⊥) → number_at [] j ≡ 0) (λ n. refl) (λ n. refl) (λ n. refl) (λ n. absurd (n refl)) (λ n. refl)
    (λ j h n. number_cell [] j h)

module _ (j : ℕ) (n : j ≡ 3 → ⊥) where
  all_at : (c : List ℕ) (es : List Event) → length c ≡ 145 → AllFit es → get_or (counted_all c es) j 0 % 2 ^ 64 ≡ (get_or c j 0 + number_at es j) % 2 ^ 64
  unfolding counted_all
  all_at c [] l f = rw (number_none j n) (omega arith)
  all_at c (e ∷ es) l f =
      let q : get_or (counted_all (counted c e) es) j 0 % 2 ^ 64 ≡ (get_or (counted c e) j 0 + number_at es j) % 2 ^ 64 =
      all_at (counted c e) es (counted_length c e ∙ l) f.1 in
      omega (arith, q, counted_at c l e f.0 j n, number_more e es f.0 j n)

  all_small : (c : List ℕ) (es : List Event) → length c ≡ 145 → AllFit es → get_or c j 0 < 2 ^ 64 → get_or (counted_all c es) j 0 < 2 ^ 64
  unfolding counted_all
  all_small c [] l f s = s
  all_small c (e ∷ es) l f s = all_small (counted c e) es (counted_length c e ∙ l) f.1 (counted_small c l e f.0 j n s)

all_largest : (c : List ℕ) (es : List Event) → length c ≡ 145 → AllFit es → get_or (counted_all c es) 3 0 ≡ max (get_or c 3 0) (largest_in es)
unfolding counted_all largest_in
all_largest c [] l f = sym (max-zero (get_or c 3 0))
all_largest c (e ∷ es) l f =
    omega (arith, all_largest (counted c e) es (counted_length c e ∙ l) f.1, counted_largest c l e f.0)

values_length : (f : ℕ → ℕ) (i n : ℕ) → length (values_below f i n) ≡ n
unfolding values_below
values_length f i zero = refl
values_length f i (suc n) = ap suc (values_length f (suc i) n)

value_at : (f : ℕ → ℕ) (i n j : ℕ) → j < n → get_or (values_below f i n) j 0 ≡ f (i + j)
unfolding values_below
value_at f i zero j h = absurd (omega arith)
value_at f i (suc n) zero h = ap f (sym (add-zero i))
value_at f i (suc n) (suc j) h = let q : suc i + j ≡ i + suc j = omega arith in value_at f (suc i) n j (omega arith) ∙ ap f q

pub counts_length : (es : List Event) → length (counts_of es) ≡ 145
unfolding counts_of
counts_length es = values_length (word_at es) 0 145

pub counts_at : (es : List Event) (j : ℕ) → j < 145 → get_or (counts_of es) j 0 ≡ word_at es j
unfolding counts_of
counts_at es j h = value_at (word_at es) 0 145 j h ∙ ap (word_at es) (zero-add j)

-- from all words 0
pub none_length : length no_counts ≡ 145
none_length = length-replicate {A = ℕ} 145 0

module _ (es : List Event) (f : AllFit es) where
  from_none : (j : ℕ) → j < 145 → get_or (counted_all no_counts es) j 0 ≡ word_at es j
  from_none j h = go (eqb j 3) refl
    where
      z : get_or no_counts j 0 ≡ 0
      z = get_or-replicate 145 j 0 0 h

      go : (y : Bool) → eqb j 3 ≡ y → get_or (counted_all no_counts es) j 0 ≡ word_at es j
      go true e =
          rw (eqb-true j 3 e)
          (all_largest no_counts es (none_length) f ∙ zero-max (largest_in es) ∙ sym (word_largest es))
      go false e =
          let n : j ≡ 3 → ⊥ = eqb-false j 3 e in
          sym (mod-eq_of_lt (all_small j n no_counts es (none_length) f (rw z (omega arith))))
          ∙ all_at j n no_counts es (none_length) f
          ∙ rw (z, zero-add (number_at es j))
          (sym (word_other es j n))

  pub counted_counts : counted_all no_counts es ≡ counts_of es
  counted_counts =
      let l : length (counted_all no_counts es) ≡ 145 = all_length no_counts es ∙ none_length in
      ext_get_or 0 (counted_all no_counts es) (counts_of es) (l ∙ sym (counts_length es))
      (λ j h. from_none j (rw l at h) ∙ sym (counts_at es j (rw l at h)))
