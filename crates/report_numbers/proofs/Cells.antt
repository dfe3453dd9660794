-- What a word from the sixth on counts: one refusal, or one result of one row of commands.
use Rattle.octets.specs.Standard.{ℕ, suc, ◌≤◌, ◌<◌, List, [], ◌∷◌, Bool, true, false, cond, ◌&&◌, false≢true, ◌≡◌, refl, sym, ap, ◌∙◌, arith, length}
use Rattle.octets.specs.Standard.{get_or, eqb, eqb-true, eq-eqb, ne_eqb, ltb-true}
use Rattle.octets.proofs.All.{and_left, and_right}
use Rattle.octets.proofs.Chains.{◌also◌}
use Rattle.reading.specs.declared.Outcome.{Outcome}
use Rattle.reading.specs.declared.Outcome.TheVariants.{Base, Experimental}
use Rattle.counting.specs.Results.{base_results, experimental_results, index_in, command_row, column_of}
use Rattle.counting.specs.Counting.{listed, Listed, Fits, AllFit}
use Rattle.counting.specs.Counted.{cell_of, stands_in, how_many, number_at}
use Rattle.counting.specs.Layout.{refusal_word, cell_word}
use Rattle.counting.specs.Event.{Event}
use Rattle.std.specs.Prelude.{Ok, Err}
use Rattle.counting.proofs.Columns.{listed_column}
use Rattle.counting.proofs.Numbers.{number_cell}
use Rattle.report_numbers.specs.Turns.{refused_by, answered_in}

many_alike : (p q : Event → Bool) (es : List Event) → AllFit es → ((e : Event) → Fits e → p e ≡ q e) → how_many p es ≡ how_many q es
unfolding how_many
many_alike p q [] f h = refl
many_alike p q (e ∷ es) f h = rw (h e f.0, many_alike p q es f.1 h)

-- equal exactly if other numbers are
pub same_test : (a b : ℕ) (c : Bool) → (a ≡ b → c ≡ true) → (c ≡ true → a ≡ b) → eqb a b ≡ c
same_test a b true f g = eq-eqb a b (g refl)
same_test a b false f g = ne_eqb a b (λ e. let z : false ≡ true = f e in false≢true z)

refused_there : (n : ℕ) → n ≤ 15 → (e : Event) → Fits e → stands_in (refusal_word n) e ≡ refused_by n e
unfolding cell_of
refused_there n h (Ok e) f =
    let other : cell_word (command_row e.command) (column_of e.result) ≡ refusal_word n → ⊥ = λ q. omega (arith, q) in
    ne_eqb (cell_word (command_row e.command) (column_of e.result)) (refusal_word n) other
refused_there n h (Err m) f = same_test (refusal_word m) (refusal_word n) (eqb m n) (λ q. eq-eqb m n (omega (arith, q))) (λ q. omega (arith, eqb-true m n q))

answered_there : (r c : ℕ) → c < 25 → (e : Event) → Fits e → stands_in (cell_word r c) e ≡ answered_in r c e
unfolding cell_of
answered_there r c h (Ok e) f =
    let row = command_row e.command in
    let column = column_of e.result in
    let l : column < 25 = listed_column e.result f in
    same_test (cell_word row column) (cell_word r c) (eqb row r && eqb column c)
    (λ q. eq-eqb row r (omega (arith, q, l)) also eq-eqb column c (omega (arith, q, l)))
    (λ q.
    omega (
      arith,
      eqb-true row r (and_left (eqb row r) (eqb column c) q),
      eqb-true column c (and_right (eqb row r) (eqb column c) q),
    ))
answered_there r c h (Err m) f =
    let other : refusal_word m ≡ cell_word r c → ⊥ = λ q. omega (arith, q, f.1) in
    ne_eqb (refusal_word m) (cell_word r c) other

module _ (es : List Event) (f : AllFit es) where
  pub refused_count : (n : ℕ) → 1 ≤ n → n ≤ 15 → number_at es (refusal_word n) ≡ how_many (refused_by n) es
  refused_count n l h = number_cell es (refusal_word n) (omega arith) ∙ many_alike (stands_in (refusal_word n)) (refused_by n) es f (refused_there n h)

  pub answered_count : (r c : ℕ) → c < 25 → number_at es (cell_word r c) ≡ how_many (answered_in r c) es
  answered_count r c h =
      number_cell es (cell_word r c) (omega arith) ∙ many_alike (stands_in (cell_word r c)) (answered_in r c) es f (answered_there r c h)

-- "each result, B and X apart": no two have one column
index_at : (n : ℕ) (xs : List ℕ) → index_in n xs < length xs → get_or xs (index_in n xs) 0 ≡ n
unfolding index_in
index_at n [] h = absurd (omega arith)
index_at n (x ∷ xs) h = go (eqb n x) refl h (index_at n xs)
  where
    go : (b : Bool) → eqb n x ≡ b → cond b 0 (suc (index_in n xs)) < suc (length xs)
        → (index_in n xs < length xs → get_or xs (index_in n xs) 0 ≡ n) → get_or (x ∷ xs) (cond b 0 (suc (index_in n xs))) 0 ≡ n
    go true e l more = sym (eqb-true n x e)
    go false e l more = more (omega arith)

index_apart : (m n : ℕ) (xs : List ℕ) → index_in m xs < length xs → index_in n xs < length xs → index_in m xs ≡ index_in n xs → m ≡ n
index_apart m n xs h l e = sym (index_at m xs h) ∙ ap (λ (i : ℕ). get_or xs i 0) e ∙ index_at n xs l

few : length base_results ≡ 13
unfolding base_results
few = refl

pub columns_apart : (o p : Outcome) → Listed o → Listed p → column_of o ≡ column_of p → o ≡ p
unfolding column_of listed
columns_apart (Base m) (Base n) h l e = ap Base (index_apart m n base_results (ltb-true _ _ h) (ltb-true _ _ l) e)
columns_apart (Base m) (Experimental n) h l e = absurd (omega (arith, ltb-true (index_in m base_results) (length base_results) h, e, few))
columns_apart (Experimental m) (Base n) h l e = absurd (omega (arith, ltb-true (index_in n base_results) (length base_results) l, e, few))
columns_apart (Experimental m) (Experimental n) h l e =
    ap Experimental (index_apart m n experimental_results (ltb-true _ _ h) (ltb-true _ _ l) (omega (arith, e)))
