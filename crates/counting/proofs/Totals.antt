-- "the row totals add up to the requests read".
use Rattle.octets.specs.Standard.{ℕ, zero, suc, ◌+◌, ◌≤◌, ◌<◌, arith, zero-add, suc-add, add-zero, Bool, true, false, cond, ◌≡◌, refl, ◌∙◌, List, []}
use Rattle.octets.specs.Standard.{◌∷◌, length, eqb, eqb-true, eqb-false, ne_eqb}
use Rattle.counting.specs.Counted.{cell_of, is_answered, stands_in, how_many, number_at}
use Rattle.counting.specs.Counting.{Fits, AllFit}
use Rattle.counting.specs.Totals.{sum_from, row_totals, refusal_total}
use Rattle.counting.specs.Event.{Event}
use Rattle.std.specs.Prelude.{Ok, Err}
use Rattle.counting.proofs.Cells.{cell_above, cell_below}
use Rattle.counting.proofs.Numbers.{number_cell}

module _ (f g : ℕ → ℕ) where
  sum_add : (i n : ℕ) → sum_from (λ (k : ℕ). f k + g k) i n ≡ sum_from f i n + sum_from g i n
  unfolding sum_from
  sum_add i zero = refl
  sum_add i (suc n) = omega (arith, sum_add (suc i) n)

  pub sum_alike : (i n : ℕ) → ((k : ℕ) → i ≤ k → k < i + n → f k ≡ g k) → sum_from f i n ≡ sum_from g i n
  unfolding sum_from
  sum_alike i zero h = refl
  sum_alike i (suc n) h = omega (arith, h i (omega arith) (omega arith), sum_alike (suc i) n (λ k l m. h k (omega arith) (omega arith)))

sum_split : (f : ℕ → ℕ) (i m n : ℕ) → sum_from f i (m + n) ≡ sum_from f i m + sum_from f (i + m) n
unfolding sum_from
sum_split f i zero n = rw (zero-add n, add-zero i, zero-add (sum_from f i n))
sum_split f i (suc m) n =
    let q : suc i + m ≡ i + suc m = omega arith in
    rw (suc-add m n, ← q) (omega (arith, sum_split f (suc i) m n))

-- a number stands once in a range that it is in, and not in another
module _ (k : ℕ) where
  abbrev one : ℕ → ℕ
  one i = cond (eqb k i) 1 0

  sum_before : (i n : ℕ) → k < i → sum_from one i n ≡ 0
  unfolding sum_from
  sum_before i zero h = refl
  sum_before i (suc n) h = rw (ne_eqb k i (omega arith)) (omega (arith, sum_before (suc i) n (omega arith)))

  sum_once : (i n : ℕ) → i ≤ k → k < i + n → sum_from one i n ≡ 1
  unfolding sum_from
  sum_once i zero h l = absurd (omega arith)
  sum_once i (suc n) h l = go (eqb k i) refl (λ m. sum_once (suc i) n m (omega arith))
    where
      above : (k ≡ i → ⊥) → suc i ≤ k
      above m = omega arith

      go : (b : Bool) → eqb k i ≡ b → (suc i ≤ k → sum_from one (suc i) n ≡ 1) → cond b 1 0 + sum_from one (suc i) n ≡ 1
      go true e later = let q : k ≡ i = eqb-true k i e in omega (arith, sum_before (suc i) n (omega (arith, q)))
      go false e later = omega (arith, later (above (eqb-false k i e)))

sum_none : (i n : ℕ) → sum_from (λ (k : ℕ). 0) i n ≡ 0
unfolding sum_from
sum_none i zero = refl
sum_none i (suc n) = omega (arith, sum_none (suc i) n)

abbrev cells : List Event → ℕ → ℕ
cells es i = how_many (stands_in i) es

cells_more : (e : Event) (es : List Event) (i n : ℕ) → sum_from (cells (e ∷ es)) i n ≡ sum_from (one (cell_of e)) i n + sum_from (cells es) i n
unfolding how_many
cells_more e es i n = sum_add (one (cell_of e)) (cells es) i n

cells_none : (i n : ℕ) → sum_from (cells []) i n ≡ 0
unfolding how_many
cells_none i n = sum_none i n

cells_read : (es : List Event) → AllFit es → sum_from (cells es) 5 140 ≡ length es
cells_read [] f = cells_none 5 140
cells_read (e ∷ es) f =
    omega (
      arith,
      cells_more e es 5 140,
      sum_once (cell_of e) 5 140 (cell_above e f.0) (cell_below e f.0),
      cells_read es f.1,
    )

cells_answered : (es : List Event) → AllFit es → sum_from (cells es) 20 125 ≡ how_many is_answered es
unfolding how_many cell_of
cells_answered [] f = cells_none 20 125
cells_answered (e ∷ es) f = cells_more e es 20 125 ∙ go e f.0 (cells_answered es f.1)
  where
    go : (e : Event) → Fits e → sum_from (cells es) 20 125 ≡ how_many is_answered es
        → sum_from (one (cell_of e)) 20 125 + sum_from (cells es) 20 125 ≡ cond (is_answered e) 1 0 + how_many is_answered es
    go (Ok a) g q = omega (arith, q, sum_once (cell_of (Ok a)) 20 125 (omega arith) (cell_below (Ok a) g))
    go (Err n) g q = omega (arith, q, sum_before (cell_of (Err n)) 20 125 (omega (arith, g.1)))

module _ (es : List Event) (f : AllFit es) where
  rows_cells : row_totals es ≡ sum_from (number_at es) 20 125
  rows_cells =
      omega (
        arith,
        sum_split (number_at es) 20 25 100,
        sum_split (number_at es) 45 25 75,
        sum_split (number_at es) 70 25 50,
        sum_split (number_at es) 95 25 25,
      )

  -- the rows alone are the requests that were answered
  pub rows_answered : row_totals es ≡ number_at es 4
  unfolding number_at
  rows_answered = rows_cells ∙ sum_alike (number_at es) (cells es) 20 125 (λ k h l. number_cell es k (omega arith)) ∙ cells_answered es f

  pub totals_read : row_totals es + refusal_total es ≡ length es
  totals_read =
      omega (
        arith,
        rows_cells,
        sum_split (number_at es) 5 15 125,
        sum_alike (number_at es) (cells es) 5 140 (λ k h l. number_cell es k h),
        cells_read es f,
      )
