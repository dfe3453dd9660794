-- Every result of a call has a column, and one of its own; and in two rows the column of B5012 counts none.
use Rattle.octets.specs.Standard.{ℕ, ◌+◌, ◌*◌, ◌%◌, ◌^◌, ◌≤◌, List, [], ◌∷◌, Bool, true, false, cond, ◌&&◌, ◌≡◌, refl, ap, ◌∙◌, ◌⊎◌, inl, inr, arith}
use Rattle.octets.specs.Standard.{length, eqb, eqb-true}
use Rattle.diameter.specs.Message.{command_of}
use Rattle.reading.specs.declared.Outcome.TheVariants.{Base}
use Rattle.counting.specs.Results.{base_results, index_in, command_row, column_of}
use Rattle.counting.specs.Counting.{listed, Listed}
use Rattle.counting.specs.Counted.{how_many}
use Rattle.counting.proofs.Numbers.{word_other}
use Rattle.calling.specs.Call.{Call, Answered, Refused}
use Rattle.calling.specs.Lent.{Lent, asking, dialect_in}
use Rattle.refusals.specs.Early.{check_value}
use Rattle.calling.specs.Serve.{check_of, result_of, serve_table}
use Rattle.demands.proofs.Unable.{unable_never}
use Rattle.reporting.specs.Row.{event_by, event_of, next, row}
use Rattle.reporting.specs.Report.{requests_of, reported_table}
use Rattle.deciding.proofs.Comes.{decide_carries}
use Rattle.reporting.proofs.Whole.{row_fits}
use Rattle.report_numbers.specs.Area.{word_in}
use Rattle.report_numbers.specs.Turns.{answered_in}
use Rattle.report_numbers.proofs.Table.{table_events}
use Rattle.report_numbers.proofs.Area.{report_word}
use Rattle.report_numbers.proofs.Cells.{answered_count, columns_apart}

pub result_listed : (x : Lent) → Listed (result_of x)
result_listed x = (decide_carries (dialect_in x) x.request x.table (check_value (check_of x)) x.vectors).result

pub column_own : (x y : Lent) → column_of (result_of x) ≡ column_of (result_of y) → result_of x ≡ result_of y
column_own x y = columns_apart (result_of x) (result_of y) (result_listed x) (result_listed y)

-- the rows of a UAR and of a LIR
row_command : (r c : ℕ) → (r ≡ 0) ⊎ (r ≡ 2) → command_row c ≡ r → (c ≡ 300) ⊎ (c ≡ 302)
unfolding command_row
row_command r c h e = go (eqb c 300) (eqb c 301) (eqb c 302) (eqb c 303) refl refl h e
  where
    go : (x y z w : Bool) → eqb c 300 ≡ x → eqb c 302 ≡ z → (r ≡ 0) ⊎ (r ≡ 2) → cond x 0 (cond y 1 (cond z 2 (cond w 3 4))) ≡ r → (c ≡ 300) ⊎ (c ≡ 302)
    go true y z w a b h e = inl (eqb-true c 300 a)
    go false true z w a b (inl h) e = absurd (omega arith)
    go false true z w a b (inr h) e = absurd (omega arith)
    go false false true w a b h e = inr (eqb-true c 302 b)
    go false false false true a b (inl h) e = absurd (omega arith)
    go false false false true a b (inr h) e = absurd (omega arith)
    go false false false false a b (inl h) e = absurd (omega arith)
    go false false false false a b (inr h) e = absurd (omega arith)

module _ (r : ℕ) (two : (r ≡ 0) ⊎ (r ≡ 2)) where
  result_other : (x : Lent) → command_row (command_of x.request) ≡ r → column_of (result_of x) ≡ 11 → ⊥
  unfolding column_of index_in base_results listed
  result_other x e f =
      unable_never (dialect_in x) x.request x.table (check_value (check_of x)) x.vectors (row_command r (command_of x.request) two e)
      (columns_apart (result_of x) (Base 5012) (result_listed x) refl f)

  event_other : (x : Lent) (c : Call) → answered_in r 11 (event_by x c) ≡ false
  event_other x (Answered a) = go (eqb (command_row (command_of x.request)) r) (eqb (column_of (result_of x)) 11) refl refl
    where
      go : (u v : Bool) → eqb (command_row (command_of x.request)) r ≡ u → eqb (column_of (result_of x)) 11 ≡ v → (u && v) ≡ false
      go true true e f = absurd (result_other x (eqb-true _ _ e) (eqb-true _ _ f))
      go true false e f = refl
      go false v e f = refl
  event_other x (Refused number besides) = refl

  row_other : (x : Lent) (ps : List (List ℕ)) → how_many (answered_in r 11) (row x ps) ≡ 0
  unfolding how_many row event_of
  row_other x [] = refl
  row_other x (p ∷ ps) = rw (event_other (asking x p) (serve_table (asking x p)).call, row_other (next x p) ps)

  pub unable_word : (x : Lent) (a : List ℕ) → 1160 ≤ length a → word_in (reported_table x a).area (20 + (25 * r + 11)) ≡ 0
  unable_word x a room = go two
    where
      few : (r ≡ 0) ⊎ (r ≡ 2) → r ≤ 2
      few (inl h) = omega arith
      few (inr h) = omega arith

      go : (r ≡ 0) ⊎ (r ≡ 2) → word_in (reported_table x a).area (20 + (25 * r + 11)) ≡ 0
      go h =
          let l = few h in
          report_word x a room (20 + (25 * r + 11)) (omega arith) (omega arith)
          ∙ word_other (table_events x) (20 + (25 * r + 11)) (omega arith)
          ∙ ap (λ (n : ℕ). n % 2 ^ 64) (answered_count (table_events x) (row_fits x (requests_of x)) r 11 (omega arith) ∙ row_other x (requests_of x))
