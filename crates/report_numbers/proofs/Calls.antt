-- The calls of a report in turn: two rows of them, the records altered, the largest answer.
use Rattle.octets.specs.Standard.{ℕ, suc, ◌*◌, ◌≤◌, max, List, [], ◌∷◌, ◌++◌, Bool, true, false, ◌≡◌, refl, sym, ap, ◌∙◌, ◌⊎◌, inl, inr, arith}
use Rattle.octets.specs.Standard.{length, leb, leb-true, leb-false}
use Rattle.rewrite.specs.Change.{altered_up_to}
use Rattle.deciding.proofs.Room.{answer_most}
use Rattle.counting.specs.Counted.{altered_in, largest_in}
use Rattle.counting.specs.Event.{Event}
use Rattle.counting.proofs.Numbers.{largest_append}
use Rattle.rewrite.proofs.Counts.{altered_none, altered_most}
use Rattle.calling.specs.Call.{Call, Answered, Refused}
use Rattle.calling.specs.Lent.{Lent, asking, dialect_in}
use Rattle.refusals.specs.Early.{check_value}
use Rattle.calling.specs.Serve.{Served, check_of, refused, answered_by, serve_table}
use Rattle.refusals.proofs.Passing.{size_least, size_most, length_even}
use Rattle.calling.proofs.Kept.{serve_by_lem}
use Rattle.demands.proofs.Firm.{check_most}
use Rattle.reporting.specs.Row.{records_altered, event_by, event_of, next, row, left}
use Rattle.report_numbers.specs.Turns.{InTurn, call_length}
use Rattle.report_numbers.proofs.Table.{table_call, table_altered}
use Rattle.counting.specs.Counted as counted

-- Two rows of requests.
pub row_append : (x : Lent) (ps qs : List (List ℕ)) → row x (ps ++ qs) ≡ row x ps ++ row (left x ps) qs
unfolding row left
row_append x [] qs = refl
row_append x (p ∷ ps) qs = ap (λ (es : List Event). event_of (asking x p) ∷ es) (row_append (next x p) ps qs)

pub left_append : (x : Lent) (ps qs : List (List ℕ)) → left x (ps ++ qs) ≡ left (left x ps) qs
unfolding left
left_append x [] qs = refl
left_append x (p ∷ ps) qs = left_append (next x p) ps qs

-- the call of a request in its place
pub row_at : (x : Lent) (ps : List (List ℕ)) (p : InTurn ps)
    → row x ps ≡ row x p.before ++ (event_of (table_call x p) ∷ row (left x (p.before ++ (p.request ∷ []))) p.after)
unfolding row left
row_at x ps p =
    let one : left x (p.before ++ (p.request ∷ [])) ≡ next (left x p.before) p.request = left_append x p.before (p.request ∷ []) in
    ap (row x) p.is ∙ row_append x p.before (p.request ∷ p.after) ∙ rw one

pub row_length : (x : Lent) (ps : List (List ℕ)) → length (row x ps) ≡ length ps
unfolding row
row_length x [] = refl
row_length x (p ∷ ps) = ap suc (row_length (next x p) ps)

-- the file itself does not matter, and the profile file stays
pub row_other : (x : Lent) (q : List ℕ) (ps : List (List ℕ)) → row (asking x q) ps ≡ row x ps
unfolding row next
row_other x q [] = refl
row_other x q (p ∷ ps) = ap (λ (es : List Event). event_of (asking x p) ∷ es) (row_other (next x p) q ps)

pub left_other : (x : Lent) (q : List ℕ) (ps : List (List ℕ)) → left (asking x q) ps ≡ asking (left x ps) q
unfolding left next
left_other x q [] = refl
left_other x q (p ∷ ps) = left_other (next x p) q ps

pub left_terms : (x : Lent) (ps : List (List ℕ)) → (left x ps).terms ≡ x.terms
unfolding left next
left_terms x [] = refl
left_terms x (p ∷ ps) = left_terms (next x p) ps

pub left_profile : (x : Lent) (ps : List (List ℕ)) → (left x ps).profile ≡ x.profile
unfolding left next
left_profile x [] = refl
left_profile x (p ∷ ps) = left_profile (next x p) ps

-- Records altered: a refusal alters none.
pub same_altered : (x : Lent) → (serve_table x).table ≡ x.table → records_altered x ≡ 0
same_altered x e = ap (λ (t : List ℕ). altered_up_to x.table t (check_value (check_of x))) e ∙ altered_none x.table (check_value (check_of x))

event_altered : (x : Lent) → counted.altered_by (event_of x) ≡ records_altered x
unfolding event_of refused answered_by
event_altered x =
    serve_by_lem x (λ (s : Served). serve_table x ≡ s → counted.altered_by (event_by x s.call) ≡ records_altered x)
    (λ r a b e. sym (same_altered x (ap (λ (s : Served). s.table) e)))
    (λ k e. refl)
    refl

pub row_altered : (x : Lent) (ps : List (List ℕ)) → altered_in (row x ps) ≡ table_altered x ps
unfolding row altered_in table_altered
row_altered x [] = refl
row_altered x (p ∷ ps) = omega (arith, event_altered (asking x p), row_altered (next x p) ps)

-- at most all of 4,096 a call
pub over_most : (x : Lent) (ps : List (List ℕ)) → table_altered x ps ≤ 4096 * length ps
unfolding table_altered
over_most x [] = omega arith
over_most x (p ∷ ps) =
    let y = asking x p in
    omega (
      arith,
      altered_most x.table (serve_table y).table (check_value (check_of y)),
      check_most x.table (length x.profile),
      over_most (next x p) ps,
    )

-- The largest answer.
event_length : (x : Lent) → counted.answer_length (event_of x) ≡ call_length (serve_table x).call
unfolding event_of
event_length x = go (serve_table x).call
  where
    go : (c : Call) → counted.answer_length (event_by x c) ≡ call_length c
    go (Answered a) = refl
    go (Refused number besides) = refl

call_most : (x : Lent) → call_length (serve_table x).call ≤ 36864
unfolding refused answered_by
call_most x =
    let req = x.request in
    serve_by_lem x (λ (s : Served). call_length s.call ≤ 36864) (λ r a b. omega arith)
    (λ k.
    answer_most x.table x.profile (check_value (check_of x)) (record { file = length x.profile; checked = k.table }) x.vectors req
    (size_least req k.size) (size_most req k.size) (length_even req k.lengths) (dialect_in x) k.vectors)

pub largest_most : (x : Lent) (ps : List (List ℕ)) → largest_in (row x ps) ≤ 36864
unfolding row largest_in
largest_most x [] = omega arith
largest_most x (p ∷ ps) = omega (arith, event_length (asking x p), call_most (asking x p), largest_most (next x p) ps)

pub largest_least : (x : Lent) (ps : List (List ℕ)) (p : InTurn ps) → call_length (serve_table (table_call x p)).call ≤ largest_in (row x ps)
unfolding row largest_in
largest_least x ps p =
    let there : row x ps ≡ row x p.before ++ row (left x p.before) (p.request ∷ p.after) =
    ap (row x) p.is ∙ row_append x p.before (p.request ∷ p.after) in
    omega (
      arith,
      ap largest_in there,
      largest_append (row x p.before) (row (left x p.before) (p.request ∷ p.after)),
      event_length (table_call x p),
    )

pub largest_one : (x : Lent) (ps : List (List ℕ))
    → (largest_in (row x ps) ≡ 0) ⊎ ((p : InTurn ps) × (call_length (serve_table (table_call x p)).call ≡ largest_in (row x ps)))
unfolding row left largest_in
largest_one x [] = inl refl
largest_one x (p ∷ ps) = go (leb rest first) refl (largest_one (next x p) ps)
  where
    first : ℕ
    first = counted.answer_length (event_of (asking x p))

    rest : ℕ
    rest = largest_in (row (next x p) ps)

    go : (b : Bool) → leb rest first ≡ b
        → (rest ≡ 0) ⊎ ((q : InTurn ps) × (call_length (serve_table (table_call (next x p) q)).call ≡ rest))
        → (max first rest ≡ 0) ⊎ ((q : InTurn (p ∷ ps)) × (call_length (serve_table (table_call x q)).call ≡ max first rest))
    go true e more =
        inr (
          record { before = []; request = p; after = ps; is = refl },
          omega (arith, leb-true rest first e, event_length (asking x p)),
        )
    go false e (inl z) = absurd (omega (arith, leb-false rest first e, z))
    go false e (inr (q, f)) =
        inr (
          record { before = p ∷ q.before; request = q.request; after = q.after; is = ap (λ (qs : List (List ℕ)). p ∷ qs) q.is },
          omega (arith, leb-false rest first e, f),
        )
