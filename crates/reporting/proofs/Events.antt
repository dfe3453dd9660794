-- A call as it is counted: the event of the definitions, which always has a word.
use Rattle.std.specs.Prelude.{Result, Ok, Err}
use Rattle.refusals.specs.declared.Refusal.{Refusal}
use Rattle.deciding.specs.declared.Told.{Told}
use Rattle.octets.specs.Standard.{ℕ, List, ◌≡◌, ap, ◌∙◌, arith, length}
use Rattle.table.specs.Check.{check_table}
use Rattle.reading.specs.declared.Terms.{Terms}
use Rattle.counting.specs.Counting.{Fits, counted}
use Rattle.counting.specs.Event.{Event}
use Rattle.deciding.proofs.Comes.{decide_carries}
use Rattle.calling.specs.Lent.{Lent, lent, dialect_in}
use Rattle.refusals.specs.Early.{check_value}
use Rattle.calling.specs.Serve.{Served, check_of, refused, answered_by, serve_table}
use Rattle.calling.specs.Leaves.{Leaves}
use Rattle.calling.proofs.Kept.{serve_by_lem}
use Rattle.reporting.specs.Row.{event_by, event_of}
use Rattle.reporting.specs.Run.{event_from}
use Rattle.reporting.specs.Counts.{Counts}

-- refusals have numbers up to 12, and every result has a column
pub event_fits : (x : Lent) → Fits (event_of x)
unfolding event_of refused answered_by
event_fits x =
    serve_by_lem x (λ (s : Served). Fits (event_by x s.call)) (λ r a b. (a, omega arith))
    (λ k. (decide_carries (dialect_in x) x.request x.table (check_value (check_of x)) x.vectors).result)

module _ (x : Lent) where
  event_is : (r : Result Told Refusal) {t' v' o' : List ℕ} → Leaves x (serve_table x) (check_value (check_of x)) r t' v' o' → event_from r ≡ event_of x
  unfolding event_of
  event_is (Ok told) l = rw (← l.call_is, l.noted.0, l.noted.1, l.noted.2, l.table_is)
  event_is (Err r) l = rw (← l.call_is)

-- The same, as the code has it: the checks were made before.
module _ (req t file v o : List ℕ) (terms : Terms) (c : Result ℕ ℕ) (checked : c ≡ check_table t (length file)) (r : Result Told Refusal)
    {t' v' o' : List ℕ} (l : Leaves (lent req t file v o terms) (serve_table (lent req t file v o terms)) (check_value c) r t' v' o') where
  abbrev x : Lent
  x = lent req t file v o terms

  same : event_from r ≡ event_of x
  same = event_is x r (rw checked at l)

  pub counted_fits : {e : Event} → e ≡ event_from r → Fits e
  counted_fits f = rw (f, same) (event_fits x)

  pub counted_one : (counts : List ℕ) {counts' : List ℕ} {e : Event} → e ≡ event_from r → counts' ≡ counted counts e → Counts x counts counts' t' v' o'
  counted_one counts f g =
      record { counts_is = g ∙ ap (counted counts) (f ∙ same); table_is = l.table_is; vectors_is = l.vectors_is; buffer_is = l.buffer_is }
