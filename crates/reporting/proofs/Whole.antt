-- The whole report, from the run.
use Rattle.octets.specs.Standard.{ℕ, ◌≤◌, ◌<◌, List, [], ◌∷◌, cond, ◌≡◌, ap, ◌∙◌, length, set, length-set, eqb, lt-ltb, le-ltb, eq-eqb, ne_eqb}
use Rattle.octets.specs.Run.{Wrote}
use Rattle.counting.specs.Counting.{AllFit, no_counts}
use Rattle.counting.specs.Words.{words_bytes}
use Rattle.counting.proofs.Counts.{all_length, none_length, counted_counts}
use Rattle.reading.specs.declared.Terms.{Terms}
use Rattle.calling.specs.Lent.{Lent, lent, asking}
use Rattle.reporting.specs.Row.{next, row}
use Rattle.reporting.specs.Report.{requests_of, words_of, ended, ran, reported_table}
use Rattle.reporting.specs.Counts.{Runs, Reports}
use Rattle.reporting.proofs.Events.{event_fits}

pub used_up : (at n : ℕ) → at ≡ n → ◌≡◌ {A = ℕ} 0 (cond (eqb at n) 0 7)
used_up at n e = rw (eq-eqb at n e)

pub stops_early : (at n : ℕ) → (at ≡ n → ⊥) → ◌≡◌ {A = ℕ} 7 (cond (eqb at n) 0 7)
stops_early at n e = rw (ne_eqb at n e)

pub row_fits : (x : Lent) (ps : List (List ℕ)) → AllFit (row x ps)
unfolding row
row_fits x [] = tt
row_fits x (p ∷ ps) = (event_fits (asking x p), row_fits (next x p) ps)

pub area_short : (req t file v o area : List ℕ) (terms : Terms) → length area < 1160 → Reports (reported_table (lent req t file v o terms) area) 15 t v o area
unfolding reported_table
area_short req t file v o area terms h =
    let q = lt-ltb (length area) 1160 h in
    record { number_is = rw q; table_is = rw q; vectors_is = rw q; buffer_is = rw q; area_is = rw q }

module _ (req t file v o : List ℕ) (terms : Terms) {c t' v' o' : List ℕ} {at : ℕ} (r : Runs (lent req t file v o terms) no_counts c t' v' o' at) where
  abbrev x : Lent
  x = lent req t file v o terms

  pub words_whole : length (set c 1 at) ≡ 145
  words_whole = length-set c 1 at ∙ ap length r.counts_is ∙ all_length no_counts (row x (requests_of x)) ∙ none_length

  words_are : set c 1 at ≡ words_of x
  unfolding words_of
  words_are = rw (r.counts_is, counted_counts (row x (requests_of x)) (row_fits x (requests_of x)), r.stop_is)

  pub reports_all : (area : List ℕ) {n m : ℕ} {area' : List ℕ} → 1160 ≤ length area → Wrote (words_bytes (set c 1 at)) area area' m
      → n ≡ cond (eqb at (length req)) 0 7 → Reports (reported_table x area) n t' v' o' area'
  unfolding reported_table ran ended
  reports_all area h w e =
      let q = le-ltb (length area) 1160 h in
      record {
        number_is = e ∙ rw (q, r.stop_is);
        table_is = r.table_is ∙ rw q;
        vectors_is = r.vectors_is ∙ rw q;
        buffer_is = r.buffer_is ∙ rw q;
        area_is = w.bytes ∙ rw (words_are, q);
      }
