-- One request of a row: the call over a table of the exact length, made from what the checks said before.
use Rattle.std.specs.Prelude.{Result, Ok, Err}
use Rattle.refusals.specs.declared.Refusal.{Refusal}
use Rattle.octets.specs.Standard.{ℕ, ◌+◌, ◌≤◌, List, Bool, not, ◌≡◌, refl, sym, ap, ◌∙◌, subst, arith, length, drop, length-append, ltb}
use Rattle.octets.specs.Name.{same}
use Rattle.octets.specs.Run.{over, Wrote}
use Rattle.octets.proofs.Names.{same_refl}
use Rattle.table.specs.Area.{size_in}
use Rattle.table.specs.Check.{check_table}
use Rattle.table.proofs.Areas.{in_all}
use Rattle.rewrite.proofs.Counts.{altered_none}
use Rattle.reading.specs.declared.Terms.{Terms}
use Rattle.counting.specs.Words.{long_bytes}
use Rattle.diameter.specs.Message.{command_of}
use Rattle.deciding.specs.declared.Told.{Told}
use Rattle.calling.specs.Call.{Call, Answered, Refused}
use Rattle.calling.specs.Lent.{Lent, lent, holding, table_only}
use Rattle.refusals.specs.Early.{check_value}
use Rattle.calling.specs.Serve.{Served, check_of, refused, answer_of, answered_by, decided, result_of, serve_table, serve}
use Rattle.calling.specs.Leaves.{call_of, Leaves}
use Rattle.calling.proofs.Areas.{serve_exact}
use Rattle.calling.proofs.Kept.{serve_by_lem}
use Rattle.reporting.specs.Row.{records_altered}
use Rattle.row_of_calls.specs.Word.{call_word}
use Rattle.row_of_calls.specs.Row.{answer_length}
use Rattle.row_of_calls.specs.Leaves.{marks_from, done_from, Serves}
use Rattle.row_of_calls.specs.declared.Done.{Done}
use Rattle.row_of_calls.proofs.Marking.{decided_marks}

-- what a call comes to is one of two
abbrev IsAnswer : Call → Type 0
IsAnswer (Answered a) = Unit
IsAnswer (Refused number besides) = ⊥

abbrev IsRefusal : Call → Type 0
IsRefusal (Answered a) = ⊥
IsRefusal (Refused number besides) = Unit

pub done_answered : (c : Result Told Refusal) (told : Told) {marked : Bool} → c ≡ Ok told → marked ≡ marks_from told.command told.result
    → ◌≡◌ {A = Done} (record { used = told.length; altered = ltb 0 told.altered; marked = marked }) (done_from c)
done_answered c told e f = rw (e, f)

module _ (x : Lent) where
  -- a refusal leaves the table and the vectors as they came
  refused_keeps : IsRefusal (serve_table x).call → ((serve_table x).table ≡ x.table) × ((serve_table x).vectors ≡ x.vectors)
  unfolding refused answered_by
  refused_keeps =
      serve_by_lem x (λ (s : Served). IsRefusal s.call → (s.table ≡ x.table) × (s.vectors ≡ x.vectors)) (λ r a b h. (refl, refl)) (λ k h. absurd h)

  -- an answer marks vectors by its command and result
  answered_marks : IsAnswer (serve_table x).call
      → marks_from (command_of x.request) (result_of x) ≡ not (same x.vectors (serve_table x).vectors)
  unfolding refused answered_by
  answered_marks =
      serve_by_lem x (λ (s : Served). IsAnswer s.call → marks_from (command_of x.request) (result_of x) ≡ not (same x.vectors s.vectors))
      (λ r a b h. absurd h) (λ k h. decided_marks x k.vectors)

  -- an answer that was written over the front of a buffer, whose length stays, is no longer than it
  answer_within : length (serve_table x).buffer ≡ length x.buffer → answer_length (serve_table x).call ≤ length x.buffer
  unfolding refused answered_by over
  answer_within =
      serve_by_lem x (λ (s : Served). length s.buffer ≡ length x.buffer → answer_length s.call ≤ length x.buffer) (λ r a b h. omega arith)
      (λ k h.
      let w : List ℕ = answer_of x (decided x) in
      let l : length (over w x.buffer) ≡ length w + length (drop (length w) x.buffer) = length-append w (drop (length w) x.buffer) in
      omega (arith, l, h))

  -- what the code adds to the row is what the definitions add
  record Adds (d : Done) : Type 0 where
    used_is : d.used ≡ answer_length (serve_table x).call
    altered_is : d.altered ≡ ltb 0 (records_altered x)
    marked_is : d.marked ≡ not (same x.vectors (serve_table x).vectors)

  adds : (r : Result Told Refusal) {t' v' o' : List ℕ} → Leaves x (serve_table x) (check_value (check_of x)) r t' v' o' → Adds (done_from r)
  adds (Ok told) l =
      record {
        used_is = ap answer_length l.call_is;
        altered_is = rw (l.noted.2, l.table_is);
        marked_is = rw (l.noted.0, l.noted.1) (answered_marks (rw (← l.call_is) tt));
      }
  adds (Err r) l =
      let k = refused_keeps (rw (← l.call_is) tt) in
      record {
        used_is = ap answer_length l.call_is;
        altered_is = sym (rw (k.0, altered_none x.table (check_value (check_of x))));
        marked_is = sym (rw (k.1, same_refl x.vectors));
      }

-- The same, as the code has it.
module _ (req t file v o : List ℕ) (terms : Terms) (c : Result ℕ ℕ) (checked : c ≡ check_table t (length file)) (exact : length t ≤ size_in t) (r : Result Told Refusal)
    {t' v' o' : List ℕ} (l : Leaves (lent req t file v o terms) (serve_table (lent req t file v o terms)) (check_value c) r t' v' o') where
  abbrev x : Lent
  x = lent req t file v o terms

  pub serves : (words : List ℕ) {words' : List ℕ} {d : Done} → Wrote (long_bytes (call_word (call_of r))) words words' 8 → d ≡ done_from r
      → length o' ≡ length o → Serves x words d t' v' o' words'
  serves words {words'} {d} w e kept =
      let s : serve x ≡ serve_table x = serve_exact x exact in
      let only : table_only x ≡ x = ap (holding x) (in_all t exact) in
      let a : Adds x d = rw e (adds x r (rw checked at l)) in
      let sent : Wrote (long_bytes (call_word (serve_table x).call)) words words' 8 = rw l.call_is at w in
      record {
        used_is = a.used_is ∙ sym (ap (λ (y : Served). answer_length y.call) s);
        within = rw (a.used_is, kept) (answer_within x (ap length (sym l.buffer_is) ∙ kept));
        altered_is = a.altered_is ∙ sym (ap (λ (y : Lent). ltb 0 (records_altered y)) only);
        marked_is = a.marked_is ∙ sym (ap (λ (y : Served). not (same v y.vectors)) s);
        table_is = l.table_is ∙ sym (ap (λ (y : Served). y.table) s);
        vectors_is = l.vectors_is ∙ sym (ap (λ (y : Served). y.vectors) s);
        answers_is = l.buffer_is ∙ sym (ap (λ (y : Served). y.buffer) s);
        wrote = subst (λ (y : Served). Wrote (long_bytes (call_word y.call)) words words' 8) (sym s) sent;
      }
