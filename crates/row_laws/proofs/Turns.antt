-- One request of a row in its place: its word, its answer, and what the theorems about calls say of it.
use Rattle.octets.specs.Standard.{ℕ, ◌*◌, ◌≤◌, List, [], ◌∷◌, ◌++◌, append_assoc, true, false, none, ◌≡◌, refl}
use Rattle.octets.specs.Standard.{sym, ap, ◌∙◌, ◌≢◌, length, take, drop, take_at, drop_at, eq-eqb, le-ltb, true≢false, and-false}
use Rattle.counting.specs.Words.{long_bytes, words_bytes}
use Rattle.counting.proofs.Longs.{long_length, bytes_length}
use Rattle.calling.specs.Call.{Call, Answered, Refused}
use Rattle.calling.specs.Lent.{Lent, lent, asking}
use Rattle.calling.specs.Serve.{Served, serve}
use Rattle.refusals.specs.Early.{unknown_peer, small_buffer}
use Rattle.refusals.specs.Trial.{any_holds}
use Rattle.ndushavire.specs.Reads.{call_number}
use Rattle.demands.specs.Insertion.{Longer, keep, place_now, first_mark, newer, placed, call_placed}
use Rattle.demands.proofs.Demands.{demand_1, demand_3}
use Rattle.demands.proofs.Peers.{peer_refused}
use Rattle.report_numbers.specs.Turns.{InTurn}
use Rattle.row_of_calls.specs.Row.{Rowed, answer_length, next, rowed}
use Rattle.row_of_calls.specs.Word.{call_word}
use Rattle.row_laws.specs.Turns.{served_of, lent_after, lent_to, words_by, answers_by}
use Rattle.row_laws.proofs.Calls.{answer_length_lem, words_count, words_append, answers_append, after_alike, after_append}
use Rattle.row_laws.proofs.Ends.{row_is, turn_room}

-- a part in the middle
middle : (a b c d : List ℕ) (n m : ℕ) → length a ≡ n → length b ≡ m → take m (drop n ((a ++ (b ++ c)) ++ d)) ≡ b
middle a b c d n m e f =
    rw (append_assoc a (b ++ c) d, drop_at a ((b ++ c) ++ d) n e, append_assoc b c d) (take_at b (c ++ d) m f)

module _ (x : Lent) (words : List ℕ) (p : InTurn (served_of x words)) where
  abbrev y : Lent
  y = lent_to x p

  abbrev behind_it : Lent
  behind_it = next (lent_after x p.before) p.request

  words_are : (rowed x words).words
      ≡ (words_bytes (words_by x p.before) ++ (long_bytes (call_word (serve y).call) ++ words_bytes (words_by behind_it p.after)))
      ++ drop (8 * (rowed x words).served) words
  unfolding words_by words_bytes
  words_are =
      ap (λ (r : Rowed). r.words) (row_is x words)
      ∙ ap (λ (ps : List (List ℕ)). words_bytes (words_by x ps) ++ drop (8 * (rowed x words).served) words) p.is
      ∙ ap (λ (w : List ℕ). w ++ drop (8 * (rowed x words).served) words) (words_append x p.before (p.request ∷ p.after))

  pub turn_word : take 8 (drop (8 * length p.before) (rowed x words).words) ≡ long_bytes (call_word (serve y).call)
  turn_word =
      rw words_are
      (middle (words_bytes (words_by x p.before)) (long_bytes (call_word (serve y).call)) (words_bytes (words_by behind_it p.after))
      (drop (8 * (rowed x words).served) words) (8 * length p.before) 8
      (bytes_length (words_by x p.before) ∙ ap (λ (n : ℕ). 8 * n) (words_count x p.before)) (long_length (call_word (serve y).call)))

  answers_are : (rowed x words).answers
      ≡ (answers_by x p.before ++ (take (answer_length (serve y).call) (serve y).buffer ++ answers_by behind_it p.after))
      ++ (lent_after x (served_of x words)).buffer
  unfolding answers_by
  answers_are =
      ap (λ (r : Rowed). r.answers) (row_is x words)
      ∙ ap (λ (ps : List (List ℕ)). answers_by x ps ++ (lent_after x (served_of x words)).buffer) p.is
      ∙ ap (λ (w : List ℕ). w ++ (lent_after x (served_of x words)).buffer) (answers_append x p.before (p.request ∷ p.after))

  pub turn_answer : take (answer_length (serve y).call) (drop (length (answers_by x p.before)) (rowed x words).answers)
      ≡ take (answer_length (serve y).call) (serve y).buffer
  turn_answer =
      rw answers_are
      (middle (answers_by x p.before) (take (answer_length (serve y).call) (serve y).buffer) (answers_by behind_it p.after)
      (lent_after x (served_of x words)).buffer (length (answers_by x p.before)) (answer_length (serve y).call) refl (answer_length_lem y))

  -- the buffer is never too small
  pub turn_roomy : 36864 ≤ length y.buffer
  turn_roomy = (turn_room x words p).answer

  pub turn_not_one : call_number (serve y).call ≢ 1
  unfolding any_holds
  turn_not_one e =
      let small : small_buffer y.buffer ≡ false = le-ltb (length y.buffer) 36864 turn_roomy in
      let is = (demand_1 y).given (record { holds = unknown_peer y.terms; number = 12; besides = 0 } ∷ []) _
      (record { holds = small_buffer y.buffer; number = 1; besides = 0 }) refl in
      true≢false (sym (eq-eqb (call_number (serve y).call) 1 e) ∙ is ∙ rw (small, and-false))

  pub turn_peer : unknown_peer x.terms ≡ true → (serve y).call ≡ Refused 12 0
  turn_peer e =
      ap (λ (s : Served). s.call) (peer_refused y (ap unknown_peer (after_alike x p.before).terms ∙ e))

  -- what it leaves
  after_one : lent_after x (p.before ++ (p.request ∷ [])) ≡ behind_it
  unfolding lent_after
  after_one = after_append x p.before (p.request ∷ [])

  pub turn_leaves : (serve y).table ≡ (lent_after x p.before).table → (serve y).vectors ≡ (lent_after x p.before).vectors
      → ((lent_after x (p.before ++ (p.request ∷ []))).table ≡ (lent_after x p.before).table)
      × ((lent_after x (p.before ++ (p.request ∷ []))).vectors ≡ (lent_after x p.before).vectors)
  unfolding next
  turn_leaves e f = (ap (λ (z : Lent). z.table) after_one ∙ e, ap (λ (z : Lent). z.vectors) after_one ∙ f)

-- DEMAND 3: with AVPs put in, none of them marked, a request leaves the same, so that those behind it are lent the same.
placed_length : (f : ℕ → ℕ) (c : Call) → answer_length (call_placed f c) ≡ answer_length c
placed_length f (Answered a) = refl
placed_length f (Refused number besides) = refl

module _ (x : Lent) (req longer : List ℕ) (l : Longer x.terms req longer) (quiet : first_mark l.inserted ≡ none) where
  same_next : (f : ℕ → ℕ) → serve (asking x longer) ≡ placed f (serve (asking x req)) → next x longer ≡ next x req
  unfolding next
  same_next f e =
      let s : Served = serve (asking x req) in
      ap (λ (r : Served). lent x.request r.table x.profile r.vectors (drop (answer_length r.call) r.buffer) x.terms) e
      ∙ ap (λ (n : ℕ). lent x.request s.table x.profile s.vectors (drop n s.buffer) x.terms) (placed_length f s.call)

  pub quiet_next : next x longer ≡ next x req
  unfolding newer
  quiet_next = same_next (place_now (keep l.cut.first l.inserted)) ((demand_3 (asking x req) longer l).comes ∙ rw quiet)

pub turn_quiet : (x : Lent) (words : List ℕ) (p : InTurn (served_of x words)) (longer : List ℕ) (l : Longer (lent_to x p).terms p.request longer)
    → first_mark l.inserted ≡ none → lent_after x (p.before ++ (longer ∷ [])) ≡ lent_after x (p.before ++ (p.request ∷ []))
unfolding lent_after
turn_quiet x words p longer l e =
    after_append x p.before (longer ∷ []) ∙ quiet_next (lent_after x p.before) p.request longer l e ∙ sym (after_one x words p)
