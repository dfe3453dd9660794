-- Demand 1: an answer, or exactly one of seven refusals. What a refused call leaves, and what an answered one writes.
use Rattle.std.specs.Prelude.{Result, Ok, Err}
use Rattle.octets.specs.Standard.{ℕ, ◌≤◌, ◌<◌, List, Bool, true, false, cond, ◌||◌, true≢false, ◌≡◌, refl, sym, ap, ◌∙◌, ◌⊎◌, inl, inr, ◌≢◌, arith, length}
use Rattle.octets.specs.Standard.{drop, drop_at}
use Rattle.octets.specs.Run.{over}
use Rattle.octets.proofs.Writes.{over_length}
use Rattle.diameter.specs.Put.{All}
use Rattle.calling.specs.Call.{Answer, Call, Answered, Refused}
use Rattle.calling.specs.Lent.{Lent, asking, dialect_in}
use Rattle.refusals.specs.Trial.{Trial, tried, any_holds}
use Rattle.refusals.specs.Early.{unknown_peer, small_buffer, wrong_size, no_request, is_bad, early_trials, unsound, check_value, wrong_length}
use Rattle.calling.specs.Serve.{Served, check_of, trials, refused}
use Rattle.calling.specs.Serve.{answered, answered_by, decision, serve_found, serve_table_by, serve_table}
use Rattle.ndushavire.specs.Word.{call_word}
use Rattle.ndushavire.specs.Reads.{call_number, call_place, call_value, Reads}
use Rattle.refusals.proofs.Passing.{size_least, size_most}
use Rattle.demands.specs.Call.{turned_away, answer_to, Fits, Exactly}
use Rattle.demands.specs.Insertion.{placed}
use Rattle.demands.proofs.Faults.{decide_within}
use Rattle.demands.proofs.Firm.{check_most, answer_reads, refusal_reads}
use Rattle.calling.proofs.Kept.{taken, serve_either}
use Rattle.refusals.proofs.Trials.{tried_by, tried_alike}
use Rattle.demands.proofs.Trials.{exactly}

-- an unsound file's first bad block
bad_block : (c : Result ℕ ℕ) → is_bad c ≡ true → c ≡ Err (check_value c)
bad_block (Ok count) e = absurd (true≢false (sym e))
bad_block (Err block) e = refl

-- a refusal is no answer
is_answer : Call → ℕ
is_answer (Answered a) = 1
is_answer (Refused number besides) = 0

module _ (x : Lent) where
  abbrev answer : Served
  answer = answered x (decision x (check_value (check_of x)))

  -- What holds of 5, and of each that returns 0 besides, holds of all seven.
  seven : (Q : Trial → Type 0) → ((h : Bool) (n : ℕ) → 1 ≤ n → (n ≤ 6) ⊎ (n ≡ 12) → n ≢ 5 → Q (record { holds = h; number = n; besides = 0 }))
      → Q (unsound (check_of x)) → All Q (trials x)
  seven Q o f = (
    o _ 12 (omega arith) (inr refl) (omega arith),
    (
      o _ 1 (omega arith) (inl (omega arith)) (omega arith),
      (
        o _ 2 (omega arith) (inl (omega arith)) (omega arith),
        (
          o _ 3 (omega arith) (inl (omega arith)) (omega arith),
          (o _ 4 (omega arith) (inl (omega arith)) (omega arith), (f, (o _ 6 (omega arith) (inl (omega arith)) (omega arith), tt))),
        ),
      ),
    ),
  )

  -- What holds of every refusal and of the answer holds of the call.
  call_by : (P : Bool → Served → Type 0) (Q : Trial → Type 0) → All Q (trials x) → ((r : Trial) → Q r → r.holds ≡ true → P true (refused x r))
      → P false answer → P (turned_away x) (serve_table x)
  unfolding serve_table_by serve_found
  call_by P Q h f o = tried_by P Q (refused x) answer f o (trials x) h

  -- What holds of any refusal at all, and of the answer, does.
  any_call : (P : Bool → Served → Type 0) → ((r : Trial) → P true (refused x r)) → P false answer → P (turned_away x) (serve_table x)
  any_call = serve_either x

  pub refusals : Exactly (trials x) (call_number (serve_table x).call)
  unfolding serve_table_by serve_found refused answered_by
  refusals =
      exactly (refused x) answer (λ (s : Served). call_number s.call) (λ r. refl) refl (trials x) (
        refl,
        (refl, (refl, (refl, (refl, (refl, (refl, tt)))))),
        (
          refl,
          (refl, (refl, (refl, (refl, (refl, tt))))),
          (
            refl,
            (refl, (refl, (refl, (refl, tt)))),
            (refl, (refl, (refl, (refl, tt))), (refl, (refl, (refl, tt)), (refl, (refl, tt), (refl, tt, tt)))),
          ),
        ),
      )

  pub number_most : (call_number (serve_table x).call ≤ 6) ⊎ (call_number (serve_table x).call ≡ 12)
  unfolding refused answered_by
  number_most =
      call_by (λ b s. (call_number s.call ≤ 6) ⊎ (call_number s.call ≡ 12)) (λ r. (r.number ≤ 6) ⊎ (r.number ≡ 12))
      (seven (λ r. (r.number ≤ 6) ⊎ (r.number ≡ 12)) (λ h n a b c. b) (inl (omega arith))) (λ r h e. h) (inl (omega arith))

  -- Refusal 5 returns the first bad block besides, every other refusal 0, an answer its length.
  record Besides (c : Call) : Type 0 where
    none : (n k : ℕ) → c ≡ Refused n k → n ≢ 5 → k ≡ 0
    block : (k : ℕ) → c ≡ Refused 5 k → check_of x ≡ Err k
    long : (a : Answer) → c ≡ Answered a → a.length ≡ length (answer_to x (check_value (check_of x)))

  record Right (r : Trial) : Type 0 where
    none : r.number ≢ 5 → r.besides ≡ 0
    block : r.holds ≡ true → r.number ≡ 5 → check_of x ≡ Err r.besides

  other : (h : Bool) (n : ℕ) → n ≢ 5 → Right (record { holds = h; number = n; besides = 0 })
  other h n l = record { none = λ i. refl; block = λ i e. absurd (l e) }

  fifth : Right (unsound (check_of x))
  fifth = record { none = λ i. absurd (i refl); block = λ h e. bad_block (check_of x) h }

  besides : Besides (serve_table x).call
  unfolding refused answered_by is_answer
  besides =
      call_by (λ b s. Besides s.call) Right (seven Right (λ h n a b c. other h n c) fifth)
      (λ r q h.
      record {
        none = λ n k e l. sym (ap call_value e) ∙ q.none (λ i. l (sym (ap call_number e) ∙ i));
        block = λ k e. q.block h (ap call_number e) ∙ ap Err (ap call_value e);
        long = λ a e. absurd (omega (arith, ap is_answer e));
      })
      (record {
        none = λ n k e l. absurd (omega (arith, ap is_answer e));
        block = λ k e. absurd (omega (arith, ap is_answer e));
        long = λ a e. sym (ap call_value e);
      })

  pub besides_none : (n k : ℕ) → (serve_table x).call ≡ Refused n k → n ≢ 5 → k ≡ 0
  besides_none = besides.none

  pub besides_block : (k : ℕ) → (serve_table x).call ≡ Refused 5 k → check_of x ≡ Err k
  besides_block = besides.block

  pub answer_long : (a : Answer) → (serve_table x).call ≡ Answered a → (count : ℕ) → check_of x ≡ Ok count → a.length ≡ length (answer_to x count)
  answer_long a e count s = besides.long a e ∙ ap (λ (c : Result ℕ ℕ). length (answer_to x (check_value c))) s

  -- What is refused leaves the table, the vectors and the buffer; what is not is answered.
  pub refused_kept : turned_away x ≡ true → ((serve_table x).table ≡ x.table) × ((serve_table x).vectors ≡ x.vectors) × ((serve_table x).buffer ≡ x.buffer)
  unfolding refused
  refused_kept =
      any_call (λ b s. b ≡ true → (s.table ≡ x.table) × (s.vectors ≡ x.vectors) × (s.buffer ≡ x.buffer)) (λ r e. (refl, refl, refl))
      (λ e. absurd (true≢false (sym e)))

  -- it has no place
  pub refused_placed : (f : ℕ → ℕ) → turned_away x ≡ true → placed f (serve_table x) ≡ serve_table x
  unfolding refused
  refused_placed f = any_call (λ b s. b ≡ true → placed f s ≡ s) (λ r e. refl) (λ e. absurd (true≢false (sym e)))

  pub refused_nowhere : turned_away x ≡ true → call_place (serve_table x).call ≡ 0
  unfolding refused
  refused_nowhere = any_call (λ b s. b ≡ true → call_place s.call ≡ 0) (λ r e. refl) (λ e. absurd (true≢false (sym e)))

  pub answer_is : turned_away x ≡ false → serve_table x ≡ answer
  answer_is = any_call (λ b s. b ≡ false → s ≡ answer) (λ r e. absurd (true≢false e)) (λ e. refl)

  pub answered_is : (count : ℕ) → check_of x ≡ Ok count → turned_away x ≡ false → serve_table x ≡ answered x (decision x count)
  answered_is count s e = answer_is e ∙ ap (λ (c : Result ℕ ℕ). answered x (decision x (check_value c))) s

  -- The word of a call is read back: what it carries is short.
  module _ (fits : Fits x) where
    abbrev short : (turned_away x ≡ false) → length (answer_to x (check_value (check_of x))) ≤ 36864
    short e = let h = taken x e in fits h.size h.lengths (check_value (check_of x)) h.table h.vectors

    pub word_reads : Reads (serve_table x).call (call_word (serve_table x).call)
    unfolding refused answered_by
    word_reads =
        call_by (λ b s. turned_away x ≡ b → Reads s.call (call_word s.call)) (λ r. (1 ≤ r.number) × (r.besides ≤ 4096))
        (seven (λ r. (1 ≤ r.number) × (r.besides ≤ 4096)) (λ h n a b c. (a, omega arith)) (omega arith, check_most x.table (length x.profile)))
        (λ r q h e. refusal_reads r.number r.besides q.0 (omega (arith, q.1)))
        (λ e. answer_reads (record { length = length (answer_to x count); place = (decision x count).place }) (near e) (omega (arith, short e))) refl
      where
        count : ℕ
        count = check_value (check_of x)

        near : turned_away x ≡ false → (decision x count).place < 65536
        near e =
            let s = (taken x e).size in
            omega (arith, size_most x.request s, decide_within (dialect_in x) x.request x.table count x.vectors (size_least x.request s))

    pub answer_within : call_number (serve_table x).call ≡ 0 → call_value (serve_table x).call ≤ length x.buffer
    unfolding refused answered_by
    answer_within =
        call_by (λ b s. turned_away x ≡ b → call_number s.call ≡ 0 → call_value s.call ≤ length x.buffer) (λ r. 1 ≤ r.number)
        (seven (λ r. 1 ≤ r.number) (λ h n a b c. a) (omega arith)) (λ r q h e z. absurd (omega (arith, q, z)))
        (λ e z. omega (arith, short e, (taken x e).room)) refl

    pub buffer_length : length (serve_table x).buffer ≡ length x.buffer
    unfolding refused answered_by
    buffer_length =
        any_call (λ b s. turned_away x ≡ b → length s.buffer ≡ length x.buffer) (λ r e. refl)
        (λ e. over_length (answer_to x (check_value (check_of x))) x.buffer (omega (arith, short e, (taken x e).room))) refl

  -- the buffer past the answer
  pub buffer_past : drop (call_value (serve_table x).call) (serve_table x).buffer ≡ drop (call_value (serve_table x).call) x.buffer
  unfolding refused answered_by over
  buffer_past =
      let bytes = answer_to x (check_value (check_of x)) in
      any_call (λ b s. drop (call_value s.call) s.buffer ≡ drop (call_value s.call) x.buffer) (λ r. refl)
      (drop_at bytes (drop (length bytes) x.buffer) (length bytes) refl)

-- Two requests of which the trials say the same are refused alike.
pub refused_alike : (x : Lent) (req other : List ℕ) → wrong_size req ≡ wrong_size other → wrong_length req ≡ wrong_length other → no_request req ≡ no_request other
    → turned_away (asking x other) ≡ true → serve_table (asking x req) ≡ serve_table (asking x other)
unfolding serve_table_by serve_found refused
refused_alike x req other a b c e =
    rw (a, b, c) (tried_alike (refused (asking x other)) (answer (asking x req)) (answer (asking x other)) (trials (asking x other)) e)

-- what the first five let pass is refused by 5, over a table whose check answers a bad block
pub unsound_refused : (x : Lent) (k : ℕ) → any_holds (early_trials x.terms x.request x.buffer) ≡ false → check_of x ≡ Err k
    → (serve_table x).call ≡ Refused 5 k
unfolding serve_table_by serve_found any_holds tried refused
unsound_refused x k none e =
    rw e
    (ap (λ (s : Served). s.call)
    (go (unknown_peer x.terms) (small_buffer x.buffer) (wrong_size x.request) (wrong_length x.request) (no_request x.request) _ _ _ _ _ _ none))
  where
    go : (u a b c d : Bool) (o p q r s t : Served) → (u || (a || (b || (c || (d || false))))) ≡ false
        → cond u o (cond a p (cond b q (cond c r (cond d s t)))) ≡ t
    go true a b c d o p q r s t h = absurd (true≢false h)
    go false true b c d o p q r s t h = absurd (true≢false h)
    go false false true c d o p q r s t h = absurd (true≢false h)
    go false false false true d o p q r s t h = absurd (true≢false h)
    go false false false false true o p q r s t h = absurd (true≢false h)
    go false false false false false o p q r s t h = refl
