-- What a call of the Sh server returns: its number, what is returned besides, and the word that says both.
use Rattle.std.specs.Prelude.{Result, Ok, Err}
use Rattle.octets.specs.Standard.{ℕ, ◌≤◌, ◌<◌, Bool, true, false, true≢false, ◌≡◌, refl, sym, ap, ◌∙◌, ◌⊎◌, inl, inr, ◌≢◌, arith, length}
use Rattle.octets.proofs.Writes.{over_length}
use Rattle.diameter.specs.Put.{All}
use Rattle.table.specs.Area.{table_in, check_area}
use Rattle.refusals.specs.Early.{is_bad, check_value, unsound, unknown_peer, small_buffer, wrong_size, wrong_length, no_request, early}
use Rattle.refusals.specs.Passed.{Passed}
use Rattle.refusals.specs.Trial.{Trial, tried, any_holds}
use Rattle.refusals.proofs.Passing.{passes, neither}
use Rattle.refusals.proofs.Trials.{tried_by}
use Rattle.calling.specs.Call.{Answer, Call, Answered, Refused}
use Rattle.sh.proofs.Tellings.{tell_near}
use Rattle.ndushavire.specs.Reads.{call_number, call_value, Reads}
use Rattle.ndushavire.specs.Word.{call_word}
use Rattle.ndushavire_sh.specs.Lent.{Lent, terms_in, dialect_in}
use Rattle.ndushavire_sh.specs.Serve.{Served, trials_of, told_of, refused, answer_of, answered, serve_checked, sh_serve}
use Rattle.demands.proofs.Firm.{check_most, answer_reads, refusal_reads}
use Rattle.sh_demands.specs.Call.{turned_away}
use Rattle.sh_demands.proofs.Refusing.{fits}

-- an unsound file's first bad block
bad_block : (c : Result ℕ ℕ) → is_bad c ≡ true → c ≡ Err (check_value c)
bad_block (Ok count) e = absurd (true≢false (sym e))
bad_block (Err block) e = refl

good_count : (c : Result ℕ ℕ) → is_bad c ≡ false → c ≡ Ok (check_value c)
good_count (Ok count) e = refl
good_count (Err block) e = absurd (true≢false e)

-- a refusal is no answer
is_answer : Call → ℕ
is_answer (Answered a) = 1
is_answer (Refused number besides) = 0

module _ (x : Lent) where
  abbrev checked : Result ℕ ℕ
  checked = check_area x.table (length x.profile)

  abbrev answer : Served
  answer = answered x (check_value checked)

  -- What holds of 5, and of each that returns 0 besides, holds of all six.
  six : (Q : Trial → Type 0) → ((h : Bool) (n : ℕ) → 1 ≤ n → (n ≤ 5) ⊎ (n ≡ 12) → n ≢ 5 → Q (record { holds = h; number = n; besides = 0 }))
      → Q (unsound checked) → All Q (trials_of x checked)
  six Q o f = (
    o _ 12 (omega arith) (inr refl) (omega arith),
    (
      o _ 1 (omega arith) (inl (omega arith)) (omega arith),
      (
        o _ 2 (omega arith) (inl (omega arith)) (omega arith),
        (o _ 3 (omega arith) (inl (omega arith)) (omega arith), (o _ 4 (omega arith) (inl (omega arith)) (omega arith), (f, tt))),
      ),
    ),
  )

  -- What holds of every refusal and of the answer holds of the call.
  call_by : (P : Bool → Served → Type 0) (Q : Trial → Type 0) → All Q (trials_of x checked) → ((r : Trial) → Q r → r.holds ≡ true → P true (refused x r))
      → P false answer → P (turned_away x) (sh_serve x)
  unfolding serve_checked
  call_by P Q h f o = tried_by P Q (refused x) answer f o (trials_of x checked) h

  pub number_most : (call_number (sh_serve x).call ≤ 5) ⊎ (call_number (sh_serve x).call ≡ 12)
  unfolding refused answered
  number_most =
      call_by (λ b s. (call_number s.call ≤ 5) ⊎ (call_number s.call ≡ 12)) (λ r. (r.number ≤ 5) ⊎ (r.number ≡ 12))
      (six (λ r. (r.number ≤ 5) ⊎ (r.number ≡ 12)) (λ h n a b c. b) (inl (omega arith))) (λ r h e. h) (inl (omega arith))

  -- Refusal 5 returns the first bad block besides, every other refusal 0, an answer its length.
  record Besides (c : Call) : Type 0 where
    none : (n k : ℕ) → c ≡ Refused n k → n ≢ 5 → k ≡ 0
    block : (k : ℕ) → c ≡ Refused 5 k → checked ≡ Err k
    long : (a : Answer) → c ≡ Answered a → a.length ≡ length (answer_of x (check_value checked))

  record Right (r : Trial) : Type 0 where
    none : r.number ≢ 5 → r.besides ≡ 0
    block : r.holds ≡ true → r.number ≡ 5 → checked ≡ Err r.besides

  other : (h : Bool) (n : ℕ) → n ≢ 5 → Right (record { holds = h; number = n; besides = 0 })
  other h n l = record { none = λ i. refl; block = λ i e. absurd (l e) }

  fifth : Right (unsound checked)
  fifth = record { none = λ i. absurd (i refl); block = λ h e. bad_block checked h }

  besides : Besides (sh_serve x).call
  unfolding refused answered is_answer
  besides =
      call_by (λ b s. Besides s.call) Right (six Right (λ h n a b c. other h n c) fifth)
      (λ r q h.
      record {
        none = λ n k e l. sym (ap call_value e) ∙ q.none (λ i. l (sym (ap call_number e) ∙ i));
        block = λ k e. q.block h (ap call_number e) ∙ ap Err (ap call_value e);
        long = λ a e. absurd (omega (arith, ap is_answer e));
      })
      (record {
        none = λ n k e l. absurd (omega (arith, ap is_answer e));
        block = λ k e. absurd (omega (arith, ap is_answer e));
        long = λ a e. sym (ap call_value e);
      })

  pub besides_none : (n k : ℕ) → (sh_serve x).call ≡ Refused n k → n ≢ 5 → k ≡ 0
  besides_none = besides.none

  pub besides_block : (k : ℕ) → (sh_serve x).call ≡ Refused 5 k → checked ≡ Err k
  besides_block = besides.block

  pub answer_long : (a : Answer) → (sh_serve x).call ≡ Answered a → (count : ℕ) → checked ≡ Ok count → a.length ≡ length (answer_of x count)
  answer_long a e count s = besides.long a e ∙ ap (λ (c : Result ℕ ℕ). length (answer_of x (check_value c))) s

  -- What no refusal takes passes the early ones, over a sound table.
  record Taken : Type 0 where
    none : early (terms_in x) x.request x.buffer ≡ 0
    table : checked ≡ Ok (check_value checked)

  taken : turned_away x ≡ false → Taken
  unfolding early tried any_holds
  taken e =
      let a = neither (unknown_peer (terms_in x)) _ e in
      let b = neither (small_buffer x.buffer) _ a.1 in
      let c = neither (wrong_size x.request) _ b.1 in
      let d = neither (wrong_length x.request) _ c.1 in
      let f = neither (no_request x.request) _ d.1 in
      let g = neither (is_bad checked) _ f.1 in
      record { none = rw (a.0, b.0, c.0, d.0, f.0); table = good_count checked g.0 }

  pub passed : turned_away x ≡ false → Passed x.request x.buffer
  passed e = passes (terms_in x) x.request x.buffer refl (omega (arith, (taken e).none))

  short : turned_away x ≡ false → length (answer_of x (check_value checked)) ≤ 36864
  short e = let h = taken e in fits x h.none (check_value checked) h.table

  near : turned_away x ≡ false → (told_of x (check_value checked)).verdict.place < 65536
  near e =
      let p = passed e in
      omega (arith, tell_near (dialect_in x) x.request (table_in x.table) (check_value checked) p.least p.most)

  few : check_value checked ≤ 4096
  unfolding check_area
  few = check_most (table_in x.table) (length x.profile)

  -- The word of a call is read back: what it carries is short.
  pub word_reads : Reads (sh_serve x).call (call_word (sh_serve x).call)
  unfolding refused answered
  word_reads =
      call_by (λ b s. turned_away x ≡ b → Reads s.call (call_word s.call)) (λ r. (1 ≤ r.number) × (r.besides ≤ 4096))
      (six (λ r. (1 ≤ r.number) × (r.besides ≤ 4096)) (λ h n a b c. (a, omega arith)) (omega arith, few))
      (λ r q h e. refusal_reads r.number r.besides q.0 (omega (arith, q.1)))
      (λ e.
      answer_reads (record { length = length (answer_of x (check_value checked)); place = (told_of x (check_value checked)).verdict.place }) (near e)
      (omega (arith, short e)))
      refl

  pub answer_within : call_number (sh_serve x).call ≡ 0 → call_value (sh_serve x).call ≤ length x.buffer
  unfolding refused answered
  answer_within =
      call_by (λ b s. turned_away x ≡ b → call_number s.call ≡ 0 → call_value s.call ≤ length x.buffer) (λ r. 1 ≤ r.number)
      (six (λ r. 1 ≤ r.number) (λ h n a b c. a) (omega arith)) (λ r q h e z. absurd (omega (arith, q, z)))
      (λ e z. omega (arith, short e, (passed e).room)) refl

  pub buffer_length : length (sh_serve x).buffer ≡ length x.buffer
  unfolding refused answered
  buffer_length =
      call_by (λ b s. turned_away x ≡ b → length s.buffer ≡ length x.buffer) (λ r. Unit) (six (λ r. Unit) (λ h n a b c. tt) tt) (λ r q h e. refl)
      (λ e. over_length (answer_of x (check_value checked)) x.buffer (omega (arith, short e, (passed e).room))) refl
