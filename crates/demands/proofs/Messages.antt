-- A request of a header and a body: what is read out of it, and that a call looks at the header and the walk over the body alone.
use Rattle.octets.specs.Standard.{ℕ, zero, suc, ◌+◌, ◌/◌, ◌%◌, ◌<◌, ◌≤◌, List, Bool, true, false, cond, ◌≡◌, refl, sym, ap, ◌∙◌, ◌≢◌, arith, zero-add}
use Rattle.octets.specs.Standard.{length, get_or, set, take, drop, length-set, length-append, length-drop, get_or-append, drop_at, take-append-le}
use Rattle.octets.specs.Standard.{drop-append-le, drop-set-lt, get_or-set_other, eqb, eq-eqb, ne_eqb, le-ltb}
use Rattle.octets.specs.Number.{be24_at, put_be24}
use Rattle.octets.proofs.Numbers.{be24_alike, be32_alike, field_put}
use Rattle.diameter.specs.Walk.{Walk, walk, some_avp}
use Rattle.reading.specs.declared.Dialect.{Dialect}
use Rattle.reading.specs.declared.Terms.{Terms}
use Rattle.reading.specs.Features.{asks_beyond}
use Rattle.requests.specs.Features.{beyond_set, called_in, list_called}
use Rattle.requests.specs.Judged.{Judged, bad}
use Rattle.requests.proofs.Kept.{read_spoken}
use Rattle.diameter.specs.Message.{command_of, body_of}
use Rattle.reading.specs.Verdicts.{fault_of}
use Rattle.requests.specs.Request.{dialect_of, sh, spoken, header_fault_by, header_fault, read_walk, read_in, identities, session_of}
use Rattle.choices.specs.Given.{given_fault}
use Rattle.choices.specs.declared.Given.{Given}
use Rattle.deciding.specs.Rules.{in_force}
use Rattle.deciding.proofs.Tests.{each}
use Rattle.deciding.specs.Decide.{Decision, feature_unsupported, performed_by, judged_by, decide_by, decide}
use Rattle.envelope.specs.Header.{header_bytes}
use Rattle.reply.specs.Pieces.{list_bytes, top_bytes, identity_bytes, name_bytes, data_bytes, given_bytes}
use Rattle.envelope.specs.End.{proxies, end_bytes}
use Rattle.answering.specs.Answer.{rest_bytes, body_bytes, answer_bytes}
use Rattle.calling.specs.Lent.{Lent, asking}
use Rattle.refusals.specs.Early.{wrong_size, no_request, check_value, wrong_length}
use Rattle.calling.specs.Serve.{check_of, answered, answered_by, decision, serve_table}
use Rattle.demands.specs.Call.{turned_away}
use Rattle.demands.specs.Insertion.{message, later, placed}
use Rattle.demands.proofs.Refusals.{refused_alike, refused_placed, answer_is}
use Rattle.demands.proofs.Alike.{SameGiven, SameDecision, fault_same, blameless_same, plan_same}
use Rattle.demands.proofs.Moved.{Moved, faults, same}

-- a header with another length field
module _ (head : List ℕ) (n : ℕ) where
  abbrev a : ℕ
  a = n / 65536 % 256

  abbrev b : ℕ
  b = n / 256 % 256

  abbrev c : ℕ
  c = n % 256

  put_length : length (put_be24 head 1 n) ≡ length head
  unfolding put_be24
  put_length = simp length-set

  put_other : (i : ℕ) → i ≢ 1 → i ≢ 2 → i ≢ 3 → get_or (put_be24 head 1 n) i 0 ≡ get_or head i 0
  unfolding put_be24
  put_other i a b c = simp get_or-set_other

  put_past : drop 5 (put_be24 head 1 n) ≡ drop 5 head
  unfolding put_be24
  put_past =
      drop-set-lt 5 (set (set head 1 a) 2 b) 3 c (omega arith) ∙ drop-set-lt 5 (set head 1 a) 2 b (omega arith) ∙ drop-set-lt 5 head 1 a (omega arith)

module _ (head : List ℕ) (twenty : length head ≡ 20) (body : List ℕ) where
  abbrev n : ℕ
  n = 20 + length body

  front : length (put_be24 head 1 n) ≡ 20
  front = put_length head n ∙ twenty

  pub message_length : length (message head body) ≡ 20 + length body
  unfolding message
  message_length = length-append (put_be24 head 1 n) body ∙ rw front

  message_put : (i : ℕ) → i < 20 → get_or (message head body) i 0 ≡ get_or (put_be24 head 1 n) i 0
  unfolding message
  message_put i h = get_or-append (put_be24 head 1 n) body 0 i (omega (arith, front))

  message_at : (i : ℕ) → i < 20 → i ≢ 1 → i ≢ 2 → i ≢ 3 → get_or (message head body) i 0 ≡ get_or head i 0
  message_at i h a b c = message_put i h ∙ put_other head n i a b c

  pub message_flags_lem : get_or (message head body) 4 0 ≡ get_or head 4 0
  message_flags_lem = message_at 4 (omega arith) (omega arith) (omega arith) (omega arith)

  pub message_command : command_of (message head body) ≡ command_of head
  message_command = be24_alike (message head body) head 5 5 (λ j l. message_at (5 + j) (omega arith) (omega arith) (omega arith) (omega arith))

  pub message_dialect : (terms : Terms) → dialect_of terms (message head body) ≡ dialect_of terms head
  message_dialect terms = rw message_command

  pub message_fault_by : (has : Bool) (dialect : Dialect) → header_fault_by has dialect (message head body) ≡ header_fault_by has dialect head
  message_fault_by has dialect =
      rw (
        message_at 0 (omega arith) (omega arith) (omega arith) (omega arith),
        message_flags_lem,
        be32_alike (message head body) head 8 8 (λ j l. message_at (8 + j) (omega arith) (omega arith) (omega arith) (omega arith)),
      )

  pub message_fault : (dialect : Dialect) → header_fault dialect (message head body) ≡ header_fault dialect head
  unfolding header_fault
  message_fault dialect = message_fault_by (spoken dialect) dialect

  pub message_rest : take 15 (drop 5 (message head body)) ≡ take 15 (drop 5 head)
  unfolding message
  message_rest =
      let l : 15 ≤ length (drop 5 (put_be24 head 1 n)) = rw (length-drop, front) (omega arith) in
      rw (drop-append-le 5 (put_be24 head 1 n) body (omega (arith, front)), take-append-le 15 (drop 5 (put_be24 head 1 n)) body l, put_past head n)

  pub message_drop : drop 20 (message head body) ≡ body
  unfolding message
  message_drop = drop_at (put_be24 head 1 n) body 20 front

  pub message_body : body_of (message head body) ≡ walk body
  message_body = rw message_drop

  pub message_field : n < 16777216 → be24_at (message head body) 1 ≡ n
  message_field h = be24_alike (message head body) (put_be24 head 1 n) 1 1 (λ j l. message_put (1 + j) (omega arith)) ∙ field_put head 1 n (omega arith) h

-- reading a message: its header's fault, else its walk; at the Cx server
unfoldable pub read_body_by : ℕ → Dialect → Walk → Judged
read_body_by n d w = cond (eqb n 0) (read_walk d w) (bad (fault_of n))

unfoldable pub read_body : Dialect → List ℕ → Walk → Judged
read_body d head w = read_body_by (header_fault d head) d w

pub message_read : (d : Dialect) (head : List ℕ) → length head ≡ 20 → (body : List ℕ) → read_in d (message head body) ≡ read_body d head (walk body)
unfolding read_in read_body read_body_by
message_read d head twenty body = rw (message_fault head twenty body d, message_body head twenty body)

-- a body within the limits; no message of such a body is refused by its length
pub record Fit (body : List ℕ) : Type 0 where
  pub most : 20 + length body ≤ 16384
  pub fours : length body % 4 ≡ 0

module _ (head : List ℕ) (twenty : length head ≡ 20) (body : List ℕ) (fit : Fit body) where
  pub size_right : wrong_size (message head body) ≡ false
  size_right = rw (message_length head twenty body, le-ltb (20 + length body) 20 (omega arith), le-ltb 16384 (20 + length body) fit.most)

  pub length_right : wrong_length (message head body) ≡ false
  unfolding wrong_length
  length_right =
      rw (
        message_field head twenty body (omega (arith, fit.most)),
        message_length head twenty body,
        eq-eqb (20 + length body) (20 + length body) refl,
        eq-eqb ((20 + length body) % 4) 0 (omega (arith, fit.fours)),
      )

-- two messages of such bodies are refused alike
module _ (head : List ℕ) (twenty : length head ≡ 20) (b c : List ℕ) (f : Fit b) (g : Fit c) (x : Lent) where
  size_same : wrong_size (message head b) ≡ wrong_size (message head c)
  size_same = size_right head twenty b f ∙ sym (size_right head twenty c g)

  length_same : wrong_length (message head b) ≡ wrong_length (message head c)
  length_same = length_right head twenty b f ∙ sym (length_right head twenty c g)

  flags_same : no_request (message head b) ≡ no_request (message head c)
  flags_same = rw (message_flags_lem head twenty b, message_flags_lem head twenty c)

  pub turned_same : turned_away (asking x (message head b)) ≡ turned_away (asking x (message head c))
  turned_same = rw (size_same, length_same, flags_same)

  pub refused_same : (h : ℕ → ℕ) → turned_away (asking x (message head c)) ≡ true
      → serve_table (asking x (message head b)) ≡ placed h (serve_table (asking x (message head c)))
  refused_same h e =
      refused_alike x (message head b) (message head c) size_same length_same flags_same e
      ∙ sym (refused_placed (asking x (message head c)) h e)

-- a verdict's place, by what was put in before it
later_is : (more : ℕ → ℕ) → more 0 ≡ 0 → (p : ℕ) → p + more p ≡ later more p
later_is more none zero = zero-add (more 0) ∙ none
later_is more none (suc p) = rw (ne_eqb (suc p) 0 (omega arith))

-- two bodies of which the answer copies the same, and which want the same features
pub record Alike (v w : Walk) : Type 0 where
  pub session : session_of v ≡ session_of w
  pub copies : proxies v ≡ proxies w
  pub called : called_in v ≡ called_in w
  pub beyond : (set : ℕ) → some_avp (asks_beyond set) v ≡ some_avp (asks_beyond set) w

module _ (x : Lent) (head : List ℕ) (twenty : length head ≡ 20) (b c : List ℕ) (alike : Alike (walk b) (walk c)) where
  abbrev dialect : Dialect
  dialect = dialect_of x.terms head

  abbrev long : List ℕ
  long = message head b

  abbrev short : List ℕ
  short = message head c

  list_same : list_bytes x.terms long ≡ list_bytes x.terms short
  unfolding list_bytes list_called
  list_same =
      rw (
        message_dialect head twenty b x.terms,
        message_dialect head twenty c x.terms,
        message_fault head twenty b dialect,
        message_fault head twenty c dialect,
        message_body head twenty b,
        message_body head twenty c,
        alike.called,
      )

  beyond_same : beyond_set x.terms long ≡ beyond_set x.terms short
  unfolding beyond_set
  beyond_same = rw (message_body head twenty b, message_body head twenty c) (alike.beyond x.terms.features)

  body_same : (t file v : List ℕ) (g h : Given) → SameGiven long short g h → body_bytes x.terms long t file v g ≡ body_bytes x.terms short t file v h
  unfolding body_bytes top_bytes rest_bytes given_bytes name_bytes identity_bytes data_bytes end_bytes
  body_same t file v g h s =
      rw (
        list_same,
        s.failed,
        message_body head twenty b,
        message_body head twenty c,
        alike.session,
        alike.copies,
        s.result,
        s.user,
        s.public,
        s.server,
        s.capable,
        s.profile,
        s.sent,
      )

  answer_same : (t file v : List ℕ) (g h : Given) → SameGiven long short g h → answer_bytes x.terms long t file v g ≡ answer_bytes x.terms short t file v h
  unfolding answer_bytes header_bytes
  answer_same t file v g h s =
      rw (
        body_same t file v g h s,
        s.result,
        message_flags_lem head twenty b,
        message_flags_lem head twenty c,
        message_rest head twenty b,
        message_rest head twenty c,
      )

  pub answered_same : (h : ℕ → ℕ) (d e : Decision) → SameDecision long short d e → d.place ≡ h e.place
      → answered (asking x long) d ≡ placed h (answered (asking x short) e)
  unfolding answered_by
  answered_same h d e s p = rw (answer_same x.table x.profile x.vectors d.given e.given s.given, s.table, s.vectors, p)

  module _ {from : ℕ} {more : ℕ → ℕ} (none : more 0 ≡ 0) (read : Moved long short from more (read_body dialect head (walk b)) (read_body dialect head (walk c)))
      (named : (x.terms.application ≡ sh → ⊥) → identities (walk b) ≡ identities (walk c)) where
    both_named : (x.terms.application ≡ sh → ⊥) → identities (body_of long) ≡ identities (body_of short)
    both_named other = rw (message_body head twenty b, message_body head twenty c) (named other)

    judged_same : (t : List ℕ) (count : ℕ) (v : List ℕ) {j k : Judged} → read_in dialect short ≡ k → Moved long short from more j k
        → SameDecision long short (judged_by in_force dialect long t count v j) (judged_by in_force dialect short t count v k)
    unfolding judged_by
    judged_same t count v is (faults f g l) = record { given = fault_same long short f g l.result l.failed; table = refl; vectors = refl }
    judged_same t count v is (same seen) =
        rw beyond_same
        (each (SameDecision long short) (beyond_set x.terms short)
        (record { given = blameless_same long short (given_fault feature_unsupported) (refl, refl); table = refl; vectors = refl })
        (plan_same long short t count v seen (both_named (λ z. omega (arith, z, (read_spoken dialect short seen is).0))) dialect is))

    -- the place is the verdict's, or both have none
    judged_place : (t : List ℕ) (count : ℕ) (v : List ℕ) {j k : Judged} → Moved long short from more j k
        → (judged_by in_force dialect long t count v j).place ≡ later more (judged_by in_force dialect short t count v k).place
    unfolding judged_by performed_by
    judged_place t count v (faults f g l) = l.place ∙ later_is more none g.place
    judged_place t count v (same seen) =
        rw beyond_same (each (λ (d e : Decision). d.place ≡ later more e.place) (beyond_set x.terms short) refl refl)

    decide_same : (t : List ℕ) (count : ℕ) (v : List ℕ)
        → SameDecision long short (decide (dialect_of x.terms long) long t count v) (decide (dialect_of x.terms short) short t count v)
        × ((decide (dialect_of x.terms long) long t count v).place ≡ later more (decide (dialect_of x.terms short) short t count v).place)
    unfolding decide_by
    decide_same t count v =
        rw (
          message_dialect head twenty b x.terms,
          message_dialect head twenty c
              x.terms,
          message_read dialect head twenty b,
          message_read dialect head twenty c,
        )
        (judged_same t count v (message_read dialect head twenty c) read, judged_place t count v read)

    pub served_same : Fit b → Fit c → serve_table (asking x (message head b)) ≡ placed (later more) (serve_table (asking x (message head c)))
    served_same f g = go (turned_away (asking x short)) refl
      where
        k : ℕ
        k = check_value (check_of x)

        answers : answered (asking x long) (decision (asking x long) k) ≡ placed (later more) (answered (asking x short) (decision (asking x short) k))
        answers =
            let d = decide_same x.table k x.vectors in
            answered_same (later more) (decision (asking x long) k) (decision (asking x short) k) d.0 d.1

        go : (y : Bool) → turned_away (asking x short) ≡ y → serve_table (asking x long) ≡ placed (later more) (serve_table (asking x short))
        go true e = refused_same head twenty b c f g x (later more) e
        go false e =
            answer_is (asking x long) (turned_same head twenty b c f g x ∙ e) ∙ answers ∙ ap (placed (later more)) (sym (answer_is (asking x short) e))
