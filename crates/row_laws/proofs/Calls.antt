-- What the calls of a row leave, each to the next: lengths, the bytes behind the answers, and what stays of the table and the vectors.
use Rattle.std.specs.Prelude.{Ok}
use Rattle.octets.specs.Standard.{ℕ, suc, ◌+◌, ◌/◌, ◌≤◌, ◌<◌, List, [], ◌∷◌, ◌++◌, Bool, true, false, true≢false, Option, none, some, ◌≡◌, refl}
use Rattle.octets.specs.Standard.{sym, ap, ◌∙◌, ◌≢◌, ◌⊎◌, inl, inr, arith, none-ne-some, some-injective}
use Rattle.octets.specs.Standard.{length, get_or, take, drop, drop_at, drop-drop, length-append, length-take-le, take-append-drop, append_assoc}
use Rattle.octets.specs.Standard.{leb, leb-true, leb-false}
use Rattle.octets.specs.Name.{same}
use Rattle.octets.specs.Run.{over}
use Rattle.octets.proofs.Names.{same_eq, same_yes}
use Rattle.record.specs.Fields.{private_of}
use Rattle.blocks.specs.Blocks.{block_of}
use Rattle.table.specs.Area.{table_in, check_area}
use Rattle.table.specs.Named.{private_at}
use Rattle.counting.specs.Words.{long_bytes, words_bytes}
use Rattle.calling.specs.Call.{Call, Answered, Refused}
use Rattle.calling.specs.Lent.{Lent, asking, table_only, dialect_in}
use Rattle.calling.specs.Serve.{answer_of, decided, refused, answered_by, serve}
use Rattle.calling.proofs.Areas.{served_in, served_large, served_rest}
use Rattle.calling.proofs.Kept.{serve_either}
use Rattle.rewrite.specs.Keeps.{alterable}
use Rattle.ndushavire.specs.Reads.{call_number, call_value}
use Rattle.demands.specs.Frame.{subscription_of}
use Rattle.demands.proofs.Demands.{demand_1_within, demand_1_word, demand_2_room, demand_2_size, demand_2_others, demand_2_sound}
use Rattle.demands.proofs.Demands.{demand_2_header, demand_2_bytes, demand_2_bits}
use Rattle.row_of_calls.specs.Row.{answer_length, next}
use Rattle.row_of_calls.specs.Word.{call_word}
use Rattle.report_numbers.specs.Turns.{InTurn}
use Rattle.vectors_sent.specs.Row.{left_by}
use Rattle.row_laws.specs.Turns.{lent_after, lent_to, AsksAbout, words_by, answers_by, answers_long, turns_of}

-- ONE CALL: its answer lies within the buffer, and behind it the buffer is as it came.
module _ (y : Lent) where
  pub answer_fits : answer_length (serve y).call ≤ length y.buffer
  answer_fits = go (serve y).call (demand_1_within y)
    where
      go : (c : Call) → (call_number c ≡ 0 → call_value c ≤ length y.buffer) → answer_length c ≤ length y.buffer
      go (Answered a) h = h refl
      go (Refused number besides) h = omega arith

  pub answer_past : drop (answer_length (serve y).call) (serve y).buffer ≡ drop (answer_length (serve y).call) y.buffer
  unfolding refused answered_by over
  answer_past =
      let bytes = answer_of (table_only y) (decided (table_only y)) in
      serve_either (table_only y) (λ b s. drop (answer_length s.call) s.buffer ≡ drop (answer_length s.call) y.buffer) (λ r. refl)
      (drop_at bytes (drop (length bytes) y.buffer) (length bytes) refl)

  pub answer_length_lem : length (take (answer_length (serve y).call) (serve y).buffer) ≡ answer_length (serve y).call
  answer_length_lem = length-take-le (answer_length (serve y).call) (serve y).buffer (omega (arith, answer_fits, demand_2_room y))

-- THE CALLS IN TURN.
pub after_buffer : (x : Lent) (ps : List (List ℕ)) → (lent_after x ps).buffer ≡ drop (length (answers_by x ps)) x.buffer
unfolding lent_after answers_by next
after_buffer x [] = refl
after_buffer x (p ∷ ps) =
    let y = asking x p in
    let n : ℕ = answer_length (serve y).call in
    let rest : List ℕ = answers_by (next x p) ps in
    let l : n + length rest ≡ length (take n (serve y).buffer ++ rest) =
    sym (length-append (take n (serve y).buffer) rest ∙ ap (λ (m : ℕ). m + length rest) (answer_length_lem y)) in
    after_buffer (next x p) ps ∙ ap (drop (length rest)) (answer_past y) ∙ drop-drop (length rest) n x.buffer ∙ ap (λ (m : ℕ). drop m x.buffer) l

pub answers_length : (x : Lent) (ps : List (List ℕ)) → length (answers_by x ps ++ (lent_after x ps).buffer) ≡ length x.buffer
unfolding lent_after answers_by next
answers_length x [] = refl
answers_length x (p ∷ ps) =
    let y = asking x p in
    let n : ℕ = answer_length (serve y).call in
    let b : List ℕ = (serve y).buffer in
    ap length (append_assoc (take n b) (answers_by (next x p) ps) (lent_after (next x p) ps).buffer)
    ∙ length-append (take n b) (answers_by (next x p) ps ++ (lent_after (next x p) ps).buffer)
    ∙ ap (λ (m : ℕ). length (take n b) + m) (answers_length (next x p) ps)
    ∙ sym (length-append (take n b) (drop n b))
    ∙ ap length (take-append-drop n b)
    ∙ demand_2_room y

pub words_count : (x : Lent) (ps : List (List ℕ)) → length (words_by x ps) ≡ length ps
unfolding words_by
words_count x [] = refl
words_count x (p ∷ ps) = ap suc (words_count (next x p) ps)

pub answers_long_lem : (x : Lent) (ps : List (List ℕ)) → length (answers_by x ps) ≡ answers_long (words_by x ps)
unfolding answers_by words_by answers_long
answers_long_lem x [] = refl
answers_long_lem x (p ∷ ps) =
    let y = asking x p in
    omega (
      arith,
      length-append (take (answer_length (serve y).call) (serve y).buffer) (answers_by (next x p) ps),
      answer_length_lem y,
      ap (λ (c : Call). answer_length c) (demand_1_word y).call,
      answers_long_lem (next x p) ps,
    )

-- What holds of what is lent, and is left by every call, holds of what is left.
pub carried : (P : Lent → Type 0) → ((y : Lent) (p : List ℕ) → P y → P (next y p)) → (x : Lent) (ps : List (List ℕ)) → P x → P (lent_after x ps)
unfolding lent_after
carried P step x [] h = h
carried P step x (p ∷ ps) h = carried P step (next x p) ps (step x p h)

pub record Alike (x y : Lent) : Type 0 where
  pub profile : y.profile ≡ x.profile
  pub terms : y.terms ≡ x.terms
  pub area : length y.table ≡ length x.table
  pub behind : drop (length (table_in x.table)) y.table ≡ drop (length (table_in x.table)) x.table
  pub within : length (table_in y.table) ≡ length (table_in x.table)

pub after_alike : (x : Lent) (ps : List (List ℕ)) → Alike x (lent_after x ps)
unfolding next
after_alike x ps =
    carried (Alike x)
    (λ y p h.
    let n : length (table_in (serve (asking y p)).table) ≡ length (table_in y.table) =
    ap length (served_in (asking y p)) ∙ (served_large (table_only (asking y p))).bytes in
    let rest = served_rest (asking y p) in
    record {
      profile = h.profile;
      terms = h.terms;
      area = demand_2_size (asking y p) ∙ h.area;
      behind = ap (λ (m : ℕ). drop m (serve (asking y p)).table) (sym h.within) ∙ rest ∙ ap (λ (m : ℕ). drop m y.table) h.within ∙ h.behind;
      within = n ∙ h.within;
    })
    x ps (record { profile = refl; terms = refl; area = refl; behind = refl; within = refl })

-- as vectors_sent has them
pub after_vectors : (x : Lent) (ps : List (List ℕ)) → (lent_after x ps).vectors ≡ left_by x.vectors (turns_of x ps)
unfolding lent_after turns_of left_by next
after_vectors x [] = refl
after_vectors x (p ∷ ps) = after_vectors (next x p) ps

-- two rows of them
pub after_append : (x : Lent) (ps qs : List (List ℕ)) → lent_after x (ps ++ qs) ≡ lent_after (lent_after x ps) qs
unfolding lent_after
after_append x [] qs = refl
after_append x (p ∷ ps) qs = after_append (next x p) ps qs

pub words_append : (x : Lent) (ps qs : List (List ℕ))
    → words_bytes (words_by x (ps ++ qs)) ≡ words_bytes (words_by x ps) ++ words_bytes (words_by (lent_after x ps) qs)
unfolding lent_after words_by words_bytes
words_append x [] qs = refl
words_append x (p ∷ ps) qs =
    let w : List ℕ = long_bytes (call_word (serve (asking x p)).call) in
    ap (λ (r : List ℕ). w ++ r) (words_append (next x p) ps qs)
    ∙ sym (append_assoc w (words_bytes (words_by (next x p) ps)) (words_bytes (words_by (lent_after (next x p) ps) qs)))

pub answers_append : (x : Lent) (ps qs : List (List ℕ)) → answers_by x (ps ++ qs) ≡ answers_by x ps ++ answers_by (lent_after x ps) qs
unfolding lent_after answers_by
answers_append x [] qs = refl
answers_append x (p ∷ ps) qs =
    let a : List ℕ = take (answer_length (serve (asking x p)).call) (serve (asking x p)).buffer in
    ap (λ (r : List ℕ). a ++ r) (answers_append (next x p) ps qs) ∙ sym (append_assoc a (answers_by (next x p) ps) (answers_by (lent_after (next x p) ps) qs))

-- DEMAND 2 over them: a sound table stays sound, and a record that none of them asks about is as it was.
pub record Stays (x : Lent) (count : ℕ) (y : Lent) : Type 0 where
  pub sound : check_area y.table (length y.profile) ≡ Ok count
  pub header : block_of y.table 0 ≡ block_of x.table 0
  pub past : (k : ℕ) → count < k → block_of y.table k ≡ block_of x.table k
  pub bytes : (k i : ℕ) → i < 512 → alterable i ≡ false → get_or (block_of y.table k) i 0 ≡ get_or (block_of x.table k) i 0
  pub bits : (k : ℕ) → get_or (block_of y.table k) 9 0 / 2 ≡ get_or (block_of x.table k) 9 0 / 2

pub after_stays : (x : Lent) (ps : List (List ℕ)) (count : ℕ) → check_area x.table (length x.profile) ≡ Ok count → Stays x count (lent_after x ps)
unfolding next
after_stays x ps count sound =
    carried (Stays x count)
    (λ y p h.
    let a = asking y p in
    record {
      sound = demand_2_sound a count h.sound;
      header = demand_2_header a count h.sound ∙ h.header;
      past = λ k l. demand_2_others a count h.sound k (inl l) ∙ h.past k l;
      bytes = λ k i l e. demand_2_bytes a count h.sound k i l e ∙ h.bytes k i l e;
      bits = λ k. demand_2_bits a count h.sound k ∙ h.bits k;
    })
    x ps (record { sound = sound; header = refl; past = λ k l. refl; bytes = λ k i l e. refl; bits = λ k. refl })

-- of two private identities, where there may be none
same_or_not : (o q : Option (List ℕ)) → (o ≡ q) ⊎ (o ≢ q)
same_or_not none none = inl refl
same_or_not none (some t) = inr (λ e. none-ne-some t e)
same_or_not (some s) none = inr (λ e. none-ne-some s (sym e))
same_or_not (some s) (some t) = go (same s t) refl
  where
    go : (b : Bool) → same s t ≡ b → (some s ≡ some t) ⊎ (some s ≢ some t)
    go true e = inl (ap some (same_eq s t e))
    go false e = inr (λ f. true≢false (sym (same_yes s t (some-injective s t f)) ∙ e))

-- one of them asks about block k of an area, or the block stays
module _ (count k : ℕ) (area : List ℕ) where
  abbrev Asks : Lent → Type 0
  Asks y = some (private_at area k) ≡ subscription_of (dialect_in y) y.request (table_in y.table) count

  pub after_asked : (x : Lent) (ps : List (List ℕ)) → check_area x.table (length x.profile) ≡ Ok count → block_of x.table k ≡ block_of area k
      → ((p : InTurn ps) × Asks (lent_to x p)) ⊎ (block_of (lent_after x ps).table k ≡ block_of area k)
  unfolding lent_after next private_at
  after_asked x [] sound kept = inr kept
  after_asked x (p ∷ ps) sound kept =
      go (same_or_not (some (private_at area k)) (subscription_of (dialect_in (asking x p)) p (table_in x.table) count))
      (after_asked (next x p) ps (demand_2_sound (asking x p) count sound))
    where
      later : ((q : InTurn ps) × Asks (lent_to (next x p) q)) ⊎ (block_of (lent_after (next x p) ps).table k ≡ block_of area k)
          → ((q : InTurn (p ∷ ps)) × Asks (lent_to x q)) ⊎ (block_of (lent_after (next x p) ps).table k ≡ block_of area k)
      later (inl (q, e)) =
          inl (
            record { before = p ∷ q.before; request = q.request; after = q.after; is = ap (λ (qs : List (List ℕ)). p ∷ qs) q.is },
            e,
          )
      later (inr e) = inr e

      go : Asks (asking x p) ⊎ (some (private_at area k) ≢ subscription_of (dialect_in (asking x p)) p (table_in x.table) count)
          → (block_of (next x p).table k ≡ block_of area k
          → ((q : InTurn ps) × Asks (lent_to (next x p) q)) ⊎ (block_of (lent_after (next x p) ps).table k ≡ block_of area k))
          → ((q : InTurn (p ∷ ps)) × Asks (lent_to x q)) ⊎ (block_of (lent_after (next x p) ps).table k ≡ block_of area k)
      go (inl e) more = inl (record { before = []; request = p; after = ps; is = refl }, e)
      go (inr n) more =
          later (more (demand_2_others (asking x p) count sound k (inr (λ e. n (ap (λ (b : List ℕ). some (private_of b)) (sym kept) ∙ e))) ∙ kept))

pub changed_asked : (x : Lent) (ps : List (List ℕ)) (count : ℕ) → check_area x.table (length x.profile) ≡ Ok count → (k : ℕ)
    → block_of (lent_after x ps).table k ≢ block_of x.table k → (k ≤ count) × ((p : InTurn ps) × AsksAbout x count k p)
changed_asked x ps count sound k n = (near (leb k count) refl, asked (after_asked count k x.table x ps sound refl))
  where
    near : (b : Bool) → leb k count ≡ b → k ≤ count
    near true e = leb-true k count e
    near false e = absurd (n ((after_stays x ps count sound).past k (leb-false k count e)))

    asked : ((p : InTurn ps) × AsksAbout x count k p) ⊎ (block_of (lent_after x ps).table k ≡ block_of x.table k)
        → (p : InTurn ps) × AsksAbout x count k p
    asked (inl q) = q
    asked (inr e) = absurd (n e)
