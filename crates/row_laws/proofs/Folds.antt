-- The requests of a row in turn: what they wrote, and behind it how the row ended.
use Rattle.octets.specs.Standard.{ℕ, suc, ◌+◌, ◌-◌, ◌*◌, ◌≤◌, ◌<◌, List, [], ◌∷◌, ◌++◌, append_assoc, Bool, true, false, cond, ◌||◌, or_assoc}
use Rattle.octets.specs.Standard.{◌≡◌, refl, ap, ◌∙◌, arith, length, take, drop, drop-drop, length-drop, ltb, eqb, eqb-true, eqb-false, ltb-false}
use Rattle.octets.specs.Standard.{suc-add}
use Rattle.counting.specs.Words.{long_bytes, words_bytes}
use Rattle.calling.specs.Lent.{Lent, asking}
use Rattle.calling.specs.Serve.{serve}
use Rattle.refusals.proofs.Passing.{neither}
use Rattle.row_of_calls.specs.Row.{Rowed, answer_length, alters, marks, no_room, ends, next, before, row_from}
use Rattle.row_of_calls.specs.Word.{call_word}
use Rattle.row_laws.specs.Turns.{lent_after, words_by, answers_by, some_call, some_alters, some_marks, behind}

-- the rows of words behind one word and behind more
drop_more : (n : ℕ) (words : List ℕ) → drop (8 * n) (drop 8 words) ≡ drop (8 * suc n) words
drop_more n words = let e : 8 + 8 * n ≡ 8 * suc n = omega arith in drop-drop (8 * n) 8 words ∙ ap (λ (k : ℕ). drop k words) e

-- one more request before others
before_behind : (x : Lent) (p : List ℕ) (ps : List (List ℕ)) (r : Rowed) → before (asking x p) (behind (next x p) ps r) ≡ behind x (p ∷ ps) r
unfolding answers_by words_by words_bytes some_call
before_behind x p ps r =
    rw (
      append_assoc (take (answer_length (serve (asking x p)).call) (serve (asking x p)).buffer) (answers_by (next x p) ps) r.answers,
      append_assoc (long_bytes (call_word (serve (asking x p)).call)) (words_bytes (words_by (next x p) ps)) r.words,
      or_assoc (alters (asking x p)) (some_alters (next x p) ps) r.altered,
      or_assoc (marks (asking x p)) (some_marks (next x p) ps) r.marked,
      suc-add (length ps) r.served,
    )

-- WHAT IT COMES TO: its requests served, and then it ends.
abbrev closed : Lent → List ℕ → List (List ℕ) → Rowed → Rowed
closed x words ps r = behind x (take r.served ps) (ends r.number (lent_after x (take r.served ps)) (drop (8 * r.served) words))

closed_more : (x : Lent) (words : List ℕ) (p : List ℕ) (ps : List (List ℕ)) (r : Rowed) → r ≡ closed (next x p) (drop 8 words) ps r
    → before (asking x p) r ≡ closed x words (p ∷ ps) (before (asking x p) r)
unfolding lent_after
closed_more x words p ps r e =
    ap (before (asking x p)) e
    ∙ before_behind x p (take r.served ps) (ends r.number (lent_after (next x p) (take r.served ps)) (drop (8 * r.served) (drop 8 words)))
    ∙ ap (λ (w : List ℕ). behind x (p ∷ take r.served ps) (ends r.number (lent_after (next x p) (take r.served ps)) w))
    (drop_more r.served words)

pub row_closed : (end : ℕ) (x : Lent) (words : List ℕ) (most : ℕ) (ps : List (List ℕ))
    → row_from end x words most ps ≡ closed x words ps (row_from end x words most ps)
unfolding row_from lent_after answers_by words_by words_bytes some_call
row_closed end x words most [] = refl
row_closed end x words most (p ∷ ps) = go (no_room (length x.buffer) (length words) most) (row_closed end (next x p) (drop 8 words) (most - 1) ps)
  where
    rest : Rowed
    rest = row_from end (next x p) (drop 8 words) (most - 1) ps

    go : (b : Bool) → rest ≡ closed (next x p) (drop 8 words) ps rest
        → cond b (ends 15 x words) (before (asking x p) rest) ≡ closed x words (p ∷ ps) (cond b (ends 15 x words) (before (asking x p) rest))
    go true e = refl
    go false e = closed_more x words p ps rest e

-- HOW MANY: no more than there are, nor than may have a word.
pub served_few : (end : ℕ) (x : Lent) (words : List ℕ) (most : ℕ) (ps : List (List ℕ)) → (row_from end x words most ps).served ≤ length ps
unfolding row_from
served_few end x words most [] = omega arith
served_few end x words most (p ∷ ps) = go (no_room (length x.buffer) (length words) most) (served_few end (next x p) (drop 8 words) (most - 1) ps)
  where
    rest : Rowed
    rest = row_from end (next x p) (drop 8 words) (most - 1) ps

    go : (b : Bool) → rest.served ≤ length ps → (cond b (ends 15 x words) (before (asking x p) rest)).served ≤ suc (length ps)
    go true e = omega arith
    go false e = omega arith

-- room for one more
pub record Room (answers words most : ℕ) : Type 0 where
  pub answer : 36864 ≤ answers
  pub word : 8 ≤ words
  pub count : 1 ≤ most

pub room_is : (a w m : ℕ) → no_room a w m ≡ false → Room a w m
room_is a w m e =
    let f = neither (ltb a 36864) (ltb w 8 || eqb m 0) e in
    let g = neither (ltb w 8) (eqb m 0) f.1 in
    let n : m ≡ 0 → ⊥ = eqb-false m 0 g.1 in
    record { answer = ltb-false a 36864 f.0; word = ltb-false w 8 g.0; count = omega arith }

pub served_most : (end : ℕ) (x : Lent) (words : List ℕ) (most : ℕ) (ps : List (List ℕ)) → (row_from end x words most ps).served ≤ most
unfolding row_from
served_most end x words most [] = omega arith
served_most end x words most (p ∷ ps) =
    go (no_room (length x.buffer) (length words) most) refl (served_most end (next x p) (drop 8 words) (most - 1) ps)
  where
    rest : Rowed
    rest = row_from end (next x p) (drop 8 words) (most - 1) ps

    go : (b : Bool) → no_room (length x.buffer) (length words) most ≡ b → rest.served ≤ most - 1
        → (cond b (ends 15 x words) (before (asking x p) rest)).served ≤ most
    go true e h = omega arith
    go false e h = let c = (room_is (length x.buffer) (length words) most e).count in omega arith

-- HOW IT ENDS: by `end` where all are served ..
pub all_ends : (end : ℕ) (x : Lent) (words : List ℕ) (most : ℕ) (ps : List (List ℕ)) → (row_from end x words most ps).served ≡ length ps
    → (row_from end x words most ps).number ≡ end
unfolding row_from
all_ends end x words most [] e = refl
all_ends end x words most (p ∷ ps) e = go (no_room (length x.buffer) (length words) most) (all_ends end (next x p) (drop 8 words) (most - 1) ps) e
  where
    rest : Rowed
    rest = row_from end (next x p) (drop 8 words) (most - 1) ps

    go : (b : Bool) → (rest.served ≡ length ps → rest.number ≡ end) → (cond b (ends 15 x words) (before (asking x p) rest)).served ≡ suc (length ps)
        → (cond b (ends 15 x words) (before (asking x p) rest)).number ≡ end
    go true h e = absurd (omega (arith, e))
    go false h e = h (omega (arith, e))

-- .. and by 15 before the first for which there is no room
abbrev NoneFor : Lent → List ℕ → ℕ → List (List ℕ) → ℕ → Type 0
NoneFor x words most ps n = no_room (length (lent_after x (take n ps)).buffer) (length (drop (8 * n) words)) (most - n) ≡ true

pub left_ends : (end : ℕ) (x : Lent) (words : List ℕ) (most : ℕ) (ps : List (List ℕ)) → (row_from end x words most ps).served < length ps
    → ((row_from end x words most ps).number ≡ 15) × NoneFor x words most ps (row_from end x words most ps).served
unfolding row_from lent_after
left_ends end x words most [] h = absurd (omega (arith, h))
left_ends end x words most (p ∷ ps) h =
    go (no_room (length x.buffer) (length words) most) refl (left_ends end (next x p) (drop 8 words) (most - 1) ps) h
  where
    rest : Rowed
    rest = row_from end (next x p) (drop 8 words) (most - 1) ps

    after : (n : ℕ) → NoneFor (next x p) (drop 8 words) (most - 1) ps n → NoneFor x words most (p ∷ ps) (suc n)
    after n e = let q : most - 1 - n ≡ most - suc n = omega arith in rw (← drop_more n words, ← q) e

    none : no_room (length x.buffer) (length words) most ≡ true → NoneFor x words most (p ∷ ps) 0
    none e = let q : most - 0 ≡ most = omega arith in rw q e

    go : (b : Bool) → no_room (length x.buffer) (length words) most ≡ b
        → (rest.served < length ps → (rest.number ≡ 15) × NoneFor (next x p) (drop 8 words) (most - 1) ps rest.served)
        → (cond b (ends 15 x words) (before (asking x p) rest)).served < suc (length ps)
        → ((cond b (ends 15 x words) (before (asking x p) rest)).number ≡ 15)
        × NoneFor x words most (p ∷ ps) (cond b (ends 15 x words) (before (asking x p) rest)).served
    go true e more l = (refl, none e)
    go false e more l = let m = more (omega (arith, l)) in (m.0, after rest.served m.1)

-- Each that is served has room.
abbrev pub Roomy : Lent → List ℕ → ℕ → List (List ℕ) → Type 0
Roomy x words most [] = Unit
Roomy x words most (p ∷ ps) = Room (length x.buffer) (length words) most × Roomy (next x p) (drop 8 words) (most - 1) ps

pub served_roomy : (end : ℕ) (x : Lent) (words : List ℕ) (most : ℕ) (ps : List (List ℕ))
    → Roomy x words most (take (row_from end x words most ps).served ps)
unfolding row_from
served_roomy end x words most [] = tt
served_roomy end x words most (p ∷ ps) =
    go (no_room (length x.buffer) (length words) most) refl (served_roomy end (next x p) (drop 8 words) (most - 1) ps)
  where
    rest : Rowed
    rest = row_from end (next x p) (drop 8 words) (most - 1) ps

    go : (b : Bool) → no_room (length x.buffer) (length words) most ≡ b → Roomy (next x p) (drop 8 words) (most - 1) (take rest.served ps)
        → Roomy x words most (take (cond b (ends 15 x words) (before (asking x p) rest)).served (p ∷ ps))
    go true e more = tt
    go false e more = (room_is (length x.buffer) (length words) most e, more)

pub roomy_at : (x : Lent) (words : List ℕ) (most : ℕ) (ps : List (List ℕ)) (q : List ℕ) (qs : List (List ℕ)) → Roomy x words most (ps ++ (q ∷ qs))
    → Room (length (lent_after x ps).buffer) (length (drop (8 * length ps) words)) (most - length ps)
unfolding lent_after
roomy_at x words most [] q qs r = let e : most - 0 ≡ most = omega arith in rw e r.0
roomy_at x words most (p ∷ ps) q qs r =
    let e : most - 1 - length ps ≡ most - suc (length ps) = omega arith in
    rw (← drop_more (length ps) words, ← e) (roomy_at (next x p) (drop 8 words) (most - 1) ps q qs r.1)

pub words_fit : (x : Lent) (words : List ℕ) (most : ℕ) (ps : List (List ℕ)) → Roomy x words most ps → 8 * length ps ≤ length words
words_fit x words most [] r = omega arith
words_fit x words most (p ∷ ps) r =
    omega (arith, r.0.word, words_fit (next x p) (drop 8 words) (most - 1) ps r.1, length-drop 8 words)

-- TWO ROWS: where all of the first are served, the others go on.
pub row_append : (e end : ℕ) (x : Lent) (words : List ℕ) (most : ℕ) (ps qs : List (List ℕ)) → (row_from e x words most ps).served ≡ length ps
    → row_from end x words most (ps ++ qs) ≡ behind x ps (row_from end (lent_after x ps) (drop (8 * length ps) words) (most - length ps) qs)
unfolding row_from lent_after answers_by words_by words_bytes some_call
row_append e end x words most [] qs h =
    let z : most - 0 ≡ most = omega arith in
    let n : 0 + (row_from end x words most qs).served ≡ (row_from end x words most qs).served = omega arith in
    rw (z, n)
row_append e end x words most (p ∷ ps) qs h =
    go (no_room (length x.buffer) (length words) most) h (row_append e end (next x p) (drop 8 words) (most - 1) ps qs)
  where
    rest : Rowed
    rest = row_from e (next x p) (drop 8 words) (most - 1) ps

    others : Rowed
    others = row_from end (next x p) (drop 8 words) (most - 1) (ps ++ qs)

    later : Rowed
    later = row_from end (lent_after (next x p) ps) (drop (8 * length ps) (drop 8 words)) (most - 1 - length ps) qs

    go : (b : Bool) → (cond b (ends 15 x words) (before (asking x p) rest)).served ≡ suc (length ps)
        → (rest.served ≡ length ps → others ≡ behind (next x p) ps later)
        → cond b (ends 15 x words) (before (asking x p) others)
        ≡ behind x (p ∷ ps) (row_from end (lent_after (next x p) ps) (drop (8 * suc (length ps)) words) (most - suc (length ps)) qs)
    go true f more = absurd (omega (arith, f))
    go false f more =
        let q : most - 1 - length ps ≡ most - suc (length ps) = omega arith in
        ap (before (asking x p)) (more (omega (arith, f))) ∙ before_behind x p ps later ∙ rw (drop_more (length ps) words, q)

-- The file lent matters for its requests alone.
pub row_other : (end : ℕ) (x : Lent) (q words : List ℕ) (most : ℕ) (ps : List (List ℕ)) → row_from end (asking x q) words most ps ≡ row_from end x words most ps
unfolding row_from next
row_other end x q words most [] = refl
row_other end x q words most (p ∷ ps) =
    ap (λ (r : Rowed). cond (no_room (length x.buffer) (length words) most) (ends 15 x words) (before (asking x p) r))
    (row_other end (next x p) q (drop 8 words) (most - 1) ps)

-- A lower limit does not matter to a row that has no more words.
pub row_within : (end : ℕ) (x : Lent) (words : List ℕ) (most : ℕ) (ps : List (List ℕ)) (less : ℕ) → less ≤ most
    → (row_from end x words most ps).served ≤ less → row_from end x words less ps ≡ row_from end x words most ps
unfolding row_from
row_within end x words most [] less l h = refl
row_within end x words most (p ∷ ps) less l h =
    go (ltb (length x.buffer) 36864) (ltb (length words) 8) (eqb most 0) (eqb less 0) refl refl h
    (row_within end (next x p) (drop 8 words) (most - 1) ps (less - 1) (omega arith))
  where
    rest : ℕ → Rowed
    rest n = row_from end (next x p) (drop 8 words) (n - 1) ps

    go : (a w m n : Bool) → eqb most 0 ≡ m → eqb less 0 ≡ n
        → (cond (a || (w || m)) (ends 15 x words) (before (asking x p) (rest most))).served ≤ less
        → ((rest most).served ≤ less - 1 → rest less ≡ rest most)
        → cond (a || (w || n)) (ends 15 x words) (before (asking x p) (rest less))
        ≡ cond (a || (w || m)) (ends 15 x words) (before (asking x p) (rest most))
    go true w m n e f g more = refl
    go false true m n e f g more = refl
    go false false true true e f g more = refl
    go false false true false e f g more = absurd (eqb-false less 0 f (omega (arith, eqb-true most 0 e, l)))
    go false false false true e f g more = absurd (omega (arith, eqb-true less 0 f, g))
    go false false false false e f g more =
        let n : less ≡ 0 → ⊥ = eqb-false less 0 f in
        ap (before (asking x p)) (more (omega (arith, g)))
