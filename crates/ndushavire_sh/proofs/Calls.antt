-- What each way through a call of the Sh server leaves.
use Rattle.std.specs.Prelude.{Result, Ok, Err}
use Rattle.octets.specs.Standard.{ℕ, ◌≤◌, ◌<◌, List, Bool, true, false, cond, ◌≡◌, refl, sym, ◌∙◌, ap, arith, length}
use Rattle.table.specs.Area.{table_in, check_area}
use Rattle.table.specs.SoundTable.{SoundTable}
use Rattle.table.proofs.Sound.{sound_few}
use Rattle.reading.specs.declared.Dialect.{Dialect}
use Rattle.reading.specs.declared.Terms.{Terms}
use Rattle.requests.specs.Request.{dialect_of, under_sh}
use Rattle.refusals.specs.Early.{unknown_peer, small_buffer, wrong_size, wrong_length, no_request, early}
use Rattle.refusals.specs.Numbers.{number_of, number_tried}
use Rattle.refusals.specs.Passed.{Passed}
use Rattle.refusals.specs.Trial.{tried}
use Rattle.refusals.specs.declared.Refusal.{Refusal}
use Rattle.refusals.specs.declared.Refusal.TheVariants.{UnknownPeer, SmallBuffer, WrongSize, WrongLength, NoRequest, Unsound, UnsoundVectors}
use Rattle.refusals.proofs.Passing.{lets, passes}
use Rattle.sh.specs.Replies.{Replies}
use Rattle.sh.specs.declared.Reply.{Reply}
use Rattle.ndushavire.specs.Promise.{CheckPromise}
use Rattle.ndushavire.specs.Reads.{number_in, value_in}
use Rattle.ndushavire.specs.Word.{word, check_word}
use Rattle.ndushavire_sh.specs.Lent.{Lent, lent, terms_in}
use Rattle.ndushavire_sh.specs.Promise.{ShDecidePromise}
use Rattle.ndushavire_sh.specs.Serve.{refused, answered, serve_checked}

-- The early refusals where none holds.
module _ (req o : List ℕ) (peer : ℕ) (terms : Terms) (t : terms ≡ under_sh peer) (r : Result (Unit {0}) Refusal) (is : number_tried r ≡ early terms req o)
    (u : Unit {0}) (e : r ≡ Ok u) where
  pub none_early : early (under_sh peer) req o ≡ 0
  none_early = sym (rw (e, t) at is)

  pub none_passes : Passed req o
  none_passes = passes (under_sh peer) req o (sym none_early) (omega arith)

number_least : (r : Refusal) → 0 < number_of r
number_least UnknownPeer = omega arith
number_least SmallBuffer = omega arith
number_least WrongSize = omega arith
number_least WrongLength = omega arith
number_least NoRequest = omega arith
number_least (Unsound block) = omega arith
number_least UnsoundVectors = omega arith

-- The early ones.
module _ (req area file o : List ℕ) (peer : ℕ) where
  abbrev x : Lent
  x = lent req area file o peer

  early_refuses : 0 < early (terms_in x) req o → ShDecidePromise x (word (early (terms_in x) req o) 0 0) o
  unfolding early serve_checked tried refused
  early_refuses h = go (unknown_peer (terms_in x)) (small_buffer o) (wrong_size req) (wrong_length req) (no_request req) refl refl refl refl refl h
    where
      go : (u a b c d : Bool) → unknown_peer (terms_in x) ≡ u → small_buffer o ≡ a → wrong_size req ≡ b → wrong_length req ≡ c → no_request req ≡ d
          → 0 < cond u 12 (cond a 1 (cond b 2 (cond c 3 (cond d 4 0))))
          → ShDecidePromise x (word (cond u 12 (cond a 1 (cond b 2 (cond c 3 (cond d 4 0))))) 0 0) o
      go true a b c d p f g h i z = record { word_is = rw p; buffer_is = rw p }
      go false true b c d p f g h i z = record { word_is = rw (p, f); buffer_is = rw (p, f) }
      go false false true c d p f g h i z = record { word_is = rw (p, f, g); buffer_is = rw (p, f, g) }
      go false false false true d p f g h i z = record { word_is = rw (p, f, g, h); buffer_is = rw (p, f, g, h) }
      go false false false false true p f g h i z = record { word_is = rw (p, f, g, h, i); buffer_is = rw (p, f, g, h, i) }
      go false false false false false p f g h i z = absurd (omega (arith, z))

  pub refuses : (terms : Terms) (r : Result (Unit {0}) Refusal) (f : Refusal) {n w : ℕ} → terms ≡ under_sh peer → number_tried r ≡ early terms req o
      → r ≡ Err f → n ≡ number_of f → w ≡ word n 0 0 → ShDecidePromise x w o
  refuses terms r f t is e m z =
      let q : number_of f ≡ early (terms_in x) req o = rw (e, t) at is in
      rw (z, m, q) (early_refuses (rw (← q) (number_least f)))

-- What the check's word says: its number is 0 for a sound table alone, with the count as its value.
module _ (area file : List ℕ) (w : ℕ) (says : CheckPromise area file w) where
  record Bad : Type 0 where
    block : ℕ
    is : check_area area (length file) ≡ Err block

  few : (count : ℕ) → check_area area (length file) ≡ Ok count → count ≤ 4096
  unfolding check_area
  few count e = sound_few (table_in area) count (record { file = length file; checked = e })

  unsound_of : (number_in w ≡ 0 → ⊥) → Bad
  unsound_of h = go (check_area area (length file)) refl
    where
      go : (c : Result ℕ ℕ) → check_area area (length file) ≡ c → Bad
      go (Err k) e = record { block = k; is = e }
      go (Ok count) e =
          let q : w ≡ check_word 5 (Ok count) = says.answer ∙ ap (check_word 5) e in
          absurd (h (omega (arith, q, few count e)))

  sound_of : number_in w ≡ 0 → check_area area (length file) ≡ Ok (value_in w)
  sound_of h = go (check_area area (length file)) refl
    where
      go : (c : Result ℕ ℕ) → check_area area (length file) ≡ c → check_area area (length file) ≡ Ok (value_in w)
      go (Err k) e =
          let q : w ≡ check_word 5 (Err k) = says.answer ∙ ap (check_word 5) e in
          absurd (omega (arith, q, h))
      go (Ok count) e =
          let q : w ≡ check_word 5 (Ok count) = says.answer ∙ ap (check_word 5) e in
          let v : value_in w ≡ count = omega (arith, q, few count e) in
          rw v e

  pub table_sound : {n m : ℕ} {t : List ℕ} → n ≡ number_in w → n ≡ 0 → m ≡ value_in w → t ≡ table_in area → SoundTable t m
  unfolding check_area
  table_sound a b c e = rw (c, e) (record { file = length file; checked = sound_of (sym a ∙ b) })

  -- The table is unsound; it is sound, and the request is answered.
  module _ (req o : List ℕ) (peer : ℕ) (none : early (under_sh peer) req o ≡ 0) {n : ℕ} (en : n ≡ number_in w) where
    pub unsound_promised : (n ≡ 0 → ⊥) → ShDecidePromise (lent req area file o peer) w o
    unfolding serve_checked tried refused
    unsound_promised h =
        let u = unsound_of (λ z. h (en ∙ z)) in
        let l = lets (under_sh peer) req o none in
        record {
          word_is = says.answer ∙ rw (u.is, l.peer, l.room, l.size, l.long, l.asks);
          buffer_is = rw (u.is, l.peer, l.room, l.size, l.long, l.asks);
        }

    pub answered_promised : {m v : ℕ} {t o' : List ℕ} {terms : Terms} {d : Dialect} {r : Reply} → n ≡ 0 → m ≡ value_in w → t ≡ table_in area
        → terms ≡ under_sh peer → d ≡ dialect_of terms req → Replies d req t m o o' r → v ≡ word 0 r.place r.length
        → ShDecidePromise (lent req area file o peer) v o'
    unfolding serve_checked tried answered
    answered_promised z a c h e s k =
        let q = sound_of (sym en ∙ z) in
        let l = lets (under_sh peer) req o none in
        let p = rw (a, c, e, h) at s in
        record {
          word_is = k ∙ rw (q, l.peer, l.room, l.size, l.long, l.asks, ← p.answers.count, ← p.place_is);
          buffer_is = p.answers.bytes ∙ rw (q, l.peer, l.room, l.size, l.long, l.asks);
        }
