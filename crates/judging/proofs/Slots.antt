-- The second pass: a block that is remembered is read again out of the list, and the laws of the table's own check serve the table that the list says.
use Rattle.octets.specs.Standard.{ℕ, ◌+◌, ◌*◌, ◌/◌, ◌%◌, ◌<◌, ◌≤◌, Bool, true, false, cond, true≢false, ◌≡◌, refl, sym, ◌∙◌, arith}
use Rattle.octets.specs.Standard.{List, eqb, eqb-true, eqb-false, eq-eqb, ne_eqb, length, get_or, set}
use Rattle.record.specs.Fields.{count_of, set_of}
use Rattle.record.specs.Sets.{same_set, agreeing}
use Rattle.blocks.specs.Blocks.{block_of}
use Rattle.table.specs.Check.{agrees_at}
use Rattle.table.specs.Hash.{hash_of}
use Rattle.table.specs.Remembered.{tag_of, stops_at, Word, Remembers, SlotsPassed, Agreed}
use Rattle.table.proofs.Remembered as kept
use Rattle.importing.specs.Said.{said_at, table_said}
use Rattle.saying.specs.Noted.{Noted}
use Rattle.saying.proofs.Reading.{noted_less}
use Rattle.judging.specs.Fit.{Fit}
use Rattle.judging.specs.Members.{stops_by, Reached, SlotRead, FoundSo, held_by, slots_after}
use Rattle.judging.proofs.Fitting.{fit_block, fit_here}

-- Whether a slot ends the search, by what is read of it.
module _ (list header : List ℕ) (hash : ℕ) (b : List ℕ) (word : ℕ) where
  pub by_empty : word ≡ 0 → true ≡ stops_by list header hash b word
  unfolding stops_by
  by_empty e = rw (eq-eqb word 0 e)

  pub by_other : {x : ℕ} → (word ≡ 0 → ⊥) → x ≡ tag_of hash → (word / 8192 ≡ x → ⊥) → false ≡ stops_by list header hash b word
  unfolding stops_by
  by_other n e f = rw (ne_eqb word 0 n, ← e, ne_eqb _ _ f)

  pub by_same : {x : ℕ} {a : List ℕ} {y : Bool} → (word ≡ 0 → ⊥) → x ≡ tag_of hash → word / 8192 ≡ x → a ≡ said_at list header (word % 8192) → y ≡ same_set a b
      → y ≡ stops_by list header hash b word
  unfolding stops_by
  by_same n e f g h = rw (ne_eqb word 0 n, ← e, eq-eqb _ _ f, ← g) h

pub read_empty : (list header : List ℕ) (word : ℕ) {x : Bool} {a : List ℕ} → word ≡ 0 → SlotRead list header word x a
read_empty list header word e = record { block = λ f n. absurd (n e) }

pub read_other : (list header : List ℕ) (word : ℕ) {a : List ℕ} → SlotRead list header word false a
read_other list header word = record { block = λ f n. absurd (true≢false (sym f)) }

pub read_same : (list header : List ℕ) (word : ℕ) {x : Bool} {a : List ℕ} → a ≡ said_at list header (word % 8192) → SlotRead list header word x a
read_same list header word e = record { block = λ f n. e }

pub reach_least : (list places : List ℕ) (word : ℕ) → Reached list places word → (word ≡ 0 → ⊥) → 1 ≤ word % 8192
reach_least list places word r n = r.least n

-- The slots remember the sets of the records before record k.
module _ (list header : List ℕ) (fit : Fit header) (slots : List ℕ) (k : ℕ) (most : k ≤ count_of header) (m : Remembers (table_said list header) slots k) where
  pub reached : (places : List ℕ) (at : ℕ) {w : ℕ} → 1 ≤ k → Noted list places k → w ≡ get_or slots at 0 → Reached list places w
  reached places at {w} h n e =
      let l : w % 8192 < k = kept.slot_before (table_said list header) slots k at m e in
      record {
        least = λ z. let u : Word (table_said list header) w = rw (← e) at (m.word at (rw e at (filled z))) in u.block;
        most = omega (arith, fit.few);
        noted = noted_less list places (w % 8192) k (omega arith) n;
      }
    where
      filled : (w ≡ 0 → ⊥) → 0 < w
      filled z = omega arith

  module _ (b : List ℕ) (here : b ≡ said_at list header k) where
    own_block : b ≡ block_of (table_said list header) k
    own_block = fit_here list header k fit most here

    -- the test by blocks that are read is the one over the table
    stops_as : (hash at : ℕ) {w : ℕ} {x : Bool} → w ≡ get_or slots at 0 → x ≡ stops_by list header hash b w → x ≡ stops_at (table_said list header) hash k w
    unfolding stops_by stops_at
    stops_as hash at {w} e f =
        let l : w % 8192 < k = kept.slot_before (table_said list header) slots k at m e in
        rw (fit_block list header fit (w % 8192) (omega arith), ← own_block) f

    module _ (hash i : ℕ) {at w : ℕ} {x : Bool} (p : SlotsPassed (table_said list header) slots hash k i) (place : at ≡ (hash % 4608 + i) % 4608)
        (is : w ≡ get_or slots at 0) (e : x ≡ stops_by list header hash b w) where
      pub search_more : x ≡ false → SlotsPassed (table_said list header) slots hash k (i + 1)
      search_more f = kept.find_more (table_said list header) slots hash k i p place is (stops_as hash at is e) f m (omega (arith, fit.few))

      pub search_here : {a : List ℕ} → x ≡ true → SlotRead list header w x a → FoundSo list header slots k a hash at
      search_here f r =
          record {
            found = kept.find_here (table_said list header) slots hash k i p place is (stops_as hash at is e) f;
            slot = omega arith;
            block = λ n.
                let l : get_or slots at 0 % 8192 < k = m.before at in
                (rw is at (r.block f) n) ∙ sym (fit_block list header fit (get_or slots at 0 % 8192) (omega arith));
          }

    -- no set
    pub apart_agrees : {n : ℕ} → n ≡ set_of b → n ≡ 0 → true ≡ agrees_at (table_said list header) k
    apart_agrees e z = kept.apart_agrees (table_said list header) slots k m own_block e z

    pub apart_kept : {n : ℕ} → n ≡ set_of b → n ≡ 0 → Remembers (table_said list header) slots (k + 1)
    apart_kept e z = kept.apart_kept (table_said list header) slots k m own_block e z

    -- a set, held against the slot where the search ended
    module _ (a : List ℕ) (hash at : ℕ) (h : hash ≡ hash_of b) (so : FoundSo list header slots k a hash at) where
      own : hash ≡ hash_of (block_of (table_said list header) k)
      own = rw own_block at h

      pub held_agrees : {x : Bool} → Agreed (table_said list header) k → x ≡ held_by a b (get_or slots at 0) → x ≡ agrees_at (table_said list header) k
      unfolding held_by
      held_agrees {x} good e = go (eqb (get_or slots at 0) 0) refl e
        where
          go : (y : Bool) → eqb (get_or slots at 0) 0 ≡ y → x ≡ cond y true (agreeing a b) → x ≡ agrees_at (table_said list header) k
          go true g h =
              h ∙ kept.empty_agrees (table_said list header) slots k m hash at so.found own so.slot refl (eqb-true _ _ g)
          go false g h =
              let n : get_or slots at 0 ≡ 0 → ⊥ = eqb-false _ _ g in
              kept.full_agrees (table_said list header) slots k m hash at so.found own so.slot refl n good (so.block n) own_block h

      pub held_kept : {ss : List ℕ} → 1 ≤ k → ss ≡ slots_after slots hash at k → Remembers (table_said list header) ss (k + 1)
      unfolding slots_after
      held_kept h e = rw e (go (eqb (get_or slots at 0) 0) refl)
        where
          go : (y : Bool) → eqb (get_or slots at 0) 0 ≡ y
              → Remembers (table_said list header) (cond y (set slots at (tag_of hash * 8192 + k)) slots) (k + 1)
          go true g =
              kept.empty_kept (table_said list header) slots k m hash at so.found own so.slot refl (eqb-true _ _ g) h
              (omega (arith, fit.few))
              refl
          go false g = kept.full_kept (table_said list header) slots k m hash at so.found own so.slot refl (eqb-false _ _ g)

-- The slot by what is read of it.
module _ (a b slots : List ℕ) (hash at k : ℕ) {w : ℕ} (is : w ≡ get_or slots at 0) where
  pub held_empty : w ≡ 0 → true ≡ held_by a b (get_or slots at 0)
  unfolding held_by
  held_empty e = rw (← is, eq-eqb w 0 e)

  pub held_full : {x : Bool} → (w ≡ 0 → ⊥) → x ≡ agreeing a b → x ≡ held_by a b (get_or slots at 0)
  unfolding held_by
  held_full n e = rw (← is, ne_eqb w 0 n) e

  pub after_empty : {x : ℕ} → w ≡ 0 → x ≡ tag_of hash → set slots at (x * 8192 + k) ≡ slots_after slots hash at k
  unfolding slots_after
  after_empty e g = rw (← is, eq-eqb w 0 e, g)

  pub after_full : (w ≡ 0 → ⊥) → slots ≡ slots_after slots hash at k
  unfolding slots_after
  after_full n = rw (← is, ne_eqb w 0 n)

pub slots_size : (t slots : List ℕ) (k : ℕ) → Remembers t slots k → length slots ≡ 4608
slots_size t slots k m = m.size

pub noted_next : (list places : List ℕ) (m n : ℕ) → m < n → Noted list places n → Noted list places (m + 1)
noted_next list places m n h k = noted_less list places (m + 1) n (omega arith) k
