-- The sets that are remembered: a slot is empty only where no earlier record is of the set looked for; to agree with the remembered one is to agree with all.
use Rattle.octets.specs.Standard.{ℕ, zero, suc, ◌+◌, ◌-◌, ◌*◌, ◌/◌, ◌%◌, ◌<◌, ◌≤◌, Bool, true, false, ◌&&◌, ◌||◌, cond, true≢false, ◌≡◌, refl, sym}
use Rattle.octets.specs.Standard.{◌∙◌, ap, List, arith, eqb, ltb, length, get_or, set, replicate, length-set, length-replicate, get_or-set_same}
use Rattle.octets.specs.Standard.{get_or-set_other, eqb-true, eqb-false, eq-eqb, ne_eqb, ltb-true, ltb-false}
use Rattle.record.specs.Fields.{set_of}
use Rattle.table.specs.Hash.{hash_of}
use Rattle.record.specs.Sets.{same_set, agreeing}
use Rattle.table.proofs.Hashes.{hash_same}
use Rattle.record.proofs.OneSet.{OneSet, set_says, set_sym, set_trans, set_own, agree_refl, agree_sym, agree_trans}
use Rattle.blocks.specs.Blocks.{block_of}
use Rattle.table.specs.Check.{agrees_at}
use Rattle.table.specs.Remembered.{tag_of, word_of, probe, slot_at, stops_at, filled, Word, SetKept, Remembers, SlotsPassed, SlotFound, Agreed}
use Rattle.table.proofs.Agreement.{agrees_says, agrees_holds}
use Rattle.table.proofs.Leading.{setless_agrees}

-- Whether a slot ends the search, by what is read of it.
module _ (t : List ℕ) (hash k word : ℕ) where
  pub stop_empty : word ≡ 0 → eqb word 0 ≡ stops_at t hash k word
  unfolding stops_at
  stop_empty e = rw (eq-eqb word 0 e)

  pub stop_other : {x : ℕ} → (word ≡ 0 → ⊥) → x ≡ tag_of hash → (word / 8192 ≡ x → ⊥) → eqb (word / 8192) x ≡ stops_at t hash k word
  unfolding stops_at
  stop_other n e f = rw (ne_eqb word 0 n, ← e, ne_eqb _ _ f)

  pub stop_same : {x : ℕ} {a b : List ℕ} {y : Bool} → (word ≡ 0 → ⊥) → x ≡ tag_of hash → word / 8192 ≡ x → a ≡ block_of t (word % 8192) → b ≡ block_of t k
      → y ≡ same_set a b → y ≡ stops_at t hash k word
  unfolding stops_at
  stop_same n e f g h i = rw (ne_eqb word 0 n, ← e, eq-eqb _ _ f, ← g, ← h) i

  stops_not : stops_at t hash k word ≡ false → 0 < word
  unfolding stops_at
  stops_not e = go (eqb word 0) refl e
    where
      go : (x : Bool) → eqb word 0 ≡ x → (x || (eqb (word / 8192) (tag_of hash) && same_set (block_of t (word % 8192)) (block_of t k))) ≡ false → 0 < word
      go true f g = absurd (true≢false g)
      go false f g = let n : word ≡ 0 → ⊥ = eqb-false word 0 f in omega arith

  stops_at_lem : 0 < word → word / 8192 ≡ tag_of hash → stops_at t hash k word ≡ same_set (block_of t (word % 8192)) (block_of t k)
  unfolding stops_at
  stops_at_lem l e = let n : word ≡ 0 → ⊥ = λ z. omega arith in rw (ne_eqb word 0 n, eq-eqb _ _ e)

  stops_set : stops_at t hash k word ≡ true → 0 < word → same_set (block_of t (word % 8192)) (block_of t k) ≡ true
  unfolding stops_at
  stops_set e l = let n : word ≡ 0 → ⊥ = λ z. omega arith in go (eqb (word / 8192) (tag_of hash)) (rw (ne_eqb word 0 n) at e)
    where
      go : (x : Bool) → (x && same_set (block_of t (word % 8192)) (block_of t k)) ≡ true → same_set (block_of t (word % 8192)) (block_of t k) ≡ true
      go true g = g
      go false g = absurd (true≢false (sym g))

-- The block of a slot is an earlier one.
pub slot_before : (t slots : List ℕ) (k a : ℕ) {w : ℕ} → Remembers t slots k → w ≡ get_or slots a 0 → w % 8192 < k
slot_before t slots k a m e = rw e (m.before a)

pub slot_within : (t slots : List ℕ) (k a : ℕ) {w : ℕ} → Remembers t slots k → w ≡ get_or slots a 0 → 512 * k + 512 ≤ length t
    → 512 * (w % 8192) + 512 ≤ length t
slot_within t slots k a m e h = omega (arith, slot_before t slots k a m e)

-- Nothing is remembered yet.
zeros : (n a : ℕ) → ◌≡◌ {A = ℕ} (get_or (replicate n 0) a 0) 0
zeros zero a = refl
zeros (suc n) zero = refl
zeros (suc n) (suc a) = zeros n a

-- The filled slots: none of empty ones, all of filled ones, one more where an empty one is filled.
filled_none : (slots : List ℕ) → ((a : ℕ) → get_or slots a 0 ≡ 0) → (n : ℕ) → filled slots n ≡ 0
unfolding filled
filled_none slots h zero = refl
filled_none slots h (suc n) = rw (h n) (filled_none slots h n)

filled_all : (slots : List ℕ) (n : ℕ) → ((a : ℕ) → a < n → 0 < get_or slots a 0) → filled slots n ≡ n
unfolding filled
filled_all slots zero h = refl
filled_all slots (suc n) h =
    let l : 0 < get_or slots n 0 = h n (omega arith) in
    let e : get_or slots n 0 ≡ 0 → ⊥ = λ z. omega arith in
    rw (ne_eqb _ _ e, filled_all slots n (λ a b. h a (omega arith)))

filled_same : (slots later : List ℕ) (n : ℕ) → ((a : ℕ) → a < n → get_or later a 0 ≡ get_or slots a 0) → filled later n ≡ filled slots n
unfolding filled
filled_same slots later zero h = refl
filled_same slots later (suc n) h = rw (h n (omega arith), filled_same slots later n (λ a b. h a (omega arith)))

either : (x y : Bool) (f : ℕ) → cond x f (suc f) ≤ cond y f (suc f) + 1
either true true f = omega arith
either true false f = omega arith
either false true f = omega arith
either false false f = omega arith

both : (y : Bool) (f g : ℕ) → f ≤ g + 1 → cond y f (suc f) ≤ cond y g (suc g) + 1
both true f g h = h
both false f g h = omega arith

filled_one : (slots : List ℕ) (at v n : ℕ) → filled (set slots at v) n ≤ filled slots n + 1
unfolding filled
filled_one slots at v zero = omega arith
filled_one slots at v (suc n) = go (eqb n at) refl (filled_one slots at v n)
  where
    go : (x : Bool) → eqb n at ≡ x → filled (set slots at v) n ≤ filled slots n + 1
        → cond (eqb (get_or (set slots at v) n 0) 0) (filled (set slots at v) n) (suc (filled (set slots at v) n))
        ≤ cond (eqb (get_or slots n 0) 0) (filled slots n) (suc (filled slots n)) + 1
    go true e h =
        let q : n ≡ at = eqb-true n at e in
        let same : filled (set slots at v) n ≡ filled slots n =
        filled_same slots (set slots at v) n (λ a l. get_or-set_other slots at a v 0 (λ z. omega arith)) in
        rw same (either (eqb (get_or (set slots at v) n 0) 0) (eqb (get_or slots n 0) 0) (filled slots n))
    go false e h = rw (get_or-set_other slots at n v 0 (eqb-false n at e)) (both (eqb (get_or slots n 0) 0) (filled (set slots at v) n) (filled slots n) h)

pub remember_none : (t : List ℕ) → Remembers t (replicate 4608 0) 1
remember_none t =
    record {
      size = length-replicate {A = ℕ} 4608 0;
      few = omega (arith, filled_none (replicate 4608 0) (zeros 4608) 4608);
      before = λ a. rw (zeros 4608 a) (omega arith);
      word = λ a l. absurd (omega (arith, zeros 4608 a));
      kept = λ j a b s. absurd (omega arith);
    }

-- A search that passed every slot would have found all of them filled, and there are not so many records.
search_ends : (t slots : List ℕ) (hash k i : ℕ) → Remembers t slots k → k ≤ 4096
    → ((j : ℕ) → j < i → stops_at t hash k (slot_at slots hash j) ≡ false) → i < 4608
unfolding slot_at probe
search_ends t slots hash k i m most p = go (ltb i 4608) refl
  where
    every : 4608 ≤ i → (a : ℕ) → a < 4608 → 0 < get_or slots a 0
    every l a b =
        let q : (hash % 4608 + (a + 4608 - hash % 4608) % 4608) % 4608 ≡ a = omega arith in
        rw q at (stops_not _ _ _ _ (p ((a + 4608 - hash % 4608) % 4608) (omega arith)))

    go : (x : Bool) → ltb i 4608 ≡ x → i < 4608
    go true e = ltb-true i 4608 e
    go false e = absurd (omega (arith, filled_all slots 4608 (every (ltb-false i 4608 e)), m.few))

-- The turns of the search.
pub find_first : (t slots : List ℕ) (hash k : ℕ) → SlotsPassed t slots hash k 0
find_first t slots hash k = record { few = omega arith; each = λ i h. absurd (omega arith) }

module _ (t slots : List ℕ) (hash k i : ℕ) {at w : ℕ} {x : Bool} (p : SlotsPassed t slots hash k i) (place : at ≡ (hash % 4608 + i) % 4608)
    (is : w ≡ get_or slots at 0) (e : x ≡ stops_at t hash k w) where
  stops_here : stops_at t hash k (slot_at slots hash i) ≡ x
  unfolding slot_at probe
  stops_here = rw (← place, ← is) (sym e)

  pub find_more : x ≡ false → Remembers t slots k → k ≤ 4096 → SlotsPassed t slots hash k (i + 1)
  find_more f m most = record { few = search_ends t slots hash k (i + 1) m most later; each = later }
    where
      go : (j : ℕ) → j < i + 1 → (y : Bool) → ltb j i ≡ y → stops_at t hash k (slot_at slots hash j) ≡ false
      go j h true g = p.each j (ltb-true j i g)
      go j h false g = let q : j ≡ i = omega (arith, ltb-false j i g) in rw q (stops_here ∙ f)

      later : (j : ℕ) → j < i + 1 → stops_at t hash k (slot_at slots hash j) ≡ false
      later j h = go j h (ltb j i) refl

  pub find_here : x ≡ true → SlotFound t slots hash k at
  unfolding probe
  find_here f = record { turn = i; passed = p; place = place; stopped = stops_here ∙ f }

-- Every record so far agrees: none yet, and one more.
pub agreed_none : (t : List ℕ) → Agreed t (0 + 1)
agreed_none t = record { each = λ j a b. absurd (omega arith) }

pub agreed_more : (t : List ℕ) (m : ℕ) {x : Bool} → Agreed t (m + 1) → x ≡ agrees_at t (m + 1) → x ≡ true → Agreed t (m + 1 + 1)
agreed_more t m g e f = record { each = λ j a b. go j a b (ltb j (m + 1)) refl }
  where
    go : (j : ℕ) → 1 ≤ j → j < m + 1 + 1 → (y : Bool) → ltb j (m + 1) ≡ y → agrees_at t j ≡ true
    go j a b true d = g.each j a (ltb-true j (m + 1) d)
    go j a b false d = let q : j ≡ m + 1 = omega (arith, ltb-false j (m + 1) d) in rw q (sym e ∙ f)

pub hash_own : (t : List ℕ) (k : ℕ) (b : List ℕ) {hash : ℕ} → b ≡ block_of t k → hash ≡ hash_of b → hash ≡ hash_of (block_of t k)
hash_own t k b is e = rw is at e

-- One record more: block k, by what is kept of it if it has a set.
module _ (t slots : List ℕ) (k : ℕ) (m : Remembers t slots k) where
  one_more : (0 < set_of (block_of t k) → SetKept t slots k) → Remembers t slots (k + 1)
  one_more f =
      record {
        size = m.size;
        few = omega (arith, m.few);
        before = λ a. omega (arith, m.before a);
        word = m.word;
        kept = λ j a b s. go j a b s (ltb j k) refl;
      }
    where
      go : (j : ℕ) → 1 ≤ j → j < k + 1 → 0 < set_of (block_of t j) → (y : Bool) → ltb j k ≡ y → SetKept t slots j
      go j a b s true g = m.kept j a (ltb-true j k g) s
      go j a b s false g = let q : j ≡ k = omega (arith, ltb-false j k g) in rw q (f (rw q at s))

  -- block k has no set
  module _ {b : List ℕ} {n : ℕ} (is : b ≡ block_of t k) (set : n ≡ set_of b) (e : n ≡ 0) where
    pub apart_agrees : true ≡ agrees_at t k
    apart_agrees = sym (setless_agrees t k (rw is at (sym set ∙ e)))

    pub apart_kept : Remembers t slots (k + 1)
    apart_kept = one_more (λ l. let z : set_of (block_of t k) ≡ 0 = rw is at (sym set ∙ e) in absurd (omega arith))

  module _ (hash : ℕ) (at : ℕ) (f : SlotFound t slots hash k at) (own : hash ≡ hash_of (block_of t k)) where
    passed : (i : ℕ) → i < f.turn → stops_at t (hash_of (block_of t k)) k (slot_at slots (hash_of (block_of t k)) i) ≡ false
    passed = rw own at f.passed.each

    -- the slot where the search for block k's set ended
    module _ (l : at < 4608) {w : ℕ} (is : w ≡ get_or slots at 0) where
      at_turn : slot_at slots (hash_of (block_of t k)) f.turn ≡ w
      unfolding slot_at
      at_turn = let e : at ≡ probe (hash_of (block_of t k)) f.turn = rw own at f.place in rw (← e) (sym is)

      stopped : stops_at t (hash_of (block_of t k)) k w ≡ true
      stopped = let e : stops_at t (hash_of (block_of t k)) k (slot_at slots (hash_of (block_of t k)) f.turn) ≡ true = rw own at f.stopped in rw at_turn at e

      -- an empty one: no earlier record is of the set
      module _ (empty : w ≡ 0) where
        none_before : (j : ℕ) → 1 ≤ j → j < k → same_set (block_of t j) (block_of t k) ≡ true → ⊥
        unfolding slot_at
        none_before j a b s =
            let o : OneSet (block_of t j) (block_of t k) = set_says (block_of t j) (block_of t k) s in
            let q : SetKept t slots j = m.kept j a b o.numbered in
            go q (ltb q.turn f.turn) (ltb f.turn q.turn) refl refl
          where
            hashes : hash_of (block_of t j) ≡ hash_of (block_of t k)
            hashes = hash_same (block_of t j) (block_of t k) s

            later : (q : SetKept t slots j) → q.turn < f.turn → (v : ℕ) → slot_at slots (hash_of (block_of t j)) q.turn ≡ v → ⊥
            later q h v e =
                let n : 0 < v = rw e at q.full in
                let g : same_set (block_of t (v % 8192)) (block_of t j) ≡ true = rw e at q.own in
                let d : same_set (block_of t (v % 8192)) (block_of t k) ≡ true = set_trans _ _ _ g s in
                let u : Word t v = rw e at (m.word (probe (hash_of (block_of t j)) q.turn) (rw (sym e) at n)) in
                let c : tag_of (hash_of (block_of t (v % 8192))) ≡ tag_of (hash_of (block_of t k)) = ap tag_of (hash_same _ _ d) in
                let z : slot_at slots (hash_of (block_of t k)) q.turn ≡ v = rw hashes at e in
                let p : stops_at t (hash_of (block_of t k)) k v ≡ false = rw z at (passed q.turn h) in
                absurd (true≢false (sym d ∙ sym (stops_at_lem t (hash_of (block_of t k)) k v n (u.tag ∙ c)) ∙ p))

            go : (q : SetKept t slots j) (x y : Bool) → ltb q.turn f.turn ≡ x → ltb f.turn q.turn ≡ y → ⊥
            go q true y d e = later q (ltb-true _ _ d) _ refl
            go q false true d e =
                let n : 0 < slot_at slots (hash_of (block_of t k)) f.turn = rw hashes at (q.filled f.turn (ltb-true _ _ e)) in
                omega (arith, at_turn)
            go q false false d e =
                let i : q.turn ≡ f.turn = omega (arith, ltb-false q.turn f.turn d, ltb-false f.turn q.turn e) in
                let n : 0 < slot_at slots (hash_of (block_of t k)) f.turn = rw (hashes, i) at q.full in
                omega (arith, at_turn)

        pub empty_agrees : true ≡ agrees_at t k
        empty_agrees = sym (agrees_holds t k (λ j a b s. absurd (none_before j a b s)))

        -- block k put there
        module _ (least : 1 ≤ k) (most : k ≤ 4096) where
          word_block : word_of (hash_of (block_of t k)) k % 8192 ≡ k
          word_block = omega arith

          word_tag : word_of (hash_of (block_of t k)) k / 8192 ≡ tag_of (hash_of (block_of t k))
          word_tag = omega arith

          abbrev after : List ℕ
          after = set slots at (word_of (hash_of (block_of t k)) k)

          put_there : get_or after at 0 ≡ word_of (hash_of (block_of t k)) k
          put_there = get_or-set_same slots at _ 0 (omega (arith, m.size))

          elsewhere : (a : ℕ) → 0 < get_or slots a 0 → get_or after a 0 ≡ get_or slots a 0
          elsewhere a n = get_or-set_other slots at a _ 0 (λ e. let z : get_or slots a 0 ≡ get_or slots at 0 = ap (λ x. get_or slots x 0) e in omega arith)

          slot_stays : (hash i : ℕ) → 0 < slot_at slots hash i → slot_at after hash i ≡ slot_at slots hash i
          unfolding slot_at
          slot_stays hash i n = elsewhere (probe hash i) n

          each_slot : (a : ℕ) (P : ℕ → Type 0) → P (word_of (hash_of (block_of t k)) k) → P (get_or slots a 0) → P (get_or after a 0)
          each_slot a P x y = go (eqb a at) refl
            where
              go : (z : Bool) → eqb a at ≡ z → P (get_or after a 0)
              go true e = let q : a ≡ at = eqb-true a at e in rw (q, put_there) x
              go false e = rw (get_or-set_other slots at a (word_of (hash_of (block_of t k)) k) 0 (eqb-false a at e)) y

          kept_stays : (j : ℕ) → SetKept t slots j → SetKept t after j
          kept_stays j q =
              record {
                turn = q.turn;
                filled = λ i h. rw (slot_stays (hash_of (block_of t j)) i (q.filled i h)) (q.filled i h);
                full = rw (slot_stays (hash_of (block_of t j)) q.turn q.full) q.full;
                own = rw (slot_stays (hash_of (block_of t j)) q.turn q.full) q.own;
              }

          there_turn : slot_at after (hash_of (block_of t k)) f.turn ≡ word_of (hash_of (block_of t k)) k
          unfolding slot_at
          there_turn = let e : at ≡ probe (hash_of (block_of t k)) f.turn = rw own at f.place in rw (← e) put_there

          kept_there : 0 < set_of (block_of t k) → SetKept t after k
          kept_there s =
              record {
                turn = f.turn;
                filled = λ i h. let n : 0 < slot_at slots (hash_of (block_of t k)) i = stops_not _ _ _ _ (passed i h) in rw (slot_stays _ i n) n;
                full = rw there_turn (omega arith);
                own = rw (there_turn, word_block) (set_own (block_of t k) s);
              }

          pub empty_kept : {x : ℕ} → x ≡ tag_of hash → Remembers t (set slots at (x * 8192 + k)) (k + 1)
          empty_kept e =
              rw (e, own)
              (record {
                size = rw length-set m.size;
                few = omega (arith, filled_one slots at (word_of (hash_of (block_of t k)) k) 4608, m.few);
                before = λ a. each_slot a (λ w. w % 8192 < k + 1) (omega arith) (omega (arith, m.before a));
                word = λ a. each_slot a (λ w. 0 < w → Word t w) (λ _. record { block = rw word_block least; tag = rw word_block word_tag }) (m.word a);
                kept = λ j a b s. go j a b s (ltb j k) refl;
              })
            where
              go : (j : ℕ) → 1 ≤ j → j < k + 1 → 0 < set_of (block_of t j) → (y : Bool) → ltb j k ≡ y → SetKept t after j
              go j a b s true g = kept_stays j (m.kept j a (ltb-true j k g) s)
              go j a b s false g = let q : j ≡ k = omega (arith, ltb-false j k g) in rw q (kept_there (rw q at s))

      -- one of the set
      module _ (n : w ≡ 0 → ⊥) where
        full_one : 0 < w
        full_one = omega arith

        same_one : same_set (block_of t (w % 8192)) (block_of t k) ≡ true
        same_one = stops_set _ _ _ _ stopped full_one

        one : 1 ≤ w % 8192
        one = let u : Word t w = rw (← is) at (m.word at (rw is at full_one)) in u.block

        old : w % 8192 < k
        old = slot_before t slots k at m is

        pub full_kept : Remembers t slots (k + 1)
        full_kept =
            one_more
            (λ _. record {
              turn = f.turn;
              filled = λ i h. stops_not _ _ _ _ (passed i h);
              full = rw at_turn full_one;
              own = rw at_turn same_one;
            })

        -- to agree with it is to agree with all
        module _ (good : Agreed t k) where
          agrees_through : (j : ℕ) → 1 ≤ j → j < k → same_set (block_of t j) (block_of t (w % 8192)) ≡ true
              → agreeing (block_of t j) (block_of t (w % 8192)) ≡ true
          agrees_through j a b s = go (ltb j (w % 8192)) (ltb (w % 8192) j) refl refl
            where
              go : (x y : Bool) → ltb j (w % 8192) ≡ x → ltb (w % 8192) j ≡ y → agreeing (block_of t j) (block_of t (w % 8192)) ≡ true
              go true y d e = agrees_says t (w % 8192) (good.each (w % 8192) one old) j a (ltb-true _ _ d) s
              go false true d e =
                  agree_sym (block_of t (w % 8192)) (block_of t j) (agrees_says t j (good.each j a b) (w % 8192) one (ltb-true _ _ e) (set_sym _ _ s))
              go false false d e =
                  let q : j ≡ w % 8192 = omega (arith, ltb-false j (w % 8192) d, ltb-false (w % 8192) j e) in
                  rw q (agree_refl (block_of t (w % 8192)))

          pub full_agrees : {a b : List ℕ} {y : Bool} → a ≡ block_of t (w % 8192) → b ≡ block_of t k → y ≡ agreeing a b → y ≡ agrees_at t k
          full_agrees {y = y} ea eb e = go y (rw (ea, eb) at e)
            where
              go : (x : Bool) → x ≡ agreeing (block_of t (w % 8192)) (block_of t k) → x ≡ agrees_at t k
              go true h =
                  sym
                  (agrees_holds t k
                  (λ j a b s. agree_trans _ _ _ (agrees_through j a b (set_trans _ _ _ s (set_sym _ _ same_one))) (sym h)))
              go false h = not_all (agrees_at t k) refl
                where
                  not_all : (z : Bool) → agrees_at t k ≡ z → false ≡ agrees_at t k
                  not_all false d = sym d
                  not_all true d = absurd (true≢false (sym (agrees_says t k d (w % 8192) one old same_one) ∙ sym h))
