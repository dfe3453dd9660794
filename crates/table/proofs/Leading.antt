-- Numbers counted up to the first that is not good: the turns of such a loop, and that two passes find what one finds.
use Rattle.std.specs.Prelude.{Result, Ok, Err}
use Rattle.octets.specs.Standard.{ℕ, zero, suc, ◌+◌, ◌-◌, ◌<◌, ◌≤◌, Bool, true, false, ◌&&◌, cond, ◌≡◌, refl, sym, ◌∙◌, List, arith, add-one, bit_or}
use Rattle.octets.specs.Standard.{leb, eqb, le-leb, lt-leb, leb-true, leb-false, eqb-true}
use Rattle.octets.specs.All.{all_below}
use Rattle.octets.proofs.All.{and_left, all_at, all_more}
use Rattle.octets.proofs.Runs.{or_zero}
use Rattle.record.specs.Fields.{set_of}
use Rattle.record.specs.declared.header.Header.{Header}
use Rattle.record.proofs.OneSet.{OneSet, set_says}
use Rattle.blocks.specs.Blocks.{block_of, first_bad}
use Rattle.table.specs.Check.{stands_at, agrees_at, sound_at, check_records}
use Rattle.table.specs.Leading.{leading, setless, Setless, outcome_of}
use Rattle.table.proofs.Agreement.{agrees_holds}

pub leading_all : (good : ℕ → Bool) (n : ℕ) → leading good n 1 ≡ 0 + leading good (n - 0) (0 + 1)
leading_all good n = let a : n - 0 ≡ n = omega arith in rw a (omega arith)

-- the loop has counted m of n
module _ (good : ℕ → Bool) (n m : ℕ) {whole : ℕ} (left : whole ≡ m + leading good (n - m) (m + 1)) where
  pub leading_more : {x : Bool} → m < n → x ≡ good (m + 1) → x ≡ true → whole ≡ m + 1 + leading good (n - (m + 1)) (m + 1 + 1)
  unfolding leading
  leading_more h e f =
      let d : n - m ≡ suc (n - (m + 1)) = omega arith in
      let g : good (m + 1) ≡ true = cc in
      let l : whole ≡ m + suc (leading good (n - (m + 1)) (suc (m + 1))) = rw (d, g) at left in
      rw (add-one (m + 1)) (omega arith)

  pub leading_stop : {x : Bool} → m < n → x ≡ good (m + 1) → x ≡ false → m ≡ whole
  unfolding leading
  leading_stop h e f =
      let d : n - m ≡ suc (n - (m + 1)) = omega arith in
      let g : good (m + 1) ≡ false = cc in
      let l : whole ≡ m + 0 = rw (d, g) at left in
      omega arith

  pub leading_end : n ≤ m → m ≡ whole
  unfolding leading
  leading_end h = let d : n - m ≡ 0 = omega arith in let l : whole ≡ m + 0 = rw d at left in omega arith

-- One record, by what is read of it.
pub setless_read : (t : List ℕ) (i : ℕ) (b : List ℕ) {n : ℕ} → b ≡ block_of t (i + 1) → n ≡ set_of b → eqb n 0 ≡ setless t i
unfolding setless
setless_read t i b is e = rw (← add-one i, ← is, ← e)

-- What the loop says where it ends, and where it leaves off at a record that it has looked at.
pub setless_end : (t : List ℕ) (m : ℕ) {none : Bool} → none ≡ all_below (setless t) m → Setless t m none
setless_end t m e = record { each = λ f. sym e ∙ f }

pub setless_left : (t : List ℕ) (m sets x : ℕ) → eqb sets 0 ≡ all_below (setless t) m → Setless t m (eqb (bit_or sets x) 0)
setless_left t m sets x e = record { each = λ f. sym e ∙ and_left (eqb sets 0) (eqb x 0) (sym (or_zero sets x) ∙ f) }

-- Its turn: the set numbers' bits are put together.
pub setless_more : (t : List ℕ) (i sets x : ℕ) → eqb sets 0 ≡ all_below (setless t) i → eqb x 0 ≡ setless t i
    → eqb (bit_or sets x) 0 ≡ all_below (setless t) (i + 1)
setless_more t i sets x e f = or_zero sets x ∙ all_more (setless t) i e f

-- All are good, and counted.
pub leading_full : (good : ℕ → Bool) (n k : ℕ) → ((j : ℕ) → k ≤ j → j < k + n → good j ≡ true) → leading good n k ≡ n
unfolding leading
leading_full good zero k h = refl
leading_full good (suc n) k h =
    rw (h k (omega arith) (omega arith), leading_full good n (suc k) (λ j a b. h j (omega arith) (omega arith)))

-- The first that is not good in one of two ways: those good in the one way are counted, and of them those good in the other.
module _ (good p q : ℕ → Bool) (each : (j : ℕ) → good j ≡ (p j && q j)) (count : ℕ) where
  pub two_passes : (n k : ℕ)
      → first_bad good count n k ≡ cond (leb (leading q (leading p n k) k + 1) n) (Err (leading q (leading p n k) k + k)) (Ok count)
  unfolding first_bad leading
  two_passes zero k = refl
  two_passes (suc n) k = go (p k) (q k) refl refl (two_passes n (suc k))
    where
      whole : ℕ → Result ℕ ℕ
      whole m = cond (leb (m + 1) (suc n)) (Err (m + k)) (Ok count)

      later : ℕ
      later = leading q (leading p n (suc k)) (suc k)

      first : whole 0 ≡ Err k
      first = let z : 0 + k ≡ k = omega arith in rw (le-leb (0 + 1) (suc n) (omega arith), z)

      next : (m : ℕ) → cond (leb (m + 1) n) (Err (m + suc k)) (Ok count) ≡ whole (suc m)
      next m = pick (leb (m + 1) n) refl
        where
          same : m + suc k ≡ suc m + k
          same = omega arith

          pick : (x : Bool) → leb (m + 1) n ≡ x → cond (leb (m + 1) n) (Err (m + suc k)) (Ok count) ≡ whole (suc m)
          pick true e = rw (e, same, le-leb (suc m + 1) (suc n) (omega (arith, leb-true (m + 1) n e)))
          pick false e = rw (e, lt-leb (suc m + 1) (suc n) (omega (arith, leb-false (m + 1) n e)))

      go : (x y : Bool) → p k ≡ x → q k ≡ y
          → first_bad good count n (suc k) ≡ cond (leb (later + 1) n) (Err (later + suc k)) (Ok count)
          → cond (good k) (first_bad good count n (suc k)) (Err k) ≡ whole (leading q (cond (p k) (suc (leading p n (suc k))) 0) k)
      go false y e f r = rw (each k, e) (sym first)
      go true false e f r = rw (each k, e, f) (sym first)
      go true true e f r = rw (each k, e, f) (r ∙ next later)

-- The answer by the number of sound records.
pub outcome_bad : (count m : ℕ) → m + 1 ≤ count → Err (m + 1) ≡ outcome_of count m
outcome_bad count m h = rw (le-leb _ _ h)

pub outcome_sound : (count m : ℕ) → count < m + 1 → Ok count ≡ outcome_of count m
outcome_sound count m h = rw (lt-leb _ _ h)

-- A record without a set agrees with all.
pub setless_agrees : (t : List ℕ) (k : ℕ) → set_of (block_of t k) ≡ 0 → agrees_at t k ≡ true
setless_agrees t k e =
    agrees_holds t k
    (λ j a b s. let o : OneSet (block_of t j) (block_of t k) = set_says (block_of t j) (block_of t k) s in absurd (omega (arith, o.numbered, o.number)))

pub setless_all : (t : List ℕ) (m : ℕ) → all_below (setless t) m ≡ true → leading (agrees_at t) m 1 ≡ m
unfolding setless
setless_all t m e =
    leading_full (agrees_at t) m 1
    (λ j a b.
    let q : suc (j - 1) ≡ j = omega arith in
    let z : set_of (block_of t (suc (j - 1))) ≡ 0 = eqb-true _ _ (all_at (setless t) m e (j - 1) (omega arith)) in
    setless_agrees t j (rw q at z))

-- The answer for the records, in two passes.
module _ (t : List ℕ) (h : Header) (file : ℕ) {m : ℕ} {r : Result ℕ ℕ} (stand : m ≡ leading (stands_at t h file) h.count 1) where
  pub records_two : {a : ℕ} → a ≡ leading (agrees_at t) m 1 → r ≡ outcome_of h.count a → r ≡ check_records t h file
  unfolding check_records sound_at
  records_two e f =
      rw (two_passes (sound_at t h file) (stands_at t h file) (agrees_at t) (λ j. refl) h.count h.count 1, ← stand, ← e) f

  pub records_one : {x : Bool} → Setless t m x → x ≡ true → r ≡ outcome_of h.count m → r ≡ check_records t h file
  records_one s g f = records_two (sym (setless_all t m (s.each g))) f
