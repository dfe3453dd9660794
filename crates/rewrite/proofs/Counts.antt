-- How many records an effect alters: what each rewriting altered, added up, since a record that is changed twice is changed once.
use Rattle.octets.specs.Standard.{ℕ, zero, suc, ◌+◌, ◌*◌, ◌<◌, ◌≤◌, Bool, true, false, cond, ◌≡◌, refl, sym, ◌∙◌, ap, ◌≢◌, List, arith, eqb, eqb-true}
use Rattle.octets.specs.Standard.{eqb-false, length}
use Rattle.octets.specs.Name.{same}
use Rattle.blocks.specs.Blocks.{block_of}
use Rattle.blocks.proofs.Blocks.{block_length}
use Rattle.blocks.specs.Changed.{changed_at, changed_in}
use Rattle.blocks.proofs.Changed.{in_here, in_other}
use Rattle.rewrite.specs.Change.{after_of, differ, altered_up_to}
use Rattle.rewrite.specs.Keeps.{Keeps}
use Rattle.rewrite.proofs.Tables.{keeps_whole, after_length, after_block}
use Rattle.rewrite.proofs.Writes.{differ_same, in_differs}

differ_most : (x y : List ℕ) → differ x y ≤ 1
unfolding differ
differ_most x y = go (same x y)
  where
    go : (b : Bool) → cond b 0 1 ≤ 1
    go true = omega arith
    go false = omega arith

none_more : (n : ℕ) → n ≡ 0 + n
none_more n = omega arith

pub altered_most : (x y : List ℕ) (n : ℕ) → altered_up_to x y n ≤ n
unfolding altered_up_to
altered_most x y zero = omega arith
altered_most x y (suc n) = omega (arith, altered_most x y n, differ_most (block_of x (suc n)) (block_of y (suc n)))

pub altered_none : (x : List ℕ) (n : ℕ) → altered_up_to x x n ≡ 0
unfolding altered_up_to
altered_none x zero = refl
altered_none x (suc n) = rw (altered_none x n, differ_same (block_of x (suc n)))

-- Tables that differ at most in block k, which is as it stays in the second.
module _ (x y whole : List ℕ) (k : ℕ) (other : (j : ℕ) → j ≢ k → block_of y j ≡ block_of x j) (stays : block_of whole k ≡ block_of y k) where
  altered_before : (n : ℕ) → n < k → altered_up_to x whole n ≡ altered_up_to y whole n
  unfolding altered_up_to
  altered_before zero h = refl
  altered_before (suc n) h = rw (altered_before n (omega arith), other (suc n) (omega arith))

  altered_one : (n : ℕ) → 1 ≤ k → k ≤ n → altered_up_to x whole n ≡ differ (block_of x k) (block_of y k) + altered_up_to y whole n
  unfolding altered_up_to
  altered_one zero a b = absurd (omega arith)
  altered_one (suc n) a b = go (eqb k (suc n)) refl (altered_one n a)
    where
      go : (u : Bool) → eqb k (suc n) ≡ u → (k ≤ n → altered_up_to x whole n ≡ differ (block_of x k) (block_of y k) + altered_up_to y whole n)
          → altered_up_to x whole n + differ (block_of x (suc n)) (block_of whole (suc n))
          ≡ differ (block_of x k) (block_of y k) + (altered_up_to y whole n + differ (block_of y (suc n)) (block_of whole (suc n)))
      go true e r =
          let q : k ≡ suc n = eqb-true k (suc n) e in
          let z : differ (block_of y k) (block_of whole k) ≡ 0 = rw stays (differ_same (block_of y k)) in
          let w : differ (block_of x k) (block_of whole k) ≡ differ (block_of x k) (block_of y k) = ap (differ (block_of x k)) stays in
          rw (← q) (omega (arith, altered_before n (omega arith), z, w))
      go false e r =
          let q : k ≢ suc n = eqb-false k (suc n) e in
          rw (other (suc n) (omega arith)) (omega (arith, r (omega arith)))

module _ (change : List ℕ → List ℕ) (keeps : Keeps change) (x : List ℕ) (count : ℕ) (size : length x ≡ 512 * (count + 1)) where
  -- one record changed
  pub one_counts : (k : ℕ) → 1 ≤ k → k ≤ count → differ x (changed_in x k change) ≡ altered_up_to x (changed_in x k change) count
  one_counts k a b =
      let next = changed_in x k change in
      let fits : 512 * k + 512 ≤ length x = omega arith in
      let here : block_of next k ≡ change (block_of x k) = in_here x k change (keeps_whole keeps) fits in
      let one : differ (block_of x k) (block_of next k) ≡ differ x next =
      rw here (in_differs change x k (keeps.each (block_of x k) (block_length x k fits)).size fits) in
      let sum = altered_one x next next k (in_other x k change (keeps_whole keeps) fits) refl count a b in
      omega (arith, one, sum, altered_none next count)

  -- an effect after an effect alters what each alters
  module _ (p q : ℕ → Bool) where
    abbrev y : List ℕ
    y = after_of x count p change

    abbrev z : List ℕ
    z = after_of y count q change

    once : (k : ℕ) → k ≤ count → block_of y k ≡ cond (p k) (change (block_of x k)) (block_of x k)
    unfolding changed_at
    once k h = after_block x count change size p keeps k h

    twice : (k : ℕ) → k ≤ count → block_of z k ≡ cond (q k) (change (block_of y k)) (block_of y k)
    unfolding changed_at
    twice k h = after_block y count change (after_length x count change size p keeps ∙ size) q keeps k h

    each : (k : ℕ) → k ≤ count → differ (block_of x k) (block_of z k) ≡ differ (block_of x k) (block_of y k) + differ (block_of y k) (block_of z k)
    each k h = rw (twice k h, once k h) (go (block_of x k) (block_length x k (omega arith)) (p k) (q k))
      where
        more : (m : ℕ) → m ≡ m + 0
        more m = omega arith

        go : (b : List ℕ) → length b ≡ 512 → (u v : Bool)
            → differ b (cond v (change (cond u (change b) b)) (cond u (change b) b))
            ≡ differ b (cond u (change b) b) + differ (cond u (change b) b) (cond v (change (cond u (change b) b)) (cond u (change b) b))
        go b l true true = rw (keeps.twice b l, differ_same (change b)) (more (differ b (change b)))
        go b l true false = rw (differ_same (change b)) (more (differ b (change b)))
        go b l false true = rw (differ_same b) (none_more (differ b (change b)))
        go b l false false = rw (differ_same b)

    pub both_counts : (n : ℕ) → n ≤ count → altered_up_to x z n ≡ altered_up_to x y n + altered_up_to y z n
    unfolding altered_up_to
    both_counts zero h = refl
    both_counts (suc n) h = omega (arith, both_counts n (omega arith), each (suc n) h)

-- The sum of a loop: it begins with none, it is never more than the records, and at the end it is the number.
pub sum_start : (t whole : List ℕ) (count : ℕ) → 0 + altered_up_to t whole count ≡ altered_up_to t whole count
sum_start t whole count = sym (none_more (altered_up_to t whole count))

pub sum_few : (t x whole : List ℕ) (count n : ℕ) → n + altered_up_to x whole count ≡ altered_up_to t whole count → count ≤ 4096 → n ≤ 4096
sum_few t x whole count n e h = omega (arith, e, altered_most t whole count)

pub sum_end : (t x whole : List ℕ) (count n : ℕ) → n + altered_up_to x whole count ≡ altered_up_to t whole count → x ≡ whole → n ≡ altered_up_to t x count
sum_end t x whole count n e f =
    let z : altered_up_to x whole count ≡ 0 = rw f (altered_none whole count) in
    let w : altered_up_to t x count ≡ altered_up_to t whole count = ap (λ (y : List ℕ). altered_up_to t y count) f in
    omega (arith, e, z, w)
