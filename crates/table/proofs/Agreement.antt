-- That the records of every set agree: what the test says of every pair.
use Rattle.octets.specs.Standard.{ℕ, suc, ◌-◌, ◌<◌, ◌≤◌, Bool, true, false, ◌||◌, not, true≢false, ◌≡◌, refl, sym, List, arith}
use Rattle.octets.proofs.All.{all_at, all_true, all_alike}
use Rattle.record.specs.Sets.{same_set, agreeing}
use Rattle.record.proofs.OneSet.{SameMember, member_set, member_agrees}
use Rattle.blocks.specs.Blocks.{block_of}
use Rattle.table.specs.Check.{agrees_with, agrees_at}

or_says : (x y : Bool) → (not x || y) ≡ true → x ≡ true → y ≡ true
or_says true y e f = e
or_says false y e f = absurd (true≢false (sym f))

or_holds : (x y : Bool) → (x ≡ true → y ≡ true) → (not x || y) ≡ true
or_holds true y h = h refl
or_holds false y h = refl

-- Block k agrees with each record of its set before it.
pub agrees_says : (t : List ℕ) (k : ℕ) → agrees_at t k ≡ true → (j : ℕ) → 1 ≤ j → j < k → same_set (block_of t j) (block_of t k) ≡ true
    → agreeing (block_of t j) (block_of t k) ≡ true
unfolding agrees_at agrees_with
agrees_says t k e j a b s =
    let q : suc (j - 1) ≡ j = omega arith in
    rw q at (or_says (same_set (block_of t (suc (j - 1))) (block_of t k)) _ (all_at (agrees_with t k) (k - 1) e (j - 1) (omega arith)) (rw q s))

pub agrees_holds : (t : List ℕ) (k : ℕ)
    → ((j : ℕ) → 1 ≤ j → j < k → same_set (block_of t j) (block_of t k) ≡ true → agreeing (block_of t j) (block_of t k) ≡ true)
    → agrees_at t k ≡ true
unfolding agrees_at agrees_with
agrees_holds t k h =
    all_true (agrees_with t k) (k - 1) (λ i l. or_holds (same_set (block_of t (suc i)) (block_of t k)) _ (h (suc i) (omega arith) (omega arith)))

-- Tables whose records have the same members, state, bits and server names.
pub agrees_alike : (t u : List ℕ) (k : ℕ) → ((j : ℕ) → 1 ≤ j → j ≤ k → SameMember (block_of t j) (block_of u j)) → 1 ≤ k → agrees_at u k ≡ agrees_at t k
unfolding agrees_at agrees_with
agrees_alike t u k h a =
    all_alike (agrees_with u k) (agrees_with t k) (k - 1)
    (λ i l.
    let first : SameMember (block_of t (suc i)) (block_of u (suc i)) = h (suc i) (omega arith) (omega arith) in
    let second : SameMember (block_of t k) (block_of u k) = h k a (omega arith) in
    rw (
      member_set (block_of t (suc i)) (block_of t k) (block_of u (suc i)) (block_of u k) first second,
      member_agrees (block_of t (suc i)) (block_of t k) (block_of u (suc i)) (block_of u k) first second,
    ))
