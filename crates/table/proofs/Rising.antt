-- The order of two records that follow one another.
use Rattle.octets.specs.Standard.{ℕ, ◌-◌, ◌<◌, ◌≤◌, Bool, true, false, cond, ◌≡◌, refl, List, arith, leb, le-leb, lt-leb, leb-false}
use Rattle.octets.specs.Name.{order_of}
use Rattle.record.specs.Fields.{public_of}
use Rattle.blocks.specs.Blocks.{block_of}
use Rattle.table.specs.Named.{public_at}
use Rattle.table.specs.Check.{is_less, rises_at}

-- The first record follows none; a later one its neighbour.
pub rises_first : (t : List ℕ) (k : ℕ) → k ≤ 1 → leb k 1 ≡ rises_at t k
unfolding rises_at
rises_first t k h = rw (le-leb _ _ h)

pub rises_later : (t : List ℕ) (k : ℕ) (a b : List ℕ) {x : Bool} → 1 < k → a ≡ block_of t (k - 1) → b ≡ block_of t k
    → x ≡ is_less (order_of (public_of a) (public_of b)) → x ≡ rises_at t k
unfolding rises_at public_at
rises_later t k a b h ea eb e = rw (lt-leb _ _ h, ← ea, ← eb) e

-- Tables whose public identities are the same.
pub rises_alike : (t u : List ℕ) (k : ℕ) → 1 ≤ k → ((j : ℕ) → 1 ≤ j → j ≤ k → public_at u j ≡ public_at t j) → rises_at u k ≡ rises_at t k
unfolding rises_at
rises_alike t u k a h = go (leb k 1) refl
  where
    go : (x : Bool) → leb k 1 ≡ x
        → cond x true (is_less (order_of (public_at u (k - 1)) (public_at u k))) ≡ cond x true (is_less (order_of (public_at t (k - 1)) (public_at t k)))
    go true e = refl
    go false e = let l : 1 < k = leb-false k 1 e in rw (h (k - 1) (omega arith) (omega arith), h k a (omega arith))
