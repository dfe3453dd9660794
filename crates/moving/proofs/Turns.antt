-- What the functions that write leave: a block, a block of a table, and the turns of the loop over all of them; the first record with a set.
use Rattle.octets.specs.Standard.{ℕ, suc, ◌+◌, ◌-◌, ◌*◌, ◌<◌, ◌≤◌, Bool, true, ◌≡◌, sym, ◌∙◌, ap, List, arith, add-sub_cancel, eqb, length, set}
use Rattle.octets.specs.Standard.{length-set}
use Rattle.octets.specs.Number.{be16_at, put_be32}
use Rattle.blocks.specs.Blocks.{block_of, first_bad}
use Rattle.blocks.specs.Sealed.{sealed}
use Rattle.blocks.specs.Changed.{changed_all, changed_in}
use Rattle.blocks.proofs.Changed.{in_length, up_to, turns_none, turns_next, turns_end}
use Rattle.moving.specs.Moves.{moved, moved_all, no_set, first_set}
use Rattle.moving.proofs.Bytes.{moved_whole}

-- A block: the edition, the issue number, the check word.
module _ (b : List ℕ) (edition issue : ℕ) (whole : length b ≡ 512) where
  pub move_fits : 408 + 4 ≤ length (set b 1 edition)
  move_fits = rw length-set (omega arith)

  pub move_put : {x y : List ℕ} → x ≡ put_be32 (set b 1 edition) 408 issue → y ≡ sealed x → y ≡ moved edition issue b
  unfolding moved
  move_put e f = rw (← e) f

-- The turns of the loop: the first k blocks are moved.
abbrev every : ℕ → Bool
every j = true

pub record Moving (t x : List ℕ) (count k edition issue : ℕ) : Type 0 where
  pub is : x ≡ changed_all t (suc count) (up_to k every) (moved edition issue)
  pub size : length x ≡ 512 * (count + 1)

module _ (t : List ℕ) (count edition issue : ℕ) (size : length t ≡ 512 * (count + 1)) where
  blocks : length t ≡ 512 * suc count
  blocks = omega arith

  pub moving_none : Moving t t count 0 edition issue
  moving_none = record { is = turns_none t (suc count) every (moved edition issue) blocks; size = size }

  module _ (x : List ℕ) (k : ℕ) (so : Moving t x count k edition issue) where
    pub moving_fits : k ≤ count → 512 * k + 512 ≤ length x
    moving_fits h = omega (arith, so.size)

    pub moving_next : {y : List ℕ} → k ≤ count → y ≡ changed_in x k (moved edition issue) → Moving t y count (k + 1) edition issue
    moving_next {y} h e =
        record {
          is =
              e ∙ ap (λ (z : List ℕ). changed_in z k (moved edition issue)) so.is
              ∙ turns_next t (suc count) every (moved edition issue) blocks (moved_whole edition issue) k (omega arith);
          size = ap length e ∙ in_length x k (moved edition issue) (moved_whole edition issue) (moving_fits h) ∙ so.size;
        }

    pub moving_end : count < k → x ≡ moved_all t count edition issue
    unfolding moved_all
    moving_end h = so.is ∙ turns_end t (suc count) every (moved edition issue) k (omega arith)

    pub moving_kept : length x ≡ length t
    moving_kept = so.size ∙ sym size

-- A record without a set; the first with one.
pub set_none : (t : List ℕ) (k : ℕ) {b : List ℕ} {n : ℕ} → b ≡ block_of t k → n ≡ be16_at b 406 → eqb n 0 ≡ no_set t k
unfolding no_set
set_none t k e f = rw (f, e)

pub sets_all : (t : List ℕ) (count : ℕ) → first_set t count ≡ first_bad (no_set t) count (count + 1 - 1) 1
unfolding first_set
sets_all t count = rw add-sub_cancel
