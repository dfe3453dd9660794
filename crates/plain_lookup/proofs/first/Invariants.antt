use Rattle.std.specs.Fn.{FnReturnsAt}
use Rattle.octets.specs.Standard.{ℕ, Bool, List, ◌≡◌, ◌≤◌, ◌+◌, ◌-◌, ◌*◌, length}
use Rattle.blocks.specs.Blocks.{block_of}
use Rattle.lookup.specs.Find.{first_from}
use Rattle.plain_lookup.proofs.first.Given as goal

abbrev pub invariant-loop-k : goal.invariant-loop-k
invariant-loop-k g l =
    (l.count ≤ 4096) × (length l.t ≡ 512 * (l.count + 1))
    × ((p : List ℕ → Bool) → ((b : List ℕ) (r : Bool) → FnReturnsAt g.F.Fn l.sought b r → r ≡ p b)
    → first_from (λ j. p (block_of l.t j)) l.count 1 ≡ first_from (λ j. p (block_of l.t j)) (l.count + 1 - l.k) l.k)
