use Rattle.std.specs.Fn.{FnReturnsAt}
use Rattle.octets.specs.Standard.{ℕ, Bool, List, ◌≡◌, ◌≤◌, ◌+◌, ◌*◌, length}
use Rattle.assignment.specs.Assignment.{every, owned_up_to}
use Rattle.plain_assignment.specs.Rules.{kept_at}
use Rattle.plain_assignment.proofs.every_owned.Given as goal

abbrev pub invariant-loop-k : goal.invariant-loop-k
invariant-loop-k g l =
    (l.count ≤ 4096) × (length l.t ≡ 512 * (l.count + 1))
    × ((p : List ℕ → Bool) → ((b : List ℕ) (r : Bool) → FnReturnsAt g.F.Fn l.keeps b r → r ≡ p b)
    → l.good ≡ every (kept_at l.t p) (owned_up_to l.t l.user l.k))
