use Rattle.octets.specs.Standard.{◌≡◌, ◌+◌, ◌-◌, ◌*◌, ◌≤◌, length}
use Rattle.rewrite.specs.Change.{reaches}
use Rattle.rewrite.specs.Renew.{settled}
use Rattle.rewrite.proofs.Turns.{Going}
use Rattle.assignment.specs.Assignment.{owned_up_to}
use Rattle.assignment.proofs.owned.settle_owned.Given as goal

abbrev pub invariant-loop-k : goal.invariant-loop-k
invariant-loop-k l =
    (l.count ≤ 4096) × (l.k ≤ l.count + 1) × (length l.initial.t ≡ 512 * (l.count + 1)) × (length l.t ≡ 512 * (l.count + 1)) × (l.altered ≤ l.k - 1)
    × Going l.initial.t l.count (reaches l.initial.t (owned_up_to l.initial.t l.user l.count)) (settled l.state l.server) (l.k - 1) l.t l.altered
