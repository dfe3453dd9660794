use Rattle.rewrite.specs.Change.{reaches}
use Rattle.rewrite.specs.Renew.{settled}
use Rattle.assignment.specs.Assignment.{owned_up_to}
use Rattle.plain_assignment.proofs.Sets.{Gone}
use Rattle.octets.specs.Standard.{◌+◌, ◌*◌, ◌≤◌, ◌≡◌, length}
use Rattle.plain_assignment.proofs.effects.settle_owned.Given as goal

abbrev pub invariant-loop-i : goal.invariant-loop-i
invariant-loop-i l =
    (l.count ≤ 4096) × (length l.initial.t ≡ 512 * (l.count + 1)) × (length l.t ≡ 512 * (l.count + 1))
    × Gone l.initial.t l.count (reaches l.initial.t (owned_up_to l.initial.t l.user l.count)) (settled l.state l.server) l.i l.t
