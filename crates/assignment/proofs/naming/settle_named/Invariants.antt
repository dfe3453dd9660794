use Rattle.octets.specs.Standard.{◌+◌, ◌-◌, ◌≤◌, ◌≡◌, length}
use Rattle.table.specs.SoundTable.{SoundTable}
use Rattle.rewrite.specs.Change.{after_of, reaches, altered_up_to}
use Rattle.rewrite.specs.Renew.{settled}
use Rattle.diameter.specs.Message.{body_of}
use Rattle.requests.specs.Request.{identities}
use Rattle.assignment.specs.Assignment.{find_all, numbers_of}
use Rattle.assignment.proofs.NameTurns.{rest_of}
use Rattle.assignment.proofs.naming.settle_named.Given as goal

abbrev pub invariant-loop-place : goal.invariant-loop-place
invariant-loop-place l =
    SoundTable l.t l.count × (length l.t ≡ length l.initial.t) × (l.altered ≤ 4096)
    × (after_of l.t l.count (reaches l.t (numbers_of (find_all l.t l.count (rest_of l.req l.at)))) (settled l.state l.server)
    ≡ after_of l.initial.t l.count (reaches l.initial.t (numbers_of (find_all l.initial.t l.count (identities (body_of l.req))))) (settled l.state l.server))
    × (l.altered + altered_up_to l.t (after_of l.initial.t l.count (reaches l.initial.t (numbers_of (find_all l.initial.t l.count (identities (body_of l.req))))) (settled l.state l.server)) l.count
    ≡ altered_up_to l.initial.t (after_of l.initial.t l.count (reaches l.initial.t (numbers_of (find_all l.initial.t l.count (identities (body_of l.req))))) (settled l.state l.server)) l.count)

abbrev pub decreases-loop-place : goal.decreases-loop-place
decreases-loop-place l = length l.req - l.at
