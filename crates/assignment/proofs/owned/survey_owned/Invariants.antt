use Rattle.octets.specs.Standard.{◌≡◌, true, ◌+◌, ◌-◌, ◌*◌, ◌≤◌, length}
use Rattle.assignment.specs.Assignment.{owned_up_to, survey_of}
use Rattle.assignment.proofs.owned.survey_owned.Given as goal

abbrev pub invariant-loop-k : goal.invariant-loop-k
invariant-loop-k l =
    (length l.t ≡ 512 * (l.count + 1)) × (l.k ≤ l.count + 1)
    × (l.seen ≡ survey_of l.t l.asks.owner.now l.asks.server.now l.asks.kind true (owned_up_to l.t l.asks.owner.now (l.k - 1)))
