use Rattle.octets.specs.Standard.{◌≡◌, ◌-◌, length}
use Rattle.diameter.specs.Message.{body_of}
use Rattle.requests.specs.Request.{identities}
use Rattle.assignment.specs.Assignment.{find_all}
use Rattle.assignment.specs.Survey.{both, found_survey}
use Rattle.assignment.proofs.NameTurns.{rest_of}
use Rattle.assignment.proofs.naming.survey_all.Given as goal

abbrev pub invariant-loop-place : goal.invariant-loop-place
invariant-loop-place l =
    both l.seen (found_survey l.t l.asks.owner.now l.asks.server.now l.asks.kind (find_all l.t l.count (rest_of l.req l.at)))
    ≡ found_survey l.t l.asks.owner.now l.asks.server.now l.asks.kind (find_all l.t l.count (identities (body_of l.req)))

abbrev pub decreases-loop-place : goal.decreases-loop-place
decreases-loop-place l = length l.req - l.at
