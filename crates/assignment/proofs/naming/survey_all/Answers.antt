use Rattle.octets.specs.Standard.{rules}
use Rattle.lookup.proofs.Scans.{public_end}
use Rattle.requests.proofs.Naming.{named_less}
use Rattle.assignment.proofs.NameTurns.{survey_start, survey_none, survey_turn}
use Rattle.assignment.proofs.naming.survey_all.Goals as goal

pub loop-place-init : goal.loop-place-init
loop-place-init c = search (rules, survey_start)

pub look_found-requires : goal.look_found-requires
look_found-requires c = search (rules, public_end)

pub loop-place-smaller : goal.loop-place-smaller
loop-place-smaller c = search (rules, named_less)

pub loop-place-preserved : goal.loop-place-preserved
loop-place-preserved c = search (rules, survey_turn)

pub returns : goal.returns
returns c = search (rules, survey_none)
