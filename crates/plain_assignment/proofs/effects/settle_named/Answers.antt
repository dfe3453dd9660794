use Rattle.requests.proofs.Naming.{named_less}
use Rattle.lookup.proofs.Among.{public_among}
use Rattle.assignment.proofs.NameTurns.{settle_start, settle_none, settle_turn, settle_sound}
use Rattle.octets.specs.Standard.{rules}
use Rattle.plain_assignment.proofs.effects.settle_named.Goals as goal

pub loop-place-init : goal.loop-place-init
loop-place-init c = (search rules, search rules, search (rules, settle_start))

pub settle_found-requires : goal.settle_found-requires
settle_found-requires c = search (rules, public_among)

pub loop-place-smaller : goal.loop-place-smaller
loop-place-smaller c = search (rules, named_less)

pub loop-place-preserved : goal.loop-place-preserved
loop-place-preserved c = (search (rules, settle_sound), search rules, search (rules, settle_turn))

pub returns : goal.returns
returns c = search (rules, settle_none)
