use Rattle.octets.specs.Standard.{rules}
use Rattle.rewrite.proofs.Counts.{sum_start, sum_end}
use Rattle.requests.proofs.Naming.{named_less}
use Rattle.lookup.proofs.Among.{public_among}
use Rattle.assignment.proofs.NameTurns.{settle_start, settle_none, settle_turn, settle_sound, settle_counts, settle_few}
use Rattle.assignment.proofs.naming.settle_named.Goals as goal

pub loop-place-init : goal.loop-place-init
loop-place-init c = (search rules, search rules, search rules, search (rules, settle_start), search (rules, sum_start))

pub settle_found-altered-requires : goal.settle_found-altered-requires
settle_found-altered-requires c = search (rules, public_among)

pub loop-place-smaller : goal.loop-place-smaller
loop-place-smaller c = search (rules, named_less)

pub loop-place-preserved : goal.loop-place-preserved
loop-place-preserved c = (search (rules, settle_sound), search rules, search (rules, settle_few), search (rules, settle_turn), search (rules, settle_counts))

pub returns : goal.returns
returns c = (search (rules, settle_none), search (rules, sum_end, settle_none))
