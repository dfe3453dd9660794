use Rattle.table.proofs.Sound.{sound_few, sound_size}
use Rattle.assignment.proofs.NameTurns.{change_fits}
use Rattle.plain_assignment.proofs.Sets.{own_start, own_turn, own_end}
use Rattle.octets.specs.Standard.{rules}
use Rattle.plain_assignment.proofs.effects.settle_owned.Goals as goal

pub loop-i-init : goal.loop-i-init
loop-i-init c = (search (rules, sound_few), search (rules, sound_size), search (rules, sound_size), search (rules, own_start))

pub change_if-requires : goal.change_if-requires
change_if-requires c = (search rules, search (rules, change_fits))

pub loop-i-preserved : goal.loop-i-preserved
loop-i-preserved c = (search rules, search rules, search rules, search (rules, own_turn))

pub returns : goal.returns
returns c = search (rules, own_end)
