use Rattle.table.proofs.Sound.{sound_few, sound_size}
use Rattle.plain_assignment.proofs.Sets.{set_start, set_turn, set_end}
use Rattle.octets.specs.Standard.{rules}
use Rattle.plain_assignment.proofs.effects.change_set.Goals as goal

pub loop-i-init : goal.loop-i-init
loop-i-init c = (search (rules, sound_few), search (rules, sound_size), search (rules, sound_size), search (rules, set_start))

pub loop-i-preserved : goal.loop-i-preserved
loop-i-preserved c = (search rules, search rules, search rules, search (rules, set_turn))

pub returns : goal.returns
returns c = search (rules, set_end)
