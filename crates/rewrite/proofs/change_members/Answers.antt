use Rattle.octets.specs.Standard.{rules}
use Rattle.table.proofs.Sound.{sound_few, sound_size}
use Rattle.rewrite.proofs.Turns.{members_start, members_size, members_turn, members_end, members_sum}
use Rattle.rewrite.proofs.change_members.Goals as goal

pub loop-i-init : goal.loop-i-init
loop-i-init c = (search (rules, sound_few), search rules, search (rules, sound_size), search (rules, sound_size), search rules, search (rules, members_start))

pub loop-i-preserved : goal.loop-i-preserved
loop-i-preserved c = (
  search rules,
  search rules,
  search rules,
  search (rules, members_size, members_turn),
  search rules,
  search (rules, members_turn),
)

pub returns : goal.returns
returns c = (search (rules, members_end), search (rules, members_sum))
