use Rattle.table.proofs.Sound.{sound_block}
use Rattle.rewrite.proofs.Turns.{has_set, alone_changed, alone_counts}
use Rattle.octets.specs.Standard.{rules}
use Rattle.rewrite.proofs.change_set.Goals as goal

pub block-requires : goal.block-requires
block-requires c = search (rules, sound_block)

pub change_at-requires : goal.change_at-requires
change_at-requires c = search (rules, sound_block)

pub returns-then-set-eq0 : goal.returns-then-set-eq0
returns-then-set-eq0 c = (search (rules, alone_changed), search (rules, alone_counts))

pub change_members-requires : goal.change_members-requires
change_members-requires c = (search rules, search rules, search rules, search rules, search (rules, has_set))
