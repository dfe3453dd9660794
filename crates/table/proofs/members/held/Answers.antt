use Rattle.table.proofs.Remembered.{empty_agrees, empty_kept, full_agrees, full_kept, slot_within}
use Rattle.octets.specs.Standard.{rules}
use Rattle.table.proofs.members.held.Goals as goal

pub returns-then-word-eq0 : goal.returns-then-word-eq0
returns-then-word-eq0 c = search (rules, empty_agrees, empty_kept)

pub block-requires : goal.block-requires
block-requires c = search (rules, slot_within)

pub returns : goal.returns
returns c = search (rules, full_agrees, full_kept)
