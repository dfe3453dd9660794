use Rattle.octets.specs.Name.{alike_at}
use Rattle.octets.proofs.All.{all_none, all_more, all_end}
use Rattle.octets.proofs.Names.{same_lengths, same_within}
use Rattle.octets.specs.Standard.{rules}
use Rattle.plain_table.proofs.bytes.same.Goals as goal

pub returns-then-s-t : goal.returns-then-s-t
returns-then-s-t c = search (rules, same_lengths)

pub loop-i-init : goal.loop-i-init
loop-i-init c = search (rules, all_none)

pub loop-i-preserved : goal.loop-i-preserved
unfolding alike_at
loop-i-preserved c = search (rules, all_more)

pub returns : goal.returns
returns c = search (rules, same_within, all_end)
