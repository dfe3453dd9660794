use Rattle.octets.specs.Standard.{rules, le-leb, lt-leb}
use Rattle.std.proofs.iter.runs.Sources.{ranges}
use Rattle.record.specs.Networks.{new_place}
use Rattle.plain_table.proofs.Comparing.{all_is}
use Rattle.plain_table.proofs.header.new_place.Goals as goal

pub returns-then-n-j : goal.returns-then-n-j
unfolding new_place
returns-then-n-j c = rw (le-leb _ _ c.if-n-j.true)

pub returns-else-n-j : goal.returns-else-n-j
unfolding new_place
returns-else-n-j c = rw (lt-leb _ _ c.if-n-j.false) (all_is _ _ (search (rules, ranges)))
