use Rattle.reading.proofs.Asking.{bits_out, bits_more, bits_all}
use Rattle.octets.specs.Standard.{rules}
use Rattle.octets.proofs.All.{all_none}
use Rattle.reading.proofs.features.bit_outside.Goals as goal

pub loop-k-init : goal.loop-k-init
loop-k-init c = search (rules, all_none)

pub returns-then-wanted-k : goal.returns-then-wanted-k
returns-then-wanted-k c = search (rules, bits_out)

pub loop-k-preserved : goal.loop-k-preserved
loop-k-preserved c = search (rules, bits_more)

pub returns : goal.returns
returns c = search (rules, bits_all)
