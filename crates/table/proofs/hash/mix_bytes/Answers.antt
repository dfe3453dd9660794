use Rattle.octets.specs.Standard.{rules}
use Rattle.table.proofs.Hashes.{bytes_none, bytes_more, bytes_all}
use Rattle.table.proofs.hash.mix_bytes.Goals as goal

pub loop-b-init : goal.loop-b-init
loop-b-init c = search (rules, bytes_none)

pub loop-b-preserved : goal.loop-b-preserved
loop-b-preserved c = search (rules, bytes_more)

pub returns : goal.returns
returns c = search (rules, bytes_all)
