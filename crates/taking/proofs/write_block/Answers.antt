use Rattle.taking.proofs.Turns.{block_written}
use Rattle.octets.specs.Standard.{rules}
use Rattle.taking.proofs.write_block.Goals as goal

pub returns : goal.returns
returns c = search (rules, block_written)
