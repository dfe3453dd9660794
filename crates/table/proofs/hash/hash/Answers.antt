use Rattle.table.proofs.Hashes.{hash_block}
use Rattle.octets.specs.Standard.{rules}
use Rattle.table.proofs.hash.hash.Goals as goal

pub returns : goal.returns
returns c = search (rules, hash_block)
