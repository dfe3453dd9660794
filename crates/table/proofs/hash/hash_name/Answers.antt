use Rattle.table.proofs.Hashes.{name_short, name_long}
use Rattle.octets.specs.Standard.{rules}
use Rattle.table.proofs.hash.hash_name.Goals as goal

pub returns-then-s-lt8 : goal.returns-then-s-lt8
returns-then-s-lt8 c = search (rules, name_short)

pub returns : goal.returns
returns c = search (rules, name_long)
