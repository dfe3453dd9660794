use Rattle.plain_table.proofs.Places.{header_all}
use Rattle.octets.specs.Standard.{rules}
use Rattle.plain_table.proofs.header.sound.Goals as goal

pub returns : goal.returns
returns c = search (rules, header_all)
