use Rattle.plain_table.proofs.Tables.{header_none, header_long}
use Rattle.octets.specs.Standard.{rules}
use Rattle.plain_table.proofs.header_sound.Goals as goal

pub returns-then-t-lt-BLOCK : goal.returns-then-t-lt-BLOCK
returns-then-t-lt-BLOCK c = search (rules, header_none)

pub returns : goal.returns
returns c = search (rules, header_long)
