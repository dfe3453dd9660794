use Rattle.table.proofs.Areas.{length_piece, length_min}
use Rattle.octets.specs.Standard.{rules}
use Rattle.table.proofs.area.table_length.Goals as goal

pub returns-then-area-lt-BLOCK : goal.returns-then-area-lt-BLOCK
returns-then-area-lt-BLOCK c = search (rules, length_piece)

pub returns : goal.returns
returns c = search (rules, length_min)
