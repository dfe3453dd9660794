use Rattle.octets.specs.Standard.{rules}
use Rattle.diameter.proofs.Reading.{read_here}
use Rattle.plain_looks.proofs.Turns.{asks_cut, asks_whole}
use Rattle.plain_looks.proofs.asks_at.Goals as goal

pub returns-in-Err : goal.returns-in-Err
returns-in-Err c = search (rules, asks_cut)

pub kind_of-requires : goal.kind_of-requires
kind_of-requires c = search (rules, read_here)

pub asks-requires : goal.asks-requires
asks-requires c = search (rules, read_here)

pub returns-in-Ok : goal.returns-in-Ok
returns-in-Ok c = search (rules, asks_whole)
