use Rattle.octets.specs.Standard.{rules}
use Rattle.diameter.proofs.Reading.{read_here}
use Rattle.plain_reading.proofs.Turns.{kind_cut, kind_whole}
use Rattle.plain_reading.proofs.listed.Places.kind_at.Goals as goal

pub returns-in-Err : goal.returns-in-Err
returns-in-Err c = search (rules, kind_cut)

pub kind_of-requires : goal.kind_of-requires
kind_of-requires c = search (rules, read_here)

pub returns-in-Ok : goal.returns-in-Ok
returns-in-Ok c = search (rules, kind_whole)
