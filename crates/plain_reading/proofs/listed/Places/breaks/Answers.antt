use Rattle.octets.specs.Standard.{rules}
use Rattle.diameter.proofs.Reading.{read_here}
use Rattle.plain_reading.proofs.Turns.{broken_cut, broken_whole}
use Rattle.plain_reading.proofs.listed.Places.breaks.Goals as goal

pub returns-in-Err : goal.returns-in-Err
returns-in-Err c = search (rules, broken_cut)

pub breaks_whole-requires : goal.breaks_whole-requires
breaks_whole-requires c = search (rules, read_here)

pub returns-in-Ok : goal.returns-in-Ok
returns-in-Ok c = search (rules, broken_whole)
