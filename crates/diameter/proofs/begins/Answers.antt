use Rattle.diameter.proofs.Reading.{begins_whole, begins_fault}
use Rattle.octets.specs.Standard.{rules}
use Rattle.diameter.proofs.begins.Goals as goal

pub returns-in-Ok : goal.returns-in-Ok
returns-in-Ok c = search (rules, begins_whole)

pub returns-in-Err : goal.returns-in-Err
returns-in-Err c = search (rules, begins_fault)
