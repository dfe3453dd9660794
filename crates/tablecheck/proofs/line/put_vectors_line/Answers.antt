use Rattle.tablecheck.proofs.Lines.{vectors_sound, vectors_bad}
use Rattle.octets.specs.Standard.{rules}
use Rattle.tablecheck.proofs.line.put_vectors_line.Goals as goal

pub returns-in-Ok : goal.returns-in-Ok
returns-in-Ok c = search (rules, vectors_sound)

pub returns-in-Err : goal.returns-in-Err
returns-in-Err c = search (rules, vectors_bad)
