use Rattle.tablecheck.proofs.Lines.{line_sound, line_bad}
use Rattle.octets.specs.Standard.{rules}
use Rattle.tablecheck.proofs.line.put_line.Goals as goal

pub returns-in-Ok : goal.returns-in-Ok
returns-in-Ok c = search (rules, line_sound)

pub returns-in-Err : goal.returns-in-Err
returns-in-Err c = search (rules, line_bad)
