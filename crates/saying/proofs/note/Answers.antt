use Rattle.octets.specs.Standard.{rules}
use Rattle.saying.proofs.Reading.{note_kept, note_other}
use Rattle.saying.proofs.note.Goals as goal

pub returns-then-n-eq0 : goal.returns-then-n-eq0
returns-then-n-eq0 c = search (rules, note_kept)

pub returns-else-n-eq0 : goal.returns-else-n-eq0
returns-else-n-eq0 c = search (rules, note_other)
