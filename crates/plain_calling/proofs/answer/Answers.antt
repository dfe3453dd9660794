use Rattle.plain_calling.proofs.Calls.{bad_decided, bad_near}
use Rattle.octets.specs.Standard.{rules}
use Rattle.octets.specs.Standard.{sym}
use Rattle.plain_calling.proofs.answer.Goals as goal

pub answer_fine-requires : goal.answer_fine-requires
answer_fine-requires c = (search rules, search rules, search rules, search rules, sym c.in-Ok.ensures)

pub answer_fault-requires : goal.answer_fault-requires
answer_fault-requires c = (search rules, search rules, search rules, search rules, search (rules, bad_decided), search (rules, bad_near))
