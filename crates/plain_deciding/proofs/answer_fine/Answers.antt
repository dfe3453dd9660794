use Rattle.octets.specs.Standard.{rules}
use Rattle.deciding.proofs.Answering.{beyond_decided, beyond_none}
use Rattle.plain_deciding.proofs.answer_fine.Goals as goal

pub answer_fault-requires : goal.answer_fault-requires
answer_fault-requires c = search (rules, beyond_decided)

pub answer_read-requires : goal.answer_read-requires
answer_read-requires c = search (rules, beyond_none)
