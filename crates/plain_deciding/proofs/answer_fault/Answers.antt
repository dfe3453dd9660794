use Rattle.octets.specs.Standard.{rules}
use Rattle.deciding.proofs.Answering.{fault_sendable, fault_room, fault_table, fault_vectors}
use Rattle.plain_deciding.proofs.Saying.{fault_says}
use Rattle.plain_deciding.proofs.answer_fault.Goals as goal

pub answer-length-requires : goal.answer-length-requires
answer-length-requires c = search (rules, fault_sendable, fault_room)

pub returns : goal.returns
returns c = (search (rules, fault_says), search (rules, fault_table), search (rules, fault_vectors))
