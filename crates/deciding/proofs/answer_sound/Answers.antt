use Rattle.requests.proofs.Requests.{judged_fine}
use Rattle.deciding.proofs.Answering.{fault_decided, fault_near}
use Rattle.octets.specs.Standard.{rules}
use Rattle.deciding.proofs.answer_sound.Goals as goal

pub answer_taken-requires : goal.answer_taken-requires
answer_taken-requires c = search (rules, judged_fine)

pub answer_fault-requires : goal.answer_fault-requires
answer_fault-requires c = search (rules, fault_decided, fault_near)
