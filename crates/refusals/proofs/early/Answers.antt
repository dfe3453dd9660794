use Rattle.refusals.proofs.Passing.{size_least, size_flags, early_peer, early_buffer, early_size, early_length, early_answer, early_none}
use Rattle.octets.specs.Standard.{rules}
use Rattle.refusals.proofs.early.Goals as goal

pub returns-then-terms : goal.returns-then-terms
returns-then-terms c = search (rules, early_peer)

pub returns-then-out-lt-ROOM : goal.returns-then-out-lt-ROOM
returns-then-out-lt-ROOM c = search (rules, early_buffer)

pub returns-then-req : goal.returns-then-req
returns-then-req c = search (rules, early_size)

pub wrong_length-requires : goal.wrong_length-requires
wrong_length-requires c = search (rules, size_least)

pub returns-then-wrong_length : goal.returns-then-wrong_length
returns-then-wrong_length c = search (rules, early_length)

pub bounds-req-4 : goal.bounds-req-4
bounds-req-4 c = search (rules, size_flags)

pub returns-then-req-lt-R_BIT : goal.returns-then-req-lt-R_BIT
returns-then-req-lt-R_BIT c = search (rules, early_answer)

pub returns : goal.returns
returns c = search (rules, early_none)
