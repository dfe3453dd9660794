use Rattle.reading.proofs.Judging.{plain_other, plain_number_lem, plain_sized}
use Rattle.octets.specs.Standard.{rules}
use Rattle.reading.proofs.plain.plain_fault.Goals as goal

pub returns-in-Free : goal.returns-in-Free
returns-in-Free c = search (rules, plain_other)

pub returns-in-Number : goal.returns-in-Number
returns-in-Number c = search (rules, plain_number_lem)

pub returns-in-Sized : goal.returns-in-Sized
returns-in-Sized c = search (rules, plain_sized)
