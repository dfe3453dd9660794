-- Every answer fits: no request within the limits has one that is longer than the smallest buffer.
use Rattle.octets.specs.Standard.{length}
use Rattle.calling.specs.Lent.{Lent, dialect_in}
use Rattle.refusals.proofs.Passing.{size_least, size_most, length_even}
use Rattle.deciding.proofs.Room.{answer_most}
use Rattle.demands.specs.Call.{Fits}

pub fits : (x : Lent) → Fits x
fits x size right count sound vectors =
    let req = x.request in
    answer_most x.table x.profile count (record { file = length x.profile; checked = sound }) x.vectors req (size_least req size)
    (size_most req size) (length_even req right) (dialect_in x) vectors
