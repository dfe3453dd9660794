use Rattle.octets.specs.Standard.{rules}
use Rattle.diameter.proofs.Reading.{read_here}
use Rattle.reading.proofs.Walking.{read_less, read_from_lem}
use Rattle.requests.proofs.Naming.{named_end, named_cut, named_at, named_more}
use Rattle.requests.proofs.identities.next_identity.Goals as goal

pub returns-in_default : goal.returns-in_default
returns-in_default c = search (rules, named_cut)

pub kind_of-requires : goal.kind_of-requires
kind_of-requires c = search (rules, read_here)

pub returns-then-kind_of-eq-PUBLIC_IDENTITY : goal.returns-then-kind_of-eq-PUBLIC_IDENTITY
returns-then-kind_of-eq-PUBLIC_IDENTITY c = search (rules, named_at)

pub loop-at-smaller : goal.loop-at-smaller
loop-at-smaller c = search (rules, read_less)

pub loop-at-preserved : goal.loop-at-preserved
loop-at-preserved c = search (rules, named_more, read_from_lem)

pub returns : goal.returns
returns c = search (rules, named_end)
