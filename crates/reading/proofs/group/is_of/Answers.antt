use Rattle.reading.proofs.Members.{of_base, of_vendor}
use Rattle.octets.specs.Standard.{rules}
use Rattle.reading.proofs.group.is_of.Goals as goal

pub returns-then-a-lt-V_FLAG : goal.returns-then-a-lt-V_FLAG
returns-then-a-lt-V_FLAG c = search (rules, of_base)

pub returns : goal.returns
returns c = search (rules, of_vendor)
