use Rattle.octets.specs.Standard.{lt-ltb, le-ltb}
use Rattle.octets.proofs.name.by_number.Goals as goal

pub returns-then-a-b : goal.returns-then-a-b
returns-then-a-b c = rw (lt-ltb _ _ c.if-a-b.true)

pub returns-else-a-b : goal.returns-else-a-b
returns-else-a-b c = rw (le-ltb _ _ c.if-a-b.false)
