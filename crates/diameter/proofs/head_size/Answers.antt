use Rattle.octets.specs.Standard.{arith, le-leb, lt-leb}
use Rattle.diameter.specs.Avp.{head_of}
use Rattle.diameter.proofs.head_size.Goals as goal

pub returns-then-flags-ge-V_FLAG : goal.returns-then-flags-ge-V_FLAG
unfolding head_of
returns-then-flags-ge-V_FLAG c = (simp (le-leb _ _ c.if-flags-ge-V_FLAG.true), omega arith, omega arith)

pub returns-else-flags-ge-V_FLAG : goal.returns-else-flags-ge-V_FLAG
unfolding head_of
returns-else-flags-ge-V_FLAG c = (simp (lt-leb _ _ c.if-flags-ge-V_FLAG.false), omega arith, omega arith)
