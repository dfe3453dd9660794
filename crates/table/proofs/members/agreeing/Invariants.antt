use Rattle.octets.specs.Standard.{◌+◌, ◌-◌, ◌≡◌}
use Rattle.table.specs.Check.{agrees_at}
use Rattle.table.specs.Leading.{leading}
use Rattle.table.specs.Remembered.{Remembers, Agreed}
use Rattle.table.proofs.members.agreeing.Given as goal

abbrev pub invariant-loop-m : goal.invariant-loop-m
invariant-loop-m l =
    (leading (agrees_at l.t) l.n 1 ≡ l.m + leading (agrees_at l.t) (l.n - l.m) (l.m + 1)) × Remembers l.t l.slots (l.m + 1) × Agreed l.t (l.m + 1)
