use Rattle.octets.specs.Standard.{◌+◌, ◌-◌, ◌≤◌, ◌≡◌, length}
use Rattle.table.specs.Check.{agrees_at}
use Rattle.table.specs.Leading.{leading}
use Rattle.table.specs.Remembered.{Remembers, Agreed}
use Rattle.importing.specs.Said.{place_of, table_said}
use Rattle.judging.proofs.members.agreeing.Given as goal

abbrev pub invariant-loop-m : goal.invariant-loop-m
invariant-loop-m l =
    (leading (agrees_at (table_said l.list l.header)) l.n 1 ≡ l.m + leading (agrees_at (table_said l.list l.header)) (l.n - l.m) (l.m + 1))
    × Remembers (table_said l.list l.header) l.slots (l.m + 1) × Agreed (table_said l.list l.header) (l.m + 1) × (l.at ≡ place_of l.list l.m) × (l.at ≤ length l.list)
