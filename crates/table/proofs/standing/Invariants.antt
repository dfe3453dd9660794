use Rattle.octets.specs.Standard.{◌+◌, ◌-◌, ◌≡◌, eqb}
use Rattle.octets.specs.All.{all_below}
use Rattle.table.specs.Check.{stands_at}
use Rattle.table.specs.Leading.{leading, setless}
use Rattle.table.specs.Padded.{Before}
use Rattle.table.proofs.standing.Given as goal

abbrev pub invariant-loop-m : goal.invariant-loop-m
invariant-loop-m l =
    (leading (stands_at l.t l.h l.file) l.h.count 1 ≡ l.m + leading (stands_at l.t l.h l.file) (l.h.count - l.m) (l.m + 1)) × (eqb l.sets 0 ≡ all_below (setless l.t) l.m)
    × Before l.t (l.m + 1)
