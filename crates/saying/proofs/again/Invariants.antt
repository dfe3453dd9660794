use Rattle.octets.specs.Standard.{◌≤◌, ◌≡◌, length}
use Rattle.importing.specs.Said.{place_of}
use Rattle.saying.proofs.again.Given as goal

abbrev pub invariant-loop-n : goal.invariant-loop-n
invariant-loop-n l = (l.at ≡ place_of l.list l._n) × (l.at ≤ length l.list)
