use Rattle.octets.specs.Standard.{true, ◌≡◌}
use Rattle.octets.specs.All.{all_below}
use Rattle.reading.specs.Features.{clear_or_in}
use Rattle.reading.proofs.features.bit_outside.Given as goal

abbrev pub invariant-loop-k : goal.invariant-loop-k
invariant-loop-k l = true ≡ all_below (clear_or_in l.wanted l.set) l.k
