use Rattle.octets.specs.Standard.{◌≡◌}
use Rattle.table.specs.Hash.{mix_bytes}
use Rattle.table.proofs.hash.mix_bytes.Given as goal

abbrev pub invariant-loop-b : goal.invariant-loop-b
invariant-loop-b l = l.sum ≡ mix_bytes l.s l.h l.b-index
