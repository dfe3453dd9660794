use Rattle.octets.specs.Standard.{ℕ, sym, length-replicate}
use Rattle.tablecheck.proofs.room.Goals as goal

pub returns : goal.returns
returns c = sym (length-replicate {A = ℕ} 2098176 0)
