use Rattle.octets.specs.Standard.{refl}
use Rattle.octets.proofs.Writes.{over_sets}
use Rattle.rows.proofs.put_end.Goals as goal

pub returns : goal.returns
returns c = record { count = refl; bytes = over_sets _ _ c.requires }
