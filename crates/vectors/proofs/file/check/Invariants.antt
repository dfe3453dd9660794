use Rattle.octets.specs.Standard.{◌-◌, ◌≤◌, ◌≡◌}
use Rattle.octets.specs.Run.{Mask}
use Rattle.blocks.specs.Blocks.{first_bad}
use Rattle.vectors.specs.VectorFile.{sound_piece, check_vectors}
use Rattle.vectors.proofs.file.check.Given as goal

abbrev pub invariant-loop-k : goal.invariant-loop-k
invariant-loop-k l = (l.k ≤ 4096) × (check_vectors l.v ≡ first_bad (sound_piece l.v) l.n (l.n - l.k) l.k) × Mask l.mask
