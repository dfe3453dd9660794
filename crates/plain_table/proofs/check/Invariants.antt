use Rattle.blocks.specs.Blocks.{first_bad}
use Rattle.table.specs.Check.{sound_at, check_table}
use Rattle.octets.specs.Standard.{◌+◌, ◌*◌, ◌≤◌, ◌-◌, ◌≡◌, length}
use Rattle.plain_table.proofs.check.Given as goal

abbrev pub invariant-loop-k : goal.invariant-loop-k
invariant-loop-k l =
    (l.count ≤ 4096) × (l.count ≡ l.h.count) × (l.h.networks ≤ 8) × (length l.t ≡ 512 * (l.count + 1))
    × (check_table l.t l.file ≡ first_bad (sound_at l.t l.h l.file) l.h.count (l.count + 1 - l.k) l.k)
