use Rattle.octets.specs.Standard.{◌-◌, ◌*◌, ◌≤◌, ◌≡◌, length}
use Rattle.octets.specs.Run.{Wrote}
use Rattle.importing.specs.Said.{place_of}
use Rattle.saying.specs.Records.{records_said}
use Rattle.saying.proofs.put_records.Given as goal

abbrev pub invariant-loop-n : goal.invariant-loop-n
invariant-loop-n l = (l.n ≤ l.count) × (l.at ≡ place_of l.list l.n) × (l.at ≤ length l.list) × (length l.b ≡ 512) × (length l.out ≡ length l.initial.out)
    × Wrote (records_said l.list l.header l.n) l.initial.out l.out (512 * l.n)

abbrev pub decreases-loop-n : goal.decreases-loop-n
decreases-loop-n l = l.count - l.n
