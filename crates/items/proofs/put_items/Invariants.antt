use Rattle.octets.specs.Standard.{◌≤◌, ◌≡◌, length}
use Rattle.octets.specs.Run.{Wrote}
use Rattle.items.specs.Items.{items_bytes}
use Rattle.items.proofs.put_items.Given as goal

abbrev pub invariant-loop-i : goal.invariant-loop-i
invariant-loop-i l =
    (l.at ≤ length l.initial.out) × (length l.out ≡ length l.initial.out) × Wrote (items_bytes l.v l.fn.sent.blocks l.i) l.initial.out l.out l.at
