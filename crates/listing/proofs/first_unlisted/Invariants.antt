use Rattle.octets.specs.Standard.{◌+◌, ◌-◌, ◌≡◌}
use Rattle.blocks.specs.Blocks.{first_bad}
use Rattle.listing.specs.ListOf.{listable_at, first_unlisted}
use Rattle.listing.proofs.first_unlisted.Given as goal

abbrev pub invariant-loop-k : goal.invariant-loop-k
invariant-loop-k l = first_unlisted l.t l.count ≡ first_bad (listable_at l.t) l.count (l.count + 1 - l.k) l.k
