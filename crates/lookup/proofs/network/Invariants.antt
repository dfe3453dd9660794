use Rattle.octets.specs.Standard.{◌-◌, ◌≤◌, true, ◌≡◌, length}
use Rattle.octets.specs.All.{all_below}
use Rattle.record.specs.Fields.{networks_of}
use Rattle.blocks.specs.Blocks.{block_of}
use Rattle.lookup.specs.Network.{agree_at, network_is, seek, network_number}
use Rattle.lookup.proofs.network.Given as goal

abbrev pub invariant-loop-h : goal.invariant-loop-h
invariant-loop-h l = (l.i ≤ length l.name) × (true ≡ all_below (agree_at l.h l.at l.name) l.i)

abbrev pub decreases-loop-h : goal.decreases-loop-h
decreases-loop-h l = length l.name - l.i

abbrev pub invariant-places : goal.invariant-places
invariant-places l =
    (l.networks ≤ 8) × (l.k ≤ l.networks) × (network_number (block_of l.t 0) (networks_of (block_of l.t 0)) l.name ≡ seek (network_is l.h l.name) (l.networks - l.k) l.k)

abbrev pub decreases-places : goal.decreases-places
decreases-places l = l.networks - l.k
