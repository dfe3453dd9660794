use Rattle.octets.specs.Standard.{◌≤◌, ◌-◌, ◌*◌, ◌≡◌, length, drop, take, take_all, length-drop, arith}
use Rattle.blocks.specs.Blocks.{block_of}
use Rattle.blocks.proofs.block.Goals as goal

pub returns : goal.returns
unfolding block_of
returns c =
    let t = c.args.t.now in
    let at = 512 * c.args.k in
    let all : length (drop at t) ≤ length t - at = rw length-drop (omega arith) in
    let front = (rw c.unwrap.ensures at c.first_chunk.ensures.cases).same in
    rw (take_all (length t - at) (drop at t) all) at front
