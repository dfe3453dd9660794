use Rattle.octets.specs.Standard.{◌≤◌, ◌-◌, ◌+◌, ◌*◌, length, drop, take_all, length-drop, arith}
use Rattle.plain_table.proofs.header.place.Goals as goal

pub returns : goal.returns
returns c =
    let b = c.args.b.now in
    let at = 144 + 32 * c.args.i in
    let all : length (drop at b) ≤ 512 - at = rw length-drop (omega arith) in
    let front = (rw c.unwrap.ensures at c.first_chunk.ensures.cases).same in
    rw (take_all (512 - at) (drop at b) all) at front
