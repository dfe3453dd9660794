use Rattle.failed.proofs.Examples.{group_room, head_left_lem, example_room, wrote_example}
use Rattle.octets.specs.Standard.{rules}
use Rattle.failed.proofs.put_example.Goals as goal

pub slice_bounds-put_sample-count : goal.slice_bounds-put_sample-count
slice_bounds-put_sample-count c = search (rules, group_room)

pub slice_bounds-put_sample-start : goal.slice_bounds-put_sample-start
slice_bounds-put_sample-start c = search (rules, group_room)

pub put_sample-n-requires : goal.put_sample-n-requires
put_sample-n-requires c = search (rules, example_room)

pub put_head-requires : goal.put_head-requires
put_head-requires c = search (rules, head_left_lem)

pub returns : goal.returns
returns c = search (rules, wrote_example)
