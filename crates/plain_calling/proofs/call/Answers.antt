use Rattle.calling.proofs.Areas.{area_front}
use Rattle.plain_calling.proofs.Calls.{area_serves}
use Rattle.octets.specs.Standard.{rules}
use Rattle.plain_calling.proofs.call.Goals as goal

pub slice_bounds-call_table-end-2 : goal.slice_bounds-call_table-end-2
slice_bounds-call_table-end-2 c = search (rules, area_front)

pub returns : goal.returns
returns c = search (rules, area_serves)
