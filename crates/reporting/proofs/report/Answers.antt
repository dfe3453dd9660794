use Rattle.reporting.proofs.Areas.{area_reports}
use Rattle.calling.proofs.Areas.{area_front}
use Rattle.octets.specs.Standard.{rules}
use Rattle.reporting.proofs.report.Goals as goal

pub slice_bounds-report_table-end-2 : goal.slice_bounds-report_table-end-2
slice_bounds-report_table-end-2 c = search (rules, area_front)

pub returns : goal.returns
returns c = search (rules, area_reports)
