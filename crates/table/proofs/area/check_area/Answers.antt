use Rattle.table.proofs.Areas.{area_checked}
use Rattle.octets.specs.Standard.{rules}
use Rattle.table.proofs.area.check_area.Goals as goal

pub returns : goal.returns
returns c = search (rules, area_checked)
