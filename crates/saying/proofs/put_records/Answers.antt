use Rattle.octets.specs.Standard.{rules}
use Rattle.saying.proofs.Reading.{place_first}
use Rattle.saying.proofs.Writing.{records_none, records_more, records_all}
use Rattle.saying.proofs.put_records.Goals as goal

pub loop-n-init : goal.loop-n-init
loop-n-init c = (search rules, search (rules, place_first), search rules, search rules, search rules, search (rules, records_none))

pub loop-n-preserved : goal.loop-n-preserved
loop-n-preserved c = (search rules, search rules, search rules, search rules, search rules, search (rules, records_more))

pub returns : goal.returns
returns c = search (rules, records_all)
