use Rattle.reading.proofs.Members.{often_application, often_other}
use Rattle.octets.specs.Standard.{rules}
use Rattle.reading.proofs.group.too_often.Goals as goal

pub returns-in-Application : goal.returns-in-Application
returns-in-Application c = search (rules, often_application)

pub returns-in-AuthDataItem : goal.returns-in-AuthDataItem
returns-in-AuthDataItem c = search (rules, often_other)
