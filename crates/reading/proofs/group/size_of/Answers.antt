use Rattle.reading.proofs.Members.{size_application, size_sole, size_feature}
use Rattle.octets.specs.Standard.{rules}
use Rattle.reading.proofs.group.size_of.Goals as goal

pub returns-in-Application : goal.returns-in-Application
returns-in-Application c = search (rules, size_application)

pub returns-in-AuthDataItem : goal.returns-in-AuthDataItem
returns-in-AuthDataItem c = search (rules, size_sole)

pub returns-in-SupportedFeatures : goal.returns-in-SupportedFeatures
returns-in-SupportedFeatures c = search (rules, size_feature)
