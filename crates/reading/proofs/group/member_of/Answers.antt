use Rattle.reading.proofs.Members.{low_application, low_feature, member_application, member_item, member_feature, member_identity}
use Rattle.octets.specs.Standard.{rules}
use Rattle.reading.proofs.group.member_of.Goals as goal

pub returns-in-Application : goal.returns-in-Application
returns-in-Application c = search (rules, member_application)

pub returns-in-AuthDataItem : goal.returns-in-AuthDataItem
returns-in-AuthDataItem c = search (rules, member_item)

pub returns-in-SupportedFeatures : goal.returns-in-SupportedFeatures
returns-in-SupportedFeatures c = search (rules, member_feature)

pub returns-in-UserIdentity : goal.returns-in-UserIdentity
returns-in-UserIdentity c = search (rules, member_identity)

pub application_member-requires : goal.application_member-requires
application_member-requires c = search (rules, low_application)

pub feature_member-requires : goal.feature_member-requires
feature_member-requires c = search (rules, low_feature)
