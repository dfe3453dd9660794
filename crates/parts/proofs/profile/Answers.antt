use Rattle.parts.proofs.Fields.{part_given, part_none, profile_field}
use Rattle.parts.proofs.profile.Goals as goal

pub returns-in-Some : goal.returns-in-Some
returns-in-Some c = part_given _ _ _ _ (profile_field _ _ _ c.requires) _ _ _ c.in-Some.ensures.0 c.in-Some.ensures.1 c.profile_in.ensures

pub returns-in-None : goal.returns-in-None
returns-in-None c = part_none _ _ _ _ (profile_field _ _ _ c.requires) _ c.in-None.ensures
