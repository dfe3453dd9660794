use Rattle.parts.proofs.Fields.{part_given, part_none, public_field_lem}
use Rattle.parts.proofs.public.Goals as goal

pub returns-in-Some : goal.returns-in-Some
returns-in-Some c = part_given _ _ _ _ (public_field_lem _ _ c.requires) _ _ _ c.in-Some.ensures.0 c.in-Some.ensures.1 c.public.ensures.0

pub returns-in-None : goal.returns-in-None
returns-in-None c = part_none _ _ _ _ (public_field_lem _ _ c.requires) _ c.in-None.ensures
