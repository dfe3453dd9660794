use Rattle.octets.specs.Standard.{lit≤}
use Rattle.parts.proofs.Fields.{part_given, part_none, mandatory_field, mandatory_few, mandatory_words}
use Rattle.parts.proofs.mandatory.Goals as goal

pub words-requires : goal.words-requires
words-requires c = (mandatory_few _ _ c.requires _ _ _ c.in-Some.ensures.0 c.in-Some.ensures.1 c.byte.ensures.0, lit≤ tt)

pub returns-in-Some : goal.returns-in-Some
returns-in-Some c =
    part_given _ _ _ _ (mandatory_field _ _ c.requires) _ _ _ c.in-Some.ensures.0 c.in-Some.ensures.1 (mandatory_words _ _ _ c.byte.ensures.0 c.words.ensures)

pub returns-in-None : goal.returns-in-None
returns-in-None c = part_none _ _ _ _ (mandatory_field _ _ c.requires) _ c.in-None.ensures
