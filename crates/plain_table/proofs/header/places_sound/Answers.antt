use Rattle.octets.specs.Standard.{rules}
use Rattle.std.proofs.iter.runs.Sources.{ranges}
use Rattle.plain_table.proofs.Comparing.{all_is}
use Rattle.plain_table.proofs.header.places_sound.Goals as goal

pub returns : goal.returns
returns c = all_is _ 8 (search (rules, ranges))
