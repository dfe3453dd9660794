use Rattle.std.proofs.iter.runs.Sources.{ranges}
use Rattle.octets.specs.Standard.{rules}
use Rattle.plain_reading.proofs.Turns.{came_is}
use Rattle.plain_reading.proofs.listed.Places.came.Goals as goal

pub returns : goal.returns
returns c = came_is _ _ c.args.self.now.list.now _ (search (rules, ranges)) (search (rules, ranges))
