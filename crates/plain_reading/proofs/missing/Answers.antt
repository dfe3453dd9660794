use Rattle.std.proofs.iter.runs.Sources.{ranges}
use Rattle.octets.specs.Standard.{rules}
use Rattle.plain_reading.proofs.Turns.{missing_is}
use Rattle.plain_reading.proofs.missing.Goals as goal

pub returns : goal.returns
returns c = missing_is c.args.req.now c.args.places c.args.d (search rules) c.find.result (search (rules, ranges)) (search (rules, ranges))
