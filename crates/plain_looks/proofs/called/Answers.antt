use Rattle.std.proofs.iter.runs.Sources.{ranges}
use Rattle.octets.specs.Standard.{rules}
use Rattle.reading.specs.Places.{seen_of}
use Rattle.plain_looks.specs.Looks.{calls_at}
use Rattle.plain_looks.proofs.Turns.{some_is}
use Rattle.plain_reading.proofs.Turns.{seen_length}
use Rattle.plain_looks.proofs.called.Goals as goal

pub returns : goal.returns
returns c =
    rw (seen_length c.args.l.now.req.now c.args.l.now.list.now)
    (some_is (calls_at (seen_of c.args.l.now.req.now c.args.l.now.list.now)) c.args.l.now.list.now _ (search (rules, ranges)) (search (rules, ranges)))
