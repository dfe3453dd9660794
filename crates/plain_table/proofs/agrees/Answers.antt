use Rattle.octets.specs.Standard.{rules}
use Rattle.std.proofs.iter.runs.Sources.{ranges}
use Rattle.table.specs.Check.{agrees_at, agrees_with}
use Rattle.plain_table.proofs.Comparing.{all_from}
use Rattle.plain_table.proofs.agrees.Goals as goal

pub returns : goal.returns
unfolding agrees_at
returns c = all_from (agrees_with c.args.t.now c.args.k) c.args.k c.args.t.now (search (rules, ranges)) (search (rules, ranges))
