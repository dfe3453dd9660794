use Rattle.octets.specs.Standard.{rules}
use Rattle.lookup.specs.Find.{find_free, free_at, free_here}
use Rattle.lookup.proofs.Scans.{free_none}
use Rattle.lookup.proofs.find_free.Goals as goal

pub returns-then-set-eq0 : goal.returns-then-set-eq0
returns-then-set-eq0 c = search (rules, free_none)

pub returns : goal.returns
unfolding find_free free_at
returns c = c.first_that.ensures (λ b. free_here c.args.b.now b) (λ b x r. search rules)
