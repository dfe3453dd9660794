use Rattle.octets.specs.Standard.{rules}
use Rattle.lookup.specs.Find.{find_free, free_at, free_here}
use Rattle.plain_lookup.proofs.find_free.Goals as goal

pub returns : goal.returns
unfolding find_free free_at free_here
returns c = c.first.ensures (free_here c.args.b.now) (λ b r h. search rules)
