use Rattle.octets.specs.Standard.{rules}
use Rattle.lookup.specs.Find.{find_server, serves_at, server_here}
use Rattle.lookup.proofs.first_server.Goals as goal

pub returns : goal.returns
unfolding find_server serves_at
returns c = c.first_that.ensures (λ b. server_here b c.args.name.now) (λ b x r. search rules)
