use Rattle.octets.specs.Standard.{rules}
use Rattle.lookup.specs.Find.{find_server, serves_at, server_here}
use Rattle.plain_lookup.proofs.first_server.Goals as goal

pub returns : goal.returns
unfolding find_server serves_at server_here
returns c = c.first.ensures (λ b. server_here b c.args.name.now) (λ b r h. search rules)
