use Rattle.rewrite.proofs.Writes.{draft_fits, renew_put}
use Rattle.octets.specs.Standard.{rules}
use Rattle.rewrite.proofs.renew.Goals as goal

pub put_name-requires : goal.put_name-requires
put_name-requires c = search (rules, draft_fits)

pub returns : goal.returns
returns c = search (rules, renew_put)
