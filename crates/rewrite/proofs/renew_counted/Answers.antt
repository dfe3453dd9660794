use Rattle.rewrite.proofs.Unchanged.{left_renewed, renewed_differs}
use Rattle.rewrite.proofs.Writes.{differ_none}
use Rattle.octets.specs.Standard.{rules}
use Rattle.rewrite.proofs.renew_counted.Goals as goal

pub returns-then-held : goal.returns-then-held
returns-then-held c = (search (rules, left_renewed), search (rules, differ_none), search rules)

pub returns : goal.returns
returns c = (search rules, search (rules, renewed_differs), search rules)
