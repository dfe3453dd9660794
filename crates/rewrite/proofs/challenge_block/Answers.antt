use Rattle.rewrite.proofs.Writes.{challenge_block, challenge_none, differ_none}
use Rattle.octets.specs.Standard.{rules}
use Rattle.rewrite.proofs.challenge_block.Goals as goal

pub returns-then-state-same : goal.returns-then-state-same
returns-then-state-same c = (search (rules, challenge_block), search rules, search rules)

pub returns : goal.returns
returns c = (search (rules, challenge_none), search (rules, differ_none), search rules)
