use Rattle.octets.specs.Standard.{rules}
use Rattle.plain_looks.proofs.Turns.{wanted_as}
use Rattle.plain_looks.proofs.wanted.Goals as goal

pub returns : goal.returns
returns c = search (rules, wanted_as)
