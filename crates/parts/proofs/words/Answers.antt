use Rattle.parts.proofs.Fields.{words_lent}
use Rattle.octets.specs.Standard.{rules}
use Rattle.parts.proofs.words.Goals as goal

pub returns : goal.returns
returns c = search (rules, words_lent)
