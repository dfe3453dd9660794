use Rattle.lines.proofs.Written.{words_wrote}
use Rattle.octets.specs.Standard.{rules}
use Rattle.lines.proofs.put_words.Goals as goal

pub returns : goal.returns
returns c = search (rules, words_wrote)
