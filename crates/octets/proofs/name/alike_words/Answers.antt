use Rattle.octets.specs.Standard.{rules}
use Rattle.octets.proofs.Names.{words_none, words_more, words_all}
use Rattle.octets.proofs.name.alike_words.Goals as goal

pub loop-j-init : goal.loop-j-init
loop-j-init c = search (rules, words_none)

pub loop-j-preserved : goal.loop-j-preserved
loop-j-preserved c = search (rules, words_more)

pub returns : goal.returns
returns c = search (rules, words_all)
