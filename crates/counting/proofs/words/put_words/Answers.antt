use Rattle.octets.specs.Standard.{rules}
use Rattle.counting.proofs.Longs.{words_none, words_next, words_all}
use Rattle.counting.proofs.words.put_words.Goals as goal

pub loop-i-init : goal.loop-i-init
loop-i-init c = search (rules, words_none)

pub loop-i-preserved : goal.loop-i-preserved
loop-i-preserved c = (search rules, search (rules, words_next))

pub returns : goal.returns
returns c = search (rules, words_all)
