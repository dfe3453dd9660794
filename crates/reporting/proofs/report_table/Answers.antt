use Rattle.reporting.proofs.Whole.{area_short, words_whole, reports_all}
use Rattle.octets.specs.Standard.{rules}
use Rattle.reporting.proofs.report_table.Goals as goal

pub returns-then-area-lt-BYTES : goal.returns-then-area-lt-BYTES
returns-then-area-lt-BYTES c = search (rules, area_short)

pub put_words-requires : goal.put_words-requires
put_words-requires c = search (rules, words_whole)

pub returns : goal.returns
returns c = search (rules, reports_all)
