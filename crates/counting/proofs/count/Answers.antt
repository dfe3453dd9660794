use Rattle.counting.proofs.Steps.{answered_fits, refused_fits, answered_counted, refused_counted}
use Rattle.octets.specs.Standard.{rules}
use Rattle.counting.proofs.count.Goals as goal

pub count_answered-requires : goal.count_answered-requires
count_answered-requires c = search (rules, answered_fits)

pub count_refused-requires : goal.count_refused-requires
count_refused-requires c = search (rules, refused_fits)

pub returns-in-Ok : goal.returns-in-Ok
returns-in-Ok c = search (rules, answered_counted)

pub returns-in-Err : goal.returns-in-Err
returns-in-Err c = search (rules, refused_counted)
