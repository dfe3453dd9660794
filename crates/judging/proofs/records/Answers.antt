use Rattle.octets.specs.Standard.{rules}
use Rattle.judging.proofs.Passes.{titled_long, wrong_one, wrong_two}
use Rattle.judging.proofs.records.Goals as goal

pub standing-s-requires : goal.standing-s-requires
standing-s-requires c = (search rules, search (rules, titled_long))

pub returns-then-s : goal.returns-then-s
returns-then-s c = search (rules, wrong_one)

pub agreeing-m-requires : goal.agreeing-m-requires
agreeing-m-requires c = (search rules, search (rules, titled_long), search rules, search rules)

pub returns : goal.returns
returns c = search (rules, wrong_two)
