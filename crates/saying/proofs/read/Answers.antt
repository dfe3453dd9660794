use Rattle.octets.specs.Standard.{rules}
use Rattle.saying.proofs.Reading.{place_next, next_within, said_line, place_same, said_none}
use Rattle.saying.proofs.read.Goals as goal

pub returns-in-Some : goal.returns-in-Some
returns-in-Some c = (
  said_line _ _ _ _ (search rules) c.in-Some.ensures.0 _ _ _ (search rules) c.in-Some.ensures.1,
  search (rules, place_next),
  search (rules, next_within),
)

pub returns-in-None : goal.returns-in-None
returns-in-None c = (search (rules, said_none), search (rules, place_same), search rules)
