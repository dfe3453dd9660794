-- What the plain engine says of an answer: its length and the place of the AVP at fault, those of the decision.
use Rattle.std.specs.Prelude.{ℕ, List, ◌≡◌}
use Rattle.reading.specs.declared.Dialect.{Dialect}
use Rattle.deciding.specs.Answers.{Answers}
use Rattle.deciding.specs.Decide.{decide}
use Rattle.plain_deciding.specs.declared.Said.{Said}

pub record Says (d : Dialect) (req t : List ℕ) (count : ℕ) (file v before after : List ℕ) (r : Said) : Type 0 where
  pub answers : Answers d req t count file v before after r.length
  pub place_is : r.place ≡ (decide d req t count v).place
