use Rattle.plain_vectors.proofs.Turns.{next_enough, next_one, next_other}
use Rattle.octets.specs.Standard.{rules}
use Rattle.plain_vectors.proofs.with_next.Goals as goal
use Rattle.plain_vectors.proofs.with_next.Goals.{else-s-most-via-then-s-most+else-unused, else-s-most-via-else-s-most}

pub returns-then-unused : goal.returns-then-unused
returns-then-unused c = search (rules, next_one)

pub returns-else-s-most : goal.returns-else-s-most
returns-else-s-most c =
    elim c.else-s-most.branch [
      | else-s-most-via-then-s-most+else-unused w ↦ search (rules, next_other)
      | else-s-most-via-else-s-most w ↦ search (rules, next_enough)
    ]
