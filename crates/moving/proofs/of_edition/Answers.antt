use Rattle.octets.specs.Standard.{rules}
use Rattle.moving.specs.Outcomes.{of_edition, edition_checked}
use Rattle.moving.proofs.Ways.{edition_long, edition_here, edition_other}
use Rattle.moving.proofs.of_edition.Goals as goal

pub returns-in_err-count : goal.returns-in_err-count
unfolding of_edition edition_checked
returns-in_err-count c = search rules

pub bounds-t-1 : goal.bounds-t-1
bounds-t-1 c = search (rules, edition_long)

pub returns-then-t-edition : goal.returns-then-t-edition
returns-then-t-edition c = search (rules, edition_other)

pub returns : goal.returns
returns c = search (rules, edition_here)
