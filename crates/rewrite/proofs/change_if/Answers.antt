use Rattle.rewrite.proofs.Writes.{if_yes, if_no, differ_none}
use Rattle.octets.specs.Standard.{rules}
use Rattle.rewrite.proofs.change_if.Goals as goal

pub returns-then-chosen : goal.returns-then-chosen
returns-then-chosen c = (search (rules, if_yes), search rules, search rules)

pub returns : goal.returns
returns c = (search (rules, if_no), search (rules, differ_none), search rules)
