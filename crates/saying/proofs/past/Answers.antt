use Rattle.octets.specs.Standard.{rules, ◌∙◌, sym}
use Rattle.saying.proofs.Passing.{part_lf, past_found, past_none}
use Rattle.saying.proofs.past.Goals as goal

pub returns-in-Some : goal.returns-in-Some
returns-in-Some c = past_found _ _ _ (sym (part_lf c.args.list.now c.args.at) ∙ sym c.before_lf.ensures ∙ c.in-Some.is)

pub returns-in-None : goal.returns-in-None
returns-in-None c = (past_none _ _ c.requires (sym (part_lf c.args.list.now c.args.at) ∙ sym c.before_lf.ensures ∙ c.in-None.is), search rules)
