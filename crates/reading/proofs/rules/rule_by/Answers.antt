use Rattle.reading.proofs.Judging.{rule_reserved, rule_unknown, rule_unnamed, rule_needed, rule_repeated}
use Rattle.octets.specs.Standard.{rules}
use Rattle.reading.proofs.rules.rule_by.Goals as goal

pub returns-then-flags-ne0 : goal.returns-then-flags-ne0
returns-then-flags-ne0 c = search (rules, rule_reserved)

pub returns-in-Unknown : goal.returns-in-Unknown
returns-in-Unknown c = search (rules, rule_unknown)

pub returns-in-Unnamed : goal.returns-in-Unnamed
returns-in-Unnamed c = search (rules, rule_unnamed)

pub returns-in-Needed : goal.returns-in-Needed
returns-in-Needed c = λ n f. rule_needed _ _ _ n c.if-flags-ne0.false _ c.in-Needed.is (c.of_once.ensures n f)

pub returns-in-Repeated : goal.returns-in-Repeated
returns-in-Repeated c = λ n f. rule_repeated _ _ _ n c.if-flags-ne0.false _ c.in-Repeated.is (c.of_content.ensures n f)
