use Rattle.octets.specs.Standard.{rules}
use Rattle.deciding.proofs.Answering.{plan_table, plan_vectors}
use Rattle.plain_deciding.proofs.Saying.{plan_says}
use Rattle.plain_deciding.proofs.answer_read.Goals as goal

-- what the function requires lies too far back to be looked for

pub returns : goal.returns
returns c =
    let asked = c.requires in
    (search (rules, plan_says, asked), search (rules, plan_table, asked), search (rules, plan_vectors, asked))
