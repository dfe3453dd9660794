use Rattle.diameter.proofs.Parts.{spans_data}
use Rattle.octets.specs.Standard.{rules}
use Rattle.diameter.proofs.span_of.Goals as goal

pub returns : goal.returns
returns c = search (rules, spans_data)
