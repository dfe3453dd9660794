use Rattle.user_data.proofs.Written.{wrote_elements}
use Rattle.octets.specs.Standard.{rules}
use Rattle.user_data.proofs.put_elements.Goals as goal

pub returns : goal.returns
returns c = search (rules, wrote_elements)
