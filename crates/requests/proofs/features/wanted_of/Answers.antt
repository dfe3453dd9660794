use Rattle.requests.proofs.Wanted.{wanted_whole}
use Rattle.octets.specs.Standard.{rules}
use Rattle.requests.proofs.features.wanted_of.Goals as goal

pub returns : goal.returns
returns c = search (rules, wanted_whole)
