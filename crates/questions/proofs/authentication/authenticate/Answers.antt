use Rattle.lookup.proofs.Among.{public_among}
use Rattle.octets.specs.Standard.{rules}
use Rattle.questions.proofs.authentication.authenticate.Goals as goal

pub claim-claimed-requires : goal.claim-claimed-requires
claim-claimed-requires c = search (rules, public_among)
