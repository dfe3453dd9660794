use Rattle.octets.specs.Standard.{rules}
use Rattle.billing.proofs.Ways.{fit_given, import_fit, import_not}
use Rattle.billing.proofs.import.Goals as goal

pub first_wrong-wrong-requires : goal.first_wrong-wrong-requires
first_wrong-wrong-requires c = search (rules, fit_given)

pub import_past-requires : goal.import_past-requires
import_past-requires c = search (rules, fit_given)

pub returns-in-Some : goal.returns-in-Some
returns-in-Some c = import_fit _ _ _ _ c.in-Some.ensures.1 c.in-Some.ensures.0 c.first_wrong-wrong.ensures c.import_past.ensures

pub returns-in-None : goal.returns-in-None
returns-in-None c = search (rules, import_not)
