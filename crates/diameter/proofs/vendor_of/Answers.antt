use Rattle.diameter.proofs.Parts.{vendor_there, vendor_none}
use Rattle.octets.specs.Standard.{rules}
use Rattle.diameter.proofs.vendor_of.Goals as goal

pub returns-then-a-eq12 : goal.returns-then-a-eq12
returns-then-a-eq12 c = search (rules, vendor_there)

pub returns : goal.returns
returns c = search (rules, vendor_none)
