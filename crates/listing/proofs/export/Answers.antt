use Rattle.octets.specs.Standard.{rules}
use Rattle.listing.proofs.Ways.{export_whole}
use Rattle.listing.proofs.export.Goals as goal

pub returns : goal.returns
returns c = search (rules, export_whole)
