use Rattle.ndushavire.proofs.Words.{report_promised}
use Rattle.octets.specs.Standard.{rules}
use Rattle.ndushavire.proofs.ndushavire_report.Goals as goal

pub returns : goal.returns
returns c = search (rules, report_promised)
