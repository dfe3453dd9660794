use Rattle.octets.specs.Standard.{rules}
use Rattle.diameter.proofs.Reading.{read_here}
use Rattle.reading.proofs.Walking.{read_less}
use Rattle.requests.proofs.Wanted.{list_end, list_cut, list_here, list_other, next_reached, set_end, set_cut, set_here, set_other}
use Rattle.requests.proofs.features.wanted_in.Goals as goal

pub returns-in_default : goal.returns-in_default
returns-in_default c = search (rules, list_cut, set_cut)

pub kind_of-requires : goal.kind_of-requires
kind_of-requires c = search (rules, read_here)

pub passes-requires : goal.passes-requires
passes-requires c = search (rules, read_here)

pub asks-beyond-requires : goal.asks-beyond-requires
asks-beyond-requires c = search (rules, read_here)

pub loop-at-smaller-then-kind_of-eq-SUPPORTED_FEATURES : goal.loop-at-smaller-then-kind_of-eq-SUPPORTED_FEATURES
loop-at-smaller-then-kind_of-eq-SUPPORTED_FEATURES c = search (rules, read_less)

pub loop-at-preserved-then-kind_of-eq-SUPPORTED_FEATURES : goal.loop-at-preserved-then-kind_of-eq-SUPPORTED_FEATURES
loop-at-preserved-then-kind_of-eq-SUPPORTED_FEATURES c = search (rules, list_here, set_here, next_reached)

pub loop-at-smaller : goal.loop-at-smaller
loop-at-smaller c = search (rules, read_less)

pub loop-at-preserved : goal.loop-at-preserved
loop-at-preserved c = search (rules, list_other, set_other, next_reached)

pub returns : goal.returns
returns c = search (rules, list_end, set_end)
