use Rattle.octets.specs.Standard.{rules}
use Rattle.octets.proofs.Writes.{going_none}
use Rattle.diameter.proofs.Reading.{read_here}
use Rattle.reading.proofs.Walking.{read_less}
use Rattle.envelope.proofs.Proxies.{proxies_end, proxies_fault, turn_room, turn_more}
use Rattle.envelope.proofs.last.put_proxies.Goals as goal

pub loop-at-init : goal.loop-at-init
loop-at-init c = search (rules, going_none)

pub returns-in_default : goal.returns-in_default
returns-in_default c = search (rules, proxies_fault)

pub put_proxy-n-requires : goal.put_proxy-n-requires
put_proxy-n-requires c = search (rules, read_here, turn_room)

pub loop-at-smaller : goal.loop-at-smaller
loop-at-smaller c = search (rules, read_less)

pub loop-at-preserved : goal.loop-at-preserved
loop-at-preserved c = search (rules, turn_more)

pub returns : goal.returns
returns c = search (rules, proxies_end)
