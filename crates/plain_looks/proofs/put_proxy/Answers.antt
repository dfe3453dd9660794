use Rattle.octets.specs.Standard.{rules}
use Rattle.diameter.proofs.Reading.{read_here}
use Rattle.envelope.proofs.Proxies.{wrote_fits, proxy_room, wrote_proxy, wrote_other}
use Rattle.plain_looks.proofs.Turns.{proxy_cut, room_whole, wrote_whole}
use Rattle.plain_looks.proofs.put_proxy.Goals as goal

pub returns-in_default : goal.returns-in_default
returns-in_default c = search (rules, proxy_cut)

pub kind_of-requires : goal.kind_of-requires
kind_of-requires c = search (rules, read_here)

pub avp_part-requires : goal.avp_part-requires
avp_part-requires c = search (rules, read_here)

pub put_copy-requires : goal.put_copy-requires
put_copy-requires c = search (rules, proxy_room, room_whole)

pub returns-then-kind_of-eq-PROXY_INFO : goal.returns-then-kind_of-eq-PROXY_INFO
returns-then-kind_of-eq-PROXY_INFO c = search (rules, wrote_whole, wrote_proxy, wrote_fits)

pub returns : goal.returns
returns c = search (rules, wrote_whole, wrote_other)
