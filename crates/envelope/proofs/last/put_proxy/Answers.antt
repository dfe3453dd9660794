use Rattle.envelope.proofs.Proxies.{wrote_fits, proxy_room, wrote_proxy, wrote_other}
use Rattle.octets.specs.Standard.{rules}
use Rattle.envelope.proofs.last.put_proxy.Goals as goal

pub put_copy-requires : goal.put_copy-requires
put_copy-requires c = search (rules, proxy_room)

pub returns-then-kind_of-eq-PROXY_INFO : goal.returns-then-kind_of-eq-PROXY_INFO
returns-then-kind_of-eq-PROXY_INFO c = search (rules, wrote_proxy, wrote_fits)

pub returns : goal.returns
returns c = search (rules, wrote_other)
