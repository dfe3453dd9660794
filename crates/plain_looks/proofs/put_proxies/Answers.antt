use Rattle.octets.specs.Standard.{rules}
use Rattle.plain_looks.proofs.Turns.{proxies_start, proxies_done, proxies_room, proxies_more}
use Rattle.plain_looks.proofs.put_proxies.Goals as goal

pub loop-i-init : goal.loop-i-init
loop-i-init c = search (rules, proxies_start)

pub put_proxy-n-requires : goal.put_proxy-n-requires
put_proxy-n-requires c = search (rules, proxies_room)

pub loop-i-preserved : goal.loop-i-preserved
loop-i-preserved c = search (rules, proxies_more)

pub returns : goal.returns
returns c = search (rules, proxies_done)
