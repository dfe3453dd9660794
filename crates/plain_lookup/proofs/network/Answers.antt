use Rattle.std.proofs.iter.runs.Sources.{ranges}
use Rattle.std.proofs.iter.Serving.{serving}
use Rattle.record.specs.Fields.{networks_of}
use Rattle.blocks.specs.Blocks.{block_of}
use Rattle.table.proofs.Sound.{sound_first}
use Rattle.plain_lookup.proofs.Looks.{networks_few, networks_are, network_found}
use Rattle.octets.specs.Standard.{◌≡◌, ◌≤◌, rules}
use Rattle.plain_lookup.proofs.network.Goals as goal

pub block-requires : goal.block-requires
block-requires c = search (rules, sound_first)

pub find-requires-clause-callable : goal.find-requires-clause-callable
find-requires-clause-callable c =
    let few : c.byte-n.result ≤ 8 = search (rules, networks_few) in
    let is : c.byte-n.result ≡ networks_of (block_of c.args.t.now 0) = search (rules, networks_are) in
    grind (serving, few, is)

pub returns : goal.returns
returns c =
    let few : c.byte-n.result ≤ 8 = search (rules, networks_few) in
    let is : c.byte-n.result ≡ networks_of (block_of c.args.t.now 0) = search (rules, networks_are) in
    network_found (block_of c.args.t.now 0) c.args.name.now c.byte-n.result few is c.find.result (search (rules, ranges)) (search (rules, ranges))
