use Rattle.envelope.proofs.Written.{host_room, host_most, realm_room, origin_most, wrote_origin}
use Rattle.octets.specs.Standard.{rules}
use Rattle.envelope.proofs.front.put_origin.Goals as goal

pub put_avp-a-requires : goal.put_avp-a-requires
put_avp-a-requires c = search (rules, host_room)

pub slice_bounds-put_avp-count : goal.slice_bounds-put_avp-count
slice_bounds-put_avp-count c = search (rules, host_most)

pub slice_bounds-put_avp-start : goal.slice_bounds-put_avp-start
slice_bounds-put_avp-start c = search (rules, host_most)

pub put_avp-requires : goal.put_avp-requires
put_avp-requires c = search (rules, realm_room)

pub returns : goal.returns
returns c = (
  origin_most _ _ _ c.host.ensures.0 c.realm.ensures.0 c.put_avp-a.ensures.1 c.requires.1
      c.put_avp.ensures.1,
  search (rules, wrote_origin),
)
