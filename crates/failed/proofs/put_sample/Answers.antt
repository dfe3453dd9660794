use Rattle.failed.proofs.Examples.{zeros_counted, zeros_room, zeros_most, wrote_base, vendor_room, vendor_most, wrote_vendors}
use Rattle.octets.specs.Standard.{rules}
use Rattle.failed.proofs.put_sample.Goals as goal

pub slice_bounds-put_avp-end : goal.slice_bounds-put_avp-end
slice_bounds-put_avp-end c = search (rules, zeros_counted)

pub put_avp-requires : goal.put_avp-requires
put_avp-requires c = search (rules, zeros_room)

pub returns-then-vendor-eq0 : goal.returns-then-vendor-eq0
returns-then-vendor-eq0 c = search (rules, wrote_base, zeros_most)

pub slice_bounds-put_vendor_avp-end : goal.slice_bounds-put_vendor_avp-end
slice_bounds-put_vendor_avp-end c = search (rules, zeros_counted)

pub put_vendor_avp-requires : goal.put_vendor_avp-requires
put_vendor_avp-requires c = search (rules, vendor_room)

pub returns : goal.returns
returns c = search (rules, wrote_vendors, vendor_most)
