use Rattle.octets.specs.Standard.{rules, arith, ◌≡◌, length-take, length-drop}
use Rattle.pen.specs.Groups.{words}
use Rattle.pen.proofs.Groups.{wrote_no_number, number_long, wrote_next_number, wrote_all_numbers}
use Rattle.pen.proofs.group.put_numbers.Goals as goal

pub loop-n-init : goal.loop-n-init
loop-n-init c = search (rules, wrote_no_number)

pub slice_bounds-put_vendor_avp-count : goal.slice_bounds-put_vendor_avp-count
slice_bounds-put_vendor_avp-count c = omega (arith, c.as_chunks.ensures.front_len)

pub put_vendor_avp-at-requires : goal.put_vendor_avp-at-requires
put_vendor_avp-at-requires c =
    rw (number_long _ c.as_chunks.ensures.front c.as_chunks.ensures.front_len _ c.loop-n-test.true)
    (simp (length-take, length-drop) (omega (arith, c.as_chunks.ensures.front_len)))

pub loop-n-preserved : goal.loop-n-preserved
loop-n-preserved c =
    let l = number_long _ c.as_chunks.ensures.front c.as_chunks.ensures.front_len _ c.loop-n-test.true in (
      omega (arith, l, c.put_vendor_avp-at.ensures.0),
      search rules,
      wrote_next_number _ c.as_chunks.ensures.front c.as_chunks.ensures.front_len _ c.loop-n-test.true _ c.loop-n.invariant.2 c.put_vendor_avp-at.ensures.1,
    )

pub returns : goal.returns
returns c =
    let all : c.loop-n.n-index ≡ words c.args.src.now = omega (arith, c.as_chunks.ensures.front_len) in
    (omega arith, wrote_all_numbers _ _ _ all c.loop-n.invariant.2)
