use Rattle.octets.specs.Standard.{rules, arith}
use Rattle.items.proofs.Items.{items_none, item_is, items_within, items_short, items_fit, items_next, items_all}
use Rattle.items.proofs.put_items.Goals as goal

pub loop-i-init : goal.loop-i-init
loop-i-init c = search (rules, items_none)

pub block-requires : goal.block-requires
block-requires c = search (rules, items_within)

pub put_item-at-requires : goal.put_item-at-requires
put_item-at-requires c =
    let e = rw (item_is _ _ c.requires.0 _ c.loop-i-test.true) at c.block.ensures in
    (items_short _ _ c.requires.0 _ c.loop-i-test.true _ e, items_fit _ _ c.requires.0 _ c.loop-i-test.true _ e c.requires.1 c.loop-i.invariant.1 c.loop-i.invariant.2)

pub loop-i-preserved : goal.loop-i-preserved
loop-i-preserved c =
    let e = rw (item_is _ _ c.requires.0 _ c.loop-i-test.true) at c.block.ensures in
    (search rules, search rules, items_next _ _ _ _ e c.loop-i.invariant.2 c.put_item-at.ensures.1)

pub returns : goal.returns
returns c = items_all _ _ c.requires.0 _ (omega arith) c.loop-i.invariant.2
