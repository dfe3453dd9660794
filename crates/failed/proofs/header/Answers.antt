use Rattle.failed.proofs.Faulty.{head_past, head_cut, head_there, head_short}
use Rattle.octets.specs.Standard.{rules}
use Rattle.failed.proofs.header.Goals as goal

pub returns-then-s-at : goal.returns-then-s-at
returns-then-s-at c = search (rules, head_past)

pub returns-then-s-at-2 : goal.returns-then-s-at-2
returns-then-s-at-2 c = search (rules, head_cut)

pub returns : goal.returns
returns c =
    let short = head_short _ _ _ _ c.head_size-head.ensures.0 c.if-s-at-2.false in
    (head_there _ _ _ _ c.byte_or_zero.ensures c.head_size-head.ensures.0 c.if-s-at-2.false, short.0, short.1)
