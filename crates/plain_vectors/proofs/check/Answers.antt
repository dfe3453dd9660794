use Rattle.vectors.proofs.Pieces.{pieces_are}
use Rattle.plain_vectors.proofs.Pieces.{passed_none, passed_bad, passed_more, passed_all}
use Rattle.octets.specs.Standard.{rules, ◌∙◌, arith}
use Rattle.plain_vectors.proofs.check.Goals as goal

pub loop-k-init : goal.loop-k-init
loop-k-init c = (c.div_ceil-pieces.ensures ∙ pieces_are _, passed_none _)

pub returns-then-not-piece_sound : goal.returns-then-not-piece_sound
returns-then-not-piece_sound c = passed_bad c.args.v.now c.loop-k.k c.loop-k.invariant.1 (omega arith) c.piece_sound.ensures c.if-not-piece_sound.true

pub loop-k-preserved : goal.loop-k-preserved
loop-k-preserved c = (c.loop-k.invariant.0, passed_more c.args.v.now c.loop-k.k c.loop-k.invariant.1 (omega arith) c.piece_sound.ensures c.if-not-piece_sound.false)

pub returns : goal.returns
returns c = search (rules, passed_all)
