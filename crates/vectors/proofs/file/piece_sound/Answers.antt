use Rattle.vectors.proofs.Pieces.{piece_far, piece_past, piece_cut, piece_whole}
use Rattle.vectors.proofs.file.piece_sound.Goals as goal
use Rattle.vectors.proofs.file.piece_sound.Goals.{then-k-lt-MOST, else-k-lt-MOST}

pub returns-then-k-v : goal.returns-then-k-v
returns-then-k-v c =
    elim c.if-k-lt-MOST.branch [
      | then-k-lt-MOST w ↦ piece_whole _ _ w.if-k-lt-MOST.true w.value-is _ c.if-k-v.true c.block.ensures c.sound.ensures
      | else-k-lt-MOST w ↦ piece_past _ w.if-k-lt-MOST.false w.value-is c.if-k-v.true
    ]

pub returns-else-k-v : goal.returns-else-k-v
returns-else-k-v c =
    elim c.if-k-lt-MOST.branch [
      | then-k-lt-MOST w ↦ piece_cut _ _ w.if-k-lt-MOST.true w.value-is c.if-k-v.false
      | else-k-lt-MOST w ↦ piece_far _ _ w.if-k-lt-MOST.false c.if-k-v.false
    ]
