use Rattle.vectors.proofs.Pieces.{piece_far, piece_cut, piece_whole}
use Rattle.octets.specs.Standard.{rules}
use Rattle.plain_vectors.proofs.piece_sound.Goals as goal
use Rattle.plain_vectors.proofs.piece_sound.Goals.{then-k-lt4096, else-k-lt4096}

pub returns-then-k-v : goal.returns-then-k-v
returns-then-k-v c = search (rules, piece_whole)

pub returns-else-k-v : goal.returns-else-k-v
returns-else-k-v c =
    elim c.if-k-lt4096.branch [
      | then-k-lt4096 w ↦ piece_cut c.args.v.now c.args.k w.if-k-lt4096.true w.value-is c.if-k-v.false
      | else-k-lt4096 w ↦ piece_far c.args.v.now c.args.k w.if-k-lt4096.false c.if-k-v.false
    ]
