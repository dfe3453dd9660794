use Rattle.octets.specs.Standard.{rules}
use Rattle.blocks.proofs.First.{first_bad_lem, first_more, first_none}
use Rattle.vectors.proofs.Pieces.{turn_all, turn_near}
use Rattle.vectors.proofs.file.check.Goals as goal

pub loop-k-init : goal.loop-k-init
loop-k-init c = search (rules, turn_all)

pub loop-k-preserved : goal.loop-k-preserved
loop-k-preserved c = search (rules, first_more, turn_near)

pub returns-then-not-piece_sound : goal.returns-then-not-piece_sound
returns-then-not-piece_sound c = search (rules, first_bad_lem)

pub returns : goal.returns
returns c = search (rules, first_none)
