use Rattle.octets.specs.Standard.{◌*◌, drop}
use Rattle.octets.proofs.Writes.{Going}
use Rattle.rows.specs.Block.{words_bytes}
use Rattle.parsing.proofs.block.put_words.Given as goal

abbrev pub invariant-loop-i : goal.invariant-loop-i
invariant-loop-i l = Going l.initial.out l.out (4 * l.i) (words_bytes (drop l.i l.ws)) (words_bytes l.ws)
