use Rattle.octets.specs.Standard.{◌*◌, ◌≡◌, length, drop}
use Rattle.octets.proofs.Writes.{Going}
use Rattle.counting.specs.Words.{words_bytes}
use Rattle.counting.proofs.words.put_words.Given as goal

abbrev pub invariant-loop-i : goal.invariant-loop-i
invariant-loop-i l =
    (length l.area ≡ length l.initial.area) × Going l.initial.area l.area (8 * l.i) (words_bytes (drop l.i l.counts)) (words_bytes l.counts)
