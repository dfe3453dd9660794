-- A sound block that is moved to the edition and the issue number that it has is as it was: its check word follows from its bytes.
use Rattle.octets.specs.Standard.{ℕ, ◌≡◌, ◌∙◌, ap, List, set-get_or}
use Rattle.octets.specs.Sum.{sum_words}
use Rattle.octets.proofs.Numbers.{Bytes, word_held}
use Rattle.record.specs.Fields.{edition_of, issue_of}
use Rattle.blocks.specs.Sealed.{sealed}
use Rattle.blocks.proofs.Sealed.{sealed_held}
use Rattle.moving.specs.Moves.{moved}
use Rattle.moving.proofs.Bytes.{drafted}

pub moved_same : (b : List ℕ) → Bytes b → sum_words b 128 ≡ 0 → moved (edition_of b) (issue_of b) b ≡ b
unfolding moved
moved_same b bytes sum = ap sealed same ∙ sealed_held b bytes sum
  where
    same : drafted (edition_of b) (issue_of b) b ≡ b
    same = rw (set-get_or b 1 0) (word_held b 408 bytes)
