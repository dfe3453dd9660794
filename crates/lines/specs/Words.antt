-- Words and the digits of a number between them, written over the front of a buffer.
use Rattle.std.specs.Prelude.{ℕ, List, ◌++◌}
use Rattle.lines.specs.Digits.{last_digits, IsDigitCount}
use Rattle.octets.specs.Run.{Wrote}

-- the digits of n, no more than it takes, were written over the front of a buffer
pub record Number (n : ℕ) (before after : List ℕ) (r : ℕ) : Type 0 where
  pub fewest : IsDigitCount 10 1 n r
  pub wrote : Wrote (last_digits 10 r n) before after r

-- words, the digits of n and words
pub record Words (first : List ℕ) (n : ℕ) (last before after : List ℕ) (r : ℕ) : Type 0 where
  pub places : ℕ
  pub fewest : IsDigitCount 10 1 n places
  pub wrote : Wrote (first ++ (last_digits 10 places n ++ last)) before after r
