-- "word 127 is the check word"; "A rewritten record gets a new check word."
use Rattle.std.specs.Prelude.{ℕ, ◌-◌, ◌%◌, ◌^◌, List}
use Rattle.octets.specs.Number.{put_be32}
use Rattle.octets.specs.Sum.{sum_words}

-- what is to be added to a sum to make it zero, wrapping at 2^32
unfoldable pub negated : ℕ → ℕ
negated s = (2 ^ 32 - s) % 2 ^ 32

unfoldable pub sealed : List ℕ → List ℕ
sealed b = put_be32 b 508 (negated (sum_words b 127))
