-- "every issue found in kind 1 or 2 blocks of the area"
use Rattle.std.specs.Prelude.{ℕ, ◌/◌, Bool, ◌||◌, not, List, eqb, ltb, length, get_or}
use Rattle.octets.specs.All.{all_below}
use Rattle.record.specs.Fields.{issue_of}
use Rattle.blocks.specs.Blocks.{block_of}

-- a block in which an issue number is found: its kind alone decides, whatever its edition and its check word say
abbrev pub holds_issue : List ℕ → Bool
holds_issue b = eqb (get_or b 0 0) 1 || eqb (get_or b 0 0) 2

-- an issue number is greater than the one found in block k, if one is found there
unfoldable pub greater_at : List ℕ → ℕ → ℕ → Bool
greater_at area issue k = not (holds_issue (block_of area k)) || ltb (issue_of (block_of area k)) issue

-- greater than every one found: each whole block of the area is looked at, past any count too, and the last piece is not
unfoldable pub greater_than_all : List ℕ → ℕ → Bool
greater_than_all area issue = all_below (greater_at area issue) (length area / 512)
