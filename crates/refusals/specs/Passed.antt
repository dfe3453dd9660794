-- What the first four refusals leave.
use Rattle.std.specs.Prelude.{ℕ, ◌≤◌, ◌%◌, ◌≡◌, List, length}

-- a request within the limits and a buffer that has room for every answer
pub record Passed (req o : List ℕ) : Type 0 where
  pub least : 20 ≤ length req
  pub most : length req ≤ 16384
  pub fours : length req % 4 ≡ 0
  pub room : 36864 ≤ length o
