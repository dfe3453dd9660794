-- "a file of many requests laid end to end", and where reading it ends.
use Rattle.std.specs.Prelude.{ℕ, ◌≤◌, ◌<◌, ◌≡◌, ◌⊎◌, List, [], ◌∷◌, ◌++◌, length}
use Rattle.octets.specs.Number.{be24_at}

-- the bytes of one request: the length in the header is their own, and they have a header
pub record OneRequest (p : List ℕ) : Type 0 where
  pub own : be24_at p 1 ≡ length p
  pub least : 20 ≤ length p

unfoldable pub end_to_end : List (List ℕ) → List ℕ
end_to_end [] = []
end_to_end (p ∷ ps) = p ++ end_to_end ps

-- "1 to 3 bytes left, or a header length under 20 or past the file": these bytes are left, and no request stands first in them
pub record BrokenOff (s : List ℕ) : Type 0 where
  pub some : 1 ≤ length s
  pub by : (length s ≤ 3) ⊎ ((be24_at s 1 < 20) ⊎ (length s < be24_at s 1))
