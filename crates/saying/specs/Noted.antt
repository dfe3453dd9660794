-- Which places of lines are kept, so that a line is read again without passing over all before it: that of every 32nd.
use Rattle.std.specs.Prelude.{ℕ, ◌+◌, ◌*◌, ◌/◌, ◌%◌, ◌<◌, cond, ◌≡◌, List, eqb, length, get_or, set}
use Rattle.importing.specs.Said.{place_of}

unfoldable pub noted : List ℕ → ℕ → ℕ → List ℕ
noted places n at = cond (eqb (n % 32) 0) (set places (n / 32) at) places

-- those of the first n records' lines are kept, and none of these lines is missing
pub record Noted (list places : List ℕ) (n : ℕ) : Type 0 where
  pub size : length places ≡ 128
  pub each : (i : ℕ) → 32 * i < n → get_or places i 0 ≡ place_of list (32 * i)
  pub there : (i : ℕ) → i < n → place_of list i < place_of list (i + 1)
