-- How code writes a line: the names, then the numbers.
use Rattle.std.specs.Prelude.{ℕ, ◌+◌, List, ◌∷◌, ◌++◌}
use Rattle.decimals.specs.Decimal.{digit_count, decimal}
use Rattle.quoting.specs.Quoted.{quoted, quoted_size}

-- a number behind a comma
abbrev pub number_bytes : ℕ → List ℕ
number_bytes n = 44 ∷ decimal n

abbrev pub number_size : ℕ → ℕ
number_size n = 1 + digit_count n

-- three names with commas between them
unfoldable pub names_line : List ℕ → List ℕ → List ℕ → List ℕ
names_line a b c = quoted a ++ (44 ∷ (quoted b ++ (44 ∷ quoted c)))

abbrev pub names_size : List ℕ → List ℕ → List ℕ → ℕ
names_size a b c = quoted_size a + 1 + (quoted_size b + 1) + quoted_size c
