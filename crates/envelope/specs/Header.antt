-- The answer's header.
use Rattle.std.specs.Prelude.{ℕ, ◌+◌, ◌*◌, ◌/◌, ◌%◌, List, [], ◌∷◌, ◌++◌, cond, get_or, take, drop, eqb}
use Rattle.reading.specs.Verdicts.{number_of}
use Rattle.reading.specs.declared.Outcome.{Outcome}

-- "Header: version 1, flags P as received and E exactly for 3xxx, no others, length its own, the rest as received."
unfoldable pub flags_of : ℕ → Outcome → ℕ
flags_of flags result = flags / 64 % 2 * 64 + cond (eqb (number_of result / 1000) 3) 32 0

abbrev pub start_bytes : ℕ → ℕ → List ℕ
start_bytes n flags = 1 ∷ n / 65536 % 256 ∷ n / 256 % 256 ∷ n % 256 ∷ flags ∷ []

unfoldable pub header_bytes : List ℕ → Outcome → ℕ → List ℕ
header_bytes req result n = start_bytes n (flags_of (get_or req 4 0) result) ++ take 15 (drop 5 req)
