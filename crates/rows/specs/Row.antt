-- 02 [14]: "all fields of each record in table order (columns fixed in docs/ first)": the row of a record, and its line. docs/LIST.md fixes both.
use Rattle.std.specs.Prelude.{ℕ, ◌/◌, ◌%◌, List, [], ◌∷◌, ◌++◌}
use Rattle.octets.specs.Number.{be32_at}
use Rattle.record.specs.Fields.{state_of, bits_of, roaming_of, mandatory_count, optional_count, public_of, private_of, server_of, profile_start, profile_size, set_of}
use Rattle.decimals.specs.Decimal.{decimal}
use Rattle.quoting.specs.Quoted.{quoted}

-- three names, and the numbers behind them
pub record Row : Type 0 where
  pub public : List ℕ
  pub private : List ℕ
  pub server : List ℕ
  pub numbers : List ℕ

-- state, pending, barred, services, roaming; mandatory, m1 to m4; optional, o1 to o4; start, length, set
unfoldable pub numbers_of : List ℕ → List ℕ
numbers_of b =
    state_of b ∷ bits_of b % 2 ∷ bits_of b / 2 % 2 ∷ bits_of b / 4 % 2 ∷ roaming_of b ∷ mandatory_count b ∷ be32_at b 368 ∷ be32_at b 372 ∷ be32_at b 376
    ∷ be32_at b 380 ∷ optional_count b ∷ be32_at b 384 ∷ be32_at b 388 ∷ be32_at b 392 ∷ be32_at b 396 ∷ profile_start b ∷ profile_size b ∷ set_of b ∷ []

-- the row of a record block
unfoldable pub row_of : List ℕ → Row
row_of b = record { public = public_of b; private = private_of b; server = server_of b; numbers = numbers_of b }

-- each number behind a comma, and the line's end behind the last
unfoldable pub numbers_line : List ℕ → List ℕ
numbers_line [] = 13 ∷ 10 ∷ []
numbers_line (n ∷ ns) = 44 ∷ (decimal n ++ numbers_line ns)

-- a row as a line: the names in their quotes
unfoldable pub line_of : Row → List ℕ
line_of r = quoted r.public ++ (44 ∷ (quoted r.private ++ (44 ∷ (quoted r.server ++ numbers_line r.numbers))))
