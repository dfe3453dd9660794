-- A line passed over by its LF alone.
use Rattle.std.specs.Prelude.{ℕ, suc, cond, List, [], ◌∷◌, eqb}

-- how many bytes there are up to the first LF, with it
unfoldable pub line_size : List ℕ → ℕ
line_size [] = 0
line_size (x ∷ s) = suc (cond (eqb x 10) 0 (line_size s))
