-- How many lines end in a beginning of a list.
use Rattle.std.specs.Prelude.{ℕ, suc, cond, ◌&&◌, List, [], ◌∷◌, eqb, get_or}

-- the number of CR LF
unfoldable pub line_ends : List ℕ → ℕ
line_ends [] = 0
line_ends (x ∷ s) = cond (eqb x 13 && eqb (get_or s 0 0) 10) (suc (line_ends s)) (line_ends s)
