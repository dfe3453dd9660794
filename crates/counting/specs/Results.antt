-- "for each command (300 to 303, the rest as one) and each result, B and X apart": the rows and the columns of the report.
use Rattle.std.specs.Prelude.{ℕ, suc, ◌+◌, cond, List, [], ◌∷◌, ◌==◌}
use Rattle.reading.specs.declared.Outcome.{Outcome}
use Rattle.reading.specs.declared.Outcome.TheVariants.{Base, Experimental}

-- the results that can be said, B and X apart, each by its number
unfoldable pub base_results : List ℕ
base_results = 2001 ∷ 3001 ∷ 3007 ∷ 3008 ∷ 3009 ∷ 5001 ∷ 5003 ∷ 5004 ∷ 5005 ∷ 5009 ∷ 5011 ∷ 5012 ∷ 5014 ∷ []

unfoldable pub experimental_results : List ℕ
experimental_results = 2001 ∷ 2002 ∷ 2003 ∷ 2004 ∷ 5001 ∷ 5002 ∷ 5003 ∷ 5004 ∷ 5005 ∷ 5006 ∷ 5007 ∷ 5011 ∷ []

-- a number's first place in a list; the list's length where it is not there
unfoldable pub index_in : ℕ → List ℕ → ℕ
index_in n [] = 0
index_in n (x ∷ xs) = cond (n == x) 0 (suc (index_in n xs))

unfoldable pub command_row : ℕ → ℕ
command_row c = cond (c == 300) 0 (cond (c == 301) 1 (cond (c == 302) 2 (cond (c == 303) 3 4)))

-- the columns of B come first
unfoldable pub column_of : Outcome → ℕ
column_of (Base n) = index_in n base_results
column_of (Experimental n) = 13 + index_in n experimental_results
