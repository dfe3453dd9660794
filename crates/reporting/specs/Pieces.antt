-- "a file of many requests laid end to end": it is cut by the length in each header.
use Rattle.std.specs.Prelude.{ℕ, zero, suc, ◌+◌, List, [], ◌∷◌, Bool, cond, ◌||◌, length, take, drop, ltb}
use Rattle.octets.specs.Number.{be24_at}

-- "1 to 3 bytes left, or a header length under 20 or past the file, end the report", and so does the file's end
unfoldable pub broken : List ℕ → Bool
broken s = ltb (length s) 4 || (ltb (be24_at s 1) 20 || ltb (length s) (be24_at s 1))

-- at most so many pieces; each has bytes, so as many as the file has bytes are enough
unfoldable pub pieces_in : ℕ → List ℕ → List (List ℕ)
pieces_in zero s = []
pieces_in (suc n) s = cond (broken s) [] (take (be24_at s 1) s ∷ pieces_in n (drop (be24_at s 1) s))

abbrev pub pieces : List ℕ → List (List ℕ)
pieces s = pieces_in (length s) s

-- "the place": the byte where reading stops, which is behind the last piece
unfoldable pub total_of : List (List ℕ) → ℕ
total_of [] = 0
total_of (p ∷ ps) = length p + total_of ps

abbrev pub stop_of : List ℕ → ℕ
stop_of s = total_of (pieces s)
