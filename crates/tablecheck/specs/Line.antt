-- The line of a table: `sound, N records` or `block K is bad`; that of the bytes past it: `N bytes past the table were not looked at`; and that of a vector
-- file: `vectors sound, N blocks` or `vector block K is bad`; in ASCII, with a newline.
use Rattle.std.specs.Prelude.{ℕ, List, [], ◌∷◌, Result, Ok, Err}
use Rattle.lines.specs.Words.{Words}

-- "sound, " and " records"; "block " and " is bad"
abbrev pub Line : Result ℕ ℕ → List ℕ → List ℕ → ℕ → Type 0
Line (Ok count) before after r = Words (115 ∷ 111 ∷ 117 ∷ 110 ∷ 100 ∷ 44 ∷ 32 ∷ []) count
    (32 ∷ 114 ∷ 101 ∷ 99 ∷ 111 ∷ 114 ∷ 100 ∷ 115 ∷ 10 ∷ []) before after r
Line (Err block) before after r = Words (98 ∷ 108 ∷ 111 ∷ 99 ∷ 107 ∷ 32 ∷ []) block (32 ∷ 105 ∷ 115 ∷ 32 ∷ 98 ∷ 97 ∷ 100 ∷ 10 ∷ []) before after r

-- " bytes past the table were not looked at"
abbrev pub PastLine : ℕ → List ℕ → List ℕ → ℕ → Type 0
PastLine n before after r = Words [] n
    (32 ∷ 98 ∷ 121 ∷ 116 ∷ 101 ∷ 115 ∷ 32 ∷ 112 ∷ 97 ∷ 115 ∷ 116 ∷ 32 ∷ 116 ∷ 104 ∷ 101 ∷ 32 ∷ 116 ∷ 97 ∷ 98 ∷ 108 ∷ 101 ∷ 32 ∷ 119 ∷ 101 ∷ 114 ∷ 101
    ∷ 32 ∷ 110 ∷ 111 ∷ 116 ∷ 32 ∷ 108 ∷ 111 ∷ 111 ∷ 107 ∷ 101 ∷ 100 ∷ 32 ∷ 97 ∷ 116 ∷ 10 ∷ []) before after r

-- "vectors sound, " and " blocks"; "vector block " and " is bad"
abbrev pub VectorsLine : Result ℕ ℕ → List ℕ → List ℕ → ℕ → Type 0
VectorsLine (Ok count) before after r = Words
    (118 ∷ 101 ∷ 99 ∷ 116 ∷ 111 ∷ 114 ∷ 115 ∷ 32 ∷ 115 ∷ 111 ∷ 117 ∷ 110 ∷ 100 ∷ 44 ∷ 32 ∷ []) count
    (32 ∷ 98 ∷ 108 ∷ 111 ∷ 99 ∷ 107 ∷ 115 ∷ 10 ∷ []) before after r
VectorsLine (Err block) before after r = Words
    (118 ∷ 101 ∷ 99 ∷ 116 ∷ 111 ∷ 114 ∷ 32 ∷ 98 ∷ 108 ∷ 111 ∷ 99 ∷ 107 ∷ 32 ∷ []) block
    (32 ∷ 105 ∷ 115 ∷ 32 ∷ 98 ∷ 97 ∷ 100 ∷ 10 ∷ []) before after r
