-- The line of each answer.
use Rattle.std.specs.Prelude.{Result, Ok, Err}
use Rattle.octets.specs.Standard.{ℕ, ◌≡◌, List, [], ◌∷◌}
use Rattle.lines.specs.Words.{Words}
use Rattle.tablecheck.specs.Line.{Line, VectorsLine}

pub line_sound : (c : Result ℕ ℕ) (count : ℕ) {b xs : List ℕ} {r : ℕ} → c ≡ Ok count
    → Words (115 ∷ 111 ∷ 117 ∷ 110 ∷ 100 ∷ 44 ∷ 32 ∷ []) count (32 ∷ 114 ∷ 101 ∷ 99 ∷ 111 ∷ 114 ∷ 100 ∷ 115 ∷ 10 ∷ []) b xs r → Line c b xs r
line_sound c count e w = rw e w

pub line_bad : (c : Result ℕ ℕ) (block : ℕ) {b xs : List ℕ} {r : ℕ} → c ≡ Err block
    → Words (98 ∷ 108 ∷ 111 ∷ 99 ∷ 107 ∷ 32 ∷ []) block (32 ∷ 105 ∷ 115 ∷ 32 ∷ 98 ∷ 97 ∷ 100 ∷ 10 ∷ []) b xs r → Line c b xs r
line_bad c block e w = rw e w

pub vectors_sound : (c : Result ℕ ℕ) (count : ℕ) {b xs : List ℕ} {r : ℕ} → c ≡ Ok count
    → Words (118 ∷ 101 ∷ 99 ∷ 116 ∷ 111 ∷ 114 ∷ 115 ∷ 32 ∷ 115 ∷ 111 ∷ 117 ∷ 110 ∷ 100 ∷ 44 ∷ 32 ∷ []) count
    (32 ∷ 98 ∷ 108 ∷ 111 ∷ 99 ∷ 107 ∷ 115 ∷ 10 ∷ []) b xs r → VectorsLine c b xs r
vectors_sound c count e w = rw e w

pub vectors_bad : (c : Result ℕ ℕ) (block : ℕ) {b xs : List ℕ} {r : ℕ} → c ≡ Err block
    → Words (118 ∷ 101 ∷ 99 ∷ 116 ∷ 111 ∷ 114 ∷ 32 ∷ 98 ∷ 108 ∷ 111 ∷ 99 ∷ 107 ∷ 32 ∷ []) block
    (32 ∷ 105 ∷ 115 ∷ 32 ∷ 98 ∷ 97 ∷ 100 ∷ 10 ∷ []) b xs r → VectorsLine c b xs r
vectors_bad c block e w = rw e w
