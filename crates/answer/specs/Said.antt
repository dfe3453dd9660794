-- "It writes the answer alone, or `refused`, a space, the number and a newline."
use Rattle.std.specs.Prelude.{ℕ, ◌≤◌, Bool, true, false, List, [], ◌∷◌, ◌≡◌, eqb}
use Rattle.lines.specs.Words.{Words}
use Rattle.calling.specs.Lent.{Lent}
use Rattle.calling.specs.Serve.{serve}
use Rattle.ndushavire.specs.Word.{call_word}
use Rattle.ndushavire.specs.Reads.{number_in, value_in}

-- the answer of a word that says one lies within a buffer of n bytes
pub record SaidFits (w n : ℕ) : Type 0 where
  pub within : number_in w ≡ 0 → value_in w ≤ n

-- the first r bytes of the buffer are the answer, as it was left there
pub record SaidStands (w : ℕ) (before after : List ℕ) (r : ℕ) : Type 0 where
  pub count : r ≡ value_in w
  pub bytes : after ≡ before

abbrev pub SaidIf : Bool → ℕ → List ℕ → List ℕ → ℕ → Type 0
SaidIf true w before after r = SaidStands w before after r
SaidIf false w before after r = Words (114 ∷ 101 ∷ 102 ∷ 117 ∷ 115 ∷ 101 ∷ 100 ∷ 32 ∷ []) (number_in w) (10 ∷ []) before after r

-- the first r bytes of the buffer afterwards are written: number 0 is an answer, any other a refusal
pub record Said (w : ℕ) (before after : List ℕ) (r : ℕ) : Type 0 where
  pub said : SaidIf (eqb (number_in w) 0) w before after r

-- what is said to a request: of the word and the buffer that the call leaves
abbrev pub SaidTo : Lent → List ℕ → ℕ → Type 0
SaidTo x after r = Said (call_word (serve x).call) (serve x).buffer after r
