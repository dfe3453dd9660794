-- What an argument asks for, byte by byte: `--help`, `--version`, or neither.
use Rattle.std.specs.Prelude.{ℕ, cond, List, [], ◌∷◌, Option, Some, None}
use Rattle.octets.specs.Name.{same}
use Rattle.arguments.specs.declared.Asked.{Asked}
use Rattle.arguments.specs.declared.Asked.TheVariants.{Help, Version}

-- "--help" and "--version"
abbrev pub help_word : List ℕ
help_word = 45 ∷ 45 ∷ 104 ∷ 101 ∷ 108 ∷ 112 ∷ []

abbrev pub version_word : List ℕ
version_word = 45 ∷ 45 ∷ 118 ∷ 101 ∷ 114 ∷ 115 ∷ 105 ∷ 111 ∷ 110 ∷ []

abbrev pub asked_by : List ℕ → Option Asked
asked_by word = cond (same word help_word) (Some Help) (cond (same word version_word) (Some Version) None)
