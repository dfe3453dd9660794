-- What a text says between two tags: so 702 is read back.
use Rattle.std.specs.Prelude.{ℕ, cond, List, [], ◌∷◌, length, drop}
use Rattle.std.proofs.Math.Option.{Option, none, some}
use Rattle.markup.specs.Escapes.{begins, unescaped}
use Rattle.user_data.specs.UserData.{name_start, name_end, state_start, state_end}

-- what stands behind the first place where a text has w, none where it nowhere has it
unfoldable pub behind : List ℕ → List ℕ → Option (List ℕ)
behind w [] = none
behind w (x ∷ t) = cond (begins w (x ∷ t)) (some (drop (length w) (x ∷ t))) (behind w t)

-- what stands before the first such place, all of it where there is none
unfoldable pub up_to : List ℕ → List ℕ → List ℕ
up_to w [] = []
up_to w (x ∷ t) = cond (begins w (x ∷ t)) [] (x ∷ up_to w t)

abbrev pub inside_if : List ℕ → Option (List ℕ) → Option (List ℕ)
inside_if end none = none
inside_if end (some t) = some (up_to end t)

-- what stands between the first start tag and the next end tag
abbrev pub inside : List ℕ → List ℕ → List ℕ → Option (List ℕ)
inside start end t = inside_if end (behind start t)

-- the server name that a text tells, its references read back; the state's digits
abbrev pub unescaped_if : Option (List ℕ) → Option (List ℕ)
unescaped_if none = none
unescaped_if (some t) = some (unescaped t)

unfoldable pub name_told : List ℕ → Option (List ℕ)
name_told t = unescaped_if (inside name_start name_end t)

unfoldable pub state_told : List ℕ → Option (List ℕ)
state_told t = inside state_start state_end t
