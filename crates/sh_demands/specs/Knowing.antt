-- The Sh server's own list of known kinds, by vendor (0: without V) and code, in the table's order.
use Rattle.std.specs.Prelude.{ℕ, List, [], ◌∷◌}

abbrev pub kinds_of_sh : List (ℕ × ℕ)
kinds_of_sh =
    (0, 263) ∷ (0, 260) ∷ (0, 277) ∷ (0, 264) ∷ (0, 296) ∷ (0, 283) ∷ (0, 1) ∷ (0, 293) ∷ (0, 284) ∷ (0, 282) ∷ (10415, 628) ∷ (10415, 700) ∷ (10415, 703) ∷ []
