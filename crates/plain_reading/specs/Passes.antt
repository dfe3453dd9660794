-- 02 [13]: "then tests each rule of document 01 in a pass of its own, and picks the fault that comes first".
use Rattle.std.specs.Prelude.{ℕ, zero, suc, List, [], ◌∷◌, Bool, cond, length, ltb}
use Rattle.reading.specs.declared.Dialect.{Dialect}
use Rattle.reading.specs.Rules.{Seen}
use Rattle.plain_reading.specs.declared.Broken.{Broken}
use Rattle.plain_reading.specs.declared.Letter.{Letter}
use Rattle.plain_reading.specs.declared.Letter.TheVariants.{A, B, C, D, F, G, H, Newer}
use Rattle.plain_reading.specs.Broken.{breaks}

-- the first of the n numbers from i on that a test holds of, the number behind them where there is none
unfoldable pub first_by : (ℕ → Bool) → ℕ → ℕ → ℕ
first_by p zero i = i
first_by p (suc n) i = cond (p i) i (first_by p n (suc i))

-- a rule's pass over the n AVPs from number i on, and over the list
abbrev pub pass_from : Dialect → Seen → ℕ → ℕ → Letter → Broken
pass_from d avps n i l = record { at = first_by (breaks d avps l) n i; letter = l }

abbrev pub pass_of : Dialect → Seen → Letter → Broken
pass_of d avps l = pass_from d avps (length avps) 0 l

-- of two the one whose AVP comes first; of one AVP's the first
unfoldable pub earlier : Broken → Broken → Broken
earlier x y = cond (ltb y.at x.at) y x

-- the fault that comes first: the letters in their order, [10]'s B5009 behind (h)
unfoldable pub letters : List Letter
letters = B ∷ C ∷ D ∷ F ∷ G ∷ H ∷ Newer ∷ []

unfoldable pub pick_from : Dialect → Seen → ℕ → ℕ → Broken → List Letter → Broken
pick_from d avps n i x [] = x
pick_from d avps n i x (l ∷ ls) = pick_from d avps n i (earlier x (pass_from d avps n i l)) ls

unfoldable pub picked : Dialect → Seen → Broken
picked d avps = pick_from d avps (length avps) 0 (pass_of d avps A) letters
