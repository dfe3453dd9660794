-- How many names stand above one, of those that a public identity can be: 1 to 128 bytes of 32 to 126. A line is followed by as many others as the header
-- block's count says, whose names rise: it can stand only where so many names are left.
use Rattle.std.specs.Prelude.{ℕ, zero, suc, ◌+◌, ◌-◌, ◌*◌, Bool, true, false, ◌&&◌, List, [], ◌∷◌, eqb}

-- how many strings of at most n such bytes there are, the empty one among them
unfoldable pub strings_of : ℕ → ℕ
strings_of zero = 1
strings_of (suc n) = 1 + 95 * strings_of n

-- how many of them stand above one: those that go on where it ends, and those with a greater byte at some place
unfoldable pub above : ℕ → List ℕ → ℕ
above n [] = strings_of n - 1
above zero (x ∷ s) = 0
above (suc n) (x ∷ s) = (126 - x) * strings_of n + above n s

-- the first n bytes are `~`, the greatest: above any other name there are more than a table has records
unfoldable pub tildes : ℕ → List ℕ → Bool
tildes zero s = true
tildes (suc n) [] = false
tildes (suc n) (x ∷ s) = eqb x 126 && tildes n s
