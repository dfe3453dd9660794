-- A number in decimal, as a list has it: no sign, no leading zero.
use Rattle.std.specs.Prelude.{ℕ, zero, suc, ◌+◌, ◌-◌, ◌*◌, ◌/◌, ◌%◌, Bool, ◌&&◌, cond, List, [], ◌∷◌, ◌++◌, eqb, leb, ltb, get_or}
use Rattle.std.specs.Prelude.{Option as Maybe, Some, None}
use Rattle.std.proofs.Math.Option.{Option, none, some}
use Rattle.decimals.specs.declared.Number.{Number}

-- how many digits a number has besides its first, at most f of them
unfoldable pub digits_more : ℕ → ℕ → ℕ
digits_more zero n = 0
digits_more (suc f) n = cond (ltb n 10) 0 (suc (digits_more f (n / 10)))

-- how many it has: no number here has more than ten
unfoldable pub digit_count : ℕ → ℕ
digit_count n = suc (digits_more 9 n)

-- its last k digits, and all of them
unfoldable pub digits_of : ℕ → ℕ → List ℕ
digits_of zero n = []
digits_of (suc k) n = digits_of k (n / 10) ++ ((48 + n % 10) ∷ [])

unfoldable pub decimal : ℕ → List ℕ
decimal n = digits_of (digit_count n) n

abbrev pub is_digit : ℕ → Bool
is_digit x = leb 48 x && leb x 57

-- the place of the first of the n bytes from place i on that is no digit
unfoldable pub past_digits : List ℕ → ℕ → ℕ → ℕ
past_digits s zero i = i
past_digits s (suc n) i = cond (is_digit (get_or s i 0)) (past_digits s n (suc i)) i

-- the number that the first k bytes are
unfoldable pub value_of : List ℕ → ℕ → ℕ
value_of s zero = 0
value_of s (suc k) = value_of s k * 10 + (get_or s k 0 - 48)

-- k digits that make a number are what is written of it, and the number is at most so great
abbrev pub number_by : ℕ → ℕ → ℕ → Option ℕ
number_by most k v = cond (eqb (digit_count v) k && leb v most) (some v) none

-- the number that stands at the front of a list
unfoldable pub number_in : ℕ → List ℕ → Option ℕ
number_in most s = number_by most (past_digits s 10 0) (value_of s (past_digits s 10 0))

-- how code has it: the number and its digits
abbrev pub as_number : Option ℕ → Maybe Number
as_number none = None
as_number (some v) = Some (record { size = digit_count v; value = v })
