-- The row whose line stands at the front of a list: read field by field, each in the one form in which it is written.
use Rattle.std.specs.Prelude.{ℕ, ◌+◌, Bool, ◌&&◌, cond, List, [], ◌∷◌, eqb, length, get_or, drop}
use Rattle.std.proofs.Math.Option.{Option, none, some}
use Rattle.decimals.specs.Decimal.{digit_count, number_in}
use Rattle.quoting.specs.Quoted.{quoted_size, name_in}
use Rattle.rows.specs.Row.{Row, line_of}

abbrev pub and_then : {A B : Type 0} → Option A → (A → Option B) → Option B
and_then none f = none
and_then (some a) f = f a

-- a name, and a number, behind a comma
unfoldable pub name_after : ℕ → List ℕ → Option (List ℕ)
name_after most s = cond (eqb (get_or s 0 0) 44) (name_in most (drop 1 s)) none

unfoldable pub number_after : ℕ → List ℕ → Option ℕ
number_after most s = cond (eqb (get_or s 0 0) 44) (number_in most (drop 1 s)) none

-- "CR LF"
abbrev pub ends_line : List ℕ → Bool
ends_line s = eqb (get_or s 0 0) 13 && eqb (get_or s 1 0) 10

-- numbers of at most so much each, and the line's end
unfoldable pub numbers_in : List ℕ → List ℕ → Option (List ℕ)
numbers_in [] s = cond (ends_line s) (some []) none
numbers_in (m ∷ ms) s = and_then (number_after m s) (λ (v : ℕ). and_then (numbers_in ms (drop (1 + digit_count v) s)) (λ (vs : List ℕ). some (v ∷ vs)))

-- what fits the field of each number: a byte, a bit, 32 bits, 16 bits
abbrev pub limits : List ℕ
limits =
    255 ∷ 1 ∷ 1 ∷ 1 ∷ 255 ∷ 255 ∷ 4294967295 ∷ 4294967295 ∷ 4294967295 ∷ 4294967295 ∷ 255 ∷ 4294967295 ∷ 4294967295 ∷ 4294967295 ∷ 4294967295 ∷ 4294967295
    ∷ 65535 ∷ 65535 ∷ []

-- where the private identity, the server name and the numbers begin
abbrev pub second_at : List ℕ → ℕ
second_at a = quoted_size a

abbrev pub third_at : List ℕ → List ℕ → ℕ
third_at a b = second_at a + (1 + quoted_size b)

abbrev pub numbers_at : List ℕ → List ℕ → List ℕ → ℕ
numbers_at a b c = third_at a b + (1 + quoted_size c)

-- a row; the names fit their fields
unfoldable pub row_in : List ℕ → Option Row
row_in s =
    and_then (name_in 128 s) (λ (a : List ℕ).
    and_then (name_after 128 (drop (second_at a) s)) (λ (b : List ℕ).
    and_then (name_after 96 (drop (third_at a b) s)) (λ (c : List ℕ).
    and_then (numbers_in limits (drop (numbers_at a b c) s)) (λ (ns : List ℕ).
    some (record { public = a; private = b; server = c; numbers = ns })))))

-- how long the line of a row is, none where there is no row
abbrev pub row_size : Option Row → ℕ
row_size none = 0
row_size (some r) = length (line_of r)
