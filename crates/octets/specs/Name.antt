-- "A name is bytes, compared exactly." "Public identities rise strictly, bytewise, a prefix first."
use Rattle.std.specs.Prelude.{ℕ, ◌+◌, Bool, cond, ◌&&◌, List, [], ◌∷◌, length, ◌==◌, nat_lt, slice_index}
use Rattle.octets.specs.All.{all_below}
use Rattle.std.specs.declared.cmp.Ordering.{Ordering}
use Rattle.std.specs.declared.cmp.Ordering.TheVariants.{Less, Equal, Greater}

unfoldable pub order_of : List ℕ → List ℕ → Ordering
order_of [] [] = Equal
order_of [] (y ∷ t) = Less
order_of (x ∷ s) [] = Greater
order_of (x ∷ s) (y ∷ t) = cond (nat_lt x y) Less (cond (nat_lt y x) Greater (order_of s t))

-- two bytes, or two numbers of several, that differ; two names of which one begins the other, by their lengths
abbrev pub by_number : ℕ → ℕ → Ordering
by_number a b = cond (nat_lt a b) Less Greater

abbrev pub by_length : ℕ → ℕ → Ordering
by_length m n = cond (nat_lt m n) Less (cond (nat_lt n m) Greater Equal)

-- two names have the same byte i; the same bytes
unfoldable pub alike_at : List ℕ → List ℕ → ℕ → Bool
alike_at s t i = slice_index s i == slice_index t i

-- the same byte j after place i
unfoldable pub alike_from : List ℕ → List ℕ → ℕ → ℕ → Bool
alike_from s t i j = alike_at s t (i + j)

unfoldable pub same : List ℕ → List ℕ → Bool
same s t = length s == length t && all_below (alike_at s t) (length s)
