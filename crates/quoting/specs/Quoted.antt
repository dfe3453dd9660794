-- 02 [14]: "names quoted, the quote doubled, bytes outside 32 to 126 refused".
use Rattle.std.specs.Prelude.{ℕ, zero, suc, ◌+◌, Bool, true, false, ◌&&◌, not, cond, List, [], ◌∷◌, ◌++◌, eqb, leb, length, get_or, drop}
use Rattle.std.specs.Prelude.{Option as Maybe, Some, None}
use Rattle.std.proofs.Math.Option.{Option, none, some}
use Rattle.quoting.specs.declared.Name.{Name}

-- a byte that can be listed; a name that can be listed
abbrev pub is_listed : ℕ → Bool
is_listed x = leb 32 x && leb x 126

unfoldable pub listable : List ℕ → Bool
listable [] = true
listable (x ∷ s) = is_listed x && listable s

-- "the quote doubled": a byte of a name as it is listed, and a name without the quotes around it
abbrev pub listed_byte : ℕ → List ℕ
listed_byte x = cond (eqb x 34) (34 ∷ 34 ∷ []) (x ∷ [])

abbrev pub width : ℕ → ℕ
width x = cond (eqb x 34) 2 1

unfoldable pub doubled : List ℕ → List ℕ
doubled [] = []
doubled (x ∷ s) = listed_byte x ++ doubled s

-- "names quoted"
unfoldable pub quoted : List ℕ → List ℕ
quoted name = 34 ∷ (doubled name ++ (34 ∷ []))

abbrev pub quoted_size : List ℕ → ℕ
quoted_size name = length (doubled name) + 2

-- one byte of a name more, if what follows it is a name's
abbrev pub and_byte : ℕ → Option (List ℕ) → Option (List ℕ)
and_byte x none = none
and_byte x (some name) = some (x ∷ name)

-- the name that goes on here, up to its closing quote; `true` says that a quote stands just before, which closes the name if no other follows it
unfoldable pub name_from : Bool → List ℕ → Option (List ℕ)
name_from false [] = none
name_from true [] = some []
name_from false (x ∷ s) = cond (eqb x 34) (name_from true s) (cond (is_listed x) (and_byte x (name_from false s)) none)
name_from true (x ∷ s) = cond (eqb x 34) (and_byte 34 (name_from false s)) (some [])

-- bytes of a name before one that goes on
abbrev pub and_name : List ℕ → Option (List ℕ) → Option (List ℕ)
and_name done none = none
and_name done (some name) = some (done ++ name)

-- the byte at a place closes a name: a quote that no other follows
abbrev pub closes_at : List ℕ → ℕ → Bool
closes_at s i = eqb (get_or s i 0) 34 && not (eqb (get_or s (i + 1) 0) 34)

-- a name of at most so many bytes
abbrev pub at_most : ℕ → Option (List ℕ) → Option (List ℕ)
at_most most none = none
at_most most (some name) = cond (leb (length name) most) (some name) none

-- the name that stands in quotes at the front of a list
unfoldable pub name_in : ℕ → List ℕ → Option (List ℕ)
name_in most [] = none
name_in most (x ∷ s) = cond (eqb x 34) (at_most most (name_from false s)) none

-- how code has it: the bytes that it takes in the list, with its quotes, and its length
abbrev pub as_name : Option (List ℕ) → Maybe Name
as_name none = None
as_name (some name) = Some (record { size = quoted_size name; length = length name })

-- the n bytes of a name that are listed here, a doubled quote being one
unfoldable pub taken : ℕ → List ℕ → List ℕ
taken zero s = []
taken (suc n) s = get_or s 0 0 ∷ taken n (drop (width (get_or s 0 0)) s)
