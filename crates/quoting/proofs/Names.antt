-- Names that can be listed, and how long they are in the list: the turns of the loops.
use Rattle.octets.specs.Standard.{ℕ, ◌+◌, ◌*◌, ◌<◌, ◌≤◌, Bool, true, false, ◌&&◌, cond, ◌≡◌, refl, sym, ◌∙◌, arith, add-one, eqb, eq-eqb, ne_eqb}
use Rattle.octets.specs.Standard.{List, [], ◌∷◌, ◌++◌, append_assoc, length, drop, get_or, length-append, drop-cons, drop_of_length-le}
use Rattle.quoting.specs.Quoted.{is_listed, listable, listed_byte, width, doubled, quoted, quoted_size}

module _ (s : List ℕ) (i : ℕ) where
  listable_next : i < length s → listable (drop i s) ≡ (is_listed (get_or s i 0) && listable (drop (i + 1) s))
  unfolding listable
  listable_next h = rw (add-one i, drop-cons s i 0 h)

  pub listable_more : {x : Bool} → listable s ≡ listable (drop i s) → i < length s → x ≡ is_listed (get_or s i 0) → x ≡ true
      → listable s ≡ listable (drop (i + 1) s)
  listable_more e h f t = let k : is_listed (get_or s i 0) ≡ true = cc in e ∙ listable_next h ∙ rw k

  pub listable_not : {x : Bool} → listable s ≡ listable (drop i s) → i < length s → x ≡ is_listed (get_or s i 0) → x ≡ false → false ≡ listable s
  listable_not e h f t = let k : is_listed (get_or s i 0) ≡ false = cc in sym (e ∙ listable_next h ∙ rw k)

  pub listable_all : listable s ≡ listable (drop i s) → length s ≤ i → true ≡ listable s
  unfolding listable
  listable_all e h = sym (e ∙ rw (drop_of_length-le s {i = i} h))

-- A byte as it is listed has its width.
pub byte_width : (x : ℕ) → length (listed_byte x) ≡ width x
byte_width x = go (eqb x 34)
  where
    go : (c : Bool) → length (cond c (34 ∷ 34 ∷ []) (x ∷ [])) ≡ cond c 2 1
    go true = refl
    go false = refl

pub width_some : (x : ℕ) → (1 ≤ width x) × (width x ≤ 2)
width_some x = go (eqb x 34)
  where
    go : (c : Bool) → (1 ≤ cond c 2 1) × (cond c 2 1 ≤ 2)
    go true = (omega arith, omega arith)
    go false = (omega arith, omega arith)

pub width_quote : (x : ℕ) → x ≡ 34 → 2 ≡ width x
width_quote x e = rw (eq-eqb x 34 e)

pub width_other : (x : ℕ) → (x ≡ 34 → ⊥) → 1 ≡ width x
width_other x e = rw (ne_eqb x 34 e)

pub doubled_next : (s : List ℕ) (i : ℕ) → i < length s → doubled (drop i s) ≡ listed_byte (get_or s i 0) ++ doubled (drop (i + 1) s)
unfolding doubled
doubled_next s i h = rw (add-one i, drop-cons s i 0 h)

-- The turns of the loop that adds up the widths.
module _ (s : List ℕ) where
  pub size_none : 0 + length (doubled (drop 0 s)) ≡ length (doubled s)
  size_none = omega arith

  module _ (i n : ℕ) (left : n + length (doubled (drop i s)) ≡ length (doubled s)) where
    pub size_more : (w : ℕ) → i < length s → w ≡ width (get_or s i 0) → n + w + length (doubled (drop (i + 1) s)) ≡ length (doubled s)
    size_more w h e =
        let k : length (doubled (drop i s)) ≡ w + length (doubled (drop (i + 1) s)) =
        (rw (doubled_next s i h, length-append (listed_byte (get_or s i 0)) (doubled (drop (i + 1) s)), byte_width (get_or s i 0), e)) in
        omega arith

    pub size_all : {r : ℕ} → length s ≤ i → r ≡ n + 2 → r ≡ quoted_size s
    unfolding doubled
    size_all h e =
        let k : n + 0 ≡ length (doubled s) = rw (drop_of_length-le s {i = i} h) at left in
        omega arith

pub quoted_length : (name : List ℕ) → length (quoted name) ≡ quoted_size name
unfolding quoted
quoted_length name = omega (arith, length-append (doubled name) (34 ∷ []))

pub doubled_append : (s t : List ℕ) → doubled (s ++ t) ≡ doubled s ++ doubled t
unfolding doubled
doubled_append [] t = refl
doubled_append (x ∷ s) t = rw (doubled_append s t, append_assoc (listed_byte x) (doubled s) (doubled t))

pub doubled_most : (s : List ℕ) → length (doubled s) ≤ 2 * length s
unfolding doubled
doubled_most [] = omega arith
doubled_most (x ∷ s) = omega (arith, length-append (listed_byte x) (doubled s), byte_width x, (width_some x).1, doubled_most s)
