-- What escaping a name leaves true: it is read back, nothing in it stands bare, and it is at most six times as long.
use Rattle.octets.specs.Standard.{ℕ, ◌*◌, ◌≤◌, Bool, true, false, ◌≡◌, refl, ap, List, [], ◌∷◌, ◌++◌, arith, eqb, length}
use Rattle.octets.specs.Standard.{length-append, eqb-true}
use Rattle.markup.specs.Escapes.{escapes, escape_by, escape_of, escaped, begins, read_by, unescaped_from, unescaped, is_markup, begins_escape, bare_at, none_bare}

-- What holds of the five and of every other byte holds of each byte.
pub record Other (x : ℕ) : Type 0 where
  pub ampersand : eqb x 0x26 ≡ false
  pub less : eqb x 0x3C ≡ false
  pub greater : eqb x 0x3E ≡ false
  pub quote : eqb x 0x22 ≡ false
  pub apostrophe : eqb x 0x27 ≡ false

module _ (P : ℕ → Type 0) (ampersand : P 0x26) (less : P 0x3C) (greater : P 0x3E) (quote : P 0x22) (apostrophe : P 0x27) (other : (x : ℕ) → Other x → P x) where
  pub each_byte : (x : ℕ) → P x
  each_byte x = go (eqb x 0x26) (eqb x 0x3C) (eqb x 0x3E) (eqb x 0x22) (eqb x 0x27) refl refl refl refl refl
    where
      go : (a b c d e : Bool) → eqb x 0x26 ≡ a → eqb x 0x3C ≡ b → eqb x 0x3E ≡ c → eqb x 0x22 ≡ d → eqb x 0x27 ≡ e → P x
      go true b c d e p q r s t = rw (eqb-true x 0x26 p) ampersand
      go false true c d e p q r s t = rw (eqb-true x 0x3C q) less
      go false false true d e p q r s t = rw (eqb-true x 0x3E r) greater
      go false false false true e p q r s t = rw (eqb-true x 0x22 s) quote
      go false false false false true p q r s t = rw (eqb-true x 0x27 t) apostrophe
      go false false false false false p q r s t = other x (record { ampersand = p; less = q; greater = r; quote = s; apostrophe = t })

-- Every other byte is sent as it is.
pub escape_other : (x : ℕ) → Other x → escape_of x ≡ x ∷ []
unfolding escape_of escape_by escapes
escape_other x o = rw (o.ampersand, o.less, o.greater, o.quote, o.apostrophe)

-- What is sent for a byte, before any text, is read back as the byte.
read_back : (x : ℕ) (t : List ℕ) → unescaped_from 0 (escape_of x ++ t) ≡ x ∷ unescaped_from 0 t
unfolding escape_of escape_by escapes unescaped_from read_by begins
read_back x t =
    each_byte (λ (y : ℕ). unescaped_from 0 (escape_of y ++ t) ≡ y ∷ unescaped_from 0 t) refl refl refl refl refl
    (λ y o. rw (escape_other y o, o.ampersand))
    x

pub unescaped_escaped : (n : List ℕ) → unescaped (escaped n) ≡ n
unfolding unescaped unescaped_from escaped
unescaped_escaped [] = refl
unescaped_escaped (x ∷ n) = rw (read_back x (escaped n)) (ap (λ (l : List ℕ). x ∷ l) (unescaped_escaped n))

-- Nothing in it stands bare, before a text in which nothing does.
bare_none : (x : ℕ) (t : List ℕ) → none_bare (escape_of x ++ t) ≡ none_bare t
unfolding escape_of escape_by escapes none_bare bare_at is_markup begins_escape begins
bare_none x t =
    each_byte (λ (y : ℕ). none_bare (escape_of y ++ t) ≡ none_bare t) refl refl refl refl refl
    (λ y o. rw (escape_other y o, o.ampersand, o.less, o.greater, o.quote, o.apostrophe))
    x

pub none_bare_lem : (n : List ℕ) → none_bare (escaped n) ≡ true
unfolding escaped none_bare
none_bare_lem [] = refl
none_bare_lem (x ∷ n) = rw (bare_none x (escaped n)) (none_bare_lem n)

-- At most six bytes are sent for one.
pub escape_most : (x : ℕ) → length (escape_of x) ≤ 6
unfolding escape_of escape_by escapes
escape_most x =
    each_byte (λ (y : ℕ). length (escape_of y) ≤ 6) (omega arith) (omega arith) (omega arith) (omega arith) (omega arith)
    (λ y o. rw (escape_other y o) (omega arith))
    x

pub escape_least : (x : ℕ) → 1 ≤ length (escape_of x)
unfolding escape_of escape_by escapes
escape_least x =
    each_byte (λ (y : ℕ). 1 ≤ length (escape_of y)) (omega arith) (omega arith) (omega arith) (omega arith) (omega arith)
    (λ y o. rw (escape_other y o) (omega arith))
    x

pub escaped_most : (n : List ℕ) → length (escaped n) ≤ 6 * length n
unfolding escaped
escaped_most [] = omega arith
escaped_most (x ∷ n) = simp length-append (omega (arith, escape_most x, escaped_most n))
