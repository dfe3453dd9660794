-- "with markup characters escaped": the five of XML, each sent as a reference to it, and read back.
use Rattle.std.specs.Prelude.{ℕ, zero, suc, pred, Bool, true, false, cond, not, ◌&&◌, ◌||◌, List, [], ◌∷◌, ◌++◌, length, eqb}

-- a character, and what is sent for it
pub record Escape : Type 0 where
  pub byte : ℕ
  pub text : List ℕ

abbrev pub escape : ℕ → List ℕ → Escape
escape byte text = record { byte = byte; text = text }

-- `&` as `&amp;`, `<` as `&lt;`, `>` as `&gt;`, `"` as `&quot;`, `'` as `&apos;`
unfoldable pub escapes : List Escape
escapes =
    escape 0x26 (0x26 ∷ 0x61 ∷ 0x6D ∷ 0x70 ∷ 0x3B ∷ [])
    ∷ escape 0x3C (0x26 ∷ 0x6C ∷ 0x74 ∷ 0x3B ∷ [])
    ∷ escape 0x3E (0x26 ∷ 0x67 ∷ 0x74 ∷ 0x3B ∷ [])
    ∷ escape 0x22 (0x26 ∷ 0x71 ∷ 0x75 ∷ 0x6F ∷ 0x74 ∷ 0x3B ∷ [])
    ∷ escape 0x27 (0x26 ∷ 0x61 ∷ 0x70 ∷ 0x6F ∷ 0x73 ∷ 0x3B ∷ [])
    ∷ []

-- what is sent for a byte: every other byte as it is
unfoldable pub escape_by : List Escape → ℕ → List ℕ
escape_by [] x = x ∷ []
escape_by (e ∷ es) x = cond (eqb x e.byte) e.text (escape_by es x)

unfoldable pub escape_of : ℕ → List ℕ
escape_of x = escape_by escapes x

-- a name, escaped
unfoldable pub escaped : List ℕ → List ℕ
escaped [] = []
escaped (x ∷ n) = escape_of x ++ escaped n

-- a text begins with these bytes
unfoldable pub begins : List ℕ → List ℕ → Bool
begins [] t = true
begins (w ∷ ws) [] = false
begins (w ∷ ws) (x ∷ t) = eqb x w && begins ws t

-- the one that a text begins with is read back as its character, a text that begins with none as its first byte
abbrev pub plain : ℕ → Escape
plain x = escape x (x ∷ [])

unfoldable pub read_by : List Escape → ℕ → List ℕ → Escape
read_by [] x t = plain x
read_by (e ∷ es) x t = cond (begins e.text (x ∷ t)) e (read_by es x t)

-- a text read back after so many bytes that are still to be passed over
unfoldable pub unescaped_from : ℕ → List ℕ → List ℕ
unescaped_from k [] = []
unescaped_from (suc k) (x ∷ t) = unescaped_from k t
unescaped_from zero (x ∷ t) = (read_by escapes x t).byte ∷ unescaped_from (pred (length (read_by escapes x t).text)) t

unfoldable pub unescaped : List ℕ → List ℕ
unescaped t = unescaped_from zero t

-- a byte is one of the five; a text begins with what is sent for one of them
unfoldable pub is_markup : List Escape → ℕ → Bool
is_markup [] x = false
is_markup (e ∷ es) x = eqb x e.byte || is_markup es x

unfoldable pub begins_escape : List Escape → List ℕ → Bool
begins_escape [] t = false
begins_escape (e ∷ es) t = begins e.text t || begins_escape es t

-- a markup character stands bare where it begins no escape; a text in which none does
unfoldable pub bare_at : ℕ → List ℕ → Bool
bare_at x t = is_markup escapes x && not (begins_escape escapes (x ∷ t))

unfoldable pub none_bare : List ℕ → Bool
none_bare [] = true
none_bare (x ∷ t) = not (bare_at x t) && none_bare t
