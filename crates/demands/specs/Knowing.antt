-- The kinds that a server knows, by vendor (0: without V) and code: those of the table whose use in a dialect is not unknown.
use Rattle.std.specs.Prelude.{ℕ, Bool, true, false, cond, ◌&&◌, ◌||◌, eqb, leb, ltb, List, [], ◌∷◌}
use Rattle.diameter.specs.Avp.{avp_flags, avp_code, vendor_of}
use Rattle.reading.specs.Kinds.{known, use_in, is_unknown}
use Rattle.reading.specs.declared.Dialect.{Dialect}
use Rattle.reading.specs.declared.Kind.{Kind}
use Rattle.reading.specs.declared.Use.{Use}

abbrev pub unless : Bool → ℕ × ℕ → List (ℕ × ℕ) → List (ℕ × ℕ)
unless true k ks = ks
unless false k ks = k ∷ ks

unfoldable pub kinds_by : (Kind → Use) → List Kind → List (ℕ × ℕ)
kinds_by f [] = []
kinds_by f (k ∷ ks) = unless (is_unknown (f k)) (k.vendor, k.code) (kinds_by f ks)

-- whether an AVP is of one of such kinds: "vendor 0 without V"; with V, "V with vendor 0 is an unknown kind"
abbrev pub is_one : ℕ × ℕ → List ℕ → Bool
is_one k a = eqb (avp_code a) k.1 && cond (leb 128 (avp_flags a)) (ltb 0 k.0 && eqb (vendor_of a) k.0) (eqb k.0 0)

unfoldable pub is_among : List (ℕ × ℕ) → List ℕ → Bool
is_among [] a = false
is_among (k ∷ ks) a = is_one k a || is_among ks a

-- those of the Cx server: document 01's, with 607 and 612 of 02 [1] and 628 of 02 [11], in the table's order
abbrev pub kinds_of_cx : List (ℕ × ℕ)
kinds_of_cx =
    (0, 263) ∷ (0, 260) ∷ (0, 277) ∷ (0, 264) ∷ (0, 296) ∷ (0, 283) ∷ (0, 1) ∷ (10415, 601) ∷ (10415, 600) ∷ (10415, 612) ∷ (10415, 607) ∷ (10415, 602)
    ∷ (10415, 614) ∷ (10415, 624) ∷ (10415, 623) ∷ (0, 293) ∷ (0, 284) ∷ (0, 282) ∷ (10415, 628) ∷ []

abbrev pub kinds_of : Dialect → List (ℕ × ℕ)
kinds_of d = kinds_by (use_in d) known
