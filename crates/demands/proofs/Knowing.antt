-- The kinds that the Cx server knows are the same under every command; and every other is unknown, in any dialect.
use Rattle.octets.specs.Standard.{ℕ, suc, ◌+◌, add-zero, add-suc, suc-add, List, [], ◌∷◌, Bool, true, false, cond, true≢false, ◌≡◌, refl, sym, ap, ◌∙◌, eqb}
use Rattle.octets.specs.Standard.{get_or, or-true, arith}
use Rattle.diameter.specs.Avp.{avp_flags, avp_code, vendor_of}
use Rattle.reading.specs.Kinds.{known, unknown, is_kind, kind_from, kind_by, row_of, use_in, use_of, is_unknown, cx}
use Rattle.reading.specs.declared.Dialect.{Dialect}
use Rattle.reading.specs.declared.Kind.{Kind}
use Rattle.reading.specs.declared.Use.{Use}
use Rattle.reading.proofs.Columns.{use_any}
use Rattle.requests.proofs.Kept.{cx_use}
use Rattle.demands.specs.Knowing.{unless, kinds_by, is_one, is_among, kinds_of_cx, kinds_of}

kinds_same : (f g : Kind → Use) → ((k : Kind) → f k ≡ g k) → (ks : List Kind) → kinds_by f ks ≡ kinds_by g ks
unfolding kinds_by
kinds_same f g e [] = refl
kinds_same f g e (k ∷ ks) = rw (e k, kinds_same f g e ks)

-- a column of Cx
abbrev column : Bool → Bool → Bool → Kind → Use
column x y z k = cond x k.uses.uar (cond y k.uses.sar (cond z k.uses.lir k.uses.mar))

pub cx_kinds : (d : Dialect) → d.terms.application ≡ cx → kinds_of d ≡ kinds_of_cx
unfolding kinds_by known
cx_kinds d e =
    kinds_same (use_in d) (column (eqb d.command 300) (eqb d.command 301) (eqb d.command 302)) (λ k. cx_use d k e) known
    ∙ go (eqb d.command 300) (eqb d.command 301) (eqb d.command 302)
  where
    go : (x y z : Bool) → kinds_by (column x y z) known ≡ kinds_of_cx
    go true y z = refl
    go false true z = refl
    go false false true = refl
    go false false false = refl

-- "every other is unknown": an AVP that a dialect knows is of one of the kinds that it knows
module _ (d : Dialect) (a : List ℕ) where
  kept : (k : Kind) (ks : List Kind) → is_unknown (use_in d k) ≡ false → is_kind k (avp_flags a) (vendor_of a) (avp_code a) ≡ true
      → is_among (kinds_by (use_in d) (k ∷ ks)) a ≡ true
  unfolding kinds_by is_among
  kept k ks u e = rw (u, e)

  later : (k : Kind) (ks : List Kind) → is_among (kinds_by (use_in d) ks) a ≡ true → is_among (kinds_by (use_in d) (k ∷ ks)) a ≡ true
  unfolding kinds_by is_among
  later k ks e = go (is_unknown (use_in d k))
    where
      go : (x : Bool) → is_among (unless x (k.vendor, k.code) (kinds_by (use_in d) ks)) a ≡ true
      go true = e
      go false = rw e (or-true (is_one (k.vendor, k.code) a))

  among : (ks : List Kind) (n : ℕ) → ((i : ℕ) → row_of (n + i) ≡ get_or ks i unknown)
      → is_unknown (use_in d (row_of (kind_from ks n (avp_flags a) (vendor_of a) (avp_code a)))) ≡ false → is_among (kinds_by (use_in d) ks) a ≡ true
  unfolding kind_from row_of
  among [] n same e = absurd (true≢false (sym (use_any (λ (u : Use). is_unknown u ≡ true) d unknown (λ s. refl) refl refl refl refl) ∙ e))
  among (k ∷ ks) n same e =
      go (is_kind k (avp_flags a) (vendor_of a) (avp_code a)) refl e (among ks (suc n) (λ i. ap row_of (suc-add n i ∙ sym (add-suc n i)) ∙ same (suc i)))
    where
      go : (x : Bool) → is_kind k (avp_flags a) (vendor_of a) (avp_code a) ≡ x
          → is_unknown (use_in d (row_of (cond x n (kind_from ks (suc n) (avp_flags a) (vendor_of a) (avp_code a))))) ≡ false
          → (is_unknown (use_in d (row_of (kind_from ks (suc n) (avp_flags a) (vendor_of a) (avp_code a)))) ≡ false → is_among (kinds_by (use_in d) ks) a ≡ true)
          → is_among (kinds_by (use_in d) (k ∷ ks)) a ≡ true
      go true f g next = let r : row_of n ≡ k = ap row_of (sym (add-zero n)) ∙ same 0 in kept k ks (rw r at g) f
      go false f g next = later k ks (next g)

  pub known_among : is_unknown (use_of d a) ≡ false → is_among (kinds_of d) a ≡ true
  unfolding kind_by row_of
  known_among = among known 1 (λ i. let n : 1 + i ≡ suc i = omega arith in rw n)

  pub others_unknown : {ks : List (ℕ × ℕ)} → kinds_of d ≡ ks → is_among ks a ≡ false → is_unknown (use_of d a) ≡ true
  others_unknown {ks} e n = go (is_unknown (use_of d a)) refl
    where
      go : (x : Bool) → is_unknown (use_of d a) ≡ x → x ≡ true
      go true f = refl
      go false f = absurd (true≢false (sym (known_among f) ∙ ap (λ (l : List (ℕ × ℕ)). is_among l a) e ∙ n))
