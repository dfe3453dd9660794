-- What the walk has seen is, for each kind that the command names, its last AVP in the list so far.
use Rattle.octets.specs.Standard.{ℕ, suc, ◌+◌, ◌<◌, ◌≡◌, refl, sym, ◌∙◌, List, [], ◌∷◌, Option, none, some, Bool, true, false, cond, ◌||◌, arith}
use Rattle.octets.specs.Standard.{length, get_or, set, replicate, length-replicate, get_or-replicate, ext_get_or, or-true, or-false, eqb, eqb-true, eqb-false}
use Rattle.octets.specs.Standard.{eq-eqb, ne_eqb}
use Rattle.diameter.specs.AvpAt.{present}
use Rattle.reading.specs.declared.Dialect.{Dialect}
use Rattle.reading.specs.declared.Kind.{Kind}
use Rattle.reading.specs.declared.Use.{Use}
use Rattle.reading.specs.declared.Use.TheVariants.{Unknown, Unnamed, Needed, Optional, Repeated, Several}
use Rattle.reading.specs.Kinds.{kinds, known, is_kind, kind_from, kind_by, kind_of, row_of, use_in, use_of}
use Rattle.reading.specs.Rules.{Seen}
use Rattle.requests.specs.Judged.{nothing}
use Rattle.plain_reading.specs.Broken.{is_named, is_sole, kind_at, came}
use Rattle.plain_reading.specs.Plain.{last_of, taken_of, each_below, taken}
use Rattle.plain_reading.proofs.Each.{each_length, each_at, each_alike, each_set}

-- a kind's number is one of the table's
kind_from_lem : (ks : List Kind) (n flags vendor code : ℕ) → 0 < n → kind_from ks n flags vendor code < n + length ks
unfolding kind_from
kind_from_lem [] n flags vendor code h = omega arith
kind_from_lem (k ∷ ks) n flags vendor code h = go (is_kind k flags vendor code) (kind_from_lem ks (suc n) flags vendor code (omega arith))
  where
    go : (b : Bool) {m : ℕ} → m < suc n + length ks → cond b n m < n + suc (length ks)
    go true l = omega arith
    go false l = omega arith

pub kind_low : (a : List ℕ) → kind_of a < kinds
unfolding kind_by known
kind_low a = kind_from_lem known 1 _ _ _ (omega arith)

pub sole_named : (u : Use) → is_sole u ≡ true → is_named u ≡ true
sole_named Unknown e = e
sole_named Unnamed e = e
sole_named Needed e = refl
sole_named Optional e = refl
sole_named Repeated e = refl
sole_named Several e = refl

-- whether a kind came is whether it has a last AVP
abbrev pub Came : Seen → ℕ → Type 0
Came avps i = (k : ℕ) → present (last_of avps k i) ≡ came avps k i

pub came_none : (avps : Seen) → Came avps 0
unfolding last_of came
came_none avps k = refl

module _ (d : Dialect) (avps : Seen) where
  none_taken : (k : ℕ) → taken_of d avps 0 k ≡ none
  unfolding taken_of last_of
  none_taken k = go (is_named (use_in d (row_of k)))
    where
      go : (b : Bool) → ◌≡◌ {A = Option (List ℕ)} (cond b none none) none
      go true = refl
      go false = refl

  pub taken_none : taken d avps 0 ≡ nothing
  unfolding taken nothing
  taken_none =
      ext_get_or none (each_below (taken_of d avps 0) kinds) (replicate kinds none)
      (each_length (taken_of d avps 0) kinds ∙ sym (length-replicate {A = Option (List ℕ)} kinds none))
      (λ i h. at i (omega (arith, h, each_length (taken_of d avps 0) kinds)))
    where
      at : (i : ℕ) → i < kinds → get_or (each_below (taken_of d avps 0) kinds) i none ≡ get_or (replicate kinds none) i none
      at i h = each_at (taken_of d avps 0) kinds i none h ∙ none_taken i ∙ sym (get_or-replicate {A = Option (List ℕ)} kinds i none none h)

  -- of a kind that comes once, the walk knows whether it came
  pub sole_came : (i : ℕ) (a : List ℕ) → Came avps i → is_sole (use_of d a) ≡ true
      → present (get_or (taken d avps i) (kind_of a) none) ≡ came avps (kind_of a) i
  unfolding taken taken_of
  sole_came i a c e =
      rw (each_at (taken_of d avps i) kinds (kind_of a) none (kind_low a), sole_named (use_of d a) e) (c (kind_of a))

  -- one AVP more
  module _ (i : ℕ) (a : List ℕ) (here : get_or avps i none ≡ some a) where
    last_more : (k : ℕ) → last_of avps k (suc i) ≡ cond (eqb (kind_of a) k) (some a) (last_of avps k i)
    unfolding last_of kind_at
    last_more k = rw here

    pub came_more : Came avps i → Came avps (suc i)
    unfolding came kind_at
    came_more c k = rw (last_more k, here, ← c k) (go (eqb (kind_of a) k))
      where
        go : (b : Bool) → present (cond b (some a) (last_of avps k i)) ≡ (present (last_of avps k i) || b)
        go true = sym (or-true (present (last_of avps k i)))
        go false = sym (or-false (present (last_of avps k i)))

    taken_other : (k : ℕ) → (k ≡ kind_of a → ⊥) → taken_of d avps (suc i) k ≡ taken_of d avps i k
    unfolding taken_of
    taken_other k h = rw (last_more k, ne_eqb (kind_of a) k (λ e. h (sym e)))

    pub taken_named : is_named (use_of d a) ≡ true → set (taken d avps i) (kind_of a) (some a) ≡ taken d avps (suc i)
    unfolding taken taken_of
    taken_named e =
        each_set (taken_of d avps i) (taken_of d avps (suc i)) kinds (kind_of a) (some a) (kind_low a) own taken_other
      where
        own : taken_of d avps (suc i) (kind_of a) ≡ some a
        own = rw (e, last_more (kind_of a), eq-eqb (kind_of a) (kind_of a) refl)

    pub taken_skipped : is_named (use_of d a) ≡ false → taken d avps i ≡ taken d avps (suc i)
    unfolding taken taken_of
    taken_skipped e = each_alike (taken_of d avps i) (taken_of d avps (suc i)) kinds (λ k l. at k (eqb k (kind_of a)) refl)
      where
        at : (k : ℕ) (b : Bool) → eqb k (kind_of a) ≡ b → taken_of d avps i k ≡ taken_of d avps (suc i) k
        at k true f = rw (eqb-true k (kind_of a) f, e)
        at k false f = sym (taken_other k (eqb-false k (kind_of a) f))
