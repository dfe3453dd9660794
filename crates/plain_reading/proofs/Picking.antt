-- The fault that comes first, AVP by AVP: the first letter that the AVP breaks, or else what the rest comes to.
use Rattle.octets.specs.Standard.{ℕ, zero, suc, ◌≤◌, ◌<◌, ◌≡◌, refl, List, [], ◌∷◌, Option, none, some, Bool, true, false, cond, arith, ltb}
use Rattle.octets.specs.Standard.{lt-ltb, le-ltb}
use Rattle.reading.specs.declared.Dialect.{Dialect}
use Rattle.reading.specs.Rules.{Seen}
use Rattle.plain_reading.specs.declared.Broken.{Broken}
use Rattle.plain_reading.specs.declared.Letter.{Letter}
use Rattle.plain_reading.specs.declared.Letter.TheVariants.{A}
use Rattle.plain_reading.specs.Broken.{breaks}
use Rattle.plain_reading.specs.Passes.{first_by, pass_from, earlier, letters, pick_from}

-- a letter that was found at AVP i, or what was found behind it
abbrev pub found : Option Letter → ℕ → Broken → Broken
found none i x = x
found (some l) i x = record { at = i; letter = l }

abbrev pub or_else : Option Letter → Bool → Letter → Option Letter
or_else (some m) b l = some m
or_else none true l = some l
or_else none false l = none

pub first_from_lem : (p : ℕ → Bool) (n i : ℕ) → i ≤ first_by p n i
unfolding first_by
first_from_lem p zero i = omega arith
first_from_lem p (suc n) i = go (p i) (first_from_lem p n (suc i))
  where
    go : (b : Bool) {f : ℕ} → suc i ≤ f → i ≤ cond b i f
    go true h = omega arith
    go false h = omega arith

module _ (d : Dialect) (avps : Seen) where
  -- the first letter of a row of them that AVP i breaks, behind those that were asked
  abbrev pub first_of : ℕ → Option Letter → List Letter → Option Letter
  first_of i o [] = o
  first_of i o (l ∷ ls) = first_of i (or_else o (breaks d avps l i) l) ls

  abbrev pub first_letter : ℕ → Option Letter
  first_letter i = first_of i (or_else none (breaks d avps A i) A) letters

  abbrev pub picked_from : ℕ → ℕ → Broken
  picked_from n i = pick_from d avps n i (pass_from d avps n i A) letters

  first_turn : (n i : ℕ) (l : Letter) → pass_from d avps (suc n) i l ≡ found (or_else none (breaks d avps l i) l) i (pass_from d avps n (suc i) l)
  unfolding first_by
  first_turn n i l = go (breaks d avps l i)
    where
      go : (b : Bool) → record { at = cond b i (first_by (breaks d avps l) n (suc i)); letter = l }
          ≡ found (or_else none b l) i (record { at = first_by (breaks d avps l) n (suc i); letter = l })
      go true = refl
      go false = refl

  earlier_turn : (n i : ℕ) (o : Option Letter) (l : Letter) (x : Broken) → i < x.at
      → earlier (found o i x) (pass_from d avps (suc n) i l) ≡ found (or_else o (breaks d avps l i) l) i (earlier x (pass_from d avps n (suc i) l))
  unfolding first_by earlier
  earlier_turn n i o l x h = go o (breaks d avps l i) (first_by (breaks d avps l) n (suc i)) (first_from_lem (breaks d avps l) n (suc i))
    where
      go : (o : Option Letter) (b : Bool) (f : ℕ) → suc i ≤ f
          → cond (ltb (cond b i f) (found o i x).at) (record { at = cond b i f; letter = l }) (found o i x)
          ≡ found (or_else o b l) i (cond (ltb f x.at) (record { at = f; letter = l }) x)
      go none true f k = rw (lt-ltb i x.at h)
      go none false f k = refl
      go (some m) true f k = rw (le-ltb i i (omega arith))
      go (some m) false f k = rw (le-ltb f i (omega arith))

  earlier_low : (i : ℕ) (x y : Broken) → i ≤ x.at → i ≤ y.at → i ≤ (earlier x y).at
  unfolding earlier
  earlier_low i x y h k = go (ltb y.at x.at)
    where
      go : (b : Bool) → i ≤ (cond b y x).at
      go true = k
      go false = h

  pick_found : (n i : ℕ) (o : Option Letter) (ls : List Letter) (x : Broken) → i < x.at
      → pick_from d avps (suc n) i (found o i x) ls ≡ found (first_of i o ls) i (pick_from d avps n (suc i) x ls)
  unfolding pick_from
  pick_found n i o [] x h = refl
  pick_found n i o (l ∷ ls) x h =
      rw (earlier_turn n i o l x h)
      (pick_found n i (or_else o (breaks d avps l i) l) ls (earlier x (pass_from d avps n (suc i) l))
      (earlier_low (suc i) x (pass_from d avps n (suc i) l) h (first_from_lem (breaks d avps l) n (suc i))))

  -- the first of the AVPs that are left, and those behind it
  pub pick_turn : (n i : ℕ) → picked_from (suc n) i ≡ found (first_letter i) i (picked_from n (suc i))
  pick_turn n i =
      rw (first_turn n i A)
      (pick_found n i (or_else none (breaks d avps A i) A) letters (pass_from d avps n (suc i) A) (first_from_lem (breaks d avps A) n (suc i)))

  none_picked : (i : ℕ) (ls : List Letter) (x : Broken) → x.at ≡ i → (pick_from d avps 0 i x ls).at ≡ i
  unfolding pick_from first_by earlier
  none_picked i [] x e = e
  none_picked i (l ∷ ls) x e = none_picked i ls _ (go (ltb i x.at))
    where
      go : (b : Bool) → (cond b (record { at = i; letter = l }) x).at ≡ i
      go true = refl
      go false = e

  pub pick_end : (i : ℕ) → (picked_from 0 i).at ≡ i
  unfolding first_by
  pick_end i = none_picked i letters (pass_from d avps 0 i A) refl
