-- Halving in public identities that rise: what is left out holds no such name, so it finds what a scan finds.
use Rattle.std.specs.Prelude.{Option, Some, None}
use Rattle.octets.specs.Standard.{ℕ, zero, suc, ◌+◌, ◌-◌, ◌<◌, ◌≤◌, Bool, true, false, ◌≡◌, refl, sym, ◌∙◌, ap, ◌↔◌, List, arith, ltb, ltb-true}
use Rattle.octets.specs.Standard.{ltb-false}
use Rattle.octets.specs.Name.{order_of, same}
use Rattle.std.specs.declared.cmp.Ordering.{Ordering}
use Rattle.std.specs.declared.cmp.Ordering.TheVariants.{Less, Equal, Greater}
use Rattle.octets.proofs.Names.{same_eq, same_yes, same_no, order_eq, order_flip, order_trans, less_differs}
use Rattle.record.specs.Fields.{public_of}
use Rattle.blocks.specs.Blocks.{block_of}
use Rattle.table.specs.Named.{public_at}
use Rattle.table.specs.SoundTable.{SoundTable}
use Rattle.table.proofs.Sound.{sound_rises}
use Rattle.lookup.specs.Find.{first_from, public_is, find_public}
use Rattle.lookup.proofs.First.{first_skip, first_short, first_hit, first_at, first_none, first_fails, first_stands, first_same, FirstAt}

module _ (t : List ℕ) (count : ℕ) (sound : SoundTable t count) where
  -- Public identities rise from any block to any later one.
  rising_to : (j n : ℕ) → 1 ≤ j → j + suc n ≤ count → order_of (public_at t j) (public_at t (j + suc n)) ≡ Less
  rising_to j zero a b =
      let e : j + suc zero ≡ suc j = omega arith in
      rw e (sound_rises t count sound j a (omega arith))
  rising_to j (suc n) a b =
      let e : j + suc (suc n) ≡ suc (j + suc n) = omega arith in
      rw e
      (order_trans (public_at t j) (public_at t (j + suc n)) (public_at t (suc (j + suc n))) (rising_to j n a (omega arith))
      (sound_rises t count sound (j + suc n) (omega arith) (omega arith)))

  pub rising_later : (j k : ℕ) → 1 ≤ j → j < k → k ≤ count → order_of (public_at t j) (public_at t k) ≡ Less
  rising_later j k a b c = let e : k ≡ j + suc (k - j - 1) = omega arith in rw e (rising_to j (k - j - 1) a (omega arith))

  -- So one identity stands in one block.
  pub one_block : (j k : ℕ) → 1 ≤ j → 1 ≤ k → j ≤ count → k ≤ count → public_at t j ≡ public_at t k → j ≡ k
  one_block j k a b c d e = go (ltb j k) (ltb k j) refl refl
    where
      go : (x y : Bool) → ltb j k ≡ x → ltb k j ≡ y → j ≡ k
      go true y f g = absurd (less_differs _ _ (rising_later j k a (ltb-true _ _ f) d) e)
      go false true f g = absurd (less_differs _ _ (rising_later k j b (ltb-true _ _ g) c) (sym e))
      go false false f g = omega (arith, ltb-false j k f, ltb-false k j g)

  module _ (name : List ℕ) (k : ℕ) (from : 1 ≤ k) (to : k ≤ count) where
    below_no : order_of (public_at t k) name ≡ Less → (j : ℕ) → 1 ≤ j → j ≤ k → public_is t name j ≡ false
    unfolding public_is
    below_no e j a b = same_no _ _ (less_differs _ _ (go (ltb j k) refl))
      where
        go : (x : Bool) → ltb j k ≡ x → order_of (public_at t j) name ≡ Less
        go true f = order_trans (public_at t j) (public_at t k) name (rising_later j k a (ltb-true _ _ f) to) e
        go false f = let g : j ≡ k = omega (arith, ltb-false j k f) in rw g e

    above_no : order_of (public_at t k) name ≡ Greater → (j : ℕ) → k ≤ j → j ≤ count → public_is t name j ≡ false
    unfolding public_is
    above_no e j a b = same_no _ _ (λ q. less_differs _ _ (go (ltb k j) refl) (sym q))
      where
        go : (x : Bool) → ltb k j ≡ x → order_of name (public_at t j) ≡ Less
        go true f = order_trans name (public_at t k) (public_at t j) (order_flip _ _ e) (rising_later k j from (ltb-true _ _ f) b)
        go false f = let g : j ≡ k = omega (arith, ltb-false k j f) in rw g (order_flip _ _ e)

    before_no : order_of (public_at t k) name ≡ Equal → (j : ℕ) → 1 ≤ j → j < k → public_is t name j ≡ false
    unfolding public_is
    before_no e j a b =
        let q : public_at t k ≡ name = order_eq _ _ e in
        same_no _ _ (less_differs _ _ (rw q at (rising_later j k a b to)))

-- The turns of the halving: the scan of the part from low up to high gives the answer of the whole.
module _ (t : List ℕ) (count : ℕ) (name : List ℕ) (low high k : ℕ) {whole : Option ℕ} {b n : List ℕ} {o : Ordering} (sound : SoundTable t count)
    (left : whole ≡ first_from (public_is t name) (high - low) low) (at : b ≡ block_of t k) (is : n ≡ public_of b) (order : o ≡ order_of n name)
    (one : 1 ≤ low) (end : high ≤ count + 1) (above : low ≤ k) (below : k < high) where
  order_at : order_of (public_at t k) name ≡ o
  unfolding public_at
  order_at = rw (← at, ← is, ← order)

  pub halves_less : o ≡ Less → whole ≡ first_from (public_is t name) (high - (k + 1)) (k + 1)
  halves_less e =
      let m : high - low ≡ (k + 1 - low) + (high - (k + 1)) = omega arith in
      let q : low + (k + 1 - low) ≡ k + 1 = omega arith in
      left
      ∙ rw (
        m,
        first_skip (public_is t name) (k + 1 - low) (high - (k + 1)) low
            (λ j u v. below_no t count sound name k (omega arith) (omega arith) (order_at ∙ e) j (omega arith) (omega arith)),
        q,
      )

  pub halves_greater : o ≡ Greater → whole ≡ first_from (public_is t name) (k - low) low
  halves_greater e =
      let m : high - low ≡ (k - low) + (high - k) = omega arith in
      left
      ∙ rw (
        m,
        first_short (public_is t name) (k - low) (high - k) low
            (λ j u v. above_no t count sound name k (omega arith) (omega arith) (order_at ∙ e) j (omega arith) (omega arith)),
      )

  pub halves_equal : o ≡ Equal → Some k ≡ whole
  unfolding public_is
  halves_equal e =
      let m : high - low ≡ (k - low) + suc (high - k - 1) = omega arith in
      let q : low + (k - low) ≡ k = omega arith in
      sym
      (left
      ∙ rw m
      (first_hit (public_is t name) (k - low) (high - k - 1) low
      (λ j u v. before_no t count sound name k (omega arith) (omega arith) (order_at ∙ e) j (omega arith) (omega arith))
      (rw q (same_yes _ _ (order_eq _ _ (order_at ∙ e))))
      ∙ ap Some q))

pub halves_none : (t name : List ℕ) (low high : ℕ) {whole : Option ℕ} → whole ≡ first_from (public_is t name) (high - low) low → high ≤ low → None ≡ whole
unfolding first_from
halves_none t name low high left h = let m : high - low ≡ 0 = omega arith in rw (left, m)

-- What the search promises in plain words: its answer is a record exactly if that record alone has the name, and none exactly if no record has it.
pub record Only (t : List ℕ) (count : ℕ) (name : List ℕ) (k : ℕ) : Type 0 where
  pub from : 1 ≤ k
  pub to : k ≤ count
  pub named : public_at t k ≡ name
  pub alone : (j : ℕ) → 1 ≤ j → j ≤ count → public_at t j ≡ name → j ≡ k

module _ (t : List ℕ) (count : ℕ) (name : List ℕ) where
  pub found_only : SoundTable t count → (k : ℕ) → find_public t count name ≡ Some k → Only t count name k
  unfolding find_public public_is
  found_only sound k e =
      let s : FirstAt (public_is t name) count 1 k = first_stands (public_is t name) count 1 k e in
      let is : public_at t k ≡ name = same_eq (public_at t k) name s.holds in
      let to : k ≤ count = omega (arith, s.to) in
      record { from = s.from; to = to; named = is; alone = λ j a b q. one_block t count sound j k a s.from b to (q ∙ sym is) }

  pub only_found : (k : ℕ) → Only t count name k → find_public t count name ≡ Some k
  unfolding find_public public_is
  only_found k o =
      first_at (public_is t name) count k o.from o.to (same_yes _ _ o.named)
      (λ j a b. same_no _ _ (λ q. let i : j ≡ k = o.alone j a (omega (arith, o.to)) q in omega arith))

  pub found_no : find_public t count name ≡ None → (j : ℕ) → 1 ≤ j → j ≤ count → public_at t j ≡ name → ⊥
  unfolding find_public public_is
  found_no e j a b q =
      let f : public_is t name j ≡ false = first_fails (public_is t name) count 1 e j a (omega arith) in
      let g : public_is t name j ≡ true = same_yes _ _ q in
      let z : false ≡ true = sym f ∙ g in
      let n : ◌≡◌ {A = ℕ} 0 1 = cc in
      omega arith

  pub no_found : ((j : ℕ) → 1 ≤ j → j ≤ count → public_at t j ≡ name → ⊥) → find_public t count name ≡ None
  unfolding find_public public_is
  no_found h = first_none (public_is t name) count 1 (λ j a b. same_no _ _ (h j a (omega arith)))

-- Tables with the same public identities give one answer.
pub find_alike : (x t : List ℕ) (count : ℕ) (name : List ℕ) → ((k : ℕ) → 1 ≤ k → k ≤ count → public_at x k ≡ public_at t k)
    → find_public x count name ≡ find_public t count name
unfolding find_public public_is
find_alike x t count name h = first_same (public_is x name) (public_is t name) count 1 (λ j a b. ap (λ (l : List ℕ). same l name) (h j a (omega arith)))

-- The search by halving, whose contract is the scan, answers a record exactly if that record alone has the name, and none exactly if no record has it.
module _ (t : List ℕ) (count : ℕ) (name : List ℕ) where
  pub sound_found : SoundTable t count → (k : ℕ) → (find_public t count name ≡ Some k) ↔ Only t count name k
  sound_found s k = (λ e. found_only t count name s k e, λ o. only_found t count name k o)

  pub sound_missing : (find_public t count name ≡ None) ↔ ((j : ℕ) → 1 ≤ j → j ≤ count → public_at t j ≡ name → ⊥)
  sound_missing = (λ e. found_no t count name e, λ h. no_found t count name h)
