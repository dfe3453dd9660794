-- Scans by the subscription, and where a record that was found ends.
use Rattle.std.specs.Prelude.{Option, Some, None, is_some}
use Rattle.octets.specs.Standard.{ℕ, ◌<◌, ◌≤◌, Bool, true, false, not, ◌≡◌, refl, ap, sym, ◌∙◌, List, arith, length, lt-ltb, eqb}
use Rattle.octets.specs.Name.{same}
use Rattle.record.specs.Fields.{private_of, server_size, set_of, bits_of, barred}
use Rattle.record.specs.Sets.{same_set}
use Rattle.blocks.specs.Blocks.{block_of}
use Rattle.table.specs.Named.{private_at}
use Rattle.table.specs.SoundTable.{SoundTable}
use Rattle.table.proofs.Sound.{sound_block}
use Rattle.lookup.specs.Find.{first_from, is_at, end_of, find_public, public_is, private_is, find_private, server_here, free_here, free_at}
use Rattle.lookup.specs.Find.{find_free, barred_alone}
use Rattle.lookup.proofs.First.{first_none, first_some, first_stands}

-- The test of a block, by what is read of it.
pub private_known : (t name : List ℕ) (count k : ℕ) {b : List ℕ} {x : Bool} → b ≡ block_of t k → x ≡ same (private_of b) name → x ≡ true → 1 ≤ k → k ≤ count
    → x ≡ is_at (find_private t count name)
unfolding find_private private_is private_at
private_known t name count k e f g a b = g ∙ first_some (private_is t name) count k a b (rw (← e, ← f) g)

module _ (b name : List ℕ) where
  pub serves_none : server_size b ≡ 0 → not (eqb (server_size b) 0) ≡ server_here b name
  unfolding server_here
  serves_none e = rw e

  pub serves_some : {n : List ℕ} {x : Bool} → (server_size b ≡ 0 → ⊥) → n ≡ private_of b → x ≡ same n name → x ≡ server_here b name
  unfolding server_here
  serves_some h e f = let l : 0 < server_size b = omega arith in rw (lt-ltb _ _ l, ← e) f

-- Of the set of block b, and not barred.
pub free_none : (t : List ℕ) (count : ℕ) (b : List ℕ) {n : ℕ} → n ≡ set_of b → n ≡ 0 → None ≡ find_free t count b
unfolding find_free free_at free_here same_set
free_none t count b e z = let s : set_of b ≡ 0 = cc in sym (first_none (free_at t b) count 1 (λ j h l. rw s))

some_at : (f : Option ℕ) → is_some f ≡ is_at f
some_at (Some k) = refl
some_at None = refl

not_not : (x : Bool) → not (not x) ≡ x
not_not true = refl
not_not false = refl

module _ (t : List ℕ) (count : ℕ) (b : List ℕ) {x : Bool} (e : x ≡ barred (bits_of b)) where
  pub alone_free : x ≡ false → x ≡ barred_alone t count b
  unfolding barred_alone
  alone_free f = let s : barred (bits_of b) ≡ false = cc in rw (s, f)

  pub alone_barred : {f : Option ℕ} {y : Bool} → x ≡ true → f ≡ find_free t count b → is_some f ≡ not y → y ≡ barred_alone t count b
  unfolding barred_alone
  alone_barred {f} h g i =
      let s : barred (bits_of b) ≡ true = cc in
      let n : not (is_at f) ≡ _ = ap not (sym (some_at f) ∙ i) ∙ not_not _ in
      rw (s, ← g, n)

-- A record that was found lies in the table.
module _ (t : List ℕ) (count : ℕ) (sound : SoundTable t count) where
  first_end : (p : ℕ → Bool) (f : Option ℕ) → first_from p count 1 ≡ f → end_of f ≤ length t
  first_end p (Some k) e = sound_block t count sound k (omega (arith, (first_stands p count 1 k e).to))
  first_end p None e = omega arith

  pub public_end : (name : List ℕ) {f : Option ℕ} → f ≡ find_public t count name → end_of f ≤ length t
  unfolding find_public
  public_end name {f} e = first_end (public_is t name) f (sym e)
