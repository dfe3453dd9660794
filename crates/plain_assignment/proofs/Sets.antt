-- The turns of the loops that write: over the set of a record, and over the User-Name's records. What each turn alters is not counted.
use Rattle.octets.specs.Standard.{ℕ, ◌+◌, ◌*◌, ◌<◌, ◌≤◌, Bool, cond, ◌||◌, or-false, ◌≡◌, refl, sym, ◌∙◌, ap, List, [], ◌∷◌, arith, length, eqb}
use Rattle.record.specs.Sets.{same_set}
use Rattle.record.proofs.OneSet.{set_alike}
use Rattle.blocks.specs.Blocks.{block_of}
use Rattle.blocks.specs.Changed.{changed_in}
use Rattle.table.specs.SoundTable.{SoundTable}
use Rattle.table.proofs.Sound.{sound_size}
use Rattle.rewrite.specs.Change.{after_of, reaches, differ}
use Rattle.rewrite.specs.Keeps.{Kept, Keeps}
use Rattle.rewrite.specs.Renew.{settled}
use Rattle.rewrite.specs.Fitting.{Fitting, change_of, ChangeFits}
use Rattle.rewrite.specs.declared.Change.{Change}
use Rattle.rewrite.specs.declared.Change.TheVariants.{Settled}
use Rattle.rewrite.proofs.Reaching.{reaches_later}
use Rattle.rewrite.proofs.Sound.{kept_set, kept_private, sound_private}
use Rattle.rewrite.proofs.Turns.{Going, going_start, going_kept, going_turn, going_end, change_keeps}
use Rattle.assignment.specs.Assignment.{owned_here, owned_up_to}
use Rattle.assignment.proofs.OwnTurns as own

-- where such a loop is, whatever it altered
pub record Gone (x : List ℕ) (count : ℕ) (p : ℕ → Bool) (change : List ℕ → List ℕ) (i : ℕ) (y : List ℕ) : Type 0 where
  pub altered : ℕ
  pub going : Going x count p change i y altered

module _ (x : List ℕ) (count k : ℕ) (c : Change) (name : List ℕ) (sound : SoundTable x count) (a : 1 ≤ k) (b : k ≤ count) (fits : ChangeFits c name) where
  keeps : Keeps (change_of c name)
  keeps = change_keeps c name fits

  size : length x ≡ 512 * (count + 1)
  size = sound_size x count sound

  pub set_start : Gone x count (reaches x (k ∷ [])) (change_of c name) 0 x
  set_start = record { altered = 0; going = going_start x count (reaches x (k ∷ [])) (change_of c name) keeps size (reaches_later x count sound k a) }

  module _ (i : ℕ) (y : List ℕ) (gone : Gone x count (reaches x (k ∷ [])) (change_of c name) i y) where
    kept : (j : ℕ) → j ≤ count → Kept (block_of x j) (block_of y j)
    kept = going_kept x count (reaches x (k ∷ [])) (change_of c name) keeps size i y gone.altered gone.going

    -- what is asked of block k and of the next one stays as they are written
    set_kept : (j : ℕ) → 1 ≤ j → j ≤ count → same_set (block_of y k) (block_of y j) ≡ same_set (block_of x k) (block_of x j)
    set_kept j l m =
        set_alike (block_of y k) (block_of y j) (block_of x k) (block_of x j)
        (kept_set (block_of x k) (block_of y k) (kept k b))
        (kept_private (block_of x k) (block_of y k) (kept k b) (sound_private x count sound k a b))
        (kept_set (block_of x j) (block_of y j) (kept j m))
        (kept_private (block_of x j) (block_of y j) (kept j m) (sound_private x count sound j l m))

    pub set_turn : {u : Bool} {z : List ℕ} → i < count → u ≡ (eqb (i + 1) k || same_set (block_of y k) (block_of y (i + 1)))
        → z ≡ cond u (changed_in y (i + 1) (change_of c name)) y → Gone x count (reaches x (k ∷ [])) (change_of c name) (i + 1) z
    unfolding reaches
    set_turn {u} {z} h is put =
        record {
          altered = gone.altered + differ y z;
          going =
              going_turn x count (reaches x (k ∷ [])) (change_of c name) keeps size i y gone.altered gone.going h u
              (or-false (eqb (i + 1) k || same_set (block_of x k) (block_of x (i + 1)))
              ∙ ap (λ (v : Bool). eqb (i + 1) k || v) (sym (set_kept (i + 1) (omega arith) (omega arith))) ∙ sym is)
              z put (differ y z) refl;
        }

    pub set_end : count ≤ i → i ≤ count → y ≡ after_of x count (reaches x (k ∷ [])) (change_of c name)
    set_end = going_end x count (reaches x (k ∷ [])) (change_of c name) keeps size i y gone.altered gone.going

module _ (x : List ℕ) (count : ℕ) (user : List ℕ) (state : ℕ) (name : List ℕ) (sound : SoundTable x count) (fits : Fitting state name) where
  pub own_start : Gone x count (reaches x (owned_up_to x user count)) (settled state name) 0 x
  own_start = record { altered = 0; going = own.owned_start x count user state name sound fits }

  module _ (i : ℕ) (y : List ℕ) (gone : Gone x count (reaches x (owned_up_to x user count)) (settled state name) i y) where
    pub own_turn : {b z : List ℕ} {u : Bool} {c : Change} → i < count → b ≡ block_of y (i + 1) → u ≡ owned_here b user → c ≡ Settled state
        → z ≡ cond u (changed_in y (i + 1) (change_of c name)) y → Gone x count (reaches x (owned_up_to x user count)) (settled state name) (i + 1) z
    own_turn {b} {z} {u} {c} h at is by put =
        record {
          altered = gone.altered + differ y z;
          going = own.owned_turn x count user state name sound fits i y gone.altered gone.going h at is by put refl;
        }

    pub own_end : count ≤ i → i ≤ count → y ≡ after_of x count (reaches x (owned_up_to x user count)) (settled state name)
    own_end = own.owned_end x count user state name sound fits i y gone.altered gone.going
