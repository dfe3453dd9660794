-- Where a record that was found stands.
use Rattle.std.specs.Prelude.{Option, Some}
use Rattle.octets.specs.Standard.{ℕ, ◌+◌, ◌*◌, ◌≤◌, ◌≡◌, sym, ◌∙◌, List, arith, length}
use Rattle.table.specs.SoundTable.{SoundTable}
use Rattle.table.proofs.Sound.{sound_block}
use Rattle.lookup.specs.Find.{public_is, find_public}
use Rattle.lookup.proofs.First.{first_stands}
use Rattle.lookup.specs.Among.{Among}

-- A search from block 1 on finds a record, and no header.
pub public_among : (t : List ℕ) (count : ℕ) (name : List ℕ) {f : Option ℕ} → f ≡ find_public t count name → Among count f
unfolding find_public
public_among t count name e =
    record {
      from = λ k g. (first_stands (public_is t name) count 1 k (sym e ∙ g)).from;
      to = λ k g. omega (arith, (first_stands (public_is t name) count 1 k (sym e ∙ g)).to);
    }

module _ (count : ℕ) (f : Option ℕ) (k : ℕ) (l : Among count f) (e : f ≡ Some k) where
  pub among_from : 1 ≤ k
  among_from = l.from k e

  pub among_to : k ≤ count
  among_to = l.to k e

  pub among_room : (t : List ℕ) → SoundTable t count → 512 * k + 512 ≤ length t
  among_room t sound = sound_block t count sound k among_to
