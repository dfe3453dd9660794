-- The block of a record that was found is there, and so is block 0.
use Rattle.std.specs.Prelude.{Option, Some, None}
use Rattle.octets.specs.Standard.{ℕ, ◌+◌, ◌*◌, ◌≤◌, ◌≡◌, refl, List, arith, length}
use Rattle.lookup.specs.Find.{find_public, block_found}
use Rattle.table.specs.SoundTable.{SoundTable}
use Rattle.table.proofs.Sound.{sound_block}
use Rattle.lookup.proofs.Among.{public_among}

pub found_room : (t : List ℕ) (count : ℕ) (name : List ℕ) (f : Option ℕ) (k : ℕ) → SoundTable t count → f ≡ find_public t count name → k ≡ block_found f
    → 512 * k + 512 ≤ length t
found_room t count name f k sound e d = go f refl
  where
    go : (g : Option ℕ) → f ≡ g → 512 * k + 512 ≤ length t
    go (Some j) h = let q : k ≡ j = rw h at d in rw q (sound_block t count sound j ((public_among t count name e).to j h))
    go None h = let q : k ≡ 0 = rw h at d in rw q (sound_block t count sound 0 (omega arith))
