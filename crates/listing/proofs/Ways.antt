-- What each way through an export leaves.
use Rattle.std.specs.Prelude.{Ok, Result, Err}
use Rattle.octets.specs.Standard.{ℕ, ◌<◌, ◌≤◌, ◌≡◌, sym, ◌∙◌, arith, List, ◌≢◌, length, get_or, get_or-take, eq-eqb, ne_eqb, lt-ltb, le-ltb}
use Rattle.octets.specs.Run.{Wrote}
use Rattle.record.specs.Fields.{edition_of}
use Rattle.blocks.specs.Blocks.{block_of}
use Rattle.table.specs.Check.{check_table}
use Rattle.table.specs.SoundTable.{SoundTable}
use Rattle.table.proofs.Sound.{sound_size}
use Rattle.listing.specs.ListOf.{list_of, first_unlisted}
use Rattle.listing.specs.Export.{came, writing, export_past, export_sound, export_checked, exported, Listed, refused}

-- bytes that the area holds or not
module _ (area w : List ℕ) {n : ℕ} (size : n ≡ length w) where
  pub writing_short : length area < n → came (refused 15 0) area ≡ writing area w
  unfolding writing
  writing_short h = rw (lt-ltb (length area) (length w) (omega arith))

  pub writing_holds : (ys : List ℕ) (r : ℕ) → n ≤ length area → Wrote w area ys r → came (Ok n) ys ≡ writing area w
  unfolding writing
  writing_holds ys r h p = rw (le-ltb (length area) (length w) (omega arith), p.bytes, size)

module _ (t area : List ℕ) where
  module _ (names : Result ℕ ℕ) where
    pub past_listed : (n : ℕ) {r : Listed} {y : List ℕ} → names ≡ Ok n → came r y ≡ writing area (list_of t) → came r y ≡ export_past t area names
    unfolding export_past
    past_listed n e f = rw e f

    pub past_unlisted : (k : ℕ) → names ≡ Err k → came (refused 13 k) area ≡ export_past t area names
    unfolding export_past
    past_unlisted k e = rw e

  edition_is : edition_of (block_of t 0) ≡ get_or t 1 0
  unfolding block_of
  edition_is = get_or-take 512 t 1 0 (omega arith)

  pub sound_second : (count : ℕ) {names : Result ℕ ℕ} {r : Listed} {y : List ℕ} → get_or t 1 0 ≡ 2 → names ≡ first_unlisted t count
      → came r y ≡ export_past t area names → came r y ≡ export_sound t area count
  unfolding export_sound
  sound_second count e f g = rw (edition_is, eq-eqb (get_or t 1 0) 2 e, ← f) g

  pub sound_first : (count : ℕ) → get_or t 1 0 ≢ 2 → came (refused 5 0) area ≡ export_sound t area count
  unfolding export_sound
  sound_first count e = rw (edition_is, ne_eqb (get_or t 1 0) 2 e)

  module _ (c : Result ℕ ℕ) where
    pub checked_good : (count : ℕ) {r : Listed} {y : List ℕ} → c ≡ Ok count → came r y ≡ export_sound t area count → came r y ≡ export_checked t area c
    unfolding export_checked
    checked_good count e f = rw e f

    pub checked_bad : (k : ℕ) → c ≡ Err k → came (refused 5 k) area ≡ export_checked t area c
    unfolding export_checked
    checked_bad k e = rw e

  pub export_whole : (file : ℕ) {c : Result ℕ ℕ} {r : Listed} {y : List ℕ} → c ≡ check_table t file → came r y ≡ export_checked t area c
      → came r y ≡ exported t file area
  unfolding exported
  export_whole file e f = rw (← e) f

pub checked_sound : (t : List ℕ) (file count : ℕ) {c : Result ℕ ℕ} → c ≡ check_table t file → c ≡ Ok count → SoundTable t count
checked_sound t file count e f = record { file = file; checked = sym e ∙ f }

pub table_long : (t : List ℕ) (count : ℕ) → SoundTable t count → 1 < length t
table_long t count s = omega (arith, sound_size t count s)
