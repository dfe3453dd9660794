-- What every look-up, part and effect asks of a table.
use Rattle.std.specs.Prelude.{◌≡◌, ℕ, List, Ok}
use Rattle.table.specs.Check.{check_table}

-- a sound table of so many records: the check finds it sound, beside a profile file of some length
pub record SoundTable (t : List ℕ) (count : ℕ) : Type 0 where
  pub file : ℕ
  pub checked : check_table t file ≡ Ok count
