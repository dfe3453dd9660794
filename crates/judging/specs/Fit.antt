-- What the reading of a list asks of the header block.
use Rattle.std.specs.Prelude.{ℕ, ◌≤◌, true, ◌≡◌, List, length}
use Rattle.record.specs.Fields.{count_of, networks_of}
use Rattle.importing.specs.Import.{fit_header}

pub record Fit (header : List ℕ) : Type 0 where
  pub fits : fit_header header ≡ true
  pub size : length header ≡ 512
  pub few : count_of header ≤ 4096
  pub networks : networks_of header ≤ 8
