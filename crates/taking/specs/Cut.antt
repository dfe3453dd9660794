-- "a cut at any moment must leave an area that reads as the old table (nothing written), as the new one (all its blocks written), or is refused"
use Rattle.std.specs.Prelude.{ℕ, ◌+◌, ◌<◌, ◌≤◌, List, ◌⊎◌, ◌≡◌, Err}
use Rattle.table.specs.Area.{table_in, check_area}
use Rattle.taking.specs.Written.{cut_after}

-- after k blocks of a new table of so many records: the area is as it was, it reads as the new table, or it is refused with block k
abbrev pub Cut : List ℕ → List ℕ → ℕ → ℕ → ℕ → Type 0
Cut area fresh file count k =
    ((k ≡ 0) × (cut_after area fresh k ≡ area)) ⊎ (((k ≡ count + 1) × (table_in (cut_after area fresh k) ≡ fresh))
    ⊎ ((0 < k) × (k ≤ count) × (check_area (cut_after area fresh k) file ≡ Err k)))
