-- The record blocks that a list says, one after the other.
use Rattle.std.specs.Prelude.{ℕ, zero, suc, List, [], ◌++◌}
use Rattle.importing.specs.Said.{said_at}

unfoldable pub records_said : List ℕ → List ℕ → ℕ → List ℕ
records_said list header zero = []
records_said list header (suc n) = records_said list header n ++ said_at list header (suc n)
