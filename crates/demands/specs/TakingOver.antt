-- 02 [8]: what a request gets over an area while a new table is taken over it, and afterwards.
use Rattle.std.specs.Prelude.{ℕ, ◌≡◌}
use Rattle.table.specs.Area.{table_in}
use Rattle.calling.specs.Call.{Refused}
use Rattle.calling.specs.Lent.{Lent}
use Rattle.calling.specs.Serve.{Served, SameCall, serve}

-- refusal 5 with a block, and everything as it came
abbrev pub refusing : Lent → ℕ → Served
refusing x k = record { call = Refused 5 k; table = x.table; vectors = x.vectors; buffer = x.buffer }

-- the same is served over both: call, vectors and buffer, and the table at the front of the area afterwards
pub record SameServed (x y : Lent) : Type 0 where
  pub same : SameCall (serve x) (serve y)
  pub table : table_in (serve x).table ≡ table_in (serve y).table
