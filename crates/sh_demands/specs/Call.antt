-- Whether a call of the Sh server is refused.
use Rattle.std.specs.Prelude.{Bool, length}
use Rattle.table.specs.Area.{check_area}
use Rattle.refusals.specs.Trial.{any_holds}
use Rattle.ndushavire_sh.specs.Lent.{Lent}
use Rattle.ndushavire_sh.specs.Serve.{trials_of}

-- one of the refusals holds
abbrev pub turned_away : Lent → Bool
turned_away x = any_holds (trials_of x (check_area x.table (length x.profile)))
