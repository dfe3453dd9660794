-- 02 [10] for the Sh server: a call by a peer of one or the other edition of the base standard; and 02 [8]: a call over another area.
use Rattle.std.specs.Prelude.{ℕ, List}
use Rattle.ndushavire_sh.specs.Lent.{Lent}

abbrev pub by_peer : Lent → ℕ → Lent
by_peer x peer = record { request = x.request; table = x.table; profile = x.profile; buffer = x.buffer; peer = peer }

abbrev pub over_area : Lent → List ℕ → Lent
over_area x area = record { request = x.request; table = area; profile = x.profile; buffer = x.buffer; peer = x.peer }
