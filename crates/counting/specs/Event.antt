-- What a request comes to that was read: an answer, or a refusal by its number.
use Rattle.std.specs.Prelude.{ℕ, Result}
use Rattle.counting.specs.declared.Entry.{Entry}

abbrev pub Event : Type 0
Event = Result Entry ℕ
