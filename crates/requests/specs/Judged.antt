-- "Then AVPs by position; the first fault decides": what a row of AVPs comes to.
use Rattle.std.specs.Prelude.{ℕ, ◌+◌, List, length, set, replicate}
use Rattle.std.proofs.Math.Option.{none, some}
use Rattle.diameter.specs.Avp.{padded}
use Rattle.diameter.specs.Walk.{Walk, ended, faulty, avp}
use Rattle.reading.specs.declared.Dialect.{Dialect}
use Rattle.reading.specs.declared.Ruled.{Ruled}
use Rattle.reading.specs.declared.Ruled.TheVariants.{Taken, Skipped, Fault}
use Rattle.reading.specs.declared.Verdict.{Verdict}
use Rattle.reading.specs.Verdicts.{fault_at}
use Rattle.reading.specs.Kinds.{kinds, kind_of}
use Rattle.reading.specs.Rules.{Seen, rule}

-- the first fault, or what the command names
pub data Judged : Type 0 where
  bad : Verdict → Judged
  fine : Seen → Judged

unfoldable pub nothing : Seen
nothing = replicate kinds none

abbrev pub on_rule : Ruled → Seen → List ℕ → ℕ → (Seen → Judged) → Judged
on_rule Taken seen a at next = next (set seen (kind_of a) (some a))
on_rule Skipped seen a at next = next seen
on_rule (Fault n) seen a at next = bad (fault_at n at)

-- the walk from a place on: the next AVP begins behind this one's padding
unfoldable pub judge : Dialect → ℕ → Walk → Seen → Judged
judge d at ended seen = fine seen
judge d at (faulty t) seen = bad (fault_at 5014 at)
judge d at (avp a w) seen = on_rule (rule d seen a) seen a at (judge d (at + padded (length a)) w)
