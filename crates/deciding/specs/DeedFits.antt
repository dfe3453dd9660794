-- What a deed has to fit.
use Rattle.std.specs.Prelude.{ℕ, ◌≤◌, List, length}
use Rattle.rewrite.specs.Fitting.{Fitting}
use Rattle.choices.specs.declared.plan.Deed.{Deed}
use Rattle.choices.specs.declared.plan.Deed.TheVariants.{Leave, Settle, Challenge}
use Rattle.assignment.specs.Assignment.{stored_name}

-- what is written fits a record: a row with its name; the name that a challenge stores in one of the records
abbrev pub DeedFits : ℕ → List ℕ → Deed → Type 0
DeedFits count server Leave = Unit
DeedFits count server (Settle w) = Fitting w.state (stored_name w.named server)
DeedFits count server (Challenge k) = (1 ≤ k) × (k ≤ count) × (1 ≤ length server) × (length server ≤ 96)
