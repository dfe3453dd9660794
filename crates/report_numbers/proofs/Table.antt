-- The calls of a report over a table of its exact length, as specs/Turns has them over an area: the proofs are about these.
use Rattle.octets.specs.Standard.{ℕ, ◌+◌, List, [], ◌∷◌}
use Rattle.counting.specs.Event.{Event}
use Rattle.calling.specs.Lent.{Lent, lent, asking}
use Rattle.reporting.specs.Row.{records_altered, next, row, left}
use Rattle.reporting.specs.Report.{requests_of, reported_table}
use Rattle.report_numbers.specs.Turns.{InTurn}

abbrev pub table_events : Lent → List Event
table_events x = row x (requests_of x)

abbrev pub table_call : (x : Lent) {ps : List (List ℕ)} → InTurn ps → Lent
table_call x p = asking (left x p.before) p.request

unfoldable pub table_altered : Lent → List (List ℕ) → ℕ
table_altered x [] = 0
table_altered x (p ∷ ps) = records_altered (asking x p) + table_altered (next x p) ps

abbrev pub table_going : Lent → List ℕ → List ℕ → Lent
table_going x area more = lent more (reported_table x area).table x.profile (reported_table x area).vectors (reported_table x area).buffer x.terms
