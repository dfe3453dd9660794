-- The calls of a report, one by one: each is `serve`'s over the area of the table, as the one before left it, and is counted as that over the table in it.
use Rattle.std.specs.Prelude.{ℕ, ◌+◌, Bool, true, false, not, ◌||◌, ◌&&◌, ◌≡◌, List, [], ◌∷◌, ◌++◌, eqb, set}
use Rattle.counting.specs.Counted.{counts_of}
use Rattle.counting.specs.Layout.{stop_word}
use Rattle.counting.specs.Results.{command_row, column_of}
use Rattle.counting.specs.Event.{Event}
use Rattle.std.specs.Prelude.{Ok, Err}
use Rattle.calling.specs.Call.{Call, Answered, Refused}
use Rattle.calling.specs.Lent.{Lent, lent, asking, table_only}
use Rattle.demands.specs.Frame.{succeeds}
use Rattle.reporting.specs.Pieces.{stop_of}
use Rattle.reporting.specs.Row.{records_altered, next_over, row_over, left_over}
use Rattle.reporting.specs.Report.{requests_of, reported}

-- the requests of a file as they are counted; the words of their report, with the place where reading stopped
abbrev pub events_of : Lent → List Event
events_of x = row_over x (requests_of x)

abbrev pub words_over : Lent → List ℕ
words_over x = set (counts_of (events_of x)) stop_word (stop_of x.request)

-- one of a row of requests, in its place; what those before it left is lent to it
pub record InTurn (ps : List (List ℕ)) : Type 0 where
  pub before : List (List ℕ)
  pub request : List ℕ
  pub after : List (List ℕ)
  pub is : ps ≡ before ++ (request ∷ after)

abbrev pub call_at : (x : Lent) {ps : List (List ℕ)} → InTurn ps → Lent
call_at x p = asking (left_over x p.before) p.request

-- refused by a number; answered, in a row and a column of the report
abbrev pub refused_by : ℕ → Event → Bool
refused_by n (Ok e) = false
refused_by n (Err m) = eqb m n

abbrev pub answered_in : ℕ → ℕ → Event → Bool
answered_in r c (Ok e) = eqb (command_row e.command) r && eqb (column_of e.result) c
answered_in r c (Err m) = false

-- the length of an answer, 0 of a refusal
abbrev pub call_length : Call → ℕ
call_length (Answered a) = a.length
call_length (Refused number besides) = 0

-- "records altered, once per request": the sum over the calls of how many records have other bytes after each
unfoldable pub altered_over : Lent → List (List ℕ) → ℕ
altered_over x [] = 0
altered_over x (p ∷ ps) = records_altered (table_only (asking x p)) + altered_over (next_over x p) ps

-- refused, or answered by an error, or neither a SAR nor a MAR
abbrev pub idle : Event → Bool
idle (Ok e) = not (succeeds e.result) || not (eqb e.command 301 || eqb e.command 303)
idle (Err m) = true

unfoldable pub all_idle : List Event → Bool
all_idle [] = true
all_idle (e ∷ es) = idle e && all_idle es

-- what a report left, lent to a report over another file
abbrev pub going_on : Lent → List ℕ → List ℕ → Lent
going_on x area more = lent more (reported x area).table x.profile (reported x area).vectors (reported x area).buffer x.terms
