-- "the definitions run over the requests in turn, table and vectors carried along"
use Rattle.std.specs.Prelude.{ℕ, List, [], ◌∷◌}
use Rattle.rewrite.specs.Change.{altered_up_to}
use Rattle.diameter.specs.Message.{command_of}
use Rattle.counting.specs.Event.{Event}
use Rattle.std.specs.Prelude.{Ok, Err}
use Rattle.calling.specs.Call.{Call, Answered, Refused}
use Rattle.calling.specs.Lent.{Lent, lent, asking, table_only}
use Rattle.refusals.specs.Early.{check_value}
use Rattle.calling.specs.Serve.{check_of, result_of, serve_table, serve}

-- "records altered, once per request": those whose bytes are others in the table that the call leaves
abbrev pub records_altered : Lent → ℕ
records_altered x = altered_up_to x.table (serve_table x).table (check_value (check_of x))

-- a call as it is counted: an answer by its command and result, a refusal by its number
abbrev pub event_by : Lent → Call → Event
event_by x (Answered a) =
    Ok (record { command = command_of x.request; result = result_of x; length = a.length; altered = records_altered x })
event_by x (Refused number besides) = Err number

unfoldable pub event_of : Lent → Event
event_of x = event_by x (serve_table x).call

-- what a request leaves to the next one. What is lent to a report is lent to each call, but its requests one by one
unfoldable pub next : Lent → List ℕ → Lent
next x p = lent x.request (serve_table (asking x p)).table x.profile (serve_table (asking x p)).vectors (serve_table (asking x p)).buffer x.terms

unfoldable pub row : Lent → List (List ℕ) → List Event
row x [] = []
row x (p ∷ ps) = event_of (asking x p) ∷ row (next x p) ps

unfoldable pub left : Lent → List (List ℕ) → Lent
left x [] = x
left x (p ∷ ps) = left (next x p) ps

-- The same over an area: each call is `serve`'s, over the area as the one before left it, and is counted as that over the table in it.
unfoldable pub next_over : Lent → List ℕ → Lent
next_over x p = lent x.request (serve (asking x p)).table x.profile (serve (asking x p)).vectors (serve (asking x p)).buffer x.terms

unfoldable pub row_over : Lent → List (List ℕ) → List Event
row_over x [] = []
row_over x (p ∷ ps) = event_of (table_only (asking x p)) ∷ row_over (next_over x p) ps

unfoldable pub left_over : Lent → List (List ℕ) → Lent
left_over x [] = x
left_over x (p ∷ ps) = left_over (next_over x p) ps
