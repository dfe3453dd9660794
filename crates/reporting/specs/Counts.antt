-- What each step of a report leaves.
use Rattle.std.specs.Prelude.{ℕ, ◌≡◌, List}
use Rattle.counting.specs.Counting.{counted, counted_all}
use Rattle.calling.specs.Lent.{Lent}
use Rattle.calling.specs.Serve.{serve_table}
use Rattle.reporting.specs.Pieces.{stop_of}
use Rattle.reporting.specs.Row.{event_of, row, left}
use Rattle.reporting.specs.Report.{Reported, requests_of}

-- one request: counted, and the call made
pub record Counts (x : Lent) (counts counts' table' vectors' buffer' : List ℕ) : Type 0 where
  pub counts_is : counts' ≡ counted counts (event_of x)
  pub table_is : table' ≡ (serve_table x).table
  pub vectors_is : vectors' ≡ (serve_table x).vectors
  pub buffer_is : buffer' ≡ (serve_table x).buffer

-- all of them, up to the byte where reading stops
pub record Runs (x : Lent) (counts counts' table' vectors' buffer' : List ℕ) (at : ℕ) : Type 0 where
  pub stop_is : at ≡ stop_of x.request
  pub counts_is : counts' ≡ counted_all counts (row x (requests_of x))
  pub table_is : table' ≡ (left x (requests_of x)).table
  pub vectors_is : vectors' ≡ (left x (requests_of x)).vectors
  pub buffer_is : buffer' ≡ (left x (requests_of x)).buffer

-- and the whole report, over a table or over an area
pub record Reports (o : Reported) (r : ℕ) (table' vectors' buffer' area' : List ℕ) : Type 0 where
  pub number_is : r ≡ o.number
  pub table_is : table' ≡ o.table
  pub vectors_is : vectors' ≡ o.vectors
  pub buffer_is : buffer' ≡ o.buffer
  pub area_is : area' ≡ o.area
