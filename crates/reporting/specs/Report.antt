-- The report: "The numbers are those of the definitions run over the requests in turn".
use Rattle.std.specs.Prelude.{ℕ, List, cond, length, set, eqb, ltb}
use Rattle.octets.specs.Run.{over}
use Rattle.counting.specs.Counted.{counts_of}
use Rattle.counting.specs.Layout.{stop_word}
use Rattle.counting.specs.Words.{words_bytes}
use Rattle.calling.specs.Lent.{Lent, table_only, put_back}
use Rattle.reporting.specs.Pieces.{pieces, stop_of}
use Rattle.reporting.specs.Row.{row, left}

-- what comes of a report: its number, and what it leaves of the table, the vectors, the answer buffer and `area`, which it is written to (a table's own is
-- called its working area)
pub record Reported : Type 0 where
  pub number : ℕ
  pub table : List ℕ
  pub vectors : List ℕ
  pub buffer : List ℕ
  pub area : List ℕ

-- the requests of a file lent as the request; the words of its report, with the place where reading stopped
abbrev pub requests_of : Lent → List (List ℕ)
requests_of x = pieces x.request

unfoldable pub words_of : Lent → List ℕ
words_of x = set (counts_of (row x (requests_of x))) stop_word (stop_of x.request)

-- "the report stops by number 7, after the numbers so far", where the file is not used up
unfoldable pub ended : List ℕ → ℕ
ended s = cond (eqb (stop_of s) (length s)) 0 7

unfoldable pub ran : Lent → List ℕ → Reported
ran x area =
    record {
      number = ended x.request;
      table = (left x (requests_of x)).table;
      vectors = (left x (requests_of x)).vectors;
      buffer = (left x (requests_of x)).buffer;
      area = over (words_bytes (words_of x)) area;
    }

-- over a table whose length must be exact. 15: the area of the report has no room for the 145 words; nothing is run
unfoldable pub reported_table : Lent → List ℕ → Reported
reported_table x area =
    cond (ltb (length area) 1160) (record { number = 15; table = x.table; vectors = x.vectors; buffer = x.buffer; area = area }) (ran x area)

-- The report: over the table at the front of its working area, which is put back; every byte behind it stays as it came.
abbrev pub report_back : List ℕ → Reported → Reported
report_back working r =
    record { number = r.number; table = put_back working r.table; vectors = r.vectors; buffer = r.buffer; area = r.area }

abbrev pub reported : Lent → List ℕ → Reported
reported x area = report_back x.table (reported_table (table_only x) area)
