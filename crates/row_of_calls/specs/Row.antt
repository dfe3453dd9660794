-- The row: requests laid end to end, as a report reads them, are served in turn, each over what the one before left. Our own, in no document.
use Rattle.std.specs.Prelude.{ℕ, suc, ◌-◌, List, [], ◌∷◌, ◌++◌, Bool, false, cond, not, ◌||◌, length, take, drop, eqb, ltb}
use Rattle.octets.specs.Name.{same}
use Rattle.counting.specs.Words.{long_bytes}
use Rattle.calling.specs.Call.{Call, Answered, Refused}
use Rattle.calling.specs.Lent.{Lent, lent, asking, table_only}
use Rattle.calling.specs.Serve.{serve}
use Rattle.reporting.specs.Pieces.{pieces}
use Rattle.reporting.specs.Report.{ended}
use Rattle.reporting.specs.Row.{records_altered}
use Rattle.row_of_calls.specs.Word.{call_word}

-- what comes of a row: its number; what it leaves of the table, the vectors, and the areas of answers and of words; how many requests have a word; whether
-- some request altered a record, and whether one marked a vector
pub record Rowed : Type 0 where
  pub number : ℕ
  pub table : List ℕ
  pub vectors : List ℕ
  pub answers : List ℕ
  pub words : List ℕ
  pub served : ℕ
  pub altered : Bool
  pub marked : Bool

-- the bytes that a call has in `answers`: those of its answer, and none if it is refused
abbrev pub answer_length : Call → ℕ
answer_length (Answered a) = a.length
answer_length (Refused number besides) = 0

-- a record is altered, as the report counts them; a vector is marked, so that the vector file has other bytes
abbrev pub alters : Lent → Bool
alters x = ltb 0 (records_altered (table_only x))

abbrev pub marks : Lent → Bool
marks x = not (same x.vectors (serve x).vectors)

-- no room for one more: in so many bytes that are left of `answers`, for any answer; of `words`, for 8; in so many words that may still be written
abbrev pub no_room : ℕ → ℕ → ℕ → Bool
no_room answers words most = ltb answers 36864 || (ltb words 8 || eqb most 0)

-- The row ends here, by such a number: what is lent stays as it is. What a row is lent is lent to each call, but its requests one by one; as the buffer, what
-- is left of `answers`.
abbrev pub ends : ℕ → Lent → List ℕ → Rowed
ends number x words =
    record {
      number = number;
      table = x.table;
      vectors = x.vectors;
      answers = x.buffer;
      words = words;
      served = 0;
      altered = false;
      marked = false;
    }

-- what a request leaves to the next one: `answers` from behind its own answer on
unfoldable pub next : Lent → List ℕ → Lent
next x p =
    lent x.request (serve (asking x p)).table x.profile (serve (asking x p)).vectors
    (drop (answer_length (serve (asking x p)).call) (serve (asking x p)).buffer)
    x.terms

-- a call, and behind it what comes of the others: its answer before theirs; before their words its own, of 8 bytes, the highest first
abbrev pub before : Lent → Rowed → Rowed
before x r =
    record {
      number = r.number;
      table = r.table;
      vectors = r.vectors;
      answers = take (answer_length (serve x).call) (serve x).buffer ++ r.answers;
      words = long_bytes (call_word (serve x).call) ++ r.words;
      served = suc r.served;
      altered = alters x || r.altered;
      marked = marks x || r.marked;
    }

-- the requests in turn: after the last the row ends by `end`, and by 15 before one that has no room
unfoldable pub row_from : ℕ → Lent → List ℕ → ℕ → List (List ℕ) → Rowed
row_from end x words most [] = ends end x words
row_from end x words most (p ∷ ps) =
    cond (no_room (length x.buffer) (length words) most) (ends 15 x words) (before (asking x p) (row_from end (next x p) (drop 8 words) (most - 1) ps))

-- The row of a file of requests lent as the request: 0 at the file's end, 7 where a report would stop; 4,294,967,295 words at most.
abbrev pub rowed : Lent → List ℕ → Rowed
rowed x words = row_from (ended x.request) x words 4294967295 (pieces x.request)
