-- What each exported call promises of what it returns.
use Rattle.std.specs.Prelude.{ℕ, ◌≡◌, List, length}
use Rattle.table.specs.Area.{check_area}
use Rattle.vectors.specs.VectorFile.{check_vectors}
use Rattle.calling.specs.Lent.{Lent}
use Rattle.calling.specs.Serve.{serve}
use Rattle.moving.specs.Outcomes.{forward, back}
use Rattle.reporting.specs.Report.{reported}
use Rattle.row_of_calls.specs.Row.{rowed}
use Rattle.taking.specs.TakeOver.{take_over}
use Rattle.listing.specs.Export.{exported}
use Rattle.importing.specs.Import.{imported}
use Rattle.ndushavire.specs.Version.{version}
use Rattle.ndushavire.specs.Word.{word, check_word, call_word, move_word, take_word, list_word, row_word}

-- the check of the table at the front of its area: "the exact count or first bad block"; of the profile file its length alone counts
pub record CheckPromise (table profile : List ℕ) (r : ℕ) : Type 0 where
  pub answer : r ≡ check_word 5 (check_area table (length profile))

-- the check of a vector file: the number of blocks, or the first that is bad
pub record CheckVectorsPromise (vectors : List ℕ) (r : ℕ) : Type 0 where
  pub answer : r ≡ check_word 6 (check_vectors vectors)

-- the decision: the word, and the table, the vectors and the buffer at exit are those of `serve`, for every input, refusals too
pub record DecidePromise (x : Lent) (r : ℕ) (table' vectors' buffer' : List ℕ) : Type 0 where
  pub word_is : r ≡ call_word (serve x).call
  pub table_is : table' ≡ (serve x).table
  pub vectors_is : vectors' ≡ (serve x).vectors
  pub buffer_is : buffer' ≡ (serve x).buffer

-- the moves between editions: the word and the table at exit are those of `forward` and `back`
pub record ForwardPromise (table profile : List ℕ) (issue r : ℕ) (table' : List ℕ) : Type 0 where
  pub word_is : r ≡ move_word (forward table (length profile) issue).move
  pub table_is : table' ≡ (forward table (length profile) issue).table

pub record BackPromise (table profile : List ℕ) (r : ℕ) (table' : List ℕ) : Type 0 where
  pub word_is : r ≡ move_word (back table (length profile)).move
  pub table_is : table' ≡ (back table (length profile)).table

-- taking over a new table: the word and the area at exit are those of `take_over`
pub record TakePromise (area fresh profile : List ℕ) (r : ℕ) (area' : List ℕ) : Type 0 where
  pub word_is : r ≡ take_word (take_over area fresh (length profile)).taken
  pub area_is : area' ≡ (take_over area fresh (length profile)).area

-- the report over a file of requests, lent as the request: its number, and the table, the vectors, the buffer and the area at exit are those of `reported`
pub record ReportPromise (x : Lent) (area : List ℕ) (r : ℕ) (table' vectors' buffer' area' : List ℕ) : Type 0 where
  pub word_is : r ≡ word (reported x area).number 0 0
  pub table_is : table' ≡ (reported x area).table
  pub vectors_is : vectors' ≡ (reported x area).vectors
  pub buffer_is : buffer' ≡ (reported x area).buffer
  pub area_is : area' ≡ (reported x area).area

-- a table as a list, and the table of a list: the word and the area at exit are those of `exported` and `imported`
pub record ExportPromise (table profile list : List ℕ) (r : ℕ) (list' : List ℕ) : Type 0 where
  pub word_is : r ≡ list_word (exported table (length profile) list).said
  pub list_is : list' ≡ (exported table (length profile) list).area

pub record ImportPromise (list header profile table : List ℕ) (r : ℕ) (table' : List ℕ) : Type 0 where
  pub word_is : r ≡ list_word (imported list header (length profile) table).said
  pub table_is : table' ≡ (imported list header (length profile) table).area

-- the row, whose requests are lent as the request and its `answers` as the buffer: its word, and the table, the vectors, the answers and the words at exit are
-- those of `rowed`
pub record RowPromise (x : Lent) (words : List ℕ) (r : ℕ) (table' vectors' answers' words' : List ℕ) : Type 0 where
  pub word_is : r ≡ row_word (rowed x words)
  pub table_is : table' ≡ (rowed x words).table
  pub vectors_is : vectors' ≡ (rowed x words).vectors
  pub answers_is : answers' ≡ (rowed x words).answers
  pub words_is : words' ≡ (rowed x words).words

-- the version of the library that is called
pub record VersionPromise (r : ℕ) : Type 0 where
  pub number_is : r ≡ version
