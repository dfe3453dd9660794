-- A list is judged in two passes: each record in its place, then the sets of those that stand.
use Rattle.std.specs.Prelude.{ℕ, ◌+◌, ◌-◌, ◌*◌, ◌<◌, ◌≤◌, Bool, true, ◌&&◌, cond, ◌≡◌, List, eqb, leb, length, Result, Ok, Err}
use Rattle.octets.specs.All.{all_below}
use Rattle.octets.specs.Name.{order_of}
use Rattle.record.specs.Fields.{count_of, public_of, set_of}
use Rattle.record.specs.HeaderBlock.{header_of}
use Rattle.record.specs.RecordBlock.{sound_record}
use Rattle.record.specs.declared.header.Header.{Header}
use Rattle.table.specs.Check.{is_less, stands_at}
use Rattle.table.specs.Leading.{leading, setless, Setless}
use Rattle.importing.specs.Above.{above}
use Rattle.importing.specs.Said.{place_of, said_at, table_said, enough_at}
use Rattle.saying.specs.Noted.{Noted}
use Rattle.judging.specs.declared.standing.Stood.{Stood}

-- what the first pass asks of record k: everything but the agreement of its set
unfoldable pub fits_at : List ℕ → List ℕ → ℕ → ℕ → Bool
fits_at list header file k = stands_at (table_said list header) (header_of header) file k && enough_at (table_said list header) (count_of header) k

-- the same of two blocks, the second as record k
unfoldable pub follows : List ℕ → List ℕ → ℕ → Bool
follows a b k = cond (leb k 1) true (is_less (order_of (public_of a) (public_of b)))

unfoldable pub fits_behind : List ℕ → List ℕ → Header → ℕ → ℕ → Bool
fits_behind a b h file k = sound_record b k h file && (follows a b k && leb (h.count - k) (above 128 (public_of b)))

-- a block is that of record m, if there is one
pub record LineBefore (list header a : List ℕ) (m : ℕ) : Type 0 where
  pub size : length a ≡ 512
  pub said : 0 < m → a ≡ said_at list header m

-- what the turn of record m + 1 finds, whose line begins at a place: how long it is, whether its record fits, and its set's number
pub record Turned (list header : List ℕ) (file at m : ℕ) (b : List ℕ) (size : ℕ) (fits : Bool) (set : ℕ) : Type 0 where
  pub said : b ≡ said_at list header (m + 1)
  pub place : at + size ≡ place_of list (m + 1)
  pub within : at + size ≤ length list
  pub fitting : fits ≡ fits_at list header file (m + 1)
  pub set_read : set ≡ set_of b

-- where the pass stands behind m records
pub record Standing (list header : List ℕ) (file : ℕ) (places a : List ℕ) (m at sets : ℕ) : Type 0 where
  pub few : m ≤ count_of header
  pub left : leading (fits_at list header file) (count_of header) 1 ≡ m + leading (fits_at list header file) (count_of header - m) (m + 1)
  pub none : eqb sets 0 ≡ all_below (setless (table_said list header)) m
  pub place : at ≡ place_of list m
  pub within : at ≤ length list
  pub near : at ≤ 121 + 1024 * m
  pub noted : Noted list places m
  pub before : LineBefore list header a m

-- what it finds
pub record StoodSo (list header : List ℕ) (file : ℕ) (places : List ℕ) (s : Stood) : Type 0 where
  pub records : s.records ≡ leading (fits_at list header file) (count_of header) 1
  pub few : s.records ≤ count_of header
  pub none : Setless (table_said list header) s.records s.setless
  pub place : s.end ≡ place_of list s.records
  pub noted : Noted list places s.records

-- the answer where m of the records are good and the next one, if there is one, is not, and the last good one's line ends at a place
abbrev pub verdict_of : List ℕ → ℕ → ℕ → ℕ → Result ℕ ℕ
verdict_of list count m end = cond (leb (m + 1) count) (Err (m + 1)) (cond (eqb end (length list)) (Ok count) (Err (m + 1)))
