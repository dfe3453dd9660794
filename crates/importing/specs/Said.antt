-- The table that a list says under a header block, line by line.
use Rattle.std.specs.Prelude.{ℕ, zero, suc, ◌+◌, ◌-◌, Bool, ◌&&◌, cond, List, eqb, leb, length, take, drop, Result, Ok, Err}
use Rattle.octets.specs.Name.{same}
use Rattle.record.specs.Fields.{count_of, issue_of}
use Rattle.record.specs.HeaderBlock.{header_of}
use Rattle.blocks.specs.Blocks.{table_of, first_bad}
use Rattle.table.specs.Check.{sound_at}
use Rattle.table.specs.Named.{public_at}
use Rattle.rows.specs.RowIn.{row_in, row_size}
use Rattle.rows.specs.Block.{block_said}
use Rattle.listing.specs.ListOf.{first_line}
use Rattle.importing.specs.Above.{above}

-- where the line of record n + 1 begins
unfoldable pub place_of : List ℕ → ℕ → ℕ
place_of list zero = length first_line
place_of list (suc n) = place_of list n + row_size (row_in (drop (place_of list n) list))

-- block k of the table that a list says: the header block as it is, and what each line says
unfoldable pub said_at : List ℕ → List ℕ → ℕ → List ℕ
said_at list header zero = header
said_at list header (suc n) = block_said (issue_of header) (suc n) (row_in (drop (place_of list n) list))

unfoldable pub table_said : List ℕ → List ℕ → List ℕ
table_said list header = table_of (said_at list header) (suc (count_of header))

-- enough names are left above that of record k for the records that follow it
unfoldable pub enough_at : List ℕ → ℕ → ℕ → Bool
enough_at t count k = leb (count - k) (above 128 (public_at t k))

-- an export could hold line k + 1 there: it says a sound record, and others can follow
unfoldable pub holds_at : List ℕ → List ℕ → ℕ → ℕ → Bool
holds_at list header file k = sound_at (table_said list header) (header_of header) file k && enough_at (table_said list header) (count_of header) k

-- a list begins with the first line
unfoldable pub is_titled : List ℕ → Bool
is_titled list = same (take (length first_line) list) first_line

-- nothing stands behind the last record's line
abbrev pub over_records : List ℕ → Result ℕ ℕ → Result ℕ ℕ
over_records list (Ok count) = cond (eqb (place_of list count) (length list)) (Ok count) (Err (count + 1))
over_records list (Err k) = Err k

-- the number of the first line that no export could hold there, less one; the count of records where there is none
unfoldable pub first_wrong : List ℕ → List ℕ → ℕ → Result ℕ ℕ
first_wrong list header file =
    cond (is_titled list) (over_records list (first_bad (holds_at list header file) (count_of header) (count_of header) 1)) (Err 0)
