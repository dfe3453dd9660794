-- 02 [8]: "The working area may be longer than the table: when a request or the check reads it, blocks past the count, and a last piece under 512 bytes, are
-- not looked at; elsewhere the length stays exact."
use Rattle.std.specs.Prelude.{ℕ, ◌+◌, ◌*◌, List, take, Result}
use Rattle.record.specs.Fields.{count_of}
use Rattle.blocks.specs.Blocks.{block_of}
use Rattle.table.specs.Check.{check_table}

-- how long the table of an area is by the count in its block 0
unfoldable pub size_in : List ℕ → ℕ
size_in area = 512 * (count_of (block_of area 0) + 1)

-- the table at the front of an area; an area that is shorter than its count says is taken whole, and its block 0 is bad for its length
unfoldable pub table_in : List ℕ → List ℕ
table_in area = take (size_in area) area

-- how an area is read
unfoldable pub check_area : List ℕ → ℕ → Result ℕ ℕ
check_area area file = check_table (table_in area) file
