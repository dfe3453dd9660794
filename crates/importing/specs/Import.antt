-- What comes of an import, for any bytes: the bytes written or a refusal, and the area afterwards.
use Rattle.std.specs.Prelude.{ℕ, ◌+◌, Bool, ◌&&◌, cond, List, eqb, length, Result, Ok, Err}
use Rattle.record.specs.Fields.{edition_of}
use Rattle.record.specs.HeaderBlock.{sound_header}
use Rattle.listing.specs.Export.{AfterList, refusing, writing}
use Rattle.importing.specs.Said.{table_said, first_wrong}

-- one block, sound, of edition 2
unfoldable pub fit_header : List ℕ → Bool
fit_header header = eqb (length header) 512 && sound_header header && eqb (edition_of header) 2

-- "14, with the number of the first line, present or missing, that no export could hold there"
abbrev pub import_past : List ℕ → List ℕ → List ℕ → Result ℕ ℕ → AfterList
import_past list header area (Ok count) = writing area (table_said list header)
import_past list header area (Err k) = refusing area 14 (k + 1)

-- "Import of an exported list, with the same header block and profile file, gives back the table's bytes"; 5 for "import under an unsound or edition 1
-- header block"
unfoldable pub imported : List ℕ → List ℕ → ℕ → List ℕ → AfterList
imported list header file area = cond (fit_header header) (import_past list header area (first_wrong list header file)) (refusing area 5 0)
