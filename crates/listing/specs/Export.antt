-- What comes of an export, for any bytes: the bytes written or a refusal, and the area afterwards.
use Rattle.std.specs.Prelude.{ℕ, cond, List, eqb, ltb, length, Result, Ok, Err}
use Rattle.octets.specs.Run.{over}
use Rattle.record.specs.Fields.{edition_of}
use Rattle.blocks.specs.Blocks.{block_of}
use Rattle.table.specs.Check.{check_table}
use Rattle.listing.specs.ListOf.{list_of, first_unlisted}
use Rattle.listing.specs.declared.Refusal.{Refusal}

-- how many bytes were written, or a refusal
abbrev pub Listed : Type 0
Listed = Result ℕ Refusal

abbrev pub refused : ℕ → ℕ → Listed
refused number value = Err (record { number = number; value = value })

pub record AfterList : Type 0 where
  pub said : Listed
  pub area : List ℕ

abbrev pub came : Listed → List ℕ → AfterList
came r area = record { said = r; area = area }

-- a refusal leaves the area as it came
abbrev pub refusing : List ℕ → ℕ → ℕ → AfterList
refusing area number value = came (refused number value) area

-- bytes over the front of the area, and everything past them as it was; "15, output too short, after the others"
unfoldable pub writing : List ℕ → List ℕ → AfterList
writing area w = cond (ltb (length area) (length w)) (refusing area 15 0) (came (Ok (length w)) (over w area))

-- "13, a name that cannot be listed, with its block"
unfoldable pub export_past : List ℕ → List ℕ → Result ℕ ℕ → AfterList
export_past t area (Ok count) = writing area (list_of t)
export_past t area (Err k) = refusing area 13 k

-- "Export of .. one of edition 1 (block 0), is 5"
unfoldable pub export_sound : List ℕ → List ℕ → ℕ → AfterList
export_sound t area count = cond (eqb (edition_of (block_of t 0)) 2) (export_past t area (first_unlisted t count)) (refusing area 5 0)

-- "Export of an unsound table .. is 5"
unfoldable pub export_checked : List ℕ → List ℕ → Result ℕ ℕ → AfterList
export_checked t area (Ok count) = export_sound t area count
export_checked t area (Err k) = refusing area 5 k

-- a table beside a profile file of such a length
unfoldable pub exported : List ℕ → ℕ → List ℕ → AfterList
exported t file area = export_checked t area (check_table t file)
