-- What the statements on lists are about: what export can write under a header block and beside a profile file.
use Rattle.std.specs.Prelude.{Ok}
use Rattle.octets.specs.Standard.{ℕ, ◌≤◌, ◌≡◌, refl, sym, ◌∙◌, arith, le-ltb, List, length, take, take_at, drop}
use Rattle.octets.specs.Run.{over}
use Rattle.octets.proofs.Numbers.{Bytes}
use Rattle.blocks.specs.Blocks.{block_of}
use Rattle.listing.specs.ListOf.{list_of}
use Rattle.listing.specs.Export.{came, writing, exported}
use Rattle.importing.specs.Import.{imported}
use Rattle.importing.proofs.Given.{Exportable}
use Rattle.importing.proofs.Importing.{import_gives}
use Rattle.list_laws.specs.Ends.{line_ends}
use Rattle.list_laws.proofs.Outcomes.{ExportedSo, export_says, export_gives}

-- some table with this header block is exported, into some area, as this list
pub record AnExport (list header : List ℕ) (file : ℕ) : Type 0 where
  pub table : List ℕ
  pub bytes : Bytes table
  pub header_block : block_of table 0 ≡ header
  pub area : List ℕ
  pub size : ℕ
  pub after : List ℕ
  pub wrote : exported table file area ≡ came (Ok size) after
  pub list_is : take size after ≡ list

-- the first n bytes of a list are those of some export's
pub record Shared (list header : List ℕ) (file n : ℕ) : Type 0 where
  pub whole : List ℕ
  pub export : AnExport whole header file
  pub in_list : n ≤ length list
  pub in_export : n ≤ length whole
  pub alike : take n list ≡ take n whole

-- a shared beginning with so many line ends
pub record SharedEnds (list header : List ℕ) (file k : ℕ) : Type 0 where
  pub place : ℕ
  pub shared : Shared list header file place
  pub ends : line_ends (take place list) ≡ k

-- k lines stand before the one that no export could hold there: some shared beginning holds k line ends, and none holds more
pub record NamedLine (list header : List ℕ) (file k : ℕ) : Type 0 where
  pub some : SharedEnds list header file k
  pub most : (n : ℕ) → Shared list header file n → line_ends (take n list) ≤ k

-- The table of an export is exportable, and its list is this one; and the other way round.
module _ (list header : List ℕ) (file : ℕ) where
  module _ (x : AnExport list header file) where
    so : ExportedSo x.table file x.size x.after
    so = export_says x.table file x.area x.size x.after x.bytes x.wrote

    pub exportable_of : Exportable header file x.table
    exportable_of = rw x.header_block at so.exportable

    pub list_of_lem : list_of x.table ≡ list
    list_of_lem = sym so.list_is ∙ x.list_is

  pub export_of : (t : List ℕ) → Exportable header file t → list_of t ≡ list → AnExport list header file
  unfolding writing over
  export_of t x e =
      record {
        table = t;
        bytes = x.bytes;
        header_block = x.header_block;
        area = list_of t;
        size = length (list_of t);
        after = over (list_of t) (list_of t);
        wrote = export_gives header file t x (list_of t) ∙ rw (le-ltb (length (list_of t)) (length (list_of t)) (omega arith));
        list_is = take_at (list_of t) (drop (length (list_of t)) (list_of t)) (length (list_of t)) refl ∙ e;
      }

-- Import of what an export can write.
pub import_of : (list header : List ℕ) (file : ℕ) (area : List ℕ) (x : AnExport list header file)
    → imported list header file area ≡ writing area x.table
import_of list header file area x =
    rw (list_of_lem list header file x) at (import_gives header file x.table (exportable_of list header file x) area)
