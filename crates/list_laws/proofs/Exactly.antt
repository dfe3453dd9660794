-- "Import of an exported list, with the same header block and profile file, gives back the table's bytes. Import accepts exactly what export can write, and
-- leaves the output area untouched otherwise."
use Rattle.std.specs.Prelude.{Ok, Result, Err}
use Rattle.octets.specs.Standard.{ℕ, ◌+◌, ◌<◌, ◌≤◌, Bool, true, false, cond, ◌≡◌, ◌≢◌, refl, sym, ◌∙◌, ap, ltb, lt-ltb, le-ltb, List, ◌++◌}
use Rattle.octets.specs.Standard.{length, take, drop}
use Rattle.octets.specs.Run.{over}
use Rattle.octets.proofs.Numbers.{Bytes}
use Rattle.blocks.specs.Blocks.{block_of}
use Rattle.listing.specs.Export.{AfterList, came, refusing, writing, exported, refused}
use Rattle.importing.specs.Said.{table_said, first_wrong}
use Rattle.importing.specs.Import.{fit_header, import_past, imported}
use Rattle.importing.proofs.Importing.{import_gives, accepts_only}
use Rattle.list_laws.proofs.Exports.{AnExport, exportable_of, list_of_lem, export_of, import_of}
use Rattle.list_laws.proofs.Outcomes.{never, WroteSo, writing_says, ExportedSo, export_says, export_gives}

-- "gives back the table's bytes", or says that the area is too short for them
pub gives_back : (t : List ℕ) (file : ℕ) (area : List ℕ) (n : ℕ) (y : List ℕ) → Bytes t → exported t file area ≡ came (Ok n) y
    → (other : List ℕ) → imported (take n y) (block_of t 0) file other ≡ writing other t
gives_back t file area n y bytes e other =
    let x : ExportedSo t file n y = export_says t file area n y bytes e in
    rw x.list_is (import_gives (block_of t 0) file t x.exportable other)

-- "Import accepts exactly what export can write": it is refused neither by 5 nor by 14 only if the list is an export's; and of each export's list it gives the
-- table over the front of the area, the rest of which stays, or is refused by 15 where the area is too short for it.
pub record Exactly (list header : List ℕ) (file : ℕ) (area : List ℕ) : Type 0 where
  pub only : ((v : ℕ) → (imported list header file area).said ≢ refused 5 v) → ((v : ℕ) → (imported list header file area).said ≢ refused 14 v)
      → AnExport list header file
  pub given : (x : AnExport list header file) → length x.table ≤ length area
      → imported list header file area ≡ came (Ok (length x.table)) (x.table ++ drop (length x.table) area)
  pub short : (x : AnExport list header file) → length area < length x.table → imported list header file area ≡ refusing area 15 0

module _ (list header : List ℕ) (file : ℕ) (area : List ℕ) where
  only_exports : Bytes header → ((v : ℕ) → (imported list header file area).said ≢ refused 5 v)
      → ((v : ℕ) → (imported list header file area).said ≢ refused 14 v) → AnExport list header file
  unfolding imported
  only_exports bytes five fourteen = fits (fit_header header) refl
    where
      past : fit_header header ≡ true → (c : Result ℕ ℕ) → first_wrong list header file ≡ c → AnExport list header file
      past f (Err k) w = absurd (fourteen (k + 1) (rw (f, w)))
      past f (Ok c) w = let o = accepts_only list header file bytes f c w in export_of list header file o.table o.exportable o.list_is

      fits : (x : Bool) → fit_header header ≡ x → AnExport list header file
      fits false f = absurd (five 0 (rw f))
      fits true f = past f (first_wrong list header file) refl

  pub accepts_exactly : Bytes header → Exactly list header file area
  unfolding writing over
  accepts_exactly bytes =
      record {
        only = only_exports bytes;
        given = λ x h. import_of list header file area x ∙ rw (le-ltb (length area) (length x.table) h);
        short = λ x h. import_of list header file area x ∙ rw (lt-ltb (length area) (length x.table) h);
      }

-- Import then export gives the list.
pub gives_list : (list header : List ℕ) (file : ℕ) (area : List ℕ) (n : ℕ) (y : List ℕ) → Bytes header → imported list header file area ≡ came (Ok n) y
    → (other : List ℕ) → exported (take n y) file other ≡ writing other list
gives_list list header file area n y bytes e other =
    let x : AnExport list header file =
    only_exports list header file area bytes (λ v g. never 5 v n (sym g ∙ ap (λ (o : AfterList). o.said) e))
    (λ v g. never 14 v n (sym g ∙ ap (λ (o : AfterList). o.said) e)) in
    let w : WroteSo area x.table n y = writing_says area x.table n y (sym (import_of list header file area x) ∙ e) in
    rw w.bytes
    (export_gives header file x.table (exportable_of list header file x) other ∙ ap (writing other) (list_of_lem list header file x))

-- "and leaves the output area untouched otherwise"
pub untouched : (list header : List ℕ) (file : ℕ) (area : List ℕ) (number value : ℕ) → (imported list header file area).said ≡ refused number value
    → (imported list header file area).area ≡ area
unfolding imported writing
untouched list header file area number value e = fits (fit_header header) e
  where
    kept : (w : List ℕ) (x : Bool) → (cond x (refusing area 15 0) (came (Ok (length w)) (over w area))).said ≡ refused number value
        → (cond x (refusing area 15 0) (came (Ok (length w)) (over w area))).area ≡ area
    kept w true g = refl
    kept w false g = never number value (length w) (sym g)

    past : (c : Result ℕ ℕ) → (import_past list header area c).said ≡ refused number value → (import_past list header area c).area ≡ area
    past (Err k) g = refl
    past (Ok c) g = kept (table_said list header) (ltb (length area) (length (table_said list header))) g

    fits : (x : Bool) → (cond x (import_past list header area (first_wrong list header file)) (refusing area 5 0)).said ≡ refused number value
        → (cond x (import_past list header area (first_wrong list header file)) (refusing area 5 0)).area ≡ area
    fits false g = refl
    fits true g = past (first_wrong list header file) g
