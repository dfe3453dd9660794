-- The page of import: it accepts exactly what export can write, and gives back the table's bytes.
use Rattle.std.specs.Prelude.{Result, Ok, Err}
use Rattle.octets.specs.Standard.{ℕ, zero, suc, ◌+◌, ◌≤◌, Bool, true, false, cond, ◌≡◌, refl, arith, eqb, eq-eqb, eqb-true}
use Rattle.octets.specs.Standard.{List, length, drop, Option, none, some}
use Rattle.octets.proofs.All.{and_left}
use Rattle.octets.proofs.Chains.{◌also◌}
use Rattle.octets.proofs.Numbers.{Bytes}
use Rattle.record.specs.Fields.{count_of, issue_of, edition_of}
use Rattle.record.specs.HeaderBlock.{header_of}
use Rattle.blocks.specs.Blocks.{table_of, first_bad}
use Rattle.blocks.proofs.First.{good_each, good_count, bad_sound}
use Rattle.table.specs.Check.{sound_at}
use Rattle.table.proofs.Sound.{TableTests, table_says}
use Rattle.rows.specs.Row.{Row}
use Rattle.rows.specs.RowIn.{row_in}
use Rattle.rows.specs.Block.{block_said}
use Rattle.rows.proofs.Lines as line
use Rattle.rows.proofs.Octets.{Octets, append_bytes, zeros_bytes, said_bytes}
use Rattle.listing.specs.ListOf.{list_of}
use Rattle.listing.specs.Export.{writing}
use Rattle.importing.specs.Said.{place_of, said_at, table_said, enough_at, holds_at, is_titled, over_records, first_wrong}
use Rattle.importing.specs.Import.{fit_header, imported}
use Rattle.importing.proofs.Accepts as accepts
use Rattle.importing.proofs.Given as goal
use Rattle.importing.proofs.Given.{Exportable}

-- The list of an exportable table under its header block: import writes that table, or says that the area is too short.
module _ (header : List ℕ) (file : ℕ) (t : List ℕ) (x : Exportable header file t) where
  header_fit : fit_header header ≡ true
  unfolding fit_header
  header_fit =
      let s : TableTests t file x.count = table_says t file x.count x.checked in
      let l : length header ≡ 512 = rw x.header_block at (goal.block_whole header file t x 0 (omega arith)) in
      eq-eqb (length header) 512 l also rw x.header_block at s.header also eq-eqb (edition_of header) 2 x.edition

  pub import_gives : (area : List ℕ) → imported (list_of t) header file area ≡ writing area t
  unfolding imported
  import_gives area = rw (header_fit, goal.whole header file t x, goal.said header file t x)

-- Import is refused neither by 5 nor by 14: the list is an export's.
module _ (list header : List ℕ) (file : ℕ) (bytes : Bytes header) (fit : fit_header header ≡ true) where
  is_fit : accepts.FitHeader header
  is_fit = accepts.header_fits header fit

  abbrev said : List ℕ
  said = table_said list header

  pub said_at_bytes : (k : ℕ) → Octets (said_at list header k)
  unfolding said_at
  said_at_bytes zero = record { each = bytes }
  said_at_bytes (suc n) = go (row_in (drop (place_of list n) list)) refl
    where
      go : (o : Option Row) → row_in (drop (place_of list n) list) ≡ o → Octets (block_said (issue_of header) (suc n) o)
      go none e = zeros_bytes 512
      go (some r) e = said_bytes (issue_of header) (suc n) r (line.written_read (drop (place_of list n) list) r e).fitting

  table_bytes : (n : ℕ) → Octets (table_of (said_at list header) n)
  unfolding table_of
  table_bytes zero = record { each = λ i. omega arith }
  table_bytes (suc n) = append_bytes (table_of (said_at list header) n) (said_at list header n) (table_bytes n) (said_at_bytes n)

  pub record AnExport : Type 0 where
    pub table : List ℕ
    pub exportable : Exportable header file table
    pub list_is : list_of table ≡ list

  pub accepts_only : (c : ℕ) → first_wrong list header file ≡ Ok c → AnExport
  unfolding first_wrong table_said holds_at
  accepts_only c e = titled (is_titled list) refl e
    where
      good : ℕ → Bool
      good = holds_at list header file

      count : ℕ
      count = count_of header

      built : is_titled list ≡ true → first_bad good count count 1 ≡ Ok count → place_of list count ≡ length list → AnExport
      built t f p =
          let each : (k : ℕ) → 1 ≤ k → k ≤ count → sound_at said (header_of header) file k ≡ true = sounds f in
          record {
            table = said;
            exportable = record {
              bytes = (table_bytes (suc count)).each;
              count = count;
              checked = accepts.checked list header is_fit file each t;
              header_block = accepts.said_header list header is_fit;
              edition = is_fit.edition;
              listed = accepts.listed list header is_fit file each t;
            };
            list_is = accepts.list_said list header is_fit file each t p;
          }
        where
          sounds : first_bad good count count 1 ≡ Ok count → (k : ℕ) → 1 ≤ k → k ≤ count → sound_at said (header_of header) file k ≡ true
          sounds f k a b =
              and_left (sound_at said (header_of header) file k) (enough_at said count k) (good_each good count count count 1 f k a (omega arith))

      past : is_titled list ≡ true → (r : Result ℕ ℕ) → first_bad good count count 1 ≡ r → over_records list r ≡ Ok c → AnExport
      past t (Err k) f g = bad_sound (Err k) k c refl g
      past t (Ok n) f g = ended (eqb (place_of list n) (length list)) refl g
        where
          ended : (y : Bool) → eqb (place_of list n) (length list) ≡ y → cond y (Ok n) (Err (n + 1)) ≡ Ok c → AnExport
          ended false p q = bad_sound (Err (n + 1)) (n + 1) c refl q
          ended true p q =
              let m : count ≡ n = good_count good count n count 1 f in
              built t (rw (← m) at f) (rw (← m) at (eqb-true (place_of list n) (length list) p))

      titled : (y : Bool) → is_titled list ≡ y → cond y (over_records list (first_bad good count count 1)) (Err 0) ≡ Ok c → AnExport
      titled false t f = bad_sound (Err 0) 0 c refl f
      titled true t f = past t (first_bad good count count 1) refl f
