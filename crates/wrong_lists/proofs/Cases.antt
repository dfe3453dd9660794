-- Lists that differ from an export in one thing, and what import says of each, computed by the definitions: line 3 for a number with a leading zero, for the
-- last CR LF missing and for a quote that is not doubled; line 4 for a line too many; line 2 where both records are wrong, and where no name is left above
-- the first one's.
use Rattle.std.specs.Prelude.{Ok, Err}
use Rattle.octets.specs.Standard.{ℕ, ◌+◌, ◌<◌, ◌≤◌, true, ◌≡◌, refl, ap, ◌∙◌, arith, List, [], ◌∷◌, ◌++◌, length, take, drop, replicate}
use Rattle.octets.specs.Run.{over}
use Rattle.octets.proofs.Numbers.{Bytes, all_bytes, are_bytes}
use Rattle.record.specs.Fields.{edition_of}
use Rattle.blocks.specs.Blocks.{block_of}
use Rattle.listing.specs.ListOf.{first_line, first_unlisted}
use Rattle.listing.specs.Export.{AfterList, came, refusing, writing, exported}
use Rattle.importing.specs.Said.{first_wrong}
use Rattle.importing.specs.Import.{fit_header, imported}
use Rattle.importing.proofs.Given.{Exportable}
use Rattle.list_example.proofs.Sample.{header, table, line1, line2, list, opened}
use Rattle.list_example.proofs.Worked.{sound, listed, untitled, missing, surplus}
use Rattle.list_laws.proofs.Outcomes.{export_gives}
use Rattle.list_laws.proofs.Exports.{AnExport, NamedLine}
use Rattle.list_laws.proofs.Exactly.{accepts_exactly}
use Rattle.list_laws.proofs.Refusing.{ImportRefuses, unfit, wrong, narrow, import_refuses}
use Rattle.list_laws.proofs.FirstLine.{first_line_lem, named_once}

-- `,03,4,8` for `,3,4,8`
unfoldable pub leading : List ℕ
leading = first_line ++ (line1 ++ (take 71 line2 ++ (48 ∷ drop 71 line2)))

-- without the last two bytes
unfoldable pub unclosed : List ℕ
unclosed = first_line ++ (line1 ++ take 76 line2)

-- `"sip:b"@isle"`
unfoldable pub single : List ℕ
single = first_line ++ (line1 ++ (take 7 line2 ++ drop 8 line2))

unfoldable pub longer : List ℕ
longer = list ++ line2

unfoldable pub swapped : List ℕ
swapped = first_line ++ (line2 ++ line1)

-- a name that no other follows: 128 times `~`
unfoldable pub highest : List ℕ
highest = first_line ++ ((34 ∷ replicate 128 126) ++ (drop 11 line1 ++ line2))

pub leading_wrong : first_wrong leading (header 2 2) 7 ≡ Err 2
unfolding leading opened
leading_wrong = refl

pub unclosed_wrong : first_wrong unclosed (header 2 2) 7 ≡ Err 2
unfolding unclosed opened
unclosed_wrong = refl

pub single_wrong : first_wrong single (header 2 2) 7 ≡ Err 2
unfolding single opened
single_wrong = refl

pub longer_wrong : first_wrong longer (header 2 2) 7 ≡ Err 3
unfolding longer opened
longer_wrong = refl

pub swapped_wrong : first_wrong swapped (header 2 2) 6 ≡ Err 1
unfolding swapped opened
swapped_wrong = refl

pub highest_wrong : first_wrong highest (header 2 2) 7 ≡ Err 1
unfolding highest opened
highest_wrong = refl

pub fit : fit_header (header 2 2) ≡ true
unfolding opened
fit = refl

-- what import leaves then
pub refused : (l : List ℕ) (file k : ℕ) (area : List ℕ) → first_wrong l (header 2 2) file ≡ Err k → imported l (header 2 2) file area ≡ refusing area 14 (k + 1)
unfolding imported
refused l file k area e = rw (fit, e)

-- The list itself is an export's.
pub unlisted : first_unlisted table 2 ≡ Ok 2
unfolding opened
unlisted = refl

pub first_block : block_of table 0 ≡ header 2 2
unfolding opened
first_block = refl

pub table_bytes : all_bytes table ≡ true
unfolding all_bytes opened
table_bytes = refl

pub header_bytes_lem : all_bytes (header 2 2) ≡ true
unfolding all_bytes opened
header_bytes_lem = refl

pub edition_two : edition_of (header 2 2) ≡ 2
unfolding opened
edition_two = refl

pub exportable : Exportable (header 2 2) 7 table
exportable =
    record {
      bytes = are_bytes table table_bytes;
      count = 2;
      checked = sound;
      header_block = first_block;
      edition = edition_two;
      listed = unlisted;
    }

pub header_octets : Bytes (header 2 2)
header_octets = are_bytes (header 2 2) header_bytes_lem

list_over : writing list list ≡ came (Ok 261) list
unfolding writing over opened
list_over = refl

pub exported_so : exported table 7 list ≡ came (Ok 261) list
exported_so = export_gives (header 2 2) 7 table exportable list ∙ ap (writing list) listed ∙ list_over

pub list_taken : take 261 list ≡ list
unfolding opened
list_taken = refl

abbrev pub an_export : AnExport list (header 2 2) 7
an_export =
    record {
      table = table;
      bytes = are_bytes table table_bytes;
      header_block = first_block;
      area = list;
      size = 261;
      after = list;
      wrote = exported_so;
      list_is = list_taken;
    }

-- so import gives its table over the front of any area that holds it, and 15 in a shorter one
pub accepted : (area : List ℕ) → length table ≤ length area
    → imported list (header 2 2) 7 area ≡ came (Ok (length table)) (table ++ drop (length table) area)
accepted area h = (accepts_exactly list (header 2 2) 7 area header_octets).given an_export h

pub narrow_area : (area : List ℕ) → length area < length table → imported list (header 2 2) 7 area ≡ refusing area 15 0
narrow_area area h = (accepts_exactly list (header 2 2) 7 area header_octets).short an_export h

-- No export has any of the others.
pub no_export : (l : List ℕ) (k : ℕ) → first_wrong l (header 2 2) 7 ≡ Err k → AnExport l (header 2 2) 7 → ⊥
no_export l k e = go 14 (k + 1) (import_refuses l (header 2 2) 7 [] header_octets 14 (k + 1) (ap (λ (o : AfterList). o.said) (refused l 7 k [] e))) refl
  where
    go : (a b : ℕ) → ImportRefuses l (header 2 2) 7 [] a b → a ≡ 14 → AnExport l (header 2 2) 7 → ⊥
    go a b (unfit f) q x = omega arith
    go a b (wrong j f none n) q x = none x
    go a b (narrow y h) q x = omega arith

pub leading_not : AnExport leading (header 2 2) 7 → ⊥
leading_not = no_export leading 2 leading_wrong

pub unclosed_not : AnExport unclosed (header 2 2) 7 → ⊥
unclosed_not = no_export unclosed 2 unclosed_wrong

pub longer_not : AnExport longer (header 2 2) 7 → ⊥
longer_not = no_export longer 3 longer_wrong

-- The line that is named is the first that no export could hold there: line 1 where the first is cut; line 3 of the list with a leading zero, of one without
-- its last CR LF and of one that ends before it; line 4 behind the last; line 2 where no name is left above.
line_named : (l : List ℕ) (k : ℕ) → first_wrong l (header 2 2) 7 ≡ Err k → NamedLine l (header 2 2) 7 k
line_named l k e = first_line_lem l (header 2 2) 7 header_octets fit k e

pub untitled_line : NamedLine (take 120 list) (header 2 2) 7 0
untitled_line = line_named (take 120 list) 0 untitled

pub leading_line : NamedLine leading (header 2 2) 7 2
leading_line = line_named leading 2 leading_wrong

pub unclosed_line : NamedLine unclosed (header 2 2) 7 2
unclosed_line = line_named unclosed 2 unclosed_wrong

pub missing_line : NamedLine (first_line ++ line1) (header 2 2) 7 2
missing_line = line_named (first_line ++ line1) 2 missing

pub surplus_line : NamedLine (list ++ (10 ∷ [])) (header 2 2) 7 3
surplus_line = line_named (list ++ (10 ∷ [])) 3 surplus

pub highest_line : NamedLine highest (header 2 2) 7 1
highest_line = line_named highest 1 highest_wrong

-- and no other line is
pub leading_once : (j : ℕ) → NamedLine leading (header 2 2) 7 j → j ≡ 2
leading_once j n = named_once leading (header 2 2) 7 j 2 n leading_line
