-- Wrong exports and imports. Each is a function here that is right but for one error, and at an input that is computed its outcome does not meet the promise.
use Rattle.std.specs.Prelude.{Ok, Err, Result}
use Rattle.octets.specs.Standard.{ℕ, zero, suc, ◌+◌, ◌*◌, Bool, ◌&&◌, cond, ◌≡◌, refl, sym, ap, ◌∙◌, arith, List, [], ◌∷◌, ◌++◌, length, take}
use Rattle.octets.specs.Standard.{◌-◌, drop, eqb, eq-eqb, get_or, ◌≤◌, ◌≢◌}
use Rattle.octets.specs.Run.{over}
use Rattle.record.specs.Fields.{count_of, edition_of}
use Rattle.record.specs.HeaderBlock.{header_of}
use Rattle.blocks.specs.Blocks.{block_of, first_bad}
use Rattle.table.specs.Check.{sound_at}
use Rattle.decimals.specs.Decimal.{is_digit}
use Rattle.rows.specs.Row.{Row, row_of, numbers_line}
use Rattle.listing.specs.ListOf.{first_line}
use Rattle.listing.specs.Export.{AfterList, refusing, writing, export_past, export_sound, export_checked, exported, Listed}
use Rattle.importing.specs.Said.{place_of, table_said, holds_at, is_titled, over_records, first_wrong}
use Rattle.importing.specs.Import.{fit_header, import_past, imported}
use Rattle.importing.proofs.Importing.{import_gives}
use Rattle.ndushavire.specs.Word.{list_word}
use Rattle.ndushavire.specs.Promise.{ExportPromise, ImportPromise}
use Rattle.list_example.proofs.Sample.{header, table, list, opened}
use Rattle.list_example.proofs.Worked.{sound, listed}
use Rattle.wrong_lists.proofs.Cases.{leading, unclosed, longer, swapped, highest, leading_wrong, unclosed_wrong, longer_wrong, swapped_wrong}
use Rattle.wrong_lists.proofs.Cases.{highest_wrong}
use Rattle.wrong_lists.proofs.Instances.{tabbed, thirteen, five_header}
use Rattle.wrong_lists.proofs.Cases.{fit, refused, exportable, edition_two, first_block, unlisted}

-- what a call leaves
record CallLeft : Type 0 where
  word : ℕ
  area : List ℕ

abbrev leaving : AfterList → CallLeft
leaving o = record { word = list_word o.said; area = o.area }

-- an import of a list, a header block, a profile file and an area
abbrev Importer : Type 0
Importer = List ℕ → List ℕ → List ℕ → List ℕ → CallLeft

abbrev Imports : Importer → List ℕ → List ℕ → List ℕ → List ℕ → Type 0
Imports f l h p a = ImportPromise l h p a (f l h p a).word (f l h p a).area

-- The true one, which shows that the inputs below are no trap.
truly : Importer
truly l h p a = leaving (imported l h (length p) a)

truly_imports : (l h p a : List ℕ) → Imports truly l h p a
unfolding truly
truly_imports l h p a = record { word_is = refl; table_is = refl }

-- what the promise leaves where the first wrong line is known
word_given : (f : Importer) (l p a : List ℕ) (k : ℕ) → first_wrong l (header 2 2) (length p) ≡ Err k → Imports f l (header 2 2) p a
    → (f l (header 2 2) p a).word ≡ 14 * 281474976710656 + (k + 1)
word_given f l p a k e m = m.word_is ∙ ap (λ (o : AfterList). list_word o.said) (refused l (length p) k a e)

-- The profile file has 7 bytes, and the area is the table.
abbrev profile : List ℕ
profile = 0 ∷ 0 ∷ 0 ∷ 0 ∷ 0 ∷ 0 ∷ 0 ∷ []

table_size : length table ≡ 1536
unfolding opened
table_size = refl

area_size : length (7 ∷ drop 1 table) ≡ 1536
unfolding opened
area_size = refl

first_byte : get_or (over table (7 ∷ drop 1 table)) 0 0 ≡ 1
unfolding opened
first_byte = refl

-- a server that takes the list for the export
taken_word : list_word (imported list (header 2 2) 7 table).said ≡ 1536
unfolding writing
taken_word =
    ap (λ (l : List ℕ). list_word (imported l (header 2 2) 7 table).said) (sym listed)
    ∙ ap (λ (o : AfterList). list_word o.said) (import_gives (header 2 2) 7 table exportable table)
    ∙ rw table_size

-- what the promise leaves where the list is an export's
true_word : (f : Importer) → Imports f list (header 2 2) profile table → (f list (header 2 2) profile table).word ≡ 1536
true_word f m = m.word_is ∙ taken_word

-- Everything is refused, whatever is said.
refusing_fails : (f : Importer) (number value : ℕ) → 1 ≤ number → (f list (header 2 2) profile table).word ≡ number * 281474976710656 + value
    → Imports f list (header 2 2) profile table → ⊥
refusing_fails f number value h e m = omega (arith, true_word f m)

-- The answer is fixed: it fails at one of two lists.
fixed_fails : (f : Importer) → (f list (header 2 2) profile table).word ≡ (f leading (header 2 2) profile table).word
    → Imports f list (header 2 2) profile table → Imports f leading (header 2 2) profile table → ⊥
fixed_fails f e m n = omega (arith, true_word f m, word_given f leading profile table 2 leading_wrong n)

-- The number of bytes is invented.
inventing_fails : (f : Importer) (bytes : ℕ) → bytes ≢ 1536 → (f list (header 2 2) profile table).word ≡ bytes → Imports f list (header 2 2) profile table → ⊥
inventing_fails f bytes n e m = n (sym e ∙ true_word f m)

-- Nothing is written though it is said: an area whose first byte is another has it still.
idle_fails : (f : Importer) → (f list (header 2 2) profile (7 ∷ drop 1 table)).area ≡ 7 ∷ drop 1 table
    → Imports f list (header 2 2) profile (7 ∷ drop 1 table) → ⊥
unfolding writing over
idle_fails f e m =
    let a : (f list (header 2 2) profile (7 ∷ drop 1 table)).area ≡ (writing (7 ∷ drop 1 table) table).area =
    m.table_is
    ∙ ap (λ (l : List ℕ). (imported l (header 2 2) 7 (7 ∷ drop 1 table)).area) (sym listed)
    ∙ ap (λ (o : AfterList). o.area) (import_gives (header 2 2) 7 table exportable (7 ∷ drop 1 table)) in
    let w : (writing (7 ∷ drop 1 table) table).area ≡ over table (7 ∷ drop 1 table) = rw (table_size, area_size) in
    let z : ◌≡◌ {A = ℕ} 7 1 = ap (λ (l : List ℕ). get_or l 0 0) (sym e ∙ a ∙ w) ∙ first_byte in
    omega arith

-- Something is written under a refusal.
writing_fails : (f : Importer) (area : List ℕ) → (f leading (header 2 2) profile area).area ≢ area → Imports f leading (header 2 2) profile area → ⊥
writing_fails f area n m = n (m.table_is ∙ ap (λ (o : AfterList). o.area) (refused leading 7 2 area leading_wrong))

-- Lines are numbered from 0.
from_zero_fails : (f : Importer) → (f leading (header 2 2) profile table).word ≡ 14 * 281474976710656 + 2 → Imports f leading (header 2 2) profile table → ⊥
from_zero_fails f e m = omega (arith, word_given f leading profile table 2 leading_wrong m)

-- 15 goes before 14.
hasty_fails : (f : Importer) → (f leading (header 2 2) profile []).word ≡ 15 * 281474976710656 → Imports f leading (header 2 2) profile [] → ⊥
hasty_fails f e m = omega (arith, word_given f leading profile [] 2 leading_wrong m)

-- 14 goes before 5.
header_last_fails : (f : Importer) (line : ℕ) → (f leading (header 1 2) profile table).word ≡ 14 * 281474976710656 + line
    → Imports f leading (header 1 2) profile table → ⊥
header_last_fails f line e m = omega (arith, m.word_is ∙ ap (λ (o : AfterList). list_word o.said) (five_header leading table))

-- A leading zero is passed over: a 0 between a comma and a digit.
stripped : List ℕ → List ℕ
stripped [] = []
stripped (x ∷ s) = cond (eqb x 44 && (eqb (get_or s 0 0) 48 && is_digit (get_or s 1 0))) (44 ∷ drop 1 (stripped s)) (x ∷ stripped s)

zeroes : Importer
zeroes l h p a = leaving (imported (stripped l) h (length p) a)

zeroes_strips : stripped leading ≡ list
unfolding stripped leading opened
zeroes_strips = refl

zeroes_fails : Imports zeroes leading (header 2 2) profile table → ⊥
unfolding zeroes
zeroes_fails m =
    let w : list_word (imported (stripped leading) (header 2 2) 7 table).said ≡ 14 * 281474976710656 + (2 + 1) =
    word_given zeroes leading profile table 2 leading_wrong m in
    omega (arith, ap (λ (l : List ℕ). list_word (imported l (header 2 2) 7 table).said) zeroes_strips, taken_word)

-- The last line's end may be missing: it is put there.
closed : List ℕ → List ℕ
closed l = cond (eqb (get_or l (length l - 1) 0) 10) l (l ++ (13 ∷ 10 ∷ []))

closing : Importer
closing l h p a = leaving (imported (closed l) h (length p) a)

closing_closes : closed unclosed ≡ list
unfolding closed unclosed opened
closing_closes = refl

closing_fails : Imports closing unclosed (header 2 2) profile table → ⊥
unfolding closing
closing_fails m =
    let w : list_word (imported (closed unclosed) (header 2 2) 7 table).said ≡ 14 * 281474976710656 + (2 + 1) =
    word_given closing unclosed profile table 2 unclosed_wrong m in
    omega (arith, ap (λ (l : List ℕ). list_word (imported l (header 2 2) 7 table).said) closing_closes, taken_word)

-- What stands behind the last record's line is not looked at.
cutting : Importer
cutting l h p a = leaving (imported (take (place_of l (count_of h)) l) h (length p) a)

cutting_cuts : take (place_of longer (count_of (header 2 2))) longer ≡ list
unfolding longer opened
cutting_cuts = refl

cutting_fails : Imports cutting longer (header 2 2) profile table → ⊥
unfolding cutting
cutting_fails m =
    let w : list_word (imported (take (place_of longer (count_of (header 2 2))) longer) (header 2 2) 7 table).said ≡ 14 * 281474976710656 + (3 + 1) =
    word_given cutting longer profile table 3 longer_wrong m in
    omega (arith, ap (λ (l : List ℕ). list_word (imported l (header 2 2) 7 table).said) cutting_cuts, taken_word)

-- Of two bad lines the later is named.
last_bad : (ℕ → Bool) → ℕ → ℕ → Result ℕ ℕ
last_bad good count zero = Ok count
last_bad good count (suc n) = cond (good (suc n)) (last_bad good count n) (Err (suc n))

last_wrong : List ℕ → List ℕ → ℕ → Result ℕ ℕ
last_wrong l h file = cond (is_titled l) (over_records l (last_bad (holds_at l h file) (count_of h) (count_of h))) (Err 0)

latest : Importer
latest l h p a = leaving (cond (fit_header h) (import_past l h a (last_wrong l h (length p))) (refusing a 5 0))

latest_names : last_wrong swapped (header 2 2) 6 ≡ Err 2
unfolding last_wrong last_bad swapped opened
latest_names = refl

latest_fails : Imports latest swapped (header 2 2) (0 ∷ 0 ∷ 0 ∷ 0 ∷ 0 ∷ 0 ∷ []) table → ⊥
unfolding latest
latest_fails m =
    let w : list_word (cond (fit_header (header 2 2)) (import_past swapped (header 2 2) table (last_wrong swapped (header 2 2) 6)) (refusing table 5 0)).said
    ≡ 14 * 281474976710656 + (1 + 1) =
    word_given latest swapped (0 ∷ 0 ∷ 0 ∷ 0 ∷ 0 ∷ 0 ∷ []) table 1 swapped_wrong m in
    let v : 14 * 281474976710656 + (2 + 1) ≡ 14 * 281474976710656 + (1 + 1) = rw (fit, latest_names) at w in
    omega arith

-- It is not asked whether names are left for the lines that follow.
short_wrong : List ℕ → List ℕ → ℕ → Result ℕ ℕ
short_wrong l h file =
    cond (is_titled l) (over_records l (first_bad (sound_at (table_said l h) (header_of h) file) (count_of h) (count_of h) 1)) (Err 0)

shortsighted : Importer
shortsighted l h p a = leaving (cond (fit_header h) (import_past l h a (short_wrong l h (length p))) (refusing a 5 0))

shortsighted_names : short_wrong highest (header 2 2) 7 ≡ Err 2
unfolding short_wrong highest opened
shortsighted_names = refl

shortsighted_fails : Imports shortsighted highest (header 2 2) profile table → ⊥
unfolding shortsighted
shortsighted_fails m =
    let w : list_word (cond (fit_header (header 2 2)) (import_past highest (header 2 2) table (short_wrong highest (header 2 2) 7)) (refusing table 5 0)).said
    ≡ 14 * 281474976710656 + (1 + 1) =
    word_given shortsighted highest profile table 1 highest_wrong m in
    let v : 14 * 281474976710656 + (2 + 1) ≡ 14 * 281474976710656 + (1 + 1) = rw (fit, shortsighted_names) at w in
    omega arith

-- An export of a table, a profile file and an area.
abbrev Exporter : Type 0
Exporter = List ℕ → List ℕ → List ℕ → CallLeft

abbrev Exports : Exporter → List ℕ → List ℕ → List ℕ → Type 0
Exports f t p a = ExportPromise t p a (f t p a).word (f t p a).area

truly_writes : Exporter
truly_writes t p a = leaving (exported t (length p) a)

truly_exports : (t p a : List ℕ) → Exports truly_writes t p a
unfolding truly_writes
truly_exports t p a = record { word_is = refl; list_is = refl }

-- A quote in a name is not doubled.
single_quoted : List ℕ → List ℕ
single_quoted name = 34 ∷ (name ++ (34 ∷ []))

single_line : Row → List ℕ
single_line r = single_quoted r.public ++ (44 ∷ (single_quoted r.private ++ (44 ∷ (single_quoted r.server ++ numbers_line r.numbers))))

single_lines : List ℕ → ℕ → List ℕ
single_lines t zero = []
single_lines t (suc n) = single_lines t n ++ single_line (row_of (block_of t (suc n)))

single_list : List ℕ → List ℕ
single_list t = first_line ++ single_lines t (count_of (block_of t 0))

-- where the true export writes its list, this one writes that
instead : Listed → AfterList → AfterList → AfterList
instead (Ok n) here other = here
instead (Err e) here other = other

singly : Exporter
singly t p a = leaving (instead (exported t (length p) a).said (writing a (single_list t)) (exported t (length p) a))

exported_is : (a : List ℕ) → exported table 7 a ≡ writing a list
unfolding exported export_checked export_sound export_past
exported_is a = rw (sound, first_block, eq-eqb (edition_of (header 2 2)) 2 edition_two, unlisted, listed)

list_size : length list ≡ 261
unfolding opened
list_size = refl

single_size : length (single_list table) ≡ 260
unfolding single_list single_lines single_line single_quoted opened
single_size = refl

said_so : (exported table 7 list).said ≡ Ok 261
unfolding writing
said_so = ap (λ (o : AfterList). o.said) (exported_is list) ∙ rw list_size

single_said : list_word (writing list (single_list table)).said ≡ 260
unfolding writing
single_said = rw (list_size, single_size)

singly_fails : Exports singly table profile list → ⊥
unfolding singly instead
singly_fails m =
    let w : list_word (instead (exported table 7 list).said (writing list (single_list table)) (exported table 7 list)).said
    ≡ list_word (exported table 7 list).said = m.word_is in
    let v : list_word (writing list (single_list table)).said ≡ 261 = rw said_so at w in
    omega (arith, single_said)

-- The same of exports: everything is refused; the answer is fixed, and fails at one of two tables; the number of bytes is invented; 13 comes with another block;
-- nothing is written though it is said; something is written under a refusal.
export_word : (f : Exporter) → Exports f table profile list → (f table profile list).word ≡ 261
export_word f m = m.word_is ∙ ap list_word said_so

tabbed_word : (f : Exporter) (area : List ℕ) → Exports f tabbed profile area → (f tabbed profile area).word ≡ 13 * 281474976710656 + 1
tabbed_word f area m = m.word_is ∙ ap (λ (o : AfterList). list_word o.said) (thirteen area)

refused_export_fails : (f : Exporter) (number value : ℕ) → 1 ≤ number → (f table profile list).word ≡ number * 281474976710656 + value
    → Exports f table profile list → ⊥
refused_export_fails f number value h e m = omega (arith, export_word f m)

fixed_export_fails : (f : Exporter) → (f table profile list).word ≡ (f tabbed profile list).word → Exports f table profile list → Exports f tabbed profile list → ⊥
fixed_export_fails f e m n = omega (arith, export_word f m, tabbed_word f list n)

invented_export_fails : (f : Exporter) (bytes : ℕ) → bytes ≢ 261 → (f table profile list).word ≡ bytes → Exports f table profile list → ⊥
invented_export_fails f bytes n e m = n (sym e ∙ export_word f m)

block_export_fails : (f : Exporter) (area : List ℕ) (block : ℕ) → block ≢ 1 → (f tabbed profile area).word ≡ 13 * 281474976710656 + block
    → Exports f tabbed profile area → ⊥
block_export_fails f area block n e m = n (omega (arith, tabbed_word f area m))

other_byte : get_or (over list (7 ∷ drop 1 list)) 0 0 ≡ 112
unfolding over opened
other_byte = refl

other_size : length (7 ∷ drop 1 list) ≡ 261
unfolding opened
other_size = refl

idle_export_fails : (f : Exporter) → (f table profile (7 ∷ drop 1 list)).area ≡ 7 ∷ drop 1 list → Exports f table profile (7 ∷ drop 1 list) → ⊥
unfolding writing
idle_export_fails f e m =
    let a : (f table profile (7 ∷ drop 1 list)).area ≡ (writing (7 ∷ drop 1 list) list).area =
    m.list_is ∙ ap (λ (o : AfterList). o.area) (exported_is (7 ∷ drop 1 list)) in
    let w : (writing (7 ∷ drop 1 list) list).area ≡ over list (7 ∷ drop 1 list) = rw (list_size, other_size) in
    let z : ◌≡◌ {A = ℕ} 7 112 = ap (λ (l : List ℕ). get_or l 0 0) (sym e ∙ a ∙ w) ∙ other_byte in
    omega arith

writing_export_fails : (f : Exporter) (area : List ℕ) → (f tabbed profile area).area ≢ area → Exports f tabbed profile area → ⊥
writing_export_fails f area n m = n (m.list_is ∙ ap (λ (o : AfterList). o.area) (thirteen area))
