-- Instances of the laws of the list, computed: none of them holds only because its hypotheses never do.
use Rattle.std.specs.Prelude.{Ok, Err}
use Rattle.octets.specs.Standard.{ℕ, ◌+◌, ◌≤◌, true, false, ◌≡◌, refl, sym, ap, ◌∙◌, arith, List, [], ◌∷◌, ◌++◌, length, length-append, take, drop, replicate}
use Rattle.octets.specs.Standard.{sets}
use Rattle.octets.specs.Number.{put_be32}
use Rattle.octets.specs.Run.{over}
use Rattle.octets.proofs.Numbers.{all_bytes, are_bytes}
use Rattle.record.specs.Fields.{edition_of}
use Rattle.blocks.specs.Blocks.{block_of, first_bad}
use Rattle.blocks.specs.Sealed.{sealed}
use Rattle.blocks.proofs.First.{good_each}
use Rattle.table.specs.Check.{check_table}
use Rattle.listing.specs.ListOf.{list_of, listable_at}
use Rattle.listing.specs.Export.{AfterList, came, refusing, writing, exported, refused}
use Rattle.importing.specs.Import.{fit_header, imported}
use Rattle.importing.proofs.Importing.{import_gives}
use Rattle.ndushavire.specs.Word.{word, list_word}
use Rattle.ndushavire.specs.Reads.{ReadsList}
use Rattle.ndushavire.specs.Promise.{ExportPromise, ImportPromise}
use Rattle.list_laws.specs.Refusals.{ExportRefuses, unlisted, unsound, older, short}
use Rattle.list_laws.proofs.Outcomes.{never}
use Rattle.list_laws.proofs.Exports.{AnExport, NamedLine}
use Rattle.list_laws.proofs.Exactly.{gives_back, gives_list, accepts_exactly, untouched}
use Rattle.list_laws.proofs.Refusing.{ImportRefuses, unfit, wrong, narrow, export_refused, export_refuses, import_refused, import_refuses, fourteen}
use Rattle.list_laws.proofs.Longest.{list_most, never_short}
use Rattle.list_laws.proofs.Words.{export_said, import_said, there_and_back}
use Rattle.list_example.proofs.Sample.{header, table, list, opened}
use Rattle.list_example.proofs.Worked.{sound, listed}
use Rattle.wrong_lists.proofs.Cases.{leading, fit, exportable, edition_two, first_block, table_bytes, header_octets, exported_so, an_export}
use Rattle.wrong_lists.proofs.Cases.{leading_not, leading_line}

-- Export into an area as long as the list, and import of what it wrote.
pub given_back : (other : List ℕ) → imported (take 261 list) (block_of table 0) 7 other ≡ writing other table
given_back other = gives_back table 7 list 261 list (are_bytes table table_bytes) exported_so other

-- Import into an area as long as the table, and export of what it wrote.
table_over : writing table table ≡ came (Ok 1536) table
unfolding writing over opened
table_over = refl

imported_so : imported list (header 2 2) 7 table ≡ came (Ok 1536) table
imported_so =
    ap (λ (l : List ℕ). imported l (header 2 2) 7 table) (sym listed) ∙ import_gives (header 2 2) 7 table exportable table ∙ table_over

pub given_list : (other : List ℕ) → exported (take 1536 table) 7 other ≡ writing other list
given_list other = gives_list list (header 2 2) 7 table 1536 table header_octets imported_so other

-- A table whose one record has a tab in its public identity.
unfoldable pub tabbed : List ℕ
tabbed =
    let numbers : List ℕ = sets (replicate 512 0) 0 (2 ∷ 2 ∷ 0 ∷ 0 ∷ 0 ∷ 0 ∷ 0 ∷ 1 ∷ 0 ∷ 0 ∷ 0 ∷ 0 ∷ 0 ∷ 2 ∷ 1 ∷ 0 ∷ []) in
    header 2 1 ++ sealed (put_be32 (sets (sets numbers 16 (97 ∷ 9 ∷ [])) 144 (97 ∷ [])) 408 5)

tabbed_sound : check_table tabbed 7 ≡ Ok 1
unfolding tabbed opened
tabbed_sound = refl

tabbed_edition : edition_of (block_of tabbed 0) ≡ 2
unfolding tabbed opened
tabbed_edition = refl

tabbed_unlisted : listable_at tabbed 1 ≡ false
unfolding tabbed opened
tabbed_unlisted = refl

pub thirteen : (area : List ℕ) → exported tabbed 7 area ≡ refusing area 13 1
thirteen area =
    export_refused tabbed 7 area
    (unlisted 1 1 (record { checked = tabbed_sound; edition = tabbed_edition })
    (record { from = omega arith; to = omega arith; here = tabbed_unlisted; before = λ j a b. absurd (omega arith) }))

-- A profile past the file, a header block of edition 1, an area without a byte.
outside : check_table table 6 ≡ Err 2
unfolding opened
outside = refl

pub five : (area : List ℕ) → exported table 6 area ≡ refusing area 5 2
five area = export_refused table 6 area (unsound 2 outside)

older_unfit : fit_header (header 1 2) ≡ false
unfolding opened
older_unfit = refl

older_bytes : all_bytes (header 1 2) ≡ true
unfolding all_bytes opened
older_bytes = refl

pub five_header : (l area : List ℕ) → imported l (header 1 2) 7 area ≡ refusing area 5 0
five_header l area = import_refused l (header 1 2) 7 area (are_bytes (header 1 2) older_bytes) (unfit older_unfit)

zeros_bytes : all_bytes (replicate 512 0) ≡ true
unfolding all_bytes
zeros_bytes = refl

cut_bytes : all_bytes (take 511 (header 2 2)) ≡ true
unfolding all_bytes opened
cut_bytes = refl

table_size : length table ≡ 1536
unfolding opened
table_size = refl

list_size : length list ≡ 261
unfolding opened
list_size = refl

listable_both : first_bad (listable_at table) 2 2 1 ≡ Ok 2
unfolding opened
listable_both = refl

unsound_unfit : fit_header (replicate 512 0) ≡ false
unfolding opened
unsound_unfit = refl

pub five_unsound : (l area : List ℕ) → imported l (replicate 512 0) 7 area ≡ refusing area 5 0
five_unsound l area = import_refused l (replicate 512 0) 7 area (are_bytes (replicate 512 0) zeros_bytes) (unfit unsound_unfit)

cut_unfit : fit_header (take 511 (header 2 2)) ≡ false
unfolding opened
cut_unfit = refl

pub five_cut : (l area : List ℕ) → imported l (take 511 (header 2 2)) 7 area ≡ refusing area 5 0
five_cut l area = import_refused l (take 511 (header 2 2)) 7 area (are_bytes (take 511 (header 2 2)) cut_bytes) (unfit cut_unfit)

pub fifteen : imported list (header 2 2) 7 [] ≡ refusing [] 15 0
fifteen = import_refused list (header 2 2) 7 [] header_octets (narrow an_export (omega (arith, table_size)))

-- A table of edition 1 without a record; an area too short for the list.
unfoldable pub earlier : List ℕ
earlier =
    let numbers : List ℕ = sets (replicate 512 0) 0 (1 ∷ 1 ∷ 0 ∷ 0 ∷ 0 ∷ 0 ∷ 0 ∷ 0 ∷ 0 ∷ 0 ∷ 0 ∷ 0 ∷ 0 ∷ 1 ∷ 1 ∷ 1 ∷ 0x68 ∷ []) in
    sealed (sets (sets numbers 80 (0x72 ∷ [])) 144 (1 ∷ 0x6e ∷ []))

earlier_sound : check_table earlier 7 ≡ Ok 0
unfolding earlier opened
earlier_sound = refl

earlier_edition : edition_of (block_of earlier 0) ≡ 1
unfolding earlier opened
earlier_edition = refl

pub five_older : (area : List ℕ) → exported earlier 7 area ≡ refusing area 5 0
five_older area = export_refused earlier 7 area (older 0 earlier_sound (λ e. omega (arith, earlier_edition)))

pub fifteen_export : exported table 7 [] ≡ refusing [] 15 0
fifteen_export =
    export_refused table 7 []
    (short 2 (record { checked = sound; edition = ap edition_of first_block ∙ edition_two })
    (λ k a b. good_each (listable_at table) 2 2 2 1 listable_both k a (omega arith))
    (rw listed (omega (arith, list_size))))

-- No export has the list with a leading zero: 14 with line 3, whatever the area, which stays.
pub fourteen_leading : (area : List ℕ) → imported leading (header 2 2) 7 area ≡ refusing area 14 3
fourteen_leading area = import_refused leading (header 2 2) 7 area header_octets (wrong 2 fit leading_not leading_line)

pub some_fourteen : (area : List ℕ) → (k : ℕ) × NamedLine leading (header 2 2) 7 k × (imported leading (header 2 2) 7 area ≡ refusing area 14 (k + 1))
some_fourteen area = fourteen leading (header 2 2) 7 area header_octets fit leading_not

pub leading_untouched : (area : List ℕ) → (imported leading (header 2 2) 7 area).area ≡ area
leading_untouched area = untouched leading (header 2 2) 7 area 14 3 (ap (λ (o : AfterList). o.said) (fourteen_leading area))

-- The conditions under which these refusals came.
pub thirteen_why : (area : List ℕ) → ExportRefuses tabbed 7 area 13 1
thirteen_why area = export_refuses tabbed 7 area 13 1 (ap (λ (o : AfterList). o.said) (thirteen area))

pub fourteen_why : (area : List ℕ) → ImportRefuses leading (header 2 2) 7 area 14 3
fourteen_why area = import_refuses leading (header 2 2) 7 area header_octets 14 3 (ap (λ (o : AfterList). o.said) (fourteen_leading area))

-- Import neither by 5 nor by 14: the list is an export's.
pub only_export : AnExport list (header 2 2) 7
only_export =
    (accepts_exactly list (header 2 2) 7 table header_octets).only
    (λ v e. never 5 v 1536 (sym e ∙ ap (λ (o : AfterList). o.said) imported_so))
    (λ v e. never 14 v 1536 (sym e ∙ ap (λ (o : AfterList). o.said) imported_so))

-- Two lines: at most 1,801 bytes.
pub list_bytes_lem : length (list_of table) ≤ 1801
list_bytes_lem = list_most table 7 2 (are_bytes table table_bytes) sound

pub roomy : (area : List ℕ) → 3440761 ≤ length area → exported table 7 area ≡ refusing area 15 0 → ⊥
roomy area h = never_short table 7 area (are_bytes table table_bytes) h

-- The words of these calls read back, beside a profile file of 7 bytes.
abbrev profile : List ℕ
profile = replicate 7 0

pub word_exported : ReadsList (Ok 261) 261
word_exported =
    let p : ExportPromise table profile list 261 list =
    record { word_is = sym (ap (λ (o : AfterList). list_word o.said) exported_so); list_is = sym (ap (λ (o : AfterList). o.area) exported_so) } in
    rw (ap (λ (o : AfterList). o.said) exported_so) at (export_said table profile list p)

pub word_imported : ReadsList (Ok 1536) 1536
word_imported =
    let p : ImportPromise list (header 2 2) profile table 1536 table =
    record { word_is = sym (ap (λ (o : AfterList). list_word o.said) imported_so); table_is = sym (ap (λ (o : AfterList). o.area) imported_so) } in
    rw (ap (λ (o : AfterList). o.said) imported_so) at (import_said list (header 2 2) profile table p)

pub word_unlisted : ReadsList (refused 13 1) (word 13 0 1)
word_unlisted =
    let p : ExportPromise tabbed profile [] (word 13 0 1) [] =
    record { word_is = sym (ap (λ (o : AfterList). list_word o.said) (thirteen [])); list_is = sym (ap (λ (o : AfterList). o.area) (thirteen [])) } in
    rw (ap (λ (o : AfterList). o.said) (thirteen [])) at (export_said tabbed profile [] p)

-- The two calls, one behind the other, over an area that is the table's own and one that is longer by a byte.
pub back_again : (s : ℕ) (other' : List ℕ) → ImportPromise (take 261 list) (block_of table 0) profile (table ++ (7 ∷ [])) s other'
    → (s ≡ length table) × (other' ≡ table ++ drop (length table) (table ++ (7 ∷ [])))
back_again s other' q =
    let p : ExportPromise table profile list 261 list =
    record { word_is = sym (ap (λ (o : AfterList). list_word o.said) exported_so); list_is = sym (ap (λ (o : AfterList). o.area) exported_so) } in
    there_and_back table profile list 261 list (are_bytes table table_bytes) p refl (table ++ (7 ∷ [])) s other' (omega (arith, length-append table (7 ∷ []))) q
