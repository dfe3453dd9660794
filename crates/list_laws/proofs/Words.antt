-- How firm the promises of export and import are: they leave one outcome for each input, and out of the word the caller reads what came of it.
use Rattle.std.specs.Prelude.{Ok, Err, Result}
use Rattle.octets.specs.Standard.{ℕ, zero, suc, ◌*◌, ◌<◌, ◌≤◌, Bool, true, false, cond, ◌≡◌, refl, sym, ◌∙◌, ap, ◌≢◌, arith, eqb, ltb, eq-eqb, ne_eqb}
use Rattle.octets.specs.Standard.{le-ltb, List, ◌++◌, length, length-append, take, drop}
use Rattle.octets.specs.Run.{over}
use Rattle.octets.proofs.Numbers.{Bytes}
use Rattle.record.specs.Fields.{count_of, edition_of}
use Rattle.blocks.specs.Blocks.{block_of}
use Rattle.blocks.proofs.First.{FirstNot, bad_says}
use Rattle.table.specs.Check.{check_table}
use Rattle.table.specs.SoundTable.{SoundTable}
use Rattle.table.proofs.Sound.{sound_few}
use Rattle.rows.specs.Row.{row_of, line_of}
use Rattle.listing.specs.ListOf.{first_line, lines_of, list_of, listable_at, first_unlisted}
use Rattle.listing.specs.Export.{AfterList, came, refusing, writing, export_past, export_sound, export_checked, exported, Listed}
use Rattle.listing.proofs.Lists.{first_length_lem, list_is, short_at}
use Rattle.importing.specs.Said.{table_said, first_wrong}
use Rattle.importing.specs.Import.{fit_header, import_past, imported}
use Rattle.judging.proofs.Fitting.{is_fit}
use Rattle.billing.proofs.Ways.{line_few}
use Rattle.ndushavire.specs.Word.{word, list_word}
use Rattle.ndushavire.specs.Reads.{number_in, value_in, ReadsList}
use Rattle.ndushavire.specs.Promise.{ExportPromise, ImportPromise}
use Rattle.ndushavire.proofs.Parts.{parts}
use Rattle.demands.proofs.Firm.{check_most}
use Rattle.list_laws.proofs.Exactly.{gives_back}
use Rattle.list_laws.proofs.Outcomes.{size_is}

-- Any two outcomes that meet the promise are equal: the word, and the area.
pub export_unique : (table profile list : List ℕ) (r s : ℕ) (x y : List ℕ) → ExportPromise table profile list r x → ExportPromise table profile list s y
    → (r ≡ s) × (x ≡ y)
export_unique table profile list r s x y p q = (p.word_is ∙ sym q.word_is, p.list_is ∙ sym q.list_is)

pub import_unique : (list header profile table : List ℕ) (r s : ℕ) (x y : List ℕ) → ImportPromise list header profile table r x
    → ImportPromise list header profile table s y → (r ≡ s) × (x ≡ y)
import_unique list header profile table r s x y p q = (p.word_is ∙ sym q.word_is, p.table_is ∙ sym q.table_is)

-- What is put into a word is read out of it, if the value stays below 2^32 and a refusal's number is none.
abbrev Readable : Listed → Type 0
Readable (Ok bytes) = bytes < 4294967296
Readable (Err e) = (1 ≤ e.number) × (e.value < 4294967296)

reads : (l : Listed) → Readable l → ReadsList l (list_word l)
reads (Ok bytes) h =
    let p = parts 0 0 bytes (omega arith) h in
    record { number = p.number_is; place = p.place_is; value = p.value_is; list = rw (eq-eqb (number_in (word 0 0 bytes)) 0 p.number_is, p.value_is) }
reads (Err e) (l, h) =
    let p = parts e.number 0 e.value (omega arith) h in
    let other : number_in (word e.number 0 e.value) ≢ 0 = λ q. omega (arith, p.number_is, q) in
    record {
      number = p.number_is;
      place = p.place_is;
      value = p.value_is;
      list = rw (ne_eqb (number_in (word e.number 0 e.value)) 0 other, p.number_is, p.value_is);
    }

-- A list has at most 4,096 lines of at most 1,024 bytes behind its first.
lines_most : (t : List ℕ) (count : ℕ) → SoundTable t count → (k : ℕ) → k ≤ count → length (lines_of t k) ≤ 1024 * k
unfolding lines_of
lines_most t count s zero h = omega arith
lines_most t count s (suc k) h =
    omega (
      arith,
      lines_most t count s k (omega arith),
      length-append (lines_of t k) (line_of (row_of (block_of t (suc k)))),
      short_at t count s (suc k) (omega arith) h {b = block_of t (suc k)} refl,
    )

list_few : (t : List ℕ) (count : ℕ) → SoundTable t count → length (list_of t) ≤ 4194425
list_few t count s =
    rw (list_is t count s)
    (omega (arith, first_length_lem, length-append first_line (lines_of t count), lines_most t count s count (omega arith), sound_few t count s))

writing_readable : (area w : List ℕ) → length w < 4294967296 → Readable (writing area w).said
unfolding writing
writing_readable area w h = go (ltb (length area) (length w))
  where
    go : (x : Bool) → Readable (cond x (refusing area 15 0) (came (Ok (length w)) (over w area))).said
    go true = (omega arith, omega arith)
    go false = h

export_readable : (t : List ℕ) (file : ℕ) (area : List ℕ) → Readable (exported t file area).said
unfolding exported export_checked export_sound export_past first_unlisted
export_readable t file area = checked (check_table t file) refl
  where
    names : (count : ℕ) → SoundTable t count → (c : Result ℕ ℕ) → first_unlisted t count ≡ c → Readable (export_past t area c).said
    names count s (Err k) e =
        let f : FirstNot (listable_at t) count 1 k = bad_says (listable_at t) count count 1 k e in
        (omega arith, omega (arith, f.to, sound_few t count s))
    names count s (Ok c) e = writing_readable area (list_of t) (omega (arith, list_few t count s))

    second : (count : ℕ) → SoundTable t count → (x : Bool) → Readable (cond x (export_past t area (first_unlisted t count)) (refusing area 5 0)).said
    second count s false = (omega arith, omega arith)
    second count s true = names count s (first_unlisted t count) refl

    checked : (c : Result ℕ ℕ) → check_table t file ≡ c → Readable (export_checked t area c).said
    checked (Err k) e = let m : k ≤ 4096 = rw e at (check_most t file) in (omega arith, omega arith)
    checked (Ok count) e = second count (record { file = file; checked = e }) (eqb (edition_of (block_of t 0)) 2)

import_readable : (list header : List ℕ) (file : ℕ) (area : List ℕ) → Readable (imported list header file area).said
unfolding imported
import_readable list header file area = fits (fit_header header) refl
  where
    past : fit_header header ≡ true → (c : Result ℕ ℕ) → first_wrong list header file ≡ c → Readable (import_past list header area c).said
    past f (Err k) e = (omega arith, omega (arith, line_few list header file (first_wrong list header file) refl k (is_fit header refl f) e))
    past f (Ok c) e =
        let few : count_of header ≤ 4096 = (is_fit header refl f).few in
        writing_readable area (table_said list header) (omega (arith, size_is list header f))

    fits : (x : Bool) → fit_header header ≡ x → Readable (cond x (import_past list header area (first_wrong list header file)) (refusing area 5 0)).said
    fits false f = (omega arith, omega arith)
    fits true f = past f (first_wrong list header file) refl

-- What each call is promised to return is read back.
pub export_said : (table profile list : List ℕ) {r : ℕ} {list' : List ℕ} → ExportPromise table profile list r list'
    → ReadsList (exported table (length profile) list).said r
export_said table profile list p =
    rw p.word_is (reads (exported table (length profile) list).said (export_readable table (length profile) list))

pub import_said : (list header profile table : List ℕ) {r : ℕ} {table' : List ℕ} → ImportPromise list header profile table r table'
    → ReadsList (imported list header (length profile) table).said r
import_said list header profile table p =
    rw p.word_is (reads (imported list header (length profile) table).said (import_readable list header (length profile) table))

-- "Import of an exported list, with the same header block and profile file, gives back the table's bytes": over the two calls, by the words that they return.
-- The list is as many bytes as export says; what is past the table stays.
pub there_and_back : (table profile area : List ℕ) (r : ℕ) (area' : List ℕ) → Bytes table → ExportPromise table profile area r area' → number_in r ≡ 0
    → (other : List ℕ) (s : ℕ) (other' : List ℕ) → length table ≤ length other
    → ImportPromise (take (value_in r) area') (block_of table 0) profile other s other' → (s ≡ length table) × (other' ≡ table ++ drop (length table) other)
unfolding writing over
there_and_back table profile area r area' bytes p zero_number other s other' room q =
    went (exported table (length profile) area).said refl (export_said table profile area p) (export_readable table (length profile) area)
  where
    file : ℕ
    file = length profile

    went : (l : Listed) → (exported table (length profile) area).said ≡ l → ReadsList (exported table (length profile) area).said r
        → Readable (exported table (length profile) area).said → (s ≡ length table) × (other' ≡ table ++ drop (length table) other)
    went (Err x) e w h =
        let n : number_in r ≡ x.number = rw e at w.number in
        let m : (1 ≤ x.number) × (x.value < 4294967296) = rw e at h in
        absurd (omega (arith, m.0))
    went (Ok n) e w h =
        let v : value_in r ≡ n = rw e at w.value in
        let x : exported table (length profile) area ≡ came (Ok n) area' = rw (p.list_is, ← e) in
        let g : imported (take n area') (block_of table 0) (length profile) other ≡ writing other table =
        gives_back table (length profile) area n area' bytes x other in
        let o : imported (take (value_in r) area') (block_of table 0) file other ≡ came (Ok (length table)) (table ++ drop (length table) other) =
        rw v (g ∙ rw (le-ltb (length other) (length table) room)) in
        (omega (arith, q.word_is ∙ ap (λ (a : AfterList). list_word a.said) o), q.table_is ∙ ap (λ (a : AfterList). a.area) o)
