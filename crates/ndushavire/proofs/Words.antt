-- The word of each answer, and the promise from its parts.
use Rattle.std.specs.Prelude.{Result}
use Rattle.refusals.specs.declared.Refusal.{Refusal}
use Rattle.deciding.specs.declared.Told.{Told}
use Rattle.octets.specs.Standard.{ℕ, Bool, true, false, cond, ◌≡◌, ◌∙◌, ap, List, length}
use Rattle.table.specs.Area.{check_area}
use Rattle.vectors.specs.VectorFile.{check_vectors}
use Rattle.calling.specs.Leaves.{call_of, Comes}
use Rattle.calling.specs.Lent.{Lent}
use Rattle.calling.specs.Serve.{serve}
use Rattle.plain_calling.specs.Comes as plain
use Rattle.plain_deciding.specs.declared.Said.{Said}
use Rattle.moving.specs.Outcomes.{AfterMove, Move, came, forward, back}
use Rattle.reporting.specs.Counts.{Reports}
use Rattle.reporting.specs.Report.{reported}
use Rattle.row_of_calls.specs.Leaves.{Rows}
use Rattle.row_of_calls.specs.Row.{rowed}
use Rattle.row_of_calls.specs.declared.Ended.{Ended}
use Rattle.taking.specs.TakeOver.{AfterTake, Taken, take_over}
use Rattle.taking.specs.TakeOver as taking
use Rattle.listing.specs.Export.{AfterList, exported, Listed}
use Rattle.listing.specs.Export as listing
use Rattle.importing.specs.Import.{imported}
use Rattle.ndushavire.specs.Word.{word, check_word, call_word, move_word, take_word, list_word, ended_word}
use Rattle.ndushavire.specs.Promise.{CheckPromise, CheckVectorsPromise, DecidePromise, ReportPromise, ForwardPromise, BackPromise, TakePromise}
use Rattle.ndushavire.specs.Promise.{ExportPromise, ImportPromise, RowPromise}

pub check_kept : (table profile : List ℕ) (c : Result ℕ ℕ) (r : ℕ) → c ≡ check_area table (length profile) → r ≡ check_word 5 c → CheckPromise table profile r
check_kept table profile c r e f = record { answer = f ∙ ap (check_word 5) e }

pub vectors_kept : (vectors : List ℕ) (c : Result ℕ ℕ) (r : ℕ) → c ≡ check_vectors vectors → r ≡ check_word 6 c → CheckVectorsPromise vectors r
vectors_kept vectors c r e f = record { answer = f ∙ ap (check_word 6) e }

-- The call as a word.
pub word_promised : (x : Lent) {c : Result Told Refusal} {w : ℕ} {t' v' o' : List ℕ} → Comes (serve x) c t' v' o' → w ≡ call_word (call_of c) → DecidePromise x w t' v' o'
word_promised x s e =
    record { word_is = e ∙ ap call_word s.call_is; table_is = s.table_is; vectors_is = s.vectors_is; buffer_is = s.buffer_is }

-- The same of the plain engine's call.
pub plain_promised : (x : Lent) {c : Result Said Refusal} {w : ℕ} {t' v' o' : List ℕ} → plain.Comes (serve x) c t' v' o' → w ≡ call_word (plain.call_of c)
    → DecidePromise x w t' v' o'
plain_promised x s e =
    record { word_is = e ∙ ap call_word s.call_is; table_is = s.table_is; vectors_is = s.vectors_is; buffer_is = s.buffer_is }

-- The report's number as a word.
pub report_promised : (x : Lent) (area : List ℕ) {n w : ℕ} {t' v' o' area' : List ℕ} → Reports (reported x area) n t' v' o' area' → w ≡ word n 0 0
    → ReportPromise x area w t' v' o' area'
report_promised x area s e =
    record {
      word_is = e ∙ ap (λ (n : ℕ). word n 0 0) s.number_is;
      table_is = s.table_is;
      vectors_is = s.vectors_is;
      buffer_is = s.buffer_is;
      area_is = s.area_is;
    }

-- The moves.
pub forward_promised : (table profile : List ℕ) (issue : ℕ) {m : Move} {w : ℕ} {table' : List ℕ} → came m table' ≡ forward table (length profile) issue
    → w ≡ move_word m → ForwardPromise table profile issue w table'
forward_promised table profile issue e f =
    record { word_is = f ∙ ap (λ (o : AfterMove). move_word o.move) e; table_is = ap (λ (o : AfterMove). o.table) e }

pub back_promised : (table profile : List ℕ) {m : Move} {w : ℕ} {table' : List ℕ} → came m table' ≡ back table (length profile) → w ≡ move_word m
    → BackPromise table profile w table'
back_promised table profile e f = record { word_is = f ∙ ap (λ (o : AfterMove). move_word o.move) e; table_is = ap (λ (o : AfterMove). o.table) e }

-- The take-over.
pub take_promised : (area fresh profile : List ℕ) {t : Taken} {w : ℕ} {area' : List ℕ} → taking.came t area' ≡ take_over area fresh (length profile)
    → w ≡ take_word t → TakePromise area fresh profile w area'
take_promised area fresh profile e f = record { word_is = f ∙ ap (λ (o : AfterTake). take_word o.taken) e; area_is = ap (λ (o : AfterTake). o.area) e }

-- The list.
pub export_promised : (table profile list : List ℕ) {l : Listed} {w : ℕ} {list' : List ℕ} → listing.came l list' ≡ exported table (length profile) list
    → w ≡ list_word l → ExportPromise table profile list w list'
export_promised table profile list e f =
    record { word_is = f ∙ ap (λ (o : AfterList). list_word o.said) e; list_is = ap (λ (o : AfterList). o.area) e }

pub import_promised : (list header profile table : List ℕ) {l : Listed} {w : ℕ} {table' : List ℕ}
    → listing.came l table' ≡ imported list header (length profile) table → w ≡ list_word l → ImportPromise list header profile table w table'
import_promised list header profile table e f =
    record { word_is = f ∙ ap (λ (o : AfterList). list_word o.said) e; table_is = ap (λ (o : AfterList). o.area) e }

-- The row.
pub bit_set : (b : Bool) (n : ℕ) → b ≡ true → n ≡ cond b n 0
bit_set b n e = rw e

pub bit_clear : (b : Bool) (n : ℕ) → b ≡ false → 0 ≡ cond b n 0
bit_clear b n e = rw e

pub row_promised : (x : Lent) (words : List ℕ) {e : Ended} {w : ℕ} {t' v' a' words' : List ℕ} → Rows (rowed x words) e t' v' a' words' → w ≡ ended_word e
    → RowPromise x words w t' v' a' words'
row_promised x words s f =
    record {
      word_is = f ∙ rw (s.number_is, s.served_is, s.altered_is, s.marked_is);
      table_is = s.table_is;
      vectors_is = s.vectors_is;
      answers_is = s.answers_is;
      words_is = s.words_is;
    }
