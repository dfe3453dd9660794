-- How firm the report's promise is: it leaves one outcome for each input, and the word returned decides the number.
use Rattle.octets.specs.Standard.{ℕ, List, ◌≡◌, sym, ◌∙◌, arith}
use Rattle.calling.specs.Lent.{Lent}
use Rattle.ndushavire.specs.Reads.{number_in, place_in, value_in}
use Rattle.ndushavire.specs.Promise.{ReportPromise}
use Rattle.ndushavire.proofs.Parts.{Parts, parts}
use Rattle.reporting.specs.Report.{reported}

pub report_one : (x : Lent) (area : List ℕ) (r s : ℕ) (t u v w o q a b : List ℕ) → ReportPromise x area r t v o a → ReportPromise x area s u w q b
    → (r ≡ s) × (t ≡ u) × (v ≡ w) × (o ≡ q) × (a ≡ b)
report_one x area r s t u v w o q a b p k = (
  p.word_is ∙ sym k.word_is,
  p.table_is ∙ sym k.table_is,
  p.vectors_is ∙ sym k.vectors_is,
  p.buffer_is ∙ sym k.buffer_is,
  p.area_is ∙ sym k.area_is,
)

module _ (x : Lent) (area : List ℕ) {r : ℕ} {t' v' o' area' : List ℕ} (p : ReportPromise x area r t' v' o' area') where
  back : Parts (reported x area).number 0 0
  back = parts (reported x area).number 0 0 (omega arith) (omega arith)

  pub report_is : reported x area ≡ record { number = number_in r; table = t'; vectors = v'; buffer = o'; area = area' }
  report_is = rw (p.word_is, p.table_is, p.vectors_is, p.buffer_is, p.area_is, back.number_is)

  pub report_besides : (place_in r ≡ 0) × (value_in r ≡ 0)
  report_besides = rw p.word_is (back.place_is, back.value_is)
