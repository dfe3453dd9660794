-- How firm the row's promise is: it leaves one outcome for each input, and its word is read back.
use Rattle.octets.specs.Standard.{ℕ, ◌+◌, ◌≤◌, ◌/◌, ◌%◌, Bool, true, false, cond, List, ◌≡◌, refl, sym, ◌∙◌, arith, eqb}
use Rattle.calling.specs.Lent.{Lent}
use Rattle.ndushavire.specs.Word.{row_word}
use Rattle.ndushavire.specs.Promise.{RowPromise}
use Rattle.ndushavire.proofs.Parts.{Parts, parts}
use Rattle.row_of_calls.specs.Row.{Rowed, rowed}
use Rattle.row_laws.specs.Reads.{row_in, ReadsRow}
use Rattle.row_laws.proofs.Ends.{row_limit}

pub one_outcome : (x : Lent) (ws : List ℕ) (r s : ℕ) (t u v w a b o q : List ℕ) → RowPromise x ws r t v a o → RowPromise x ws s u w b q
    → (r ≡ s) × (t ≡ u) × (v ≡ w) × (a ≡ b) × (o ≡ q)
one_outcome x ws r s t u v w a b o q p k = (
  p.word_is ∙ sym k.word_is,
  p.table_is ∙ sym k.table_is,
  p.vectors_is ∙ sym k.vectors_is,
  p.answers_is ∙ sym k.answers_is,
  p.words_is ∙ sym k.words_is,
)

flags : Bool → Bool → ℕ
flags a m = cond a 1 0 + cond m 2 0

flags_few : (a m : Bool) → flags a m ≤ 3
unfolding flags
flags_few true true = omega arith
flags_few true false = omega arith
flags_few false true = omega arith
flags_few false false = omega arith

flags_back : (a m : Bool) → (eqb (flags a m % 2) 1 ≡ a) × (eqb (flags a m / 2) 1 ≡ m)
unfolding flags
flags_back true true = (refl, refl)
flags_back true false = (refl, refl)
flags_back false true = (refl, refl)
flags_back false false = (refl, refl)

pub row_reads : (r : Rowed) → r.served ≤ 4294967295 → ReadsRow r (row_word r)
unfolding flags
row_reads r h =
    let place : ℕ = flags r.altered r.marked in
    let p : Parts r.number place r.served = parts r.number place r.served (omega (arith, flags_few r.altered r.marked)) (omega (arith, h)) in
    record {
      number = p.number_is;
      value = p.value_is;
      altered = rw p.place_is (flags_back r.altered r.marked).0;
      marked = rw p.place_is (flags_back r.altered r.marked).1;
    }

module _ (x : Lent) (words : List ℕ) {r : ℕ} {t' v' a' w' : List ℕ} (p : RowPromise x words r t' v' a' w') where
  pub row_says : ReadsRow (rowed x words) r
  row_says = rw p.word_is (row_reads (rowed x words) (row_limit x words))

  pub row_means : rowed x words ≡ row_in r t' v' a' w'
  row_means =
      rw (p.table_is, p.vectors_is, p.answers_is, p.words_is, row_says.number, row_says.value, row_says.altered, row_says.marked)
