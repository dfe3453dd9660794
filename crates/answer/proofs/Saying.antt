-- What is said of a word fits the buffer, and is the answer or the refusal.
use Rattle.octets.specs.Standard.{ℕ, ◌≤◌, List, [], ◌∷◌, ◌≡◌, refl, sym, ◌∙◌, arith, length, eq-eqb, ne_eqb}
use Rattle.lines.specs.Words.{Words}
use Rattle.calling.specs.Lent.{Lent}
use Rattle.ndushavire.specs.Reads.{number_in, value_in}
use Rattle.ndushavire.specs.Promise.{DecidePromise}
use Rattle.demands.proofs.Demands.{demand_1_word, demand_1_within}
use Rattle.answer.specs.Said.{SaidFits, Said, SaidTo}

-- An answer that a call says lies within the buffer that it leaves.
pub promise_fits : (x : Lent) (w : ℕ) {t' v' o' : List ℕ} → DecidePromise x w t' v' o' → length o' ≡ length x.buffer → SaidFits w (length o')
promise_fits x w p l =
    let r = rw (← p.word_is) at (demand_1_word x) in
    record { within = λ e. (let h = demand_1_within x (sym r.number ∙ e) in omega (arith, h, r.value, l)) }

-- Of number 0 the answer stands; of any other the refusal is written.
module _ (w : ℕ) {number : ℕ} (is : number ≡ number_in w) where
  pub answer_within : (n r : ℕ) → SaidFits w n → number ≡ 0 → r ≡ value_in w → r ≤ n
  answer_within n r f e q = rw q (f.within (sym is ∙ e))

  pub said_answer : (o : List ℕ) {r : ℕ} → number ≡ 0 → r ≡ value_in w → Said w o o r
  said_answer o e f = record { said = rw (eq-eqb (number_in w) 0 (sym is ∙ e)) (record { count = f; bytes = refl }) }

  pub said_refusal : {r : ℕ} {o o' : List ℕ} → (number ≡ 0 → ⊥) → Words (114 ∷ 101 ∷ 102 ∷ 117 ∷ 115 ∷ 101 ∷ 100 ∷ 32 ∷ []) number (10 ∷ []) o o' r
      → Said w o o' r
  said_refusal f h = record { said = rw (ne_eqb (number_in w) 0 (λ e. f (is ∙ e))) (rw is at h) }

pub said_served : (x : Lent) (w : ℕ) {t' v' o' p : List ℕ} {r : ℕ} → DecidePromise x w t' v' o' → Said w o' p r → SaidTo x p r
said_served x w d s = rw (← d.word_is, ← d.buffer_is) s
