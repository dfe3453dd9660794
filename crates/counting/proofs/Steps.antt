-- One request counted: the steps of the code.
use Rattle.octets.specs.Standard.{ℕ, ◌+◌, ◌%◌, ◌^◌, ◌≤◌, max, ◌≡◌, ap, ◌∙◌, List, get_or, set}
use Rattle.counting.specs.Counting.{Listed, Fits, plus, larger, counted}
use Rattle.counting.specs.Counted.{cell_of}
use Rattle.counting.specs.declared.Entry.{Entry}
use Rattle.counting.specs.Event.{Event}
use Rattle.std.specs.Prelude.{Ok, Err}

pub plus_set : (c : List ℕ) (i a : ℕ) {x : ℕ} → x ≡ (get_or c i 0 + a) % 2 ^ 64 → set c i x ≡ plus a i c
unfolding plus
plus_set c i a e = ap (set c i) e

pub larger_set : (c : List ℕ) (n : ℕ) {x : ℕ} → x ≡ max (get_or c 3 0) n → set c 3 x ≡ larger n c
unfolding larger
larger_set c n e = ap (set c 3) e

pub answered_steps : (c : List ℕ) (e : Entry) {cell : ℕ} {c₁ c₂ c₃ c₄ c₅ : List ℕ} → cell ≡ cell_of (Ok e) → c₁ ≡ plus 1 0 c → c₂ ≡ plus e.altered 2 c₁
    → c₃ ≡ larger e.length c₂ → c₄ ≡ plus 1 4 c₃ → c₅ ≡ plus 1 cell c₄ → c₅ ≡ counted c (Ok e)
unfolding counted
answered_steps c e q e₁ e₂ e₃ e₄ e₅ = e₅ ∙ rw (e₄, e₃, e₂, e₁, q)

pub refused_steps : (c : List ℕ) (n : ℕ) {c₁ c₂ : List ℕ} → c₁ ≡ plus 1 0 c → c₂ ≡ plus 1 (4 + n) c₁ → c₂ ≡ counted c (Err n)
unfolding counted cell_of
refused_steps c n e₁ e₂ = e₂ ∙ rw e₁

-- the two kinds of event
module _ (e : Event) where
  pub answered_fits : (a : Entry) → e ≡ Ok a → Fits e → Listed a.result
  answered_fits a q f = rw q at f

  pub refused_fits : (n : ℕ) → e ≡ Err n → Fits e → n ≤ 15
  refused_fits n q f = let g : Fits (Err n) = rw q at f in g.1

  pub answered_counted : (a : Entry) (c : List ℕ) {x : List ℕ} → e ≡ Ok a → x ≡ counted c (Ok a) → x ≡ counted c e
  answered_counted a c q f = f ∙ rw q

  pub refused_counted : (n : ℕ) (c : List ℕ) {x : List ℕ} → e ≡ Err n → x ≡ counted c (Err n) → x ≡ counted c e
  refused_counted n c q f = f ∙ rw q
