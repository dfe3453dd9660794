-- Laws of trials in order, by induction: "exactly when, and none earlier".
use Rattle.octets.specs.Standard.{ℕ, List, [], ◌∷◌, ◌++◌, Bool, true, false, cond, not, ◌||◌, ◌&&◌, ◌≡◌, sym, ◌∙◌, ◌≢◌, eqb, eqb-false, eq-eqb}
use Rattle.octets.specs.Standard.{ne_eqb}
use Rattle.diameter.specs.Put.{All}
use Rattle.refusals.specs.Trial.{Trial, tried, any_holds}
use Rattle.demands.specs.Call.{Exactly}

-- the numbers differ, and none is 0
abbrev pub Numbered : List Trial → Type 0
Numbered [] = Unit
Numbered (r ∷ rs) = (eqb r.number 0 ≡ false) × All (λ (q : Trial). eqb q.number r.number ≡ false) rs × Numbered rs

other_number : (n : ℕ) (earlier later : List Trial) (r : Trial) → All (λ (q : Trial). eqb q.number n ≡ false) (earlier ++ (r ∷ later)) → r.number ≢ n
other_number n [] later r h = eqb-false r.number n h.0
other_number n (e ∷ earlier) later r h = other_number n earlier later r h.1

-- What is given says the number of its trial, and what is otherwise says 0.
module _ {X : Type 0} (give : Trial → X) (otherwise : X) (number : X → ℕ) (is : (r : Trial) → number (give r) ≡ r.number) (zero : number otherwise ≡ 0) where
  abbrev comes : List Trial → ℕ
  comes rs = number (tried give otherwise rs)

  absent : (n : ℕ) → n ≢ 0 → (rs : List Trial) → All (λ (q : Trial). eqb q.number n ≡ false) rs → eqb (comes rs) n ≡ false
  unfolding tried
  absent n l [] h = ne_eqb (number otherwise) n (λ e. l (sym e ∙ zero))
  absent n l (r ∷ rs) h = go r.holds (absent n l rs h.1)
    where
      go : (x : Bool) → eqb (comes rs) n ≡ false → eqb (number (cond x (give r) (tried give otherwise rs))) n ≡ false
      go true next = rw (is r) h.0
      go false next = next

  -- A trial's number comes exactly when it holds and none earlier does.
  given : (earlier later : List Trial) (r : Trial) → Numbered (earlier ++ (r ∷ later))
      → eqb (comes (earlier ++ (r ∷ later))) r.number ≡ (not (any_holds earlier) && r.holds)
  unfolding tried any_holds
  given [] later r h = go r.holds
    where
      go : (x : Bool) → eqb (number (cond x (give r) (tried give otherwise later))) r.number ≡ x
      go true = eq-eqb (number (give r)) r.number (is r)
      go false = absent r.number (eqb-false r.number 0 h.0) later h.1
  given (e ∷ earlier) later r h = go e.holds (given earlier later r h.2)
    where
      go : (x : Bool) → eqb (comes (earlier ++ (r ∷ later))) r.number ≡ (not (any_holds earlier) && r.holds)
          → eqb (number (cond x (give e) (tried give otherwise (earlier ++ (r ∷ later))))) r.number ≡ (not (x || any_holds earlier) && r.holds)
      go true next = ne_eqb (number (give e)) r.number (λ q. other_number e.number earlier later r h.1 (sym q ∙ is e))
      go false next = next

  none : (rs : List Trial) → Numbered rs → eqb (comes rs) 0 ≡ not (any_holds rs)
  unfolding tried any_holds
  none [] h = eq-eqb (number otherwise) 0 zero
  none (r ∷ rs) h = go r.holds (none rs h.2)
    where
      go : (x : Bool) → eqb (comes rs) 0 ≡ not (any_holds rs) → eqb (number (cond x (give r) (tried give otherwise rs))) 0 ≡ not (x || any_holds rs)
      go true next = rw (is r) h.0
      go false next = next

  pub exactly : (rs : List Trial) → Numbered rs → Exactly rs (comes rs)
  exactly rs h = record { given = λ earlier later r e. rw e (given earlier later r (rw e at h)); none = none rs h }
