-- A loop that stops at the first number at which a test fails.
use Rattle.octets.specs.Standard.{ℕ, ◌+◌, ◌<◌, Bool, true, false, true≢false, ◌≡◌, refl, sym, ◌∙◌}
use Rattle.octets.specs.All.{all_below}
use Rattle.octets.proofs.All.{all_at, all_more}

-- it failed at one
pub all_fails : (p : ℕ → Bool) (n k : ℕ) → k < n → p k ≡ false → false ≡ all_below p n
all_fails p n k h e = go (all_below p n) refl
  where
    go : (x : Bool) → all_below p n ≡ x → false ≡ x
    go true f = absurd (true≢false (sym (all_at p n f k h) ∙ e))
    go false f = refl

-- it held at one more
pub all_on : (p : ℕ → Bool) (k : ℕ) → true ≡ all_below p k → p k ≡ true → true ≡ all_below p (k + 1)
all_on p k e f = all_more p k {good = true} {x = true} e (sym f)
