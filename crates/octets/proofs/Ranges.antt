-- What `(0..n).all(f)` answers, where f is a test of numbers.
use Rattle.octets.specs.Standard.{ℕ, ◌<◌, Bool, true, false, ◌≡◌, refl, sym, ap, ◌∙◌, List, arith, length, get_or, true≢false}
use Rattle.std.specs.Prelude.{Option, MatchOption}
use Rattle.std.specs.Bool.{MatchBool}
use Rattle.std.specs.List.{range_with_len, AllWithin, HoldsAt, FoldsTo}
use Rattle.std.specs.Iterator.{YieldsThen}
use Rattle.std.specs.Fn.{Called}
use Rattle.std.proofs.iter.Yields.{nat_range_steps}
use Rattle.std.proofs.lemmas.Iterator.{cases_from_all, YieldsList-from_range}
use Rattle.std.proofs.lemmas.List.FromFn.{get_or-range_with_len, length-range_with_len}
use Rattle.std.specs.declared.ops.Range.{Range}
use denote.Param.Members.{Mut}
use Rattle.octets.specs.All.{all_below}
use Rattle.octets.proofs.All.{all_at, all_true}

pub all_range : {F : Type 0} {g : Mut F (ℕ × Unit {0}) Bool} {s : Range ℕ} (u : Range ℕ) (f : F) (p : ℕ → Bool) (n : ℕ) {r : Bool}
    → (xs : List ℕ) × (o : Option ℕ) × (j : F) × YieldsThen nat_range_steps s xs o u × FoldsTo (λ e x q. Called g e (x, tt) true q) f xs j
    × MatchOption o (r ≡ true) (λ x. (r ≡ false) × ((h : F) × Called g j (x, tt) false h))
    → s ≡ record { start = 0; end = n } → ((x : ℕ) (y : Bool) (q : F) → Called g f (x, tt) y q → (q ≡ f) × (y ≡ p x)) → r ≡ all_below p n
all_range {F} {g} {s} u f p n {r} ran e calls =
    go r (all_below p n) refl
    (cases_from_all u f r (λ x. true ≡ p x) (λ x. false ≡ p x) ran (YieldsList-from_range 0 n n e (omega arith)) (λ x q k. calls x true q k) (λ x q k. (calls x false q k).1))
  where
    items : List ℕ
    items = range_with_len 0 n

    many : length items ≡ n
    many = length-range_with_len 0 n

    here : (i : ℕ) → i < n → get_or items i 0 ≡ i
    here i h = get_or-range_with_len 0 n i 0 h ∙ omega arith

    go : (x y : Bool) → all_below p n ≡ y → MatchBool x (AllWithin (λ i. true ≡ p i) items 0 (length items)) ((k : ℕ) × (k < length items) × HoldsAt (λ i. false ≡ p i) items k) → x ≡ y
    go true y a m = sym (all_true p n (λ i h. sym (m i 0 (omega arith) (omega (arith, many, h)) ∙ ap p (here i h)))) ∙ a
    go false false a m = refl
    go false true a m =
        let h : m.0 < n = omega (arith, many, m.1) in
        absurd (true≢false (sym (all_at p n a m.0 h) ∙ ap p (sym (here m.0 h)) ∙ sym (m.2 0)))
