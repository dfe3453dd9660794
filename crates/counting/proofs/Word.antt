-- One word where one request more is counted.
use Rattle.octets.specs.Standard.{ℕ, ◌+◌, ◌%◌, ◌^◌, ◌<◌, max, arith, mod-lt, mod-mod, mod-add-mod, add_assoc, max-zero, Bool, true, false, cond, ◌≡◌}
use Rattle.octets.specs.Standard.{refl, sym, ap, ◌∙◌, List, length, get_or, length-set, get_or-set_same, get_or-set_other, eqb, eqb-true, eqb-false, ne_eqb}
use Rattle.counting.specs.Counted.{cell_of, answer_length}
use Rattle.counting.specs.Counting.{Fits, plus, larger, counted}
use Rattle.counting.specs.declared.Entry.{Entry}
use Rattle.counting.specs.Event.{Event}
use Rattle.std.specs.Prelude.{Ok, Err}
use Rattle.counting.proofs.Cells.{cell_above, cell_below}

-- so many in word i, as word j has it
abbrev pub in_word : ℕ → ℕ → ℕ → ℕ
in_word i a j = cond (eqb i j) a 0

pub in_other : (i a j : ℕ) → (i ≡ j → ⊥) → in_word i a j ≡ 0
in_other i a j n = rw (ne_eqb i j n)

pub plus_length : (a i : ℕ) (c : List ℕ) → length (plus a i c) ≡ length c
unfolding plus
plus_length a i c = length-set c i _

pub larger_length : (n : ℕ) (c : List ℕ) → length (larger n c) ≡ length c
unfolding larger
larger_length n c = length-set c 3 _

pub plus_other : (a i : ℕ) (c : List ℕ) (j : ℕ) → (j ≡ i → ⊥) → get_or (plus a i c) j 0 ≡ get_or c j 0
unfolding plus
plus_other a i c j n = get_or-set_other c i j _ 0 n

pub larger_other : (n : ℕ) (c : List ℕ) (j : ℕ) → (j ≡ 3 → ⊥) → get_or (larger n c) j 0 ≡ get_or c j 0
unfolding larger
larger_other n c j h = get_or-set_other c 3 j _ 0 h

plus_here : (a i : ℕ) (c : List ℕ) → i < length c → get_or (plus a i c) i 0 ≡ (get_or c i 0 + a) % 2 ^ 64
unfolding plus
plus_here a i c h = get_or-set_same c i _ 0 h

-- a word and what was put into it, but for a remainder; and a word that was small stays small
pub plus_at : (a i : ℕ) (c : List ℕ) (j : ℕ) → i < length c → get_or (plus a i c) j 0 % 2 ^ 64 ≡ (get_or c j 0 + in_word i a j) % 2 ^ 64
plus_at a i c j h = go (eqb i j) refl
  where
    go : (y : Bool) → eqb i j ≡ y → get_or (plus a i c) j 0 % 2 ^ 64 ≡ (get_or c j 0 + cond y a 0) % 2 ^ 64
    go true e = rw (← eqb-true i j e, plus_here a i c h, mod-mod (get_or c i 0 + a) (2 ^ 64))
    go false e = let n : j ≡ i → ⊥ = λ q. eqb-false i j e (sym q) in rw (plus_other a i c j n) (omega arith)

pub plus_small : (a i : ℕ) (c : List ℕ) (j : ℕ) → i < length c → get_or c j 0 < 2 ^ 64 → get_or (plus a i c) j 0 < 2 ^ 64
plus_small a i c j h s = go (eqb i j) refl
  where
    go : (y : Bool) → eqb i j ≡ y → get_or (plus a i c) j 0 < 2 ^ 64
    go true e = rw (← eqb-true i j e, plus_here a i c h) (mod-lt (get_or c i 0 + a) {m = 2 ^ 64} (omega arith))
    go false e = let n : j ≡ i → ⊥ = λ q. eqb-false i j e (sym q) in rw (plus_other a i c j n) s

-- two sums one after the other
sum_then : (x k v m w : ℕ) → v % 2 ^ 64 ≡ (x + k) % 2 ^ 64 → w % 2 ^ 64 ≡ (v + m) % 2 ^ 64 → w % 2 ^ 64 ≡ (x + (k + m)) % 2 ^ 64
sum_then x k v m w e f =
    f
    ∙ sym (mod-add-mod v (2 ^ 64) m)
    ∙ ap (λ (y : ℕ). (y + m) % 2 ^ 64) e
    ∙ mod-add-mod (x + k) (2 ^ 64) m
    ∙ ap (λ (y : ℕ). y % 2 ^ 64) (add_assoc x k m)

-- what one request adds to a word, that of the largest answer apart
unfoldable pub added_by : Event → ℕ → ℕ
added_by (Ok e) j = in_word 0 1 j + in_word 2 e.altered j + in_word 4 1 j + in_word (cell_of (Ok e)) 1 j
added_by (Err n) j = in_word 0 1 j + in_word (cell_of (Err n)) 1 j

pub counted_length : (c : List ℕ) (e : Event) → length (counted c e) ≡ length c
unfolding counted
counted_length c (Ok e) = simp (plus_length, larger_length)
counted_length c (Err n) = simp plus_length

module _ (c : List ℕ) (l : length c ≡ 145) where
  -- the words after each step
  abbrev c₁ : List ℕ
  c₁ = plus 1 0 c

  l₁ : length c₁ ≡ 145
  l₁ = plus_length 1 0 c ∙ l

  module _ (e : Entry) where
    abbrev c₂ : List ℕ
    c₂ = plus e.altered 2 c₁

    abbrev c₃ : List ℕ
    c₃ = larger e.length c₂

    abbrev c₄ : List ℕ
    c₄ = plus 1 4 c₃

    l₂ : length c₂ ≡ 145
    l₂ = plus_length e.altered 2 c₁ ∙ l₁

    l₃ : length c₃ ≡ 145
    l₃ = larger_length e.length c₂ ∙ l₂

    l₄ : length c₄ ≡ 145
    l₄ = plus_length 1 4 c₃ ∙ l₃

  pub counted_at : (e : Event) → Fits e → (j : ℕ) → (j ≡ 3 → ⊥) → get_or (counted c e) j 0 % 2 ^ 64 ≡ (get_or c j 0 + added_by e j) % 2 ^ 64
  unfolding counted added_by
  counted_at (Ok e) f j n =
      let k₂ : ℕ = in_word 0 1 j + in_word 2 e.altered j in
      let p₂ : get_or (c₂ e) j 0 % 2 ^ 64 ≡ (get_or c j 0 + k₂) % 2 ^ 64 =
      sum_then (get_or c j 0) (in_word 0 1 j) (get_or c₁ j 0) (in_word 2 e.altered j) (get_or (c₂ e) j 0)
      (plus_at 1 0 c j (omega (arith, l)))
      (plus_at e.altered 2 c₁ j (omega (arith, l₁))) in
      let p₃ : get_or (c₃ e) j 0 % 2 ^ 64 ≡ (get_or c j 0 + k₂) % 2 ^ 64 = rw (larger_other e.length (c₂ e) j n) p₂ in
      let p₄ : get_or (c₄ e) j 0 % 2 ^ 64 ≡ (get_or c j 0 + (k₂ + in_word 4 1 j)) % 2 ^ 64 =
      sum_then (get_or c j 0) k₂ (get_or (c₃ e) j 0) (in_word 4 1 j) (get_or (c₄ e) j 0) p₃ (plus_at 1 4 (c₃ e) j (omega (arith, l₃ e))) in
      sum_then (get_or c j 0) (k₂ + in_word 4 1 j) (get_or (c₄ e) j 0) (in_word (cell_of (Ok e)) 1 j) (get_or (plus 1 (cell_of (Ok e)) (c₄ e)) j 0)
      p₄
      (plus_at 1 (cell_of (Ok e)) (c₄ e) j (omega (arith, l₄ e, cell_below (Ok e) f)))
  counted_at (Err k) f j n =
      sum_then (get_or c j 0) (in_word 0 1 j) (get_or c₁ j 0) (in_word (cell_of (Err k)) 1 j) (get_or (plus 1 (cell_of (Err k)) c₁) j 0)
      (plus_at 1 0 c j (omega (arith, l)))
      (plus_at 1 (cell_of (Err k)) c₁ j (omega (arith, l₁, cell_below (Err k) f)))

  pub counted_small : (e : Event) → Fits e → (j : ℕ) → (j ≡ 3 → ⊥) → get_or c j 0 < 2 ^ 64 → get_or (counted c e) j 0 < 2 ^ 64
  unfolding counted
  counted_small (Ok e) f j n s =
      let s₁ : get_or c₁ j 0 < 2 ^ 64 = plus_small 1 0 c j (omega (arith, l)) s in
      let s₂ : get_or (c₂ e) j 0 < 2 ^ 64 = plus_small e.altered 2 c₁ j (omega (arith, l₁)) s₁ in
      let s₃ : get_or (c₃ e) j 0 < 2 ^ 64 = rw (larger_other e.length (c₂ e) j n) s₂ in
      let s₄ : get_or (c₄ e) j 0 < 2 ^ 64 = plus_small 1 4 (c₃ e) j (omega (arith, l₃ e)) s₃ in
      plus_small 1 (cell_of (Ok e)) (c₄ e) j (omega (arith, l₄ e, cell_below (Ok e) f)) s₄
  counted_small (Err k) f j n s =
      plus_small 1 (cell_of (Err k)) c₁ j (omega (arith, l₁, cell_below (Err k) f)) (plus_small 1 0 c j (omega (arith, l)) s)

  -- the largest answer
  pub counted_largest : (e : Event) → Fits e → get_or (counted c e) 3 0 ≡ max (get_or c 3 0) (answer_length e)
  unfolding counted larger
  counted_largest (Ok e) f =
      plus_other 1 (cell_of (Ok e)) (c₄ e) 3 (omega (arith, cell_above (Ok e) f))
      ∙ plus_other 1 4 (c₃ e) 3 (omega arith)
      ∙ get_or-set_same (c₂ e) 3 (max (get_or (c₂ e) 3 0) e.length) 0 (omega (arith, l₂ e))
      ∙ rw (plus_other e.altered 2 c₁ 3 (omega arith), plus_other 1 0 c 3 (omega arith))
  counted_largest (Err k) f =
      plus_other 1 (cell_of (Err k)) c₁ 3 (omega (arith, cell_above (Err k) f))
      ∙ plus_other 1 0 c 3 (omega arith)
      ∙ sym (max-zero (get_or c 3 0))
