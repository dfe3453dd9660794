-- The trials as conditions: each test says what its sentence says, and the other way round.
use Rattle.std.specs.Prelude.{Result, Ok, Err}
use Rattle.octets.specs.Standard.{ℕ, zero, suc, ◌+◌, ◌*◌, ◌/◌, ◌^◌, ◌<◌, ◌≤◌, Bool, true, false, ◌&&◌, ◌||◌, not, true≢false, ◌≡◌, refl, sym, ◌∙◌, ap, ◌⊎◌}
use Rattle.octets.specs.Standard.{inl, inr, List, arith, eqb, ltb, length, get_or, eqb-true, eq-eqb, ne_eqb, ltb-true, ltb-false, lt-ltb, le-ltb}
use mathlib.Core.Bool.{not-not}
use Rattle.octets.specs.All.{all_below}
use Rattle.octets.specs.Run.{over}
use Rattle.octets.proofs.All.{all_at, all_true}
use Rattle.octets.proofs.Numbers.{Bytes, word_lt}
use Rattle.record.specs.Fields.{edition_of, count_of, issue_of}
use Rattle.record.specs.HeaderBlock.{header_of}
use Rattle.record.proofs.Tests.{HeaderTests, header_says}
use Rattle.blocks.specs.Blocks.{block_of}
use Rattle.blocks.proofs.Blocks.{block_bytes}
use Rattle.table.specs.Check.{check_table}
use Rattle.table.proofs.Sound.{table_says}
use Rattle.taking.specs.Found.{holds_issue, greater_at, greater_than_all}
use Rattle.taking.specs.TakeOver.{is_sound, unfit, not_greater, too_short, came, refusing, take_over}
use Rattle.taking.specs.Ended.{Fit, Found, Greater, Unfit, Unissued, Short, Takes}

-- A test and its opposite.
pub not_true : (x : Bool) → not x ≡ true → x ≡ false
not_true x e = sym (not-not x) ∙ ap not e

pub not_false : (x : Bool) → not x ≡ false → x ≡ true
not_false x e = sym (not-not x) ∙ ap not e

-- A test that does not hold of all numbers below a bound fails at one.
pub all_fails : (p : ℕ → Bool) (n : ℕ) → all_below p n ≡ false → (i : ℕ) × (i < n) × (p i ≡ false)
unfolding all_below
all_fails p zero e = absurd (true≢false e)
all_fails p (suc n) e = go (all_below p n) refl e (all_fails p n)
  where
    go : (x : Bool) → all_below p n ≡ x → (x && p n) ≡ false → (all_below p n ≡ false → (i : ℕ) × (i < n) × (p i ≡ false)) → (i : ℕ) × (i < suc n) × (p i ≡ false)
    go true f g r = (n, omega arith, g)
    go false f g r = let w = r f in (w.0, omega (arith, w.1), w.2)

-- The issues found.
module _ (area : List ℕ) (issue : ℕ) where
  holds_kind : (b : List ℕ) → holds_issue b ≡ true → (get_or b 0 0 ≡ 1) ⊎ (get_or b 0 0 ≡ 2)
  holds_kind b e = go (eqb (get_or b 0 0) 1) refl e
    where
      go : (x : Bool) → eqb (get_or b 0 0) 1 ≡ x → (x || eqb (get_or b 0 0) 2) ≡ true → (get_or b 0 0 ≡ 1) ⊎ (get_or b 0 0 ≡ 2)
      go true f g = inl (eqb-true _ _ f)
      go false f g = inr (eqb-true _ _ g)

  kind_holds : (b : List ℕ) → (get_or b 0 0 ≡ 1) ⊎ (get_or b 0 0 ≡ 2) → holds_issue b ≡ true
  kind_holds b (inl e) = rw e
  kind_holds b (inr e) = rw e

  pub greater_says : greater_than_all area issue ≡ true → (i : ℕ) → Found area i → i < issue
  unfolding greater_than_all greater_at
  greater_says e i f =
      let g : greater_at area issue f.block ≡ true = all_at (greater_at area issue) (length area / 512) e f.block (omega (arith, f.whole)) in
      let k : ltb (issue_of (block_of area f.block)) issue ≡ true = rw (kind_holds (block_of area f.block) f.kind) at g in
      let m : issue_of (block_of area f.block) < issue = ltb-true _ _ k in
      omega (arith, f.here)

  pub greater_holds : ((i : ℕ) → Found area i → i < issue) → greater_than_all area issue ≡ true
  unfolding greater_than_all greater_at
  greater_holds h = all_true (greater_at area issue) (length area / 512) (λ k l. go k l (holds_issue (block_of area k)) refl)
    where
      go : (k : ℕ) → k < length area / 512 → (x : Bool) → holds_issue (block_of area k) ≡ x → (not x || ltb (issue_of (block_of area k)) issue) ≡ true
      go k l true e = lt-ltb _ _ (h (issue_of (block_of area k)) (record { block = k; whole = omega arith; kind = holds_kind (block_of area k) e; here = refl }))
      go k l false e = refl

  pub greater_fails : greater_than_all area issue ≡ false → (i : ℕ) × Found area i × (issue ≤ i)
  unfolding greater_than_all greater_at
  greater_fails e =
      let w = all_fails (greater_at area issue) (length area / 512) e in
      go w.0 w.1 (holds_issue (block_of area w.0)) refl w.2
    where
      go : (k : ℕ) → k < length area / 512 → (x : Bool) → holds_issue (block_of area k) ≡ x → (not x || ltb (issue_of (block_of area k)) issue) ≡ false
          → (i : ℕ) × Found area i × (issue ≤ i)
      go k l true f g =
          (issue_of (block_of area k), record { block = k; whole = omega arith; kind = holds_kind (block_of area k) f; here = refl }, ltb-false _ _ g)
      go k l false f g = absurd (true≢false g)

-- The new table.
module _ (fresh : List ℕ) (file : ℕ) where
  second : (n : ℕ) → check_table fresh file ≡ Ok n → eqb (edition_of (block_of fresh 0)) 1 ≡ false → edition_of (block_of fresh 0) ≡ 2
  unfolding header_of
  second n e f =
      let h : HeaderTests (block_of fresh 0) = header_says (block_of fresh 0) (table_says fresh file n e).header in
      eqb-true _ _ (rw f at h.edition)

  pub fit_says : unfit fresh file ≡ false → (count : ℕ) × Fit fresh file count
  unfolding unfit
  fit_says e = go (check_table fresh file) refl e
    where
      go : (c : Result ℕ ℕ) → check_table fresh file ≡ c → (not (is_sound c) || eqb (edition_of (block_of fresh 0)) 1) ≡ false → (count : ℕ) × Fit fresh file count
      go (Ok n) f g = (n, record { checked = f; edition = second n f g })
      go (Err k) f g = absurd (true≢false g)

  pub fit_holds : (count : ℕ) → Fit fresh file count → unfit fresh file ≡ false
  unfolding unfit
  fit_holds count f = rw f.checked (ne_eqb _ _ (λ q. let z : ◌≡◌ {A = ℕ} 1 2 = sym q ∙ f.edition in absurd (omega arith)))

  pub unfit_says : unfit fresh file ≡ true → Unfit fresh file
  unfolding unfit
  unfit_says e = go (check_table fresh file) refl e
    where
      go : (c : Result ℕ ℕ) → check_table fresh file ≡ c → (not (is_sound c) || eqb (edition_of (block_of fresh 0)) 1) ≡ true → Unfit fresh file
      go (Ok n) f g = inr (eqb-true _ _ g)
      go (Err k) f g = inl (k, f)

  pub unfit_holds : Unfit fresh file → unfit fresh file ≡ true
  unfolding unfit
  unfit_holds (inl w) = rw w.1
  unfit_holds (inr e) = go (check_table fresh file)
    where
      go : (c : Result ℕ ℕ) → (not (is_sound c) || eqb (edition_of (block_of fresh 0)) 1) ≡ true
      go (Ok n) = eq-eqb _ _ e
      go (Err k) = refl

  pub fit_size : (count : ℕ) → Fit fresh file count → length fresh ≡ 512 * (count + 1)
  fit_size count f = (table_says fresh file count f.checked).size

  pub fit_count : (count : ℕ) → Fit fresh file count → count_of (block_of fresh 0) ≡ count
  unfolding header_of
  fit_count count f = (table_says fresh file count f.checked).counted

-- What comes of it under each condition.
module _ (area fresh : List ℕ) (file : ℕ) where
  pub is_unfit : Unfit fresh file → take_over area fresh file ≡ refusing area 9
  unfolding take_over
  is_unfit u = rw (unfit_holds fresh file u)

  pub is_unissued : Unissued area fresh file → take_over area fresh file ≡ refusing area 10
  unfolding take_over not_greater
  is_unissued u = rw (fit_holds fresh file u.count u.fit, go (greater_than_all area (issue_of (block_of fresh 0))) refl)
    where
      go : (x : Bool) → greater_than_all area (issue_of (block_of fresh 0)) ≡ x → x ≡ false
      go false e = refl
      go true e =
          let l : u.found.issue < issue_of (block_of fresh 0) = greater_says area (issue_of (block_of fresh 0)) e u.found.issue u.found.found in
          absurd (omega (arith, u.found.at_least))

  -- the greatest issue number that there is, found in the area: the new table's, of four bytes, is not greater
  pub is_greatest : (count : ℕ) → Fit fresh file count → Bytes fresh → Found area 4294967295 → take_over area fresh file ≡ refusing area 10
  is_greatest count f bytes found =
      let l : issue_of (block_of fresh 0) < 2 ^ 32 = word_lt (block_of fresh 0) 408 (block_bytes fresh bytes 0) in
      is_unissued (record { count = count; fit = f; found = record { issue = 4294967295; found = found; at_least = omega arith } })

  pub is_short : Short area fresh file → take_over area fresh file ≡ refusing area 11
  unfolding take_over not_greater too_short
  is_short s =
      let l : length area < length fresh = omega (arith, s.size, fit_size fresh file s.count s.fit) in
      rw (fit_holds fresh file s.count s.fit, greater_holds area (issue_of (block_of fresh 0)) s.greater, lt-ltb (length area) (length fresh) l)

  pub is_taken : (count : ℕ) → Takes area fresh file count → take_over area fresh file ≡ came (Ok count) (over fresh area)
  unfolding take_over not_greater too_short
  is_taken count t =
      let l : length fresh ≤ length area = omega (arith, t.size, fit_size fresh file count t.fit) in
      rw (
        fit_holds fresh file count t.fit,
        greater_holds area (issue_of (block_of fresh 0)) t.greater,
        le-ltb (length area) (length fresh) l,
        fit_count fresh file count t.fit,
      )

  -- One of the four holds.
  pub ways : Unfit fresh file ⊎ (Unissued area fresh file ⊎ (Short area fresh file ⊎ ((count : ℕ) × Takes area fresh file count)))
  ways = first (unfit fresh file) refl
    where
      third : (count : ℕ) → Fit fresh file count → Greater area fresh → (x : Bool) → ltb (length area) (length fresh) ≡ x
          → Short area fresh file ⊎ ((count : ℕ) × Takes area fresh file count)
      third count f g true e =
          inl (record { count = count; fit = f; greater = g; size = omega (arith, ltb-true (length area) (length fresh) e, fit_size fresh file count f) })
      third count f g false e =
          inr (count, record { fit = f; greater = g; size = omega (arith, ltb-false (length area) (length fresh) e, fit_size fresh file count f) })

      next : (count : ℕ) → Fit fresh file count → (x : Bool) → greater_than_all area (issue_of (block_of fresh 0)) ≡ x
          → Unissued area fresh file ⊎ (Short area fresh file ⊎ ((count : ℕ) × Takes area fresh file count))
      next count f true e = inr (third count f (greater_says area (issue_of (block_of fresh 0)) e) (ltb (length area) (length fresh)) refl)
      next count f false e =
          let w = greater_fails area (issue_of (block_of fresh 0)) e in
          inl (record { count = count; fit = f; found = record { issue = w.0; found = w.1; at_least = w.2 } })

      first : (x : Bool) → unfit fresh file ≡ x
          → Unfit fresh file ⊎ (Unissued area fresh file ⊎ (Short area fresh file ⊎ ((count : ℕ) × Takes area fresh file count)))
      first true e = inl (unfit_says fresh file e)
      first false e = let w = fit_says fresh file e in inr (next w.0 w.1 (greater_than_all area (issue_of (block_of fresh 0))) refl)
