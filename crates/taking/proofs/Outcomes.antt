-- What an outcome says of its condition, what a success leaves, what a cut leaves, and what mends it.
use Rattle.std.specs.Prelude.{Ok, Err}
use Rattle.octets.specs.Standard.{ℕ, suc, ◌+◌, ◌*◌, ◌<◌, ◌≤◌, Bool, true, false, ◌≡◌, refl, sym, ◌∙◌, ap, ◌⊎◌, inl, inr, List, arith, eqb, ltb}
use Rattle.octets.specs.Standard.{length, drop, drop_at, eqb-true, eqb-false, lt-ltb, le-ltb}
use Rattle.octets.specs.Run.{over}
use Rattle.octets.proofs.Writes.{over_length}
use Rattle.record.specs.Fields.{issue_of}
use Rattle.blocks.specs.Blocks.{block_of, table_of}
use Rattle.blocks.proofs.Blocks.{table_same, table_is}
use Rattle.table.specs.Area.{table_in, check_area}
use Rattle.table.specs.Check.{check_table}
use Rattle.taking.specs.Cut.{Cut}
use Rattle.taking.specs.Ended.{Fit, Found, Unfit, Unissued, Short, Takes, Ended}
use Rattle.taking.specs.TakeOver.{AfterTake, came, refusing, take_over}
use Rattle.taking.specs.Torn.{AllChosen, FirstMissing, NoneWithin, FirstWithin, lower_bad, Torn}
use Rattle.taking.specs.Written.{with_block, cut_after, torn_at, torn_after}
use Rattle.taking.specs.TakeOver.{Taken, refused}
use Rattle.taking.specs.declared.Refusal.{Refusal}
use Rattle.taking.proofs.Conditions.{fit_size, fit_count, is_unfit, is_unissued, is_short, is_taken, ways}
use Rattle.taking.proofs.Mixed.{Holds, reads_new, reads_missing, reads_past, reads_within, found_new, found_most, cut_holds, torn_holds}
use Rattle.taking.proofs.Mixed.{FourWays, four_ways}
use Rattle.taking.proofs.Turns as turns

-- An outcome is one thing only.
refused_same : (i j : ℕ) → refused i ≡ refused j → i ≡ j
refused_same i j e = let r : ◌≡◌ {A = Refusal} (record { number = i }) (record { number = j }) = cc in ap (λ (x : Refusal). x.number) r

took_same : (i j : ℕ) → ◌≡◌ {A = Taken} (Ok i) (Ok j) → i ≡ j
took_same i j e = cc

refused_took : {A : Type 0} (i j : ℕ) → ◌≡◌ {A = Taken} (refused i) (Ok j) → A
refused_took i j e = let z : ◌≡◌ {A = ℕ} 0 1 = cc in absurd (omega arith)

pub came_same : {r s : Taken} {x y : List ℕ} → came r x ≡ came s y → (r ≡ s) × (x ≡ y)
came_same e = (ap (λ (o : AfterTake). o.taken) e, ap (λ (o : AfterTake). o.area) e)

module _ (area fresh : List ℕ) (file : ℕ) where
  said : {o : AfterTake} {r : Taken} → take_over area fresh file ≡ o → (take_over area fresh file).taken ≡ r → r ≡ o.taken
  said f e = sym e ∙ ap (λ (z : AfterTake). z.taken) f

  pub ended : (r : Taken) → (take_over area fresh file).taken ≡ r → Ended area fresh file r
  ended r e = go (ways area fresh file)
    where
      go : Unfit fresh file ⊎ (Unissued area fresh file ⊎ (Short area fresh file ⊎ ((count : ℕ) × Takes area fresh file count))) → Ended area fresh file r
      go (inl u) = inl (said (is_unfit area fresh file u) e, u)
      go (inr (inl u)) = inr (inl (said (is_unissued area fresh file u) e, u))
      go (inr (inr (inl s))) = inr (inr (inl (said (is_short area fresh file s) e, s)))
      go (inr (inr (inr w))) = inr (inr (inr (w.0, said (is_taken area fresh file w.0 w.1) e, w.1)))

  pub refused_nine : (take_over area fresh file).taken ≡ refused 9 → Unfit fresh file
  refused_nine e = go (ended (refused 9) e)
    where
      go : Ended area fresh file (refused 9) → Unfit fresh file
      go (inl w) = w.1
      go (inr (inl w)) = let q : ◌≡◌ {A = ℕ} 9 10 = refused_same 9 10 w.0 in absurd (omega arith)
      go (inr (inr (inl w))) = let q : ◌≡◌ {A = ℕ} 9 11 = refused_same 9 11 w.0 in absurd (omega arith)
      go (inr (inr (inr w))) = refused_took 9 w.0 w.1

  pub refused_ten : (take_over area fresh file).taken ≡ refused 10 → Unissued area fresh file
  refused_ten e = go (ended (refused 10) e)
    where
      go : Ended area fresh file (refused 10) → Unissued area fresh file
      go (inl w) = let q : ◌≡◌ {A = ℕ} 10 9 = refused_same 10 9 w.0 in absurd (omega arith)
      go (inr (inl w)) = w.1
      go (inr (inr (inl w))) = let q : ◌≡◌ {A = ℕ} 10 11 = refused_same 10 11 w.0 in absurd (omega arith)
      go (inr (inr (inr w))) = refused_took 10 w.0 w.1

  pub refused_eleven : (take_over area fresh file).taken ≡ refused 11 → Short area fresh file
  refused_eleven e = go (ended (refused 11) e)
    where
      go : Ended area fresh file (refused 11) → Short area fresh file
      go (inl w) = let q : ◌≡◌ {A = ℕ} 11 9 = refused_same 11 9 w.0 in absurd (omega arith)
      go (inr (inl w)) = let q : ◌≡◌ {A = ℕ} 11 10 = refused_same 11 10 w.0 in absurd (omega arith)
      go (inr (inr (inl w))) = w.1
      go (inr (inr (inr w))) = refused_took 11 w.0 w.1

  pub took : (count : ℕ) → (take_over area fresh file).taken ≡ Ok count → Takes area fresh file count
  took count e = go (ended (Ok count) e)
    where
      go : Ended area fresh file (Ok count) → Takes area fresh file count
      go (inl w) = refused_took 9 count (sym w.0)
      go (inr (inl w)) = refused_took 10 count (sym w.0)
      go (inr (inr (inl w))) = refused_took 11 count (sym w.0)
      go (inr (inr (inr w))) = rw (took_same count w.0 w.1) w.2

  pub leaves : (number : ℕ) → (take_over area fresh file).taken ≡ refused number → (take_over area fresh file).area ≡ area
  leaves number e = go (ways area fresh file)
    where
      kept : {n : ℕ} → take_over area fresh file ≡ refusing area n → (take_over area fresh file).area ≡ area
      kept f = ap (λ (o : AfterTake). o.area) f

      go : Unfit fresh file ⊎ (Unissued area fresh file ⊎ (Short area fresh file ⊎ ((count : ℕ) × Takes area fresh file count)))
          → (take_over area fresh file).area ≡ area
      go (inl u) = kept (is_unfit area fresh file u)
      go (inr (inl u)) = kept (is_unissued area fresh file u)
      go (inr (inr (inl s))) = kept (is_short area fresh file s)
      go (inr (inr (inr w))) = refused_took number w.0 (said (is_taken area fresh file w.0 w.1) e)

module _ (area fresh : List ℕ) (file count : ℕ) (t : Takes area fresh file count) where
  size : length fresh ≡ 512 * (count + 1)
  size = fit_size fresh file count t.fit

  pub cut_done : cut_after area fresh (count + 1) ≡ over fresh area
  cut_done = turns.cut_end area fresh (count + 1) (count + 1) size (omega arith) (omega arith) refl

  pub cut_turn : (k : ℕ) → k ≤ count → with_block (cut_after area fresh k) fresh k ≡ cut_after area fresh (k + 1)
  cut_turn k h = turns.cut_next area fresh (count + 1) k size (omega (arith, t.size, size)) (omega arith) refl refl

  -- a success
  pub done : (take_over area fresh file).area ≡ over fresh area
  done = ap (λ (o : AfterTake). o.area) (is_taken area fresh file count t)

  pub done_in : table_in (over fresh area) ≡ fresh
  done_in =
      sym (ap table_in cut_done)
      ∙ reads_new area fresh file count t (cut_after area fresh (count + 1)) (λ (j : ℕ). ltb j (count + 1))
      (cut_holds area fresh file count t (count + 1) (omega arith)) (lt-ltb 0 (count + 1) (omega arith)) (λ j l. lt-ltb j (count + 1) (omega arith))

  pub done_reads : check_area (over fresh area) file ≡ Ok count
  unfolding check_area
  done_reads = ap (λ (z : List ℕ). check_table z file) done_in ∙ t.fit.checked

  pub done_past : drop (512 * (count + 1)) (over fresh area) ≡ drop (512 * (count + 1)) area
  unfolding over
  done_past = drop_at fresh (drop (length fresh) area) (512 * (count + 1)) size ∙ ap (λ (n : ℕ). drop n area) size

  pub done_length : length (over fresh area) ≡ length area
  done_length = over_length fresh area (omega (arith, size, t.size))

  -- a cut after k blocks
  pub cut_between : (k : ℕ) → 0 < k → k ≤ count → check_area (cut_after area fresh k) file ≡ Err k
  cut_between k a b =
      reads_missing area fresh file count t (cut_after area fresh k) (λ (j : ℕ). ltb j k) (cut_holds area fresh file count t k (omega arith)) k
      (record { from = a; to = b; here = le-ltb k k (omega arith); before = λ j l. lt-ltb j k l })

  pub cut : (k : ℕ) → k ≤ count + 1 → Cut area fresh file count k
  cut k h = go (eqb k 0) refl (eqb k (count + 1)) refl
    where
      go : (x : Bool) → eqb k 0 ≡ x → (y : Bool) → eqb k (count + 1) ≡ y → Cut area fresh file count k
      go true e y f = let q : k ≡ 0 = eqb-true k 0 e in inl (q, ap (cut_after area fresh) q ∙ sym (turns.cut_none area fresh))
      go false e true f = let q : k ≡ count + 1 = eqb-true k (count + 1) f in inr (inl (q, ap table_in (ap (cut_after area fresh) q ∙ cut_done) ∙ done_in))
      go false e false f =
          let a : k ≡ 0 → ⊥ = eqb-false k 0 e in
          let b : k ≡ count + 1 → ⊥ = eqb-false k (count + 1) f in
          inr (inr (omega arith, omega arith, cut_between k (omega arith) (omega arith)))

  -- a choice of blocks
  module _ (chosen : ℕ → Bool) where
    abbrev x : List ℕ
    x = torn_after area fresh chosen

    w : Holds area fresh x count chosen
    w = torn_holds area fresh file count t chosen

    pub torn_all : AllChosen chosen count → table_in x ≡ fresh
    torn_all h = reads_new area fresh file count t x chosen w (h 0 (omega arith)) h

    pub torn_missing : (k : ℕ) → FirstMissing chosen count k → check_area x file ≡ Err k
    torn_missing k m = reads_missing area fresh file count t x chosen w k m

    pub torn_past : NoneWithin area chosen count → table_in x ≡ table_in area
    torn_past h = reads_past area fresh file count t x chosen w (h 0 (omega arith) (omega arith)) h

    pub torn_within : (k : ℕ) → FirstWithin area chosen count k → check_area x file ≡ lower_bad k (check_area area file)
    torn_within k m = reads_within area fresh file count t x chosen w k m

    pub torn : Torn area fresh file count chosen
    torn = go (four_ways area chosen count)
      where
        go : FourWays area chosen count → Torn area fresh file count chosen
        go (inl a) = inl (a, torn_all a)
        go (inr (inl m)) = inr (inl (m.0, m.1, torn_missing m.0 m.1))
        go (inr (inr (inl n))) = inr (inr (inl (n, torn_past n)))
        go (inr (inr (inr m))) = inr (inr (inr (m.0, m.1, torn_within m.0 m.1)))

    -- all blocks, in whatever order, are a success
    pub torn_done : AllChosen chosen count → x ≡ over fresh area
    unfolding torn_after torn_at over
    torn_done h =
        let n : 512 * suc count ≡ length fresh = omega (arith, size) in
        let e : table_of (torn_at area fresh chosen) (suc count) ≡ fresh =
        table_same (torn_at area fresh chosen) (block_of fresh) (suc count) (λ j l. rw (h j (omega arith)))
        ∙ sym (table_is fresh (suc count) (sym n)) in
        rw (fit_count fresh file count t.fit, n, e)

    -- an area that holds a block of the new table takes no table of the same issue number,
    pub not_again : (k : ℕ) → k ≤ count → chosen k ≡ true → (other : List ℕ) (n : ℕ) → Fit other file n
        → issue_of (block_of other 0) ≡ issue_of (block_of fresh 0) → take_over x other file ≡ refusing x 10
    not_again k l y other n f e =
        let g : Found x (issue_of (block_of fresh 0)) = found_new area fresh file count t x chosen w k l y in
        is_unissued x other file (record { count = n; fit = f; found = record { issue = issue_of (block_of fresh 0); found = g; at_least = omega arith } })

    -- and any that is fit, has a greater one, and has room
    pub mended : (other : List ℕ) (n : ℕ) → Fit other file n → issue_of (block_of fresh 0) < issue_of (block_of other 0) → 512 * (n + 1) ≤ length area
        → Takes x other file n
    mended other n f l room =
        record {
          fit = f;
          greater = λ i g. omega (arith, l, found_most area fresh file count t x chosen w i g);
          size = omega (arith, w.size);
        }
