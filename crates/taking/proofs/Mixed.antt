-- How an area reads of which some blocks are the new table's, and all others as they were.
use Rattle.std.specs.Prelude.{Result, Ok, Err}
use Rattle.octets.specs.Standard.{ℕ, zero, suc, ◌+◌, ◌-◌, ◌*◌, ◌<◌, ◌≤◌, min, Bool, true, false, ◌&&◌, not, cond, true≢false, ◌≡◌, refl, sym, ◌∙◌, ap}
use Rattle.octets.specs.Standard.{◌⊎◌, inl, inr, List, ◌++◌, arith, eqb, leb, ltb, length, take, drop, take-append-drop, length-take, length-take-le}
use Rattle.octets.specs.Standard.{drop-drop, le_of_lt, eq-eqb, le-leb, leb-true, leb-false, ltb-true, ltb-false}
use lib.Seq.{drop-append-add}
use Rattle.octets.proofs.All.{and_left, and_right}
use Rattle.record.specs.Fields.{count_of, issue_of}
use Rattle.record.specs.HeaderBlock.{header_of, sound_header}
use Rattle.record.specs.RecordBlock.{sound_record}
use Rattle.record.specs.declared.header.Header.{Header}
use Rattle.blocks.specs.Blocks.{block_of, table_of, first_bad}
use Rattle.blocks.proofs.Blocks.{block_length, table_same, table_front, table_is, table_length, table_block, front_block, take_block, past_block}
use Rattle.blocks.proofs.Blocks.{front_length}
use Rattle.blocks.proofs.First.{FirstNot, good_each, bad_says, bad_holds}
use Rattle.table.specs.Area.{size_in, table_in, check_area}
use Rattle.table.specs.Check.{stands_at, sound_at, check_records, check_table}
use Rattle.table.proofs.Areas.{sound_same, in_blocks, in_block, in_first, in_length}
use Rattle.table.proofs.Heads.{record_kind, record_issue, header_kind}
use Rattle.table.proofs.Sound.{TableTests, table_says, tests_sound}
use Rattle.taking.specs.Ended.{Found, Takes}
use Rattle.taking.specs.Torn.{AllChosen, FirstMissing, NoneWithin, FirstWithin, lower_bad}
use Rattle.taking.specs.Written.{cut_after, torn_at, torn_after}
use Rattle.taking.proofs.Conditions.{fit_count, not_true, not_false}

-- The first number that is not good, where the tests differ from k on and k fails the new one.
module _ (old new : ℕ → Bool) (count n from k : ℕ) (above : from ≤ k) (below : k < from + n) (here : new k ≡ false)
    (before : (i : ℕ) → from ≤ i → i < k → new i ≡ old i) where
  pub first_lower : first_bad new count n from ≡ lower_bad k (first_bad old count n from)
  first_lower = go (first_bad old count n from) refl
    where
      at_k : ((i : ℕ) → from ≤ i → i < k → old i ≡ true) → first_bad new count n from ≡ Err k
      at_k good = bad_holds new count n from k (record { from = above; to = below; here = here; before = λ i a b. before i a b ∙ good i a b })

      at_j : (j : ℕ) → FirstNot old n from j → (x : Bool) → ltb j k ≡ x → first_bad new count n from ≡ Err (min j k)
      at_j j s true e =
          let l : j < k = ltb-true j k e in
          let m : min j k ≡ j = omega arith in
          rw m
          (bad_holds new count n from j
          (record {
            from = s.from;
            to = s.to;
            here = before j s.from l ∙ s.here;
            before = λ i a b. before i a (omega arith) ∙ s.before i a b;
          }))
      at_j j s false e =
          let l : k ≤ j = ltb-false j k e in
          let m : min j k ≡ k = omega arith in
          rw m (at_k (λ i a b. s.before i a (omega arith)))

      go : (c : Result ℕ ℕ) → first_bad old count n from ≡ c → first_bad new count n from ≡ lower_bad k c
      go (Ok m) e = at_k (λ i a b. good_each old count m n from e i a (omega arith))
      go (Err j) e = at_j j (bad_says old count n from j e) (ltb j k) refl

-- the blocks that are written are the new table's, and all others as they were
pub record Holds (area fresh x : List ℕ) (count : ℕ) (written : ℕ → Bool) : Type 0 where
  pub size : length x ≡ length area
  pub new : (j : ℕ) → j ≤ count → written j ≡ true → block_of x j ≡ block_of fresh j
  pub old : (j : ℕ) → j ≤ count → written j ≡ false → block_of x j ≡ block_of area j
  pub past : (j : ℕ) → count < j → block_of x j ≡ block_of area j

module _ (area fresh : List ℕ) (file count : ℕ) (t : Takes area fresh file count) where
  tests : TableTests fresh file count
  tests = table_says fresh file count t.fit.checked

  abbrev new : Header
  new = header_of (block_of fresh 0)

  counted : count_of (block_of fresh 0) ≡ count
  counted = fit_count fresh file count t.fit

  -- every block of the new table has its issue number
  new_record : (k : ℕ) → 1 ≤ k → k ≤ count → sound_record (block_of fresh k) k new file ≡ true
  new_record k a b = tests_sound fresh file count tests k a b

  new_issue : (k : ℕ) → k ≤ count → issue_of (block_of fresh k) ≡ issue_of (block_of fresh 0)
  unfolding header_of
  new_issue zero h = refl
  new_issue (suc k) h = record_issue (block_of fresh (suc k)) (suc k) new file (new_record (suc k) (omega arith) h)

  -- an old block is no sound record under the new header
  old_bad : (k : ℕ) → k ≤ count → (y : Bool) → sound_record (block_of area k) k new file ≡ y → y ≡ false
  unfolding header_of
  old_bad k l false e = refl
  old_bad k l true e =
      let f : Found area (issue_of (block_of area k)) =
      record { block = k; whole = omega (arith, t.size); kind = inr (record_kind (block_of area k) k new file e); here = refl } in
      let g : issue_of (block_of area k) < issue_of (block_of fresh 0) = t.greater (issue_of (block_of area k)) f in
      let s : issue_of (block_of area k) ≡ issue_of (block_of fresh 0) = record_issue (block_of area k) k new file e in
      absurd (omega arith)

  -- a new block is no sound record under a sound old header
  new_bad : (k : ℕ) → 1 ≤ k → k ≤ count → sound_header (block_of area 0) ≡ true → (y : Bool)
      → sound_record (block_of fresh k) k (header_of (block_of area 0)) file ≡ y → y ≡ false
  unfolding header_of
  new_bad k a b sound false e = refl
  new_bad k a b sound true e =
      let f : Found area (issue_of (block_of area 0)) =
      record { block = 0; whole = omega (arith, t.size); kind = inl (header_kind (block_of area 0) sound); here = refl } in
      let g : issue_of (block_of area 0) < issue_of (block_of fresh 0) = t.greater (issue_of (block_of area 0)) f in
      let s : issue_of (block_of fresh k) ≡ issue_of (block_of area 0) = record_issue (block_of fresh k) k (header_of (block_of area 0)) file e in
      absurd (omega (arith, new_issue k b))

  module _ (x : List ℕ) (written : ℕ → Bool) (w : Holds area fresh x count written) where
    -- under the new header
    module _ (is : written 0 ≡ true) where
      head : block_of x 0 ≡ block_of fresh 0
      head = w.new 0 (omega arith) is

      count_is : count_of (block_of x 0) ≡ count
      count_is = ap count_of head ∙ counted

      pub reads_new : AllChosen written count → table_in x ≡ fresh
      reads_new h =
          let n : count_of (block_of x 0) + 1 ≡ suc count = omega (arith, count_is) in
          in_blocks x ∙ ap (table_of (block_of x)) n ∙ table_same (block_of x) (block_of fresh) (suc count) (λ j l. w.new j (omega arith) (h j (omega arith)))
          ∙ sym (table_is fresh (suc count) (omega (arith, tests.size)))

      near : (j : ℕ) → j ≤ count → block_of (table_in x) j ≡ block_of x j
      near j l = in_block x j (omega (arith, count_is))

      long : length (table_in x) ≡ 512 * (new.count + 1)
      unfolding size_in header_of
      long =
          let s : 512 * (count_of (block_of x 0) + 1) ≤ length x = omega (arith, count_is, w.size, t.size) in
          in_length x s ∙ ap (λ (b : List ℕ). 512 * (count_of b + 1)) head

    -- the lowest old block is blamed
    module _ (k : ℕ) (m : FirstMissing written count k) where
      is_new : written 0 ≡ true
      is_new = m.before 0 m.from

      old_here : sound_at (table_in x) new file k ≡ false
      unfolding sound_at stands_at
      old_here = rw (near is_new k m.to, w.old k m.to m.here, old_bad k m.to (sound_record (block_of area k) k new file) refl)

      new_before : (i : ℕ) → 1 ≤ i → i < k → sound_at (table_in x) new file i ≡ true
      new_before i a b =
          sound_same (table_in x) fresh new file i
          (λ j l. near is_new j (omega (arith, m.to)) ∙ w.new j (omega (arith, m.to)) (m.before j (omega arith)))
          ∙ tests.each i a (omega (arith, m.to))

      pub reads_missing : check_area x file ≡ Err k
      unfolding check_area check_table check_records
      reads_missing =
          rw (
            in_first x ∙ head is_new,
            tests.header,
            le-leb 512 (length (table_in x)) (omega (arith, long is_new)),
            eq-eqb (length (table_in x)) (512 * (new.count + 1)) (long is_new),
          )
          (bad_holds (sound_at (table_in x) new file) new.count new.count 1 k
          (record { from = omega (arith, m.from); to = omega (arith, m.to, tests.counted); here = old_here; before = new_before }))

    -- under the old header
    module _ (is : written 0 ≡ false) where
      same_head : block_of x 0 ≡ block_of area 0
      same_head = w.old 0 (omega arith) is

      pub reads_past : NoneWithin area written count → table_in x ≡ table_in area
      reads_past h =
          in_blocks x ∙ ap (λ (b : List ℕ). table_of (block_of x) (count_of b + 1)) same_head
          ∙ table_same (block_of x) (block_of area) (count_of (block_of area 0) + 1) (λ j l. go j l (ltb count j) refl)
          ∙ sym (in_blocks area)
        where
          go : (j : ℕ) → j < count_of (block_of area 0) + 1 → (y : Bool) → ltb count j ≡ y → block_of x j ≡ block_of area j
          go j l true e = w.past j (ltb-true _ _ e)
          go j l false e = let m : j ≤ count = ltb-false _ _ e in w.old j m (h j m (omega arith))

      same_size : size_in x ≡ size_in area
      unfolding size_in
      same_size = ap (λ (b : List ℕ). 512 * (count_of b + 1)) same_head

      same_length : length (table_in x) ≡ length (table_in area)
      unfolding table_in
      same_length = rw same_size (take-length (size_in area) x area w.size)
        where
          take-length : (n : ℕ) (s u : List ℕ) → length s ≡ length u → length (take n s) ≡ length (take n u)
          take-length n s u e = simp length-take (rw e)

      old_near : (j : ℕ) → j ≤ count_of (block_of area 0) → block_of (table_in x) j ≡ block_of x j
      old_near j l = in_block x j (rw same_head l)

    module _ (k : ℕ) (m : FirstWithin area written count k) where
      is_old : written 0 ≡ false
      is_old = m.before 0 m.from

      abbrev old : Header
      old = header_of (block_of area 0)

      new_here : sound_header (block_of area 0) ≡ true → sound_at (table_in x) old file k ≡ false
      unfolding sound_at stands_at
      new_here sound =
          rw (
            old_near is_old k m.within,
            w.new k m.to m.here,
            new_bad k (omega (arith, m.from)) m.to sound (sound_record (block_of fresh k) k old file) refl,
          )

      old_before : (i : ℕ) → 1 ≤ i → i < k → sound_at (table_in x) old file i ≡ sound_at (table_in area) old file i
      old_before i a b =
          sound_same (table_in x) (table_in area) old file i
          (λ j l.
          old_near is_old j (omega (arith, m.within)) ∙ w.old j (omega (arith, m.to)) (m.before j (omega arith))
          ∙ sym (in_block area j (omega (arith, m.within))))

      -- the tests that come before the records
      abbrev heads : List ℕ → Bool
      heads u = leb 512 (length u) && sound_header (block_of area 0) && eqb (length u) (512 * (old.count + 1))

      within_count : k < 1 + old.count
      unfolding header_of
      within_count = omega (arith, m.within)

      pub reads_within : check_area x file ≡ lower_bad k (check_area area file)
      unfolding check_area check_table check_records
      reads_within = rw (in_first x ∙ same_head is_old, in_first area, same_length is_old) (go (heads (table_in area)) refl)
        where
          go : (y : Bool) → heads (table_in area) ≡ y
              → cond y (check_records (table_in x) old file) (Err 0) ≡ lower_bad k (cond y (check_records (table_in area) old file) (Err 0))
          go false e = let z : min 0 k ≡ 0 = omega arith in rw z
          go true e =
              first_lower (sound_at (table_in area) old file) (sound_at (table_in x) old file) old.count old.count 1 k (omega (arith, m.from)) within_count
              (new_here (and_right (leb 512 (length (table_in area))) _ (and_left (leb 512 (length (table_in area)) && sound_header (block_of area 0)) _ e)))
              old_before

    -- a new block has the new issue number, and it is found; what else is found was found before
    pub found_new : (k : ℕ) → k ≤ count → written k ≡ true → Found x (issue_of (block_of fresh 0))
    found_new zero l y =
        record {
          block = zero;
          whole = omega (arith, w.size, t.size);
          kind = inl (rw (w.new 0 l y) (header_kind (block_of fresh 0) tests.header));
          here = ap issue_of (w.new 0 l y);
        }
    found_new (suc k) l y =
        record {
          block = suc k;
          whole = omega (arith, w.size, t.size);
          kind = inr (rw (w.new (suc k) l y) (record_kind (block_of fresh (suc k)) (suc k) new file (new_record (suc k) (omega arith) l)));
          here = ap issue_of (w.new (suc k) l y) ∙ new_issue (suc k) l;
        }

    pub found_most : (issue : ℕ) → Found x issue → issue ≤ issue_of (block_of fresh 0)
    found_most issue f = go (leb f.block count) refl (written f.block) refl
      where
        was : block_of x f.block ≡ block_of area f.block → issue ≤ issue_of (block_of fresh 0)
        was e =
            le_of_lt
            (t.greater issue
            (record {
              block = f.block;
              whole = omega (arith, w.size, f.whole);
              kind = rw (← e) f.kind;
              here = sym (ap issue_of e) ∙ f.here;
            }))

        go : (y : Bool) → leb f.block count ≡ y → (z : Bool) → written f.block ≡ z → issue ≤ issue_of (block_of fresh 0)
        go true e true g =
            let l : f.block ≤ count = leb-true _ _ e in
            let q : issue ≡ issue_of (block_of fresh 0) = sym f.here ∙ ap issue_of (w.new f.block l g) ∙ new_issue f.block l in
            omega arith
        go true e false g = was (w.old f.block (leb-true _ _ e) g)
        go false e z g = was (w.past f.block (leb-false f.block count e))

  -- The first k blocks written, and any of them.
  size : length fresh ≡ 512 * (count + 1)
  size = tests.size

  pub cut_holds : (k : ℕ) → k ≤ count + 1 → Holds area fresh (cut_after area fresh k) count (λ (j : ℕ). ltb j k)
  unfolding cut_after
  cut_holds k h =
      record {
        size = front_length (take (512 * k) fresh) k area front (omega (arith, t.size));
        new =
            λ j l e.
            let m : j < k = ltb-true _ _ e in
            front_block (take (512 * k) fresh) (drop (512 * k) area) j (omega (arith, front)) ∙ take_block fresh k j m;
        old = λ j l e. past_block (take (512 * k) fresh) k area front j (ltb-false _ _ e);
        past = λ j l. past_block (take (512 * k) fresh) k area front j (omega arith);
      }
    where
      front : length (take (512 * k) fresh) ≡ 512 * k
      front = length-take-le (512 * k) fresh (omega (arith, size))

  module _ (chosen : ℕ → Bool) where
    abbrev f : ℕ → List ℕ
    f = torn_at area fresh chosen

    whole : (j : ℕ) → j < suc count → length (f j) ≡ 512
    unfolding torn_at
    whole j l = go (chosen j)
      where
        go : (y : Bool) → length (cond y (block_of fresh j) (block_of area j)) ≡ 512
        go true = block_length fresh j (omega (arith, size))
        go false = block_length area j (omega (arith, t.size))

    long_front : length (table_of f (suc count)) ≡ 512 * suc count
    long_front = table_length f (suc count) whole

    block_is : (j : ℕ) → j ≤ count → block_of (table_of f (suc count) ++ drop (512 * suc count) area) j ≡ f j
    block_is j l =
        front_block (table_of f (suc count)) (drop (512 * suc count) area) j (omega (arith, long_front)) ∙ table_block f (suc count) whole j (omega arith)

    pub torn_holds : Holds area fresh (torn_after area fresh chosen) count chosen
    unfolding torn_after torn_at
    torn_holds =
        rw counted
        record {
          size = front_length (table_of f (suc count)) (suc count) area long_front (omega (arith, t.size));
          new = λ j l e. block_is j l ∙ rw e;
          old = λ j l e. block_is j l ∙ rw e;
          past = λ j l. past_block (table_of f (suc count)) (suc count) area long_front j (omega arith);
        }

  -- The first k blocks are a set of blocks.
  module _ (k : ℕ) (h : k ≤ count + 1) where
    abbrev first : ℕ → Bool
    first j = ltb j k

    abbrev x : List ℕ
    x = cut_after area fresh k

    w : Holds area fresh x count first
    w = cut_holds k h

    same : (j : ℕ) → j < suc count → block_of x j ≡ torn_at area fresh first j
    unfolding torn_at
    same j l = go (ltb j k) refl
      where
        go : (y : Bool) → ltb j k ≡ y → block_of x j ≡ cond y (block_of fresh j) (block_of area j)
        go true e = w.new j (omega arith) e
        go false e = w.old j (omega arith) e

    rest : drop (512 * suc count) x ≡ drop (512 * suc count) area
    unfolding cut_after
    rest =
        let l : length (take (512 * k) fresh) ≡ 512 * k = length-take-le (512 * k) fresh (omega (arith, size)) in
        let m : 512 * suc count ≡ length (take (512 * k) fresh) + (512 * suc count - 512 * k) = omega (arith, l) in
        let n : 512 * k + (512 * suc count - 512 * k) ≡ 512 * suc count = omega arith in
        ap (λ (i : ℕ). drop i (take (512 * k) fresh ++ drop (512 * k) area)) m
        ∙ drop-append-add (take (512 * k) fresh) (drop (512 * k) area) (512 * suc count - 512 * k)
        ∙ drop-drop (512 * suc count - 512 * k) (512 * k) area ∙ ap (λ (i : ℕ). drop i area) n

    pub torn_first : torn_after area fresh first ≡ x
    unfolding torn_after
    torn_first =
        let e : take (512 * suc count) x ≡ table_of (torn_at area fresh first) (suc count) =
        table_front x (suc count) ∙ table_same (block_of x) (torn_at area fresh first) (suc count) same in
        rw counted
        (ap (λ (s : List ℕ). s ++ drop (512 * suc count) area) (sym e)
        ∙ ap (λ (s : List ℕ). take (512 * suc count) x ++ s) (sym rest) ∙ take-append-drop (512 * suc count) x)

-- One of the four ways is every choice's.
abbrev pub FourWays : List ℕ → (ℕ → Bool) → ℕ → Type 0
FourWays area chosen count =
    AllChosen chosen count
    ⊎ (((k : ℕ) × FirstMissing chosen count k) ⊎ (NoneWithin area chosen count ⊎ ((k : ℕ) × FirstWithin area chosen count k)))

module _ (area : List ℕ) (chosen : ℕ → Bool) (count : ℕ) where
  pub four_ways : FourWays area chosen count
  four_ways = go (chosen 0) refl
    where
      inside : ℕ
      inside = min count (count_of (block_of area 0))

      missing : chosen 0 ≡ true → (c : Result ℕ ℕ) → first_bad chosen 0 (count + 1) 0 ≡ c → AllChosen chosen count ⊎ ((k : ℕ) × FirstMissing chosen count k)
      missing is (Ok n) e = inl (λ j l. good_each chosen 0 n (count + 1) 0 e j (omega arith) (omega arith))
      missing is (Err k) e =
          let s : FirstNot chosen (count + 1) 0 k = bad_says chosen 0 (count + 1) 0 k e in
          inr (k, record { from = some k s.here; to = omega (arith, s.to); here = s.here; before = λ j l. s.before j (omega arith) l })
        where
          some : (k : ℕ) → chosen k ≡ false → 0 < k
          some zero o = absurd (true≢false (sym is ∙ o))
          some (suc k) o = omega arith

      unchosen : ℕ → Bool
      unchosen j = not (chosen j)

      within : chosen 0 ≡ false → (c : Result ℕ ℕ) → first_bad unchosen 0 (inside + 1) 0 ≡ c
          → NoneWithin area chosen count ⊎ ((k : ℕ) × FirstWithin area chosen count k)
      within is (Ok n) e = inl (λ j l m. not_true (chosen j) (good_each unchosen 0 n (inside + 1) 0 e j (omega arith) (omega arith)))
      within is (Err k) e =
          let s : FirstNot unchosen (inside + 1) 0 k = bad_says unchosen 0 (inside + 1) 0 k e in
          let here : chosen k ≡ true = not_false (chosen k) s.here in
          inr (
            k,
            record {
              from = some k here;
              to = omega (arith, s.to);
              within = omega (arith, s.to);
              here = here;
              before = λ j l. not_true (chosen j) (s.before j (omega arith) l);
            },
          )
        where
          some : (k : ℕ) → chosen k ≡ true → 0 < k
          some zero o = absurd (true≢false (sym o ∙ is))
          some (suc k) o = omega arith

      front : AllChosen chosen count ⊎ ((k : ℕ) × FirstMissing chosen count k)
          → FourWays area chosen count
      front (inl a) = inl a
      front (inr b) = inr (inl b)

      go : (y : Bool) → chosen 0 ≡ y
          → FourWays area chosen count
      go true is = front (missing is (first_bad chosen 0 (count + 1) 0) refl)
      go false is = inr (inr (within is (first_bad unchosen 0 (inside + 1) 0) refl))
