-- Wrong takers: each is a function here, and at an input that is computed its outcome does not meet the promise.
use Rattle.std.specs.Prelude.{Ok, Err}
use Rattle.octets.specs.Standard.{ℕ, ◌+◌, ◌/◌, ◌<◌, Bool, true, false, ◌||◌, not, cond, true≢false, ◌≡◌, refl, sym, ◌∙◌, ap, ◌≢◌, inl, List, ◌++◌, arith, eqb}
use Rattle.octets.specs.Standard.{leb, ltb, length, get_or}
use Rattle.octets.specs.All.{all_below}
use Rattle.octets.specs.Run.{over}
use Rattle.record.specs.Fields.{count_of, issue_of}
use Rattle.blocks.specs.Blocks.{block_of}
use Rattle.table.specs.Area.{table_in, check_area}
use Rattle.table.proofs.Areas.{in_first}
use Rattle.table.proofs.Heads.{header_kind}
use Rattle.table.proofs.Sound.{table_says}
use Rattle.taking.specs.Ended.{Found, Takes}
use Rattle.taking.specs.Found.{holds_issue, greater_at}
use Rattle.taking.specs.TakeOver.{unfit, not_greater, too_short, AfterTake, came, refusing, taking, take_over}
use Rattle.taking.specs.Written.{with_block, cut_after}
use Rattle.taking.specs.TakeOver.{Taken, refused}
use Rattle.taking_example.proofs.Sample.{none, one, three, rubbish, roomy, opened}
use Rattle.taking_example.proofs.Worked.{one_fit, none_fit, equal, lower, past_count, past_count_greater, ten_next, answer, three_taken}
use Rattle.taking.proofs.Taking as page

-- What a taker leaves of an area, a new table and a profile file's length. The promise of `take` is this equality.
abbrev Taker : Type 0
Taker = List ℕ → List ℕ → ℕ → AfterTake

abbrev Meets : Taker → List ℕ → List ℕ → ℕ → Type 0
Meets f area fresh file = f area fresh file ≡ take_over area fresh file

-- a refusal's number, 0 for a success
number : Taken → ℕ
number (Ok n) = 0
number (Err r) = r.number

fails : (f : Taker) (area fresh : List ℕ) (file : ℕ) {o p : AfterTake} → f area fresh file ≡ o → take_over area fresh file ≡ p
    → (number o.taken ≡ number p.taken → ⊥) → Meets f area fresh file → ⊥
fails f area fresh file d e h m = h (ap (λ (x : AfterTake). number x.taken) (sym d ∙ m ∙ e))

-- 1. one that compares issue numbers by "not smaller" takes a table over one of the same issue
not_smaller_at : List ℕ → ℕ → ℕ → Bool
not_smaller_at area issue k = not (holds_issue (block_of area k)) || leb (issue_of (block_of area k)) issue

not_smaller : List ℕ → List ℕ → Bool
not_smaller area fresh = all_below (not_smaller_at area (issue_of (block_of fresh 0))) (length area / 512)

lax : Taker
lax area fresh file =
    cond (unfit fresh file) (refusing area 9)
    (cond (not (not_smaller area fresh)) (refusing area 10) (cond (too_short area fresh) (refusing area 11) (taking area fresh)))

lax_by : (area fresh : List ℕ) → unfit fresh 0 ≡ false → not_smaller area fresh ≡ true → too_short area fresh ≡ false → lax area fresh 0 ≡ taking area fresh
unfolding lax
lax_by area fresh d e f = rw (d, e, f)

lax_takes : lax (none 2 6) (none 2 6) 0 ≡ taking (none 2 6) (none 2 6)
unfolding not_smaller not_smaller_at opened
lax_takes = lax_by (none 2 6) (none 2 6) none_fit refl refl

lax_fails : Meets lax (none 2 6) (none 2 6) 0 → ⊥
unfolding number
lax_fails = fails lax (none 2 6) (none 2 6) 0 lax_takes equal (omega arith)

-- 2. one that asks only the blocks up to the old count for their issue
nearer : List ℕ → List ℕ → Bool
nearer area fresh = all_below (greater_at area (issue_of (block_of fresh 0))) (count_of (block_of area 0) + 1)

near : Taker
near area fresh file =
    cond (unfit fresh file) (refusing area 9)
    (cond (not (nearer area fresh)) (refusing area 10) (cond (too_short area fresh) (refusing area 11) (taking area fresh)))

near_by : (area fresh : List ℕ) → unfit fresh 0 ≡ false → nearer area fresh ≡ true → too_short area fresh ≡ false → near area fresh 0 ≡ taking area fresh
unfolding near
near_by area fresh d e f = rw (d, e, f)

near_takes : near (none 2 5 ++ rubbish 2 6) (none 2 6) 0 ≡ taking (none 2 5 ++ rubbish 2 6) (none 2 6)
unfolding nearer opened
near_takes = near_by (none 2 5 ++ rubbish 2 6) (none 2 6) none_fit refl refl

near_fails : Meets near (none 2 5 ++ rubbish 2 6) (none 2 6) 0 → ⊥
unfolding number
near_fails = fails near (none 2 5 ++ rubbish 2 6) (none 2 6) 0 near_takes past_count (omega arith)

-- 3. one that gives 11 before 10
hasty : Taker
hasty area fresh file =
    cond (unfit fresh file) (refusing area 9)
    (cond (too_short area fresh) (refusing area 11) (cond (not_greater area fresh) (refusing area 10) (taking area fresh)))

hasty_by : (area fresh : List ℕ) → unfit fresh 0 ≡ false → too_short area fresh ≡ true → hasty area fresh 0 ≡ refusing area 11
unfolding hasty
hasty_by area fresh d e = rw (d, e)

hasty_refuses : hasty (none 2 6) (one 6) 0 ≡ refusing (none 2 6) 11
unfolding opened
hasty_refuses = hasty_by (none 2 6) (one 6) one_fit refl

hasty_fails : Meets hasty (none 2 6) (one 6) 0 → ⊥
unfolding number
hasty_fails = fails hasty (none 2 6) (one 6) 0 hasty_refuses ten_next (omega arith)

-- 4. one that writes under a refusal, whichever it is, whatever is lent and whatever it writes
writing_fails : (f : Taker) (area fresh : List ℕ) (file n : ℕ) → (f area fresh file).taken ≡ refused n → (f area fresh file).area ≢ area
    → Meets f area fresh file → ⊥
writing_fails f area fresh file n e h m =
    h (ap (λ (o : AfterTake). o.area) m ∙ page.leaves area fresh file n (sym (ap (λ (o : AfterTake). o.taken) m) ∙ e))

-- such a one: it writes the new header, then looks at the area as it came, and writes the rest if it takes the table. What it says is right, and where it takes
-- the table it leaves what it should.
head_left : Taken → List ℕ → List ℕ → List ℕ
head_left (Ok n) area fresh = over fresh (with_block area fresh 0)
head_left (Err r) area fresh = with_block area fresh 0

headed : Taker
headed area fresh file = came (take_over area fresh file).taken (head_left (take_over area fresh file).taken area fresh)

head_written : head_left (refused 10) (none 2 7) (none 2 6) ≡ none 2 6
unfolding head_left opened
head_written = refl

six_seven : none 2 6 ≡ none 2 7 → ⊥
unfolding opened
six_seven q = let z : ◌≡◌ {A = ℕ} 6 7 = ap (λ (s : List ℕ). get_or s 411 0) q in omega arith

headed_fails : Meets headed (none 2 7) (none 2 6) 0 → ⊥
unfolding headed
headed_fails =
    writing_fails headed (none 2 7) (none 2 6) 0 10 (answer lower)
    (λ e. six_seven (sym head_written ∙ sym (ap (λ (r : Taken). head_left r (none 2 7) (none 2 6)) (answer lower)) ∙ e))

headed_left : head_left (Ok 0) (none 2 5 ++ rubbish 2 5) (none 2 6) ≡ none 2 6 ++ rubbish 2 5
unfolding head_left opened
headed_left = refl

headed_meets : Meets headed (none 2 5 ++ rubbish 2 5) (none 2 6) 0
unfolding headed
headed_meets =
    ap (λ (r : Taken). came r (head_left r (none 2 5 ++ rubbish 2 5) (none 2 6))) (answer past_count_greater) ∙ ap (came (Ok 0)) headed_left
    ∙ sym past_count_greater

-- 5. one that refuses where the new table is taken, by whatever number; such a one refuses everything
is_took : Taken → Bool
is_took (Ok n) = true
is_took (Err r) = false

refusing_fails : (f : Taker) (area fresh : List ℕ) (file count n : ℕ) → (take_over area fresh file).taken ≡ Ok count → (f area fresh file).taken ≡ refused n
    → Meets f area fresh file → ⊥
unfolding is_took
refusing_fails f area fresh file count n e g m = true≢false (ap is_took (sym e ∙ sym (ap (λ (o : AfterTake). o.taken) m) ∙ g))

shut_fails : (n : ℕ) → Meets (λ (area fresh : List ℕ) (file : ℕ). refusing area n) roomy (three 6) 0 → ⊥
shut_fails n = refusing_fails (λ (area fresh : List ℕ) (file : ℕ). refusing area n) roomy (three 6) 0 3 n three_taken refl

-- 6. one that invents the count of records: any other than the new table's
counted : Taken → ℕ
counted (Ok n) = n
counted (Err r) = 0

counting_fails : (f : Taker) (area fresh : List ℕ) (file count n : ℕ) → (take_over area fresh file).taken ≡ Ok count → (f area fresh file).taken ≡ Ok n
    → n ≢ count → Meets f area fresh file → ⊥
unfolding counted
counting_fails f area fresh file count n e g h m = h (ap counted (sym g ∙ ap (λ (o : AfterTake). o.taken) m ∙ e))

-- 7. one that says that it took the new table, and wrote nothing: then the old issue would be the new one
idle_fails : (f : Taker) (area fresh : List ℕ) (file count : ℕ) → (take_over area fresh file).taken ≡ Ok count → (f area fresh file).area ≡ area
    → Meets f area fresh file → ⊥
idle_fails f area fresh file count e g m = omega (arith, takes.greater (issue_of (block_of fresh 0)) found)
  where
    takes : Takes area fresh file count
    takes = page.only_takes area fresh file count e

    head : block_of area 0 ≡ block_of fresh 0
    head =
        sym (in_first area)
        ∙ ap (λ (s : List ℕ). block_of s 0)
        (ap table_in (sym g ∙ ap (λ (o : AfterTake). o.area) m) ∙ page.reads_new area fresh file count e)

    found : Found area (issue_of (block_of fresh 0))
    found =
        record {
          block = 0;
          whole = omega (arith, takes.size);
          kind = inl (rw head (header_kind (block_of fresh 0) (table_says fresh file count takes.fit.checked).header));
          here = ap issue_of head;
        }

-- 8. one that writes all blocks but the last: what it leaves is refused
lastless_fails : (f : Taker) (area fresh : List ℕ) (file count : ℕ) → (take_over area fresh file).taken ≡ Ok count → 0 < count
    → (f area fresh file).area ≡ cut_after area fresh count → Meets f area fresh file → ⊥
lastless_fails f area fresh file count e some g m =
    sound_bad count count
    (sym (page.reads area fresh file count e) ∙ ap (λ (s : List ℕ). check_area s file) (sym (ap (λ (o : AfterTake). o.area) m) ∙ g)
    ∙ page.cut_between area fresh file count e count some (omega arith))
  where
    sound_bad : (i j : ℕ) → Ok i ≡ Err j → ⊥
    sound_bad i j q = let z : ◌≡◌ {A = ℕ} 0 1 = cc in omega arith

-- 9. one that asks blocks of kind 2 only for their issue
record_at : List ℕ → ℕ → ℕ → Bool
record_at area issue k = not (eqb (get_or (block_of area k) 0 0) 2) || ltb (issue_of (block_of area k)) issue

records : List ℕ → List ℕ → Bool
records area fresh = all_below (record_at area (issue_of (block_of fresh 0))) (length area / 512)

headless : Taker
headless area fresh file =
    cond (unfit fresh file) (refusing area 9)
    (cond (not (records area fresh)) (refusing area 10) (cond (too_short area fresh) (refusing area 11) (taking area fresh)))

headless_by : (area fresh : List ℕ) → unfit fresh 0 ≡ false → records area fresh ≡ true → too_short area fresh ≡ false
    → headless area fresh 0 ≡ taking area fresh
unfolding headless
headless_by area fresh d e f = rw (d, e, f)

headless_takes : headless (none 2 6) (none 2 6) 0 ≡ taking (none 2 6) (none 2 6)
unfolding records record_at opened
headless_takes = headless_by (none 2 6) (none 2 6) none_fit refl refl

headless_fails : Meets headless (none 2 6) (none 2 6) 0 → ⊥
unfolding number
headless_fails = fails headless (none 2 6) (none 2 6) 0 headless_takes equal (omega arith)
