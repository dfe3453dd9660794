-- Take-overs computed by the definitions: each refusal at its edge, the order of the three, what a success leaves, cuts and torn writes; and each theorem of
-- the page at them.
use Rattle.std.specs.Prelude.{Ok, Err}
use Rattle.octets.specs.Standard.{ℕ, ◌/◌, ◌<◌, ◌≤◌, Bool, true, false, ◌||◌, List, [], ◌++◌, ◌≡◌, refl, sym, ap, ◌∙◌, eqb, ltb, lit<, lit≤, take}
use Rattle.octets.specs.Standard.{drop, length, replicate, arith, lt-ltb, ne_eqb, eqb-false, ◌≢◌, inl}
use Rattle.octets.specs.Run.{over}
use Rattle.octets.proofs.Numbers.{Bytes, all_bytes, are_bytes}
use Rattle.record.specs.Fields.{edition_of, count_of, issue_of}
use Rattle.blocks.specs.Blocks.{block_of}
use Rattle.blocks.specs.Changed.{changed_in}
use Rattle.table.specs.Area.{size_in, table_in, check_area}
use Rattle.table.specs.Check.{check_table}
use Rattle.taking.specs.Cut.{Cut}
use Rattle.taking.specs.Ended.{Fit, Found, Unfit, Unissued, Short, Takes, Ended}
use Rattle.taking.specs.TakeOver.{unfit, not_greater, too_short, AfterTake, came, refusing, taking, take_over}
use Rattle.taking.specs.Torn.{lower_bad, Torn}
use Rattle.taking.specs.Written.{with_block, cut_after, torn_after, zeroed_after, zeroed_where}
use Rattle.taking.specs.TakeOver.{Taken, refused}
use Rattle.taking_example.proofs.Sample.{header, line, a, b, none, one, two, three, first, rubbish, behind, roomy, stuck, opened}
use Rattle.taking.proofs.Taking as page

-- The trials by their tests: the new table's check is computed once, and then serves every area.
module _ (area fresh : List ℕ) where
  pub by_nine : unfit fresh 0 ≡ true → take_over area fresh 0 ≡ refusing area 9
  unfolding take_over
  by_nine e = rw e

  module _ (fit : unfit fresh 0 ≡ false) where
    pub by_ten : not_greater area fresh ≡ true → take_over area fresh 0 ≡ refusing area 10
    unfolding take_over
    by_ten e = rw (fit, e)

    pub by_eleven : not_greater area fresh ≡ false → too_short area fresh ≡ true → take_over area fresh 0 ≡ refusing area 11
    unfolding take_over
    by_eleven e f = rw (fit, e, f)

    pub by_none : not_greater area fresh ≡ false → too_short area fresh ≡ false → take_over area fresh 0 ≡ taking area fresh
    unfolding take_over
    by_none e f = rw (fit, e, f)

-- Each table is checked once.
module _ (fresh : List ℕ) (n : ℕ) where
  pub fits : check_table fresh 0 ≡ Ok n → eqb (edition_of (block_of fresh 0)) 1 ≡ false → unfit fresh 0 ≡ false
  unfolding unfit
  fits e f = rw (e, f)

pub old_sound : check_table (two 5) 0 ≡ Ok 2
unfolding opened
old_sound = refl

pub three_sound : check_table (three 6) 0 ≡ Ok 3
unfolding opened
three_sound = refl

one_sound : check_table (one 6) 0 ≡ Ok 1
unfolding opened
one_sound = refl

pub three_fit : unfit (three 6) 0 ≡ false
unfolding opened
three_fit = fits (three 6) 3 three_sound refl

pub one_fit : unfit (one 6) 0 ≡ false
unfolding opened
one_fit = fits (one 6) 1 one_sound refl

pub none_fit : unfit (none 2 6) 0 ≡ false
unfolding opened
none_fit = refl

zero_fit : unfit (none 2 0) 0 ≡ false
unfolding opened
zero_fit = refl

greater_fit : unfit (none 2 7) 0 ≡ false
unfolding opened
greater_fit = refl

-- An area reads as its table, whatever is behind; as a table it is too long. Shorter than its count says, or without a whole block, its block 0 is bad.
pub roomy_table : table_in roomy ≡ two 5
unfolding opened
roomy_table = refl

pub roomy_reads : check_area roomy 0 ≡ Ok 2
unfolding check_area
roomy_reads = ap (λ (t : List ℕ). check_table t 0) roomy_table ∙ old_sound

roomy_exact : check_table roomy 0 ≡ Err 0
unfolding opened
roomy_exact = refl

short_reads : check_area (take 1023 (one 5)) 0 ≡ Err 0
unfolding opened
short_reads = refl

piece_reads : check_area (take 511 (one 5)) 0 ≡ Err 0
unfolding opened
piece_reads = refl

-- Success, the issue greater by one: a block of another kind and a last piece are not looked at. A last piece and stale blocks past the new count stay.
taken : take_over roomy (three 6) 0 ≡ came (Ok 3) (three 6 ++ take 511 (rubbish 2 4294967295))
unfolding opened
taken = by_none roomy (three 6) three_fit refl refl

taken_shorter : take_over roomy (one 6) 0 ≡ came (Ok 1) (one 6 ++ (line 2 5 2 b ++ behind))
unfolding opened
taken_shorter = by_none roomy (one 6) one_fit refl refl

-- No issue is found in an area of zeros, which takes an issue number of 0 too; in a table of edition 1 an issue of 0 is found.
zeros_take : take_over (replicate 512 0) (none 2 0) 0 ≡ came (Ok 0) (none 2 0)
unfolding opened
zeros_take = by_none (replicate 512 0) (none 2 0) zero_fit refl refl

first_equal : take_over (none 1 0) (none 2 0) 0 ≡ refusing (none 1 0) 10
unfolding opened
first_equal = by_ten (none 1 0) (none 2 0) zero_fit refl

-- 9: an unsound table, one of edition 1, one with a block too many, one with a byte too few.
unsound_new : take_over roomy (header 2 6 1 ++ line 2 7 1 a) 0 ≡ refusing roomy 9
unfolding opened
unsound_new = by_nine roomy (header 2 6 1 ++ line 2 7 1 a) refl

pub first_edition : take_over roomy (none 1 0) 0 ≡ refusing roomy 9
unfolding opened
first_edition = by_nine roomy (none 1 0) refl

long_new : take_over roomy (none 2 6 ++ line 2 6 1 a) 0 ≡ refusing roomy 9
unfolding opened
long_new = by_nine roomy (none 2 6 ++ line 2 6 1 a) refl

short_new : take_over roomy (take 1023 (one 6)) 0 ≡ refusing roomy 9
unfolding opened
short_new = by_nine roomy (take 1023 (one 6)) refl

-- 10: the issue equal, or lower. One found past the old count, in the last whole block, whatever edition and check word say; if that one is lower by one, the
-- new table is taken. The greatest issue number there refuses, until its block is zeroed: the old table reads as before, and the new one is taken.
pub equal : take_over (none 2 6) (none 2 6) 0 ≡ refusing (none 2 6) 10
unfolding opened
equal = by_ten (none 2 6) (none 2 6) none_fit refl

pub lower : take_over (none 2 7) (none 2 6) 0 ≡ refusing (none 2 7) 10
unfolding opened
lower = by_ten (none 2 7) (none 2 6) none_fit refl

pub past_count : take_over (none 2 5 ++ rubbish 2 6) (none 2 6) 0 ≡ refusing (none 2 5 ++ rubbish 2 6) 10
unfolding opened
past_count = by_ten (none 2 5 ++ rubbish 2 6) (none 2 6) none_fit refl

pub past_count_greater : take_over (none 2 5 ++ rubbish 2 5) (none 2 6) 0 ≡ came (Ok 0) (none 2 6 ++ rubbish 2 5)
unfolding opened
past_count_greater = by_none (none 2 5 ++ rubbish 2 5) (none 2 6) none_fit refl refl

greatest : take_over stuck (none 2 6) 0 ≡ refusing stuck 10
unfolding opened
greatest = by_ten stuck (none 2 6) none_fit refl

freed_reads : table_in (zeroed_where stuck (eqb 1)) ≡ none 2 5
unfolding opened
freed_reads = refl

freed : take_over (zeroed_where stuck (eqb 1)) (none 2 6) 0 ≡ came (Ok 0) (none 2 6 ++ replicate 512 0)
unfolding opened
freed = by_none (zeroed_where stuck (eqb 1)) (none 2 6) none_fit refl refl

-- 11: a byte too short. The last block of the area is then a last piece, and no issue is found in it, though it is the new table's own.
byte_short : take_over (take 1023 (header 2 5 1 ++ line 2 6 1 a)) (one 6) 0 ≡ refusing (take 1023 (header 2 5 1 ++ line 2 6 1 a)) 11
unfolding opened
byte_short = by_eleven (take 1023 (header 2 5 1 ++ line 2 6 1 a)) (one 6) one_fit refl refl

empty : take_over [] (none 2 6) 0 ≡ refusing [] 11
unfolding opened
empty = by_eleven [] (none 2 6) none_fit refl refl

-- The order: all three hold, then the last two.
nine_first : take_over (none 2 6) (take 1023 (one 6)) 0 ≡ refusing (none 2 6) 9
unfolding opened
nine_first = by_nine (none 2 6) (take 1023 (one 6)) refl

pub ten_next : take_over (none 2 6) (one 6) 0 ≡ refusing (none 2 6) 10
unfolding opened
ten_next = by_ten (none 2 6) (one 6) one_fit refl

-- A cut after none of the four blocks, after one, in the middle, after the last but one, and after all: the old table, the first old block, the new table.
cut_after_none : check_area (cut_after roomy (three 6) 0) 0 ≡ Ok 2
unfolding cut_after
cut_after_none = roomy_reads

cut_after_one : check_area (cut_after roomy (three 6) 1) 0 ≡ Err 1
unfolding opened
cut_after_one = refl

cut_after_two : check_area (cut_after roomy (three 6) 2) 0 ≡ Err 2
unfolding opened
cut_after_two = refl

cut_after_three : check_area (cut_after roomy (three 6) 3) 0 ≡ Err 3
unfolding opened
cut_after_three = refl

all_table : table_in (cut_after roomy (three 6) 4) ≡ three 6
unfolding opened
all_table = refl

cut_after_all : check_area (cut_after roomy (three 6) 4) 0 ≡ Ok 3
unfolding check_area
cut_after_all = ap (λ (t : List ℕ). check_table t 0) all_table ∙ three_sound

-- A new table that is the shorter one, after one of its two blocks; the same over a table of edition 1, which is what the first take-over meets.
cut_shorter : check_area (cut_after roomy (one 6) 1) 0 ≡ Err 1
unfolding opened
cut_shorter = refl

first_taken : take_over first (one 6) 0 ≡ came (Ok 1) (one 6)
unfolding opened
first_taken = by_none first (one 6) one_fit refl refl

first_reads : check_area (cut_after first (one 6) 0) 0 ≡ Ok 1
unfolding opened
first_reads = refl

first_cut : check_area (cut_after first (one 6) 1) 0 ≡ Err 1
unfolding opened
first_cut = refl

first_all : table_in (cut_after first (one 6) 2) ≡ one 6
unfolding opened
first_all = refl

-- Torn writes: the header and block 2; block 1 under the old header; block 3, which nobody reads there.
zero_and_two : ℕ → Bool
zero_and_two j = eqb 0 j || eqb 2 j

torn_new : check_area (torn_after roomy (three 6) zero_and_two) 0 ≡ Err 1
unfolding opened zero_and_two
torn_new = refl

torn_old : check_area (torn_after roomy (three 6) (eqb 1)) 0 ≡ Err 1
unfolding opened
torn_old = refl

torn_unread : table_in (torn_after roomy (three 6) (eqb 3)) ≡ two 5
unfolding opened
torn_unread = refl

-- Over an old area whose block 1 was bad already, and over one whose block 2 was: the lower is blamed.
spoilt : ℕ → ℕ → List ℕ
spoilt first second = header 2 5 2 ++ (line 2 first 1 a ++ (line 2 second 2 b ++ behind))

torn_before : check_area (torn_after (spoilt 4 5) (three 6) (eqb 2)) 0 ≡ Err 1
unfolding opened spoilt
torn_before = refl

torn_behind : check_area (torn_after (spoilt 5 4) (three 6) (eqb 1)) 0 ≡ Err 1
unfolding opened spoilt
torn_behind = refl

-- Cuts over an old area that is unsound: its block 1 is bad as it came and after the new header, and at the end it is mended.
unsound : List ℕ
unsound = header 2 5 1 ++ line 2 4 1 a

unsound_taken : take_over unsound (one 6) 0 ≡ came (Ok 1) (one 6)
unfolding opened unsound
unsound_taken = by_none unsound (one 6) one_fit refl refl

unsound_reads : check_area (cut_after unsound (one 6) 0) 0 ≡ Err 1
unfolding opened unsound
unsound_reads = refl

unsound_cut : check_area (cut_after unsound (one 6) 1) 0 ≡ Err 1
unfolding opened unsound
unsound_cut = refl

unsound_all : table_in (cut_after unsound (one 6) 2) ≡ one 6
unfolding opened unsound
unsound_all = refl

-- A cut take-over cannot be repeated with the same issue; a greater one mends it, and so does the same table once the area is zeroed.
again : take_over (cut_after roomy (three 6) 2) (three 6) 0 ≡ refusing (cut_after roomy (three 6) 2) 10
unfolding opened
again = by_ten (cut_after roomy (three 6) 2) (three 6) three_fit refl

mended : take_over (cut_after roomy (three 6) 2) (none 2 7) 0 ≡ came (Ok 0) (none 2 7 ++ (line 2 6 1 a ++ (line 2 5 2 b ++ behind)))
unfolding opened
mended = by_none (cut_after roomy (three 6) 2) (none 2 7) greater_fit refl refl

zeroed : take_over (zeroed_after (cut_after roomy (three 6) 2) 4) (three 6) 0 ≡ came (Ok 3) (three 6 ++ take 511 (rubbish 2 4294967295))
unfolding opened
zeroed = by_none (zeroed_after (cut_after roomy (three 6) 2) 4) (three 6) three_fit refl refl

-- The theorems of the page at them.
pub answer : {o p : AfterTake} → o ≡ p → o.taken ≡ p.taken
answer e = ap (λ (o : AfterTake). o.taken) e

met_read_front : table_in (two 5 ++ behind) ≡ two 5
met_read_front = page.read_front (two 5) behind 0 2 old_sound

same_front : take (size_in roomy) (two 5) ≡ take (size_in roomy) roomy
unfolding opened
same_front = refl

met_read_alike : table_in (two 5) ≡ table_in roomy
met_read_alike = page.read_alike roomy (two 5) same_front

-- block 3 of the area, of kind 3, is zeroed
past_two : count_of (block_of roomy 0) < 3
unfolding opened
past_two = lit< tt

three_blocks : 1536 ≤ length roomy
unfolding opened
three_blocks = lit≤ tt

met_read_past : table_in (changed_in roomy 3 (λ (x : List ℕ). replicate 512 0)) ≡ table_in roomy
met_read_past = page.read_past roomy 3 (λ (x : List ℕ). replicate 512 0) past_two three_blocks

exact_size : length (two 5) ≡ size_in (two 5)
unfolding opened
exact_size = refl

met_read_exact : check_area (two 5) 0 ≡ check_table (two 5) 0
met_read_exact = page.read_exact (two 5) 0 exact_size

short_size : size_in (take 1023 (one 5)) ≡ 1024
unfolding opened
short_size = refl

short_length : length (take 1023 (one 5)) ≡ 1023
unfolding opened
short_length = refl

met_read_short : check_area (take 1023 (one 5)) 0 ≡ Err 0
met_read_short = page.read_short (take 1023 (one 5)) 0 (omega (arith, short_size, short_length))

met_unfit : Unfit (none 1 0) 0
met_unfit = page.only_nine roomy (none 1 0) 0 (answer first_edition)

met_nine : take_over roomy (none 1 0) 0 ≡ refusing roomy 9
met_nine = page.nine roomy (none 1 0) 0 met_unfit

-- a block more than its header counts
one_more : length (none 2 6 ++ line 2 6 1 a) ≡ 1024
unfolding opened
one_more = refl

none_counted : size_in (none 2 6 ++ line 2 6 1 a) ≡ 512
unfolding opened
none_counted = refl

met_nine_exact : take_over roomy (none 2 6 ++ line 2 6 1 a) 0 ≡ refusing roomy 9
met_nine_exact = page.nine_exact roomy (none 2 6 ++ line 2 6 1 a) 0 (λ e. omega (arith, e, one_more, none_counted))

met_unissued : Unissued (none 2 6) (none 2 6) 0
met_unissued = page.only_ten (none 2 6) (none 2 6) 0 (answer equal)

met_ten : take_over (none 2 6) (none 2 6) 0 ≡ refusing (none 2 6) 10
met_ten = page.ten (none 2 6) (none 2 6) 0 met_unissued

met_short : Short [] (none 2 6) 0
met_short = page.only_eleven [] (none 2 6) 0 (answer empty)

met_eleven : take_over [] (none 2 6) 0 ≡ refusing [] 11
met_eleven = page.eleven [] (none 2 6) 0 met_short

met_leaves : (take_over (none 2 6) (none 2 6) 0).area ≡ none 2 6
met_leaves = page.leaves (none 2 6) (none 2 6) 0 10 (answer equal)

met_ended : Ended (none 2 6) (none 2 6) 0 (refused 10)
met_ended = page.ended (none 2 6) (none 2 6) 0 (refused 10) (answer equal)

pub three_taken : (take_over roomy (three 6) 0).taken ≡ Ok 3
three_taken = answer taken

met_takes : Takes roomy (three 6) 0 3
met_takes = page.only_takes roomy (three 6) 0 3 three_taken

met_taken : take_over roomy (three 6) 0 ≡ came (Ok 3) (over (three 6) roomy)
met_taken = page.takes roomy (three 6) 0 3 met_takes

met_reads_new : table_in (take_over roomy (three 6) 0).area ≡ three 6
met_reads_new = page.reads_new roomy (three 6) 0 3 three_taken

met_reads : check_area (take_over roomy (three 6) 0).area 0 ≡ Ok 3
met_reads = page.reads roomy (three 6) 0 3 three_taken

met_past : drop 2048 (take_over roomy (three 6) 0).area ≡ drop 2048 roomy
met_past = page.past roomy (three 6) 0 3 three_taken

met_as_long : length (take_over roomy (three 6) 0).area ≡ length roomy
met_as_long = page.as_long roomy (three 6) 0 3 three_taken

met_cut_none : cut_after roomy (three 6) 0 ≡ roomy
met_cut_none = page.cut_none roomy (three 6)

met_cut_more : with_block (cut_after roomy (three 6) 1) (three 6) 1 ≡ cut_after roomy (three 6) 2
met_cut_more = page.cut_more roomy (three 6) 0 3 three_taken 1 (lit≤ tt)

met_cut_all : cut_after roomy (three 6) 4 ≡ (take_over roomy (three 6) 0).area
met_cut_all = page.cut_all roomy (three 6) 0 3 three_taken

met_cut : Cut roomy (three 6) 0 3 2
met_cut = page.cut roomy (three 6) 0 3 three_taken 2 (lit≤ tt)

met_cut_between : check_area (cut_after roomy (three 6) 2) 0 ≡ Err 2
met_cut_between = page.cut_between roomy (three 6) 0 3 three_taken 2 (lit< tt) (lit≤ tt)

met_torn : Torn roomy (three 6) 0 3 (eqb 2)
met_torn = page.torn roomy (three 6) 0 3 three_taken (eqb 2)

met_torn_cut : torn_after roomy (three 6) (λ (j : ℕ). ltb j 2) ≡ cut_after roomy (three 6) 2
met_torn_cut = page.torn_cut roomy (three 6) 0 3 three_taken 2 (lit≤ tt)

met_torn_all : torn_after roomy (three 6) (λ (j : ℕ). true) ≡ (take_over roomy (three 6) 0).area
met_torn_all = page.torn_all roomy (three 6) 0 3 three_taken (λ (j : ℕ). true) (λ j l. refl)

met_torn_missing : check_area (torn_after roomy (three 6) (λ (j : ℕ). ltb j 1)) 0 ≡ Err 1
met_torn_missing =
    page.torn_missing roomy (three 6) 0 3 three_taken (λ (j : ℕ). ltb j 1) 1
    (record { from = lit< tt; to = lit≤ tt; here = refl; before = λ j l. lt-ltb j 1 l })

met_torn_past : table_in (torn_after roomy (three 6) (λ (j : ℕ). false)) ≡ table_in roomy
met_torn_past = page.torn_past roomy (three 6) 0 3 three_taken (λ (j : ℕ). false) (λ j l m. refl)

met_torn_checked : check_area (torn_after roomy (three 6) (λ (j : ℕ). false)) 0 ≡ Ok 2
met_torn_checked = page.torn_checked roomy (three 6) 0 3 three_taken (λ (j : ℕ). false) (λ j l m. refl) ∙ roomy_reads

-- block 1 alone is written, within the old count, and block 0 is not
pub only_one : (j : ℕ) → j < 1 → eqb 1 j ≡ false
only_one j l = ne_eqb 1 j (omega arith)

pub two_counted : 1 ≤ count_of (block_of roomy 0)
unfolding opened
two_counted = lit≤ tt

met_torn_within : check_area (torn_after roomy (three 6) (eqb 1)) 0 ≡ lower_bad 1 (check_area roomy 0)
met_torn_within =
    page.torn_within roomy (three 6) 0 3 three_taken (eqb 1) 1
    (record { from = lit< tt; to = lit≤ tt; within = two_counted; here = refl; before = only_one })

six : Fit (three 6) 0 3
six = met_takes.fit

met_not_again : take_over (torn_after roomy (three 6) (eqb 2)) (three 6) 0 ≡ refusing (torn_after roomy (three 6) (eqb 2)) 10
met_not_again = page.not_again roomy (three 6) 0 3 three_taken (eqb 2) 2 (lit≤ tt) refl (three 6) 3 six refl

seven : Fit (none 2 7) 0 0
seven = (page.only_takes (cut_after roomy (three 6) 2) (none 2 7) 0 0 (answer mended)).fit

later_issue : issue_of (block_of (three 6) 0) < issue_of (block_of (none 2 7) 0)
unfolding opened
later_issue = lit< tt

room : 512 ≤ length roomy
unfolding opened
room = lit≤ tt

met_mended : take_over (torn_after roomy (three 6) (eqb 2)) (none 2 7) 0 ≡ came (Ok 0) (over (none 2 7) (torn_after roomy (three 6) (eqb 2)))
met_mended = page.mended roomy (three 6) 0 3 three_taken (eqb 2) (none 2 7) 0 seven later_issue room

met_zeroing : check_area (zeroed_after roomy 1) 0 ≡ Err 0
met_zeroing = page.zeroing roomy 0 1 (lit< tt)

roomy_blocks : 2048 ≤ length roomy
unfolding opened
roomy_blocks = lit≤ tt

met_zeroed : take_over (zeroed_after roomy (length roomy / 512)) (three 6) 0 ≡ came (Ok 3) (over (three 6) (zeroed_after roomy (length roomy / 512)))
met_zeroed = page.zeroed roomy (three 6) 0 3 six roomy_blocks

six_none : Fit (none 2 6) 0 0
six_none = (page.only_takes (zeroed_where stuck (eqb 1)) (none 2 6) 0 0 (answer freed)).fit

six_bytes : Bytes (none 2 6)
unfolding all_bytes opened
six_bytes = are_bytes (none 2 6) refl

stuck_found : Found stuck 4294967295
unfolding opened
stuck_found = record { block = 1; whole = lit≤ tt; kind = inl refl; here = refl }

met_greatest : take_over stuck (none 2 6) 0 ≡ refusing stuck 10
met_greatest = page.greatest stuck (none 2 6) 0 0 six_none six_bytes stuck_found

-- only block 1 of the two is zeroed, and the header is of issue 5
stuck_past : (j : ℕ) → j ≤ count_of (block_of stuck 0) → eqb 1 j ≡ false
unfolding opened
stuck_past j l = ne_eqb 1 j (omega arith)

met_zeroed_past : table_in (zeroed_where stuck (eqb 1)) ≡ table_in stuck
met_zeroed_past = page.zeroed_past stuck (eqb 1) stuck_past

stuck_length : length stuck ≡ 1024
unfolding opened
stuck_length = refl

stuck_issue : issue_of (block_of stuck 0) ≡ 5
unfolding opened
stuck_issue = refl

six_issue : issue_of (block_of (none 2 6) 0) ≡ 6
unfolding opened
six_issue = refl

stuck_rest : (issue : ℕ) (f : Found stuck issue) → eqb 1 f.block ≡ false → issue < issue_of (block_of (none 2 6) 0)
stuck_rest issue f e =
    let n : 1 ≢ f.block = eqb-false 1 f.block e in
    let z : f.block ≡ 0 = omega (arith, f.whole, stuck_length, n) in
    let q : issue ≡ 5 = sym f.here ∙ ap (λ (k : ℕ). issue_of (block_of stuck k)) z ∙ stuck_issue in
    omega (arith, six_issue)

met_zeroed_where : take_over (zeroed_where stuck (eqb 1)) (none 2 6) 0 ≡ came (Ok 0) (over (none 2 6) (zeroed_where stuck (eqb 1)))
met_zeroed_where = page.zeroed_where_lem stuck (none 2 6) 0 0 (eqb 1) six_none (omega (arith, stuck_length)) stuck_rest

met_unique : ◌≡◌ {A = Taken} (Ok 3) (Ok 3) × (over (three 6) roomy ≡ over (three 6) roomy)
met_unique = page.unique (take_over roomy (three 6) 0) (sym met_taken) (sym met_taken)
