-- What is proved of taking over a new table, on one page: the statements alone, each by the law that has its proof.
-- Provided "that a block is written whole", so that an area after a cut is one of `cut_after` or `torn_after`; and that "the profile file stays": the check asks
-- for its length alone, and `file` is that one length before, between and after.
use Rattle.std.specs.Prelude.{Ok, Err}
use Rattle.octets.specs.Standard.{ℕ, ◌+◌, ◌*◌, ◌/◌, ◌<◌, ◌≤◌, Bool, true, false, ◌≡◌, ◌≢◌, sym, ◌∙◌, ap, inl, List, ◌++◌, ltb, length, take}
use Rattle.octets.specs.Standard.{drop}
use Rattle.octets.specs.Run.{over}
use Rattle.octets.proofs.Numbers.{Bytes}
use Rattle.record.specs.Fields.{count_of, issue_of}
use Rattle.blocks.specs.Blocks.{block_of}
use Rattle.blocks.specs.Changed.{changed_in}
use Rattle.table.specs.Area.{size_in, table_in, check_area}
use Rattle.table.specs.Check.{check_table}
use Rattle.taking.specs.Cut.{Cut}
use Rattle.taking.specs.Ended.{Fit, Found, Unfit, Unissued, Short, Takes, Ended}
use Rattle.taking.specs.TakeOver.{AfterTake, came, refusing, take_over}
use Rattle.taking.specs.Torn.{AllChosen, FirstMissing, NoneWithin, FirstWithin, lower_bad, Torn}
use Rattle.taking.specs.Written.{with_block, cut_after, torn_after, zeroed_after, zeroed_where}
use Rattle.taking.specs.TakeOver.{Taken, refused}
use Rattle.table.proofs.Areas as areas
use Rattle.taking.proofs.Conditions as conditions
use Rattle.taking.proofs.Mixed as mixed
use Rattle.taking.proofs.Outcomes as outcomes
use Rattle.taking.proofs.Turns as turns
use Rattle.taking.proofs.Zeros as zeros

-- "The working area may be longer than the table: when a request or the check reads it, blocks past the count, and a last piece under 512 bytes, are not
-- looked at": a sound table reads as itself with anything behind it; areas that are the same up to the count read the same;
pub read_front : (t rest : List ℕ) (file count : ℕ) → check_table t file ≡ Ok count → table_in (t ++ rest) ≡ t
read_front t rest file count e = areas.read_front t rest (areas.sound_size_in t file count e)

pub read_alike : (area other : List ℕ) → take (size_in area) other ≡ take (size_in area) area → table_in other ≡ table_in area
read_alike area other e = areas.read_alike area other e

-- a block past the count may be changed at any time;
pub read_past : (area : List ℕ) (k : ℕ) (change : List ℕ → List ℕ) → count_of (block_of area 0) < k → 512 * k ≤ length area
    → table_in (changed_in area k change) ≡ table_in area
read_past area k change past fits = areas.read_past area k change past fits

-- of the exact length an area is checked as a table, and a shorter one has a bad block 0.
pub read_exact : (area : List ℕ) (file : ℕ) → length area ≡ size_in area → check_area area file ≡ check_table area file
read_exact area file h = areas.check_exact area file h

pub read_short : (area : List ℕ) (file : ℕ) → length area < size_in area → check_area area file ≡ Err 0
read_short area file h = areas.check_short area file h

-- "A new edition 2 table is written over the working area block by block from block 0": nothing yet (a block more is `cut_more`, and all are `cut_all`).
pub cut_none : (area fresh : List ℕ) → cut_after area fresh 0 ≡ area
cut_none area fresh = sym (turns.cut_none area fresh)

module _ (area fresh : List ℕ) (file : ℕ) where
  -- "Refusals: 9, new table unsound or edition 1; 10, issue number not greater than every issue found in kind 1 or 2 blocks of the area; 11, area too short;
  -- in this order, nothing written." Each under its condition, which says that none before it holds,
  pub nine : Unfit fresh file → take_over area fresh file ≡ refusing area 9
  nine u = conditions.is_unfit area fresh file u

  -- (and "elsewhere the length stays exact": a new table that is longer or shorter than its count says is unsound)
  pub nine_exact : length fresh ≢ size_in fresh → take_over area fresh file ≡ refusing area 9
  nine_exact n = nine (inl (0, areas.table_exact fresh file n))

  pub ten : Unissued area fresh file → take_over area fresh file ≡ refusing area 10
  ten u = conditions.is_unissued area fresh file u

  pub eleven : Short area fresh file → take_over area fresh file ≡ refusing area 11
  eleven s = conditions.is_short area fresh file s

  -- and else the new table is taken, of exactly so many records;
  pub takes : (count : ℕ) → Takes area fresh file count → take_over area fresh file ≡ came (Ok count) (over fresh area)
  takes count t = conditions.is_taken area fresh file count t

  -- each under no other condition, and no other number.
  pub only_nine : (take_over area fresh file).taken ≡ refused 9 → Unfit fresh file
  only_nine e = outcomes.refused_nine area fresh file e

  pub only_ten : (take_over area fresh file).taken ≡ refused 10 → Unissued area fresh file
  only_ten e = outcomes.refused_ten area fresh file e

  pub only_eleven : (take_over area fresh file).taken ≡ refused 11 → Short area fresh file
  only_eleven e = outcomes.refused_eleven area fresh file e

  pub only_takes : (count : ℕ) → (take_over area fresh file).taken ≡ Ok count → Takes area fresh file count
  only_takes count e = outcomes.took area fresh file count e

  pub ended : (r : Taken) → (take_over area fresh file).taken ≡ r → Ended area fresh file r
  ended r e = outcomes.ended area fresh file r e

  -- "nothing written": a refusal leaves the area as it came.
  pub leaves : (number : ℕ) → (take_over area fresh file).taken ≡ refused number → (take_over area fresh file).area ≡ area
  leaves number e = outcomes.leaves area fresh file number e

  -- What holds where the new table is taken. Of the old area nothing is supposed: it may be unsound, cut before, or rubbish.
  module _ (count : ℕ) (e : (take_over area fresh file).taken ≡ Ok count) where
    t : Takes area fresh file count
    t = outcomes.took area fresh file count e

    -- The area then reads as the new table; blocks past the new count, and a last piece, are as they were.
    pub reads_new : table_in (take_over area fresh file).area ≡ fresh
    reads_new = rw (outcomes.done area fresh file count t) (outcomes.done_in area fresh file count t)

    pub reads : check_area (take_over area fresh file).area file ≡ Ok count
    reads = rw (outcomes.done area fresh file count t) (outcomes.done_reads area fresh file count t)

    pub past : drop (512 * (count + 1)) (take_over area fresh file).area ≡ drop (512 * (count + 1)) area
    past = rw (outcomes.done area fresh file count t) (outcomes.done_past area fresh file count t)

    pub as_long : length (take_over area fresh file).area ≡ length area
    as_long = rw (outcomes.done area fresh file count t) (outcomes.done_length area fresh file count t)

    -- ".. block by block from block 0": behind none (`cut_none`) a block more, and all.
    pub cut_more : (k : ℕ) → k ≤ count → with_block (cut_after area fresh k) fresh k ≡ cut_after area fresh (k + 1)
    cut_more k h = outcomes.cut_turn area fresh file count t k h

    pub cut_all : cut_after area fresh (count + 1) ≡ (take_over area fresh file).area
    cut_all = outcomes.cut_done area fresh file count t ∙ sym (outcomes.done area fresh file count t)

    -- "power or link may go after any block"; "a cut at any moment must leave an area that reads as the old table (nothing written), as the new one (all its
    -- blocks written), or is refused": after k blocks it is the area as it was, it reads as the new table, or its check answers block k.
    pub cut : (k : ℕ) → k ≤ count + 1 → Cut area fresh file count k
    cut k h = outcomes.cut area fresh file count t k h

    pub cut_between : (k : ℕ) → 0 < k → k ≤ count → check_area (cut_after area fresh k) file ≡ Err k
    cut_between k a b = outcomes.cut_between area fresh file count t k a b

    -- The same for every set of its blocks, since a disk may write them in another order: one of four ways.
    pub torn : (chosen : ℕ → Bool) → Torn area fresh file count chosen
    torn chosen = outcomes.torn area fresh file count t chosen

    -- The first k blocks are such a set.
    pub torn_cut : (k : ℕ) → k ≤ count + 1 → torn_after area fresh (λ (j : ℕ). ltb j k) ≡ cut_after area fresh k
    torn_cut k h = mixed.torn_first area fresh file count t k h

    module _ (chosen : ℕ → Bool) where
      -- Block 0 in it: it is the area after success, and so reads as the new table, if all are in it; else the check answers the lowest that is not.
      pub torn_all : AllChosen chosen count → torn_after area fresh chosen ≡ (take_over area fresh file).area
      torn_all h = outcomes.torn_done area fresh file count t chosen h ∙ sym (outcomes.done area fresh file count t)

      pub torn_missing : (k : ℕ) → FirstMissing chosen count k → check_area (torn_after area fresh chosen) file ≡ Err k
      torn_missing k m = outcomes.torn_missing area fresh file count t chosen k m

      -- Block 0 not in it: if none is within the old header's count, the table read and the check are what they were before, sound or refused;
      pub torn_past : NoneWithin area chosen count → table_in (torn_after area fresh chosen) ≡ table_in area
      torn_past h = outcomes.torn_past area fresh file count t chosen h

      pub torn_checked : NoneWithin area chosen count → check_area (torn_after area fresh chosen) file ≡ check_area area file
      unfolding check_area
      torn_checked h = ap (λ (s : List ℕ). check_table s file) (torn_past h)

      -- else the check answers the lower of the lowest such block and of the bad block that it answered before, if any.
      pub torn_within : (k : ℕ) → FirstWithin area chosen count k → check_area (torn_after area fresh chosen) file ≡ lower_bad k (check_area area file)
      torn_within k m = outcomes.torn_within area fresh file count t chosen k m

      -- A take-over that was cut is not repeated with the same issue number, be it the same table: its blocks are found.
      pub not_again : (k : ℕ) → k ≤ count → chosen k ≡ true → (other : List ℕ) (n : ℕ) → Fit other file n
          → issue_of (block_of other 0) ≡ issue_of (block_of fresh 0)
          → take_over (torn_after area fresh chosen) other file ≡ refusing (torn_after area fresh chosen) 10
      not_again k l y other n f q = outcomes.not_again area fresh file count t chosen k l y other n f q

      -- It is mended by one that is fit, has a greater issue number and has room, whatever was written.
      pub mended : (other : List ℕ) (n : ℕ) → Fit other file n → issue_of (block_of fresh 0) < issue_of (block_of other 0) → 512 * (n + 1) ≤ length area
          → take_over (torn_after area fresh chosen) other file ≡ came (Ok n) (over other (torn_after area fresh chosen))
      mended other n f l room =
          conditions.is_taken (torn_after area fresh chosen) other file n (outcomes.mended area fresh file count t chosen other n f l room)

-- Or by zeroing from block 0 up: the area is refused all along, and then takes any fit table that it has room for, the same one too.
pub zeroing : (area : List ℕ) (file k : ℕ) → 0 < k → check_area (zeroed_after area k) file ≡ Err 0
zeroing area file k h = zeros.zeroing area k file h

pub zeroed : (area fresh : List ℕ) (file count : ℕ) → Fit fresh file count → 512 * (count + 1) ≤ length area
    → take_over (zeroed_after area (length area / 512)) fresh file ≡ came (Ok count) (over fresh (zeroed_after area (length area / 512)))
zeroed area fresh file count f h =
    conditions.is_taken (zeroed_after area (length area / 512)) fresh file count (zeros.zeroed area fresh file count f h)

-- An issue number of 4,294,967,295 in a kind 1 or 2 block of the area refuses every new table of bytes that is fit, by 10 (the others are refused by 9).
pub greatest : (area fresh : List ℕ) (file count : ℕ) → Fit fresh file count → Bytes fresh → Found area 4294967295
    → take_over area fresh file ≡ refusing area 10
greatest area fresh file count f bytes found = conditions.is_greatest area fresh file count f bytes found

-- Past the count that, or any other issue, is mended in place: while blocks there are zeroed, some or all of them in any order, the area reads as before,
pub zeroed_past : (area : List ℕ) (chosen : ℕ → Bool) → ((j : ℕ) → j ≤ count_of (block_of area 0) → chosen j ≡ false)
    → table_in (zeroed_where area chosen) ≡ table_in area
zeroed_past area chosen h = zeros.where_reads area chosen h

-- and a fit table is taken that it has room for, once its issue number is greater than every one found in the other blocks.
pub zeroed_where_lem : (area fresh : List ℕ) (file count : ℕ) (chosen : ℕ → Bool) → Fit fresh file count → 512 * (count + 1) ≤ length area
    → ((issue : ℕ) (f : Found area issue) → chosen f.block ≡ false → issue < issue_of (block_of fresh 0))
    → take_over (zeroed_where area chosen) fresh file ≡ came (Ok count) (over fresh (zeroed_where area chosen))
zeroed_where_lem area fresh file count chosen f room rest =
    conditions.is_taken (zeroed_where area chosen) fresh file count (zeros.where_takes area chosen fresh file count f room rest)

-- One outcome for each input: whatever the function leaves, as its contract says, it leaves nothing else.
pub unique : (o : AfterTake) {r s : Taken} {x y : List ℕ} → came r x ≡ o → came s y ≡ o → (r ≡ s) × (x ≡ y)
unique o e f = outcomes.came_same (e ∙ sym f)
