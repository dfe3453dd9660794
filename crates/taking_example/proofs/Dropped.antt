-- What each condition keeps out: without it a cut leaves an area that is sound and neither table, or another block is blamed, or the new table does not read.
-- One keeps no cut out: that the new table is not of edition 1.
use Rattle.std.specs.Prelude.{Ok, Err}
use Rattle.octets.specs.Standard.{ℕ, true, ◌≡◌, refl, List, [], ◌∷◌, ◌++◌, arith, eqb, take, drop, length, get_or, set, replicate}
use Rattle.blocks.specs.Sealed.{sealed}
use Rattle.table.specs.Area.{table_in, check_area}
use Rattle.table.specs.Check.{check_table}
use Rattle.taking.specs.TakeOver.{not_greater, refusing, take_over}
use Rattle.taking.specs.Written.{cut_after, torn_after}
use Rattle.taking_example.proofs.Sample.{header, line, a, b, none, one, three, first, roomy, opened}
use Rattle.taking_example.proofs.Worked.{by_ten, one_fit}

-- An area that is sound, and reads neither as the old table nor as the new one: a byte of its table is not theirs.
record Mixture (x old new : List ℕ) : Type 0 where
  count : ℕ
  sound : check_area x 0 ≡ Ok count
  not_old : table_in x ≡ table_in old → ⊥
  not_new : table_in x ≡ new → ⊥

differs : (i : ℕ) {s t : List ℕ} {m n : ℕ} → get_or s i 0 ≡ m → get_or t i 0 ≡ n → (m ≡ n → ⊥) → s ≡ t → ⊥
differs i e f h q = h (cc)

-- 10, an issue number equal to the old one: the new header, which keeps, over the old record.
keeping : List ℕ
keeping = sealed (set (header 2 6 1) 12 1) ++ line 2 6 1 b

equal_mixed : Mixture (cut_after (one 6) keeping 1) (one 6) keeping
unfolding opened keeping
equal_mixed =
    record {
      count = 1;
      sound = refl;
      not_old = differs 12 {m = 1} {n = 0} refl refl (omega arith);
      not_new = differs 528 {m = 0x61} {n = 0x62} refl refl (omega arith);
    }

-- 10, a block past the old count: a stale record of the new issue completes the table.
stale : List ℕ
stale = none 2 5 ++ line 2 6 1 b

past_mixed : Mixture (cut_after stale (one 6) 1) stale (one 6)
unfolding opened stale
past_mixed =
    record {
      count = 1;
      sound = refl;
      not_old = differs 11 {m = 1} {n = 0} refl refl (omega arith);
      not_new = differs 528 {m = 0x62} {n = 0x61} refl refl (omega arith);
    }

past_refused : take_over stale (one 6) 0 ≡ refusing stale 10
unfolding opened stale
past_refused = by_ten stale (one 6) one_fit refl

-- 10, a block of kind 1: in an area that was cut behind its header, the header alone has the new issue. A disk writes the record of another table of that issue
-- first, and it completes the table. Where blocks are written in order no header can do so.
head_only : List ℕ
head_only = cut_after (one 5) keeping 1

head_mixed : Mixture (torn_after head_only (one 6) (eqb 1)) head_only (one 6)
unfolding opened keeping head_only
head_mixed =
    record {
      count = 1;
      sound = refl;
      not_old = differs 923 {m = 6} {n = 5} refl refl (omega arith);
      not_new = differs 12 {m = 1} {n = 0} refl refl (omega arith);
    }

head_refused : take_over head_only (one 6) 0 ≡ refusing head_only 10
unfolding opened keeping head_only
head_refused = by_ten head_only (one 6) one_fit refl

-- 11, an area too short: block 0 is blamed after one block, and not block 1.
short_blamed : check_area (cut_after (none 2 5) (one 6) 1) 0 ≡ Err 0
unfolding opened
short_blamed = refl

-- 9, an unsound new table: after all its blocks block 1 is bad, and it does not read.
unsound : List ℕ
unsound = header 2 6 2 ++ (line 2 7 1 a ++ line 2 6 2 b)

unsound_all : check_area (cut_after roomy unsound 3) 0 ≡ Err 1
unfolding opened unsound
unsound_all = refl

-- 9, a new table longer than its count says: after the first of its two blocks the area is sound, and reads neither as it was nor as the whole of it.
longer : List ℕ
longer = none 2 6 ++ line 2 6 1 a

longer_mixed : Mixture (cut_after (one 5) longer 1) (one 5) longer
unfolding opened longer
longer_mixed =
    record {
      count = 0;
      sound = refl;
      not_old = differs 411 {m = 6} {n = 5} refl refl (omega arith);
      not_new = differs 512 {m = 0} {n = 2} refl refl (omega arith);
    }

-- 9, edition 1: this keeps no cut out. A sound table of edition 1 has issue 0, so 10 refuses it wherever a kind 1 or 2 block stands, and where none does no old
-- block completes a table.
first_sound_lem : check_table first 0 ≡ Ok 1
unfolding opened
first_sound_lem = refl

first_refused : not_greater roomy first ≡ true
unfolding opened
first_refused = refl

first_over_zeros : check_area (cut_after (replicate 1024 0) first 1) 0 ≡ Err 1
unfolding opened
first_over_zeros = refl

-- k up to the count and one: past it there is nothing to write, and `cut_after` would lose the area's last piece of 511 bytes.
beyond : length (cut_after roomy (three 6) 5) ≡ 2048
unfolding opened
beyond = refl

exactly : length roomy ≡ 2559
unfolding opened
exactly = refl

-- "Provided that a block is written whole": the later half of block 1, under the new header. The old name stands in a record of the new issue, and the words of
-- the two names have one sum.
forth : List ℕ
forth = 0x61 ∷ 0x61 ∷ 0x61 ∷ 0x61 ∷ 0x62 ∷ 0x62 ∷ 0x62 ∷ 0x62 ∷ []

back : List ℕ
back = 0x62 ∷ 0x62 ∷ 0x62 ∷ 0x62 ∷ 0x61 ∷ 0x61 ∷ 0x61 ∷ 0x61 ∷ []

before : List ℕ
before = header 2 5 1 ++ line 2 5 1 forth

after : List ℕ
after = header 2 6 1 ++ line 2 6 1 back

half : List ℕ
half = header 2 6 1 ++ (take 256 (line 2 5 1 forth) ++ drop 256 (line 2 6 1 back))

half_mixed : Mixture half before after
unfolding opened forth back before after half
half_mixed =
    record {
      count = 1;
      sound = refl;
      not_old = differs 411 {m = 6} {n = 5} refl refl (omega arith);
      not_new = differs 528 {m = 0x61} {n = 0x62} refl refl (omega arith);
    }

-- "and the profile file stays": a record of the new table shows four bytes of it, and three are left.
profiled : List ℕ
profiled = header 2 6 1 ++ sealed (set (line 2 6 1 a) 405 4)

profile_whole : check_table profiled 4 ≡ Ok 1
unfolding opened profiled
profile_whole = refl

profile_cut : check_area (cut_after roomy profiled 2) 3 ≡ Err 1
unfolding opened profiled
profile_cut = refl
