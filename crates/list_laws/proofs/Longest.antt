-- The longest list: 4,096 lines of 840 bytes behind the first of 121, which is NDUSHAVIRE_LIST_MAX in the C header.
use Rattle.std.specs.Prelude.{Ok}
use Rattle.octets.specs.Standard.{ℕ, zero, suc, ◌+◌, ◌*◌, ◌/◌, ◌%◌, ◌<◌, ◌≤◌, Bool, true, false, cond, ◌≡◌, refl, ap, arith, ltb, lt-ltb}
use Rattle.octets.specs.Standard.{List, ◌∷◌, [], length, length-append, length-take}
use Rattle.octets.specs.Number.{be16_at, be32_at}
use Rattle.octets.proofs.Numbers.{Bytes}
use Rattle.record.specs.Fields.{state_of, bits_of, roaming_of, mandatory_count, optional_count, public_of, private_of, server_of, profile_start, profile_size, set_of}
use Rattle.record.specs.RecordBlock.{record_of}
use Rattle.record.proofs.Tests.{Limits}
use Rattle.blocks.specs.Blocks.{block_of}
use Rattle.blocks.proofs.Blocks.{block_bytes}
use Rattle.table.specs.Check.{check_table}
use Rattle.table.specs.SoundTable.{SoundTable}
use Rattle.table.proofs.Sound.{sound_few, sound_limits_lem}
use Rattle.decimals.specs.Decimal.{digits_more, digit_count, decimal}
use Rattle.decimals.proofs.Sizes.{size_few, decimal_length}
use Rattle.quoting.proofs.Names.{quoted_length, doubled_most}
use Rattle.rows.specs.Row.{row_of, line_of, numbers_of, numbers_line}
use Rattle.listing.specs.ListOf.{first_line, lines_of, list_of}
use Rattle.listing.specs.Export.{AfterList, refusing, exported}
use Rattle.listing.proofs.Lists.{first_length_lem, list_is}
use Rattle.list_laws.specs.Refusals.{ExportRefuses, unsound, older, unlisted, short}
use Rattle.list_laws.proofs.Refusing.{export_refuses}

-- A number below a power of ten has so many digits at most.
more_none : (f n : ℕ) → n < 10 → digits_more f n ≤ 0
unfolding digits_more
more_none zero n h = omega arith
more_none (suc f) n h = rw (lt-ltb n 10 h) (omega arith)

more_next : (f n m : ℕ) → digits_more f (n / 10) ≤ m → digits_more (suc f) n ≤ suc m
unfolding digits_more
more_next f n m h = go (ltb n 10)
  where
    go : (x : Bool) → cond x 0 (suc (digits_more f (n / 10))) ≤ suc m
    go true = omega arith
    go false = omega arith

one_digit : (n : ℕ) → n < 10 → digit_count n ≤ 1
unfolding digit_count
one_digit n h = omega (arith, more_none 9 n h)

three_digits : (n : ℕ) → n < 1000 → digit_count n ≤ 3
unfolding digit_count
three_digits n h = omega (arith, more_next 8 n 1 (more_next 7 (n / 10) 0 (more_none 7 (n / 10 / 10) (omega arith))))

four_digits : (n : ℕ) → n < 10000 → digit_count n ≤ 4
unfolding digit_count
four_digits n h =
    omega (arith, more_next 8 n 2 (more_next 7 (n / 10) 1 (more_next 6 (n / 10 / 10) 0 (more_none 6 (n / 10 / 10 / 10) (omega arith)))))

five_digits : (n : ℕ) → n < 100000 → digit_count n ≤ 5
unfolding digit_count
five_digits n h =
    omega (
      arith,
      more_next 8 n 3
          (more_next 7 (n / 10) 2 (more_next 6 (n / 10 / 10) 1 (more_next 5 (n / 10 / 10 / 10) 0 (more_none 5 (n / 10 / 10 / 10 / 10) (omega arith))))),
    )

-- a number more in a line, of d digits at most
number_more : (n d m : ℕ) (ns : List ℕ) → digit_count n ≤ d → length (numbers_line ns) ≤ m → length (numbers_line (n ∷ ns)) ≤ 1 + d + m
unfolding numbers_line
number_more n d m ns h i = omega (arith, length-append (decimal n) (numbers_line ns), decimal_length n)

no_more : length (numbers_line []) ≤ 2
unfolding numbers_line
no_more = omega arith

module _ (b : List ℕ) (bytes : Bytes b) (l : Limits (record_of b)) where
  roaming_most : roaming_of b < 1000
  roaming_most = omega (arith, bytes 10)

  set_most : set_of b < 100000
  unfolding be16_at
  set_most = omega (arith, bytes 406, bytes 407)

  word_more : (at m : ℕ) (ns : List ℕ) → length (numbers_line ns) ≤ m → length (numbers_line (be32_at b at ∷ ns)) ≤ 11 + m
  word_more at m ns h = number_more (be32_at b at) 10 m ns (size_few (be32_at b at)) h

  bit_more : (x m : ℕ) (ns : List ℕ) → length (numbers_line ns) ≤ m → length (numbers_line (x % 2 ∷ ns)) ≤ 2 + m
  bit_more x m ns h = number_more (x % 2) 1 m ns (one_digit (x % 2) (omega arith)) h

  numbers_most : length (numbers_line (numbers_of b)) ≤ 128
  unfolding numbers_of record_of
  numbers_most =
      number_more (state_of b) 1 _ _ (one_digit (state_of b) (omega (arith, l.state)))
      (bit_more (bits_of b) _ _
      (bit_more (bits_of b / 2) _ _
      (bit_more (bits_of b / 4) _ _
      (number_more (roaming_of b) 3 _ _ (three_digits (roaming_of b) roaming_most)
      (number_more (mandatory_count b) 1 _ _ (one_digit (mandatory_count b) (omega (arith, l.mandatory)))
      (word_more 368 _ _
      (word_more 372 _ _
      (word_more 376 _ _
      (word_more 380 _ _
      (number_more (optional_count b) 1 _ _ (one_digit (optional_count b) (omega (arith, l.optional)))
      (word_more 384 _ _
      (word_more 388 _ _
      (word_more 392 _ _
      (word_more 396 _ _
      (number_more (profile_start b) 10 _ _ (size_few (profile_start b))
      (number_more (profile_size b) 4 _ _ (four_digits (profile_size b) (omega (arith, l.size)))
      (number_more (set_of b) 5 _ _ (five_digits (set_of b) set_most) no_more)))))))))))))))))

  line_most : length (line_of (row_of b)) ≤ 840
  unfolding row_of line_of public_of private_of server_of record_of
  line_most =
      let p : length (public_of b) ≤ 128 = simp length-take (omega (arith, l.public)) in
      let q : length (private_of b) ≤ 128 = simp length-take (omega (arith, l.private)) in
      let r : length (server_of b) ≤ 96 = simp length-take (omega (arith, l.server)) in
      simp length-append (omega (
        arith,
        quoted_length (public_of b),
        quoted_length (private_of b),
        quoted_length (server_of b),
        doubled_most (public_of b),
        doubled_most (private_of b),
        doubled_most (server_of b),
        numbers_most,
      ))

module _ (t : List ℕ) (count : ℕ) (bytes : Bytes t) (s : SoundTable t count) where
  lines_most : (k : ℕ) → k ≤ count → length (lines_of t k) ≤ 840 * k
  unfolding lines_of
  lines_most zero h = omega arith
  lines_most (suc k) h =
      omega (
        arith,
        lines_most k (omega arith),
        length-append (lines_of t k) (line_of (row_of (block_of t (suc k)))),
        line_most (block_of t (suc k)) (block_bytes t bytes (suc k)) (sound_limits_lem t count s (suc k) (omega arith) h),
      )

  list_lines : length (list_of t) ≤ 121 + 840 * count
  list_lines = rw (list_is t count s) (omega (arith, first_length_lem, length-append first_line (lines_of t count), lines_most count (omega arith)))

-- the list of a sound table: 840 bytes for each record behind the first line
pub list_most : (t : List ℕ) (file count : ℕ) → Bytes t → check_table t file ≡ Ok count → length (list_of t) ≤ 121 + 840 * count
list_most t file count bytes e = list_lines t count bytes (record { file = file; checked = e })

-- so an area of 3,440,761 bytes is never too short
pub never_short : (t : List ℕ) (file : ℕ) (area : List ℕ) → Bytes t → 3440761 ≤ length area → exported t file area ≡ refusing area 15 0 → ⊥
never_short t file area bytes room e = go 15 0 (export_refuses t file area 15 0 (ap (λ (o : AfterList). o.said) e)) refl
  where
    go : (a b : ℕ) → ExportRefuses t file area a b → a ≡ 15 → ⊥
    go a b (unsound k s) q = omega arith
    go a b (older count s n) q = omega arith
    go a b (unlisted count k f u) q = omega arith
    go a b (short count f l h) q =
        let s : SoundTable t count = record { file = file; checked = f.checked } in
        omega (arith, list_most t file count bytes f.checked, sound_few t count s)
