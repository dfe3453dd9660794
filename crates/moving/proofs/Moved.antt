-- A table that was moved, by its blocks: what it keeps, that it is as sound as it was, and there and back.
use Rattle.std.specs.Prelude.{Ok}
use Rattle.octets.specs.Standard.{ℕ, suc, ◌+◌, ◌*◌, ◌^◌, ◌<◌, ◌≤◌, Bool, true, false, ◌&&◌, ◌||◌, ◌≡◌, refl, sym, ◌∙◌, ap, List, arith, eqb, leb}
use Rattle.octets.specs.Standard.{length, leb-true, leb-false}
use Rattle.octets.specs.Sum.{sum_words}
use Rattle.octets.proofs.Numbers.{Bytes}
use Rattle.record.specs.Fields.{edition_of, issue_of, set_of}
use Rattle.record.specs.HeaderBlock.{header_of, sound_edition, sound_header}
use Rattle.record.specs.RecordBlock.{sound_record}
use Rattle.record.specs.declared.header.Header.{Header}
use Rattle.record.proofs.Alike.{SameFields, fields_same, member_same}
use Rattle.record.proofs.OneSet.{SameMember}
use Rattle.record.proofs.Tests.{record_holds, HeaderTests, header_says}
use Rattle.blocks.specs.Blocks.{block_of}
use Rattle.table.specs.Named.{public_at}
use Rattle.table.specs.Check.{rises_at, stands_at, agrees_at, sound_at, check_table}
use Rattle.table.proofs.Agreement.{agrees_alike}
use Rattle.table.proofs.Rising.{rises_alike}
use Rattle.blocks.proofs.Blocks.{block_length, block_bytes, table_is, table_same}
use Rattle.table.proofs.Sound.{TableTests, table_holds, tests_sound, tests_record, tests_limits, tests_rises, tests_agrees}
use Rattle.blocks.specs.Changed.{changed_at}
use Rattle.blocks.proofs.Changed.{all_length, all_block}
use Rattle.moving.specs.Moves.{moved, moved_all}
use Rattle.moving.specs.Carried.{Carried, header_with}
use Rattle.moving.proofs.Bytes.{moved_whole, moved_edition, moved_issue, moved_sum, moved_twice}
use Rattle.moving.proofs.Carried.{moved_carried, fields_run, set_same, header_same, record_kept, header_kept}
use Rattle.moving.proofs.Same.{moved_same}
use Rattle.table.proofs.Heads as heads

-- What a sound table says of each block: its sum, and the header's edition and issue number.
module _ (t : List ℕ) (file count : ℕ) (was : TableTests t file count) where
  abbrev first : List ℕ
  first = block_of t 0

  pub header_tests : HeaderTests first
  header_tests = header_says first was.header

  record_edition : (k : ℕ) → 1 ≤ k → k ≤ count → edition_of (block_of t k) ≡ edition_of first
  unfolding header_of
  record_edition k a b = heads.record_edition (block_of t k) k (header_of first) file (tests_sound t file count was k a b)

  record_issue : (k : ℕ) → 1 ≤ k → k ≤ count → issue_of (block_of t k) ≡ issue_of first
  unfolding header_of
  record_issue k a b = heads.record_issue (block_of t k) k (header_of first) file (tests_sound t file count was k a b)

  -- of every block, the header too
  each_block : {A : Type 0} (of : List ℕ → A) (k : ℕ) → k ≤ count → ((j : ℕ) → 1 ≤ j → j ≤ count → of (block_of t j) ≡ of first) → of (block_of t k) ≡ of first
  each_block of k h each = go (leb 1 k) refl
    where
      go : (x : Bool) → leb 1 k ≡ x → of (block_of t k) ≡ of first
      go true e = each k (leb-true 1 k e) h
      go false e = let q : k ≡ 0 = omega (arith, leb-false 1 k e) in ap (λ (j : ℕ). of (block_of t j)) q

  pub each_edition : (k : ℕ) → k ≤ count → edition_of (block_of t k) ≡ edition_of first
  each_edition k h = each_block edition_of k h record_edition

  pub each_issue : (k : ℕ) → k ≤ count → issue_of (block_of t k) ≡ issue_of first
  each_issue k h = each_block issue_of k h record_issue

  each_sum : (k : ℕ) → k ≤ count → sum_words (block_of t k) 128 ≡ 0
  each_sum k h =
      each_block (λ (b : List ℕ). sum_words b 128) k h (λ j a b. (tests_record t file count was j a b).sum ∙ sym header_tests.sum)
      ∙ header_tests.sum

  -- edition 1 or 2; edition 1 names no issue number
  pub header_edition : sound_edition (header_of first) ≡ true
  header_edition = header_tests.edition

-- The blocks of a moved table.
module _ (t : List ℕ) (count edition issue : ℕ) (size : length t ≡ 512 * (count + 1)) where
  blocks : length t ≡ 512 * suc count
  blocks = omega arith

  whole : (k : ℕ) → k ≤ count → length (block_of t k) ≡ 512
  whole k h = block_length t k (omega arith)

  pub moved_size : length (moved_all t count edition issue) ≡ length t
  unfolding moved_all
  moved_size = all_length t (suc count) (λ (k : ℕ). true) (moved edition issue) blocks (moved_whole edition issue)

  pub moved_block : (k : ℕ) → k ≤ count → block_of (moved_all t count edition issue) k ≡ moved edition issue (block_of t k)
  unfolding moved_all changed_at
  moved_block k h = all_block t (suc count) (λ (k : ℕ). true) (moved edition issue) blocks (moved_whole edition issue) k (omega arith)

  pub each_carried : (k : ℕ) → k ≤ count → Carried (block_of t k) (block_of (moved_all t count edition issue) k)
  each_carried k h = rw (moved_block k h) (moved_carried edition issue (block_of t k))

  pub edition_new : (k : ℕ) → k ≤ count → edition_of (block_of (moved_all t count edition issue) k) ≡ edition
  edition_new k h = rw (moved_block k h) (moved_edition edition issue (block_of t k) (whole k h))

  pub issue_new : issue < 2 ^ 32 → (k : ℕ) → k ≤ count → issue_of (block_of (moved_all t count edition issue) k) ≡ issue
  issue_new l k h = rw (moved_block k h) (moved_issue edition issue (block_of t k) (whole k h) l)

  sum_new : (k : ℕ) → k ≤ count → sum_words (block_of (moved_all t count edition issue) k) 128 ≡ 0
  sum_new k h = rw (moved_block k h) (moved_sum edition issue (block_of t k) (whole k h))

-- an edition and an issue number that a sound table may have; a set number is of edition 2 alone
abbrev pub fits : ℕ → ℕ → Bool
fits edition issue = eqb edition 1 && eqb issue 0 || eqb edition 2

-- A sound table that is moved is sound, with as many records.
module _ (t : List ℕ) (file count edition issue : ℕ) (was : TableTests t file count) (small : issue < 2 ^ 32) (right : fits edition issue ≡ true)
    (sets : (k : ℕ) → 1 ≤ k → k ≤ count → (eqb (set_of (block_of t k)) 0 || eqb edition 2) ≡ true) where
  abbrev y : List ℕ
  y = moved_all t count edition issue

  abbrev h : Header
  h = header_of (block_of t 0)

  none : 0 ≤ count
  none = omega arith

  carried : (k : ℕ) → k ≤ count → Carried (block_of t k) (block_of y k)
  carried = each_carried t count edition issue was.size

  edition_is : (k : ℕ) → k ≤ count → edition_of (block_of y k) ≡ edition
  edition_is = edition_new t count edition issue was.size

  issue_is : (k : ℕ) → k ≤ count → issue_of (block_of y k) ≡ issue
  issue_is = issue_new t count edition issue was.size small

  head_is : header_of (block_of y 0) ≡ header_with h edition issue
  head_is = header_same (block_of t 0) (block_of y 0) (carried 0 none) ∙ rw (edition_is 0 none, issue_is 0 none)

  header_sound : sound_header (block_of y 0) ≡ true
  header_sound =
      header_kept (block_of t 0) (block_of y 0) (carried 0 none) (rw (edition_is 0 none, issue_is 0 none) right)
      (sum_new t count edition issue was.size 0 none) (header_tests t file count was)

  fields_is : (k : ℕ) → 1 ≤ k → k ≤ count → SameFields (block_of t k) (block_of y k)
  fields_is k a b =
      fields_same (block_of t k) (block_of y k) (fields_run (block_of t k) (block_of y k) (carried k b)) (tests_limits t file count was k a b)

  public_is_lem : (k : ℕ) → 1 ≤ k → k ≤ count → public_at y k ≡ public_at t k
  unfolding public_at
  public_is_lem k a b = (fields_is k a b).public

  rises_is : (k : ℕ) → 1 ≤ k → k ≤ count → rises_at y k ≡ rises_at t k
  rises_is k a b = rises_alike t y k a (λ j u v. public_is_lem j u (omega arith))

  record_sound : (k : ℕ) → 1 ≤ k → k ≤ count → sound_record (block_of y k) k (header_with h edition issue) file ≡ true
  record_sound k a b =
      record_holds (block_of y k) k (header_with h edition issue) file
      (record_kept (block_of t k) (block_of y k) (carried k b) k h (header_with h edition issue) file (edition_is k b) (issue_is k b) refl
      (sum_new t count edition issue was.size k b) (rw (edition_is k b) (sets k a b)) (tests_record t file count was k a b))

  member_is : (k : ℕ) → 1 ≤ k → k ≤ count → SameMember (block_of t k) (block_of y k)
  member_is k a b = member_same (block_of t k) (block_of y k) (fields_is k a b) (set_same (block_of t k) (block_of y k) (carried k b))

  agrees_is : (k : ℕ) → 1 ≤ k → k ≤ count → agrees_at y k ≡ agrees_at t k
  agrees_is k a b = agrees_alike t y k (λ j u v. member_is j u (omega arith)) a

  at_sound : (k : ℕ) → 1 ≤ k → k ≤ count → sound_at y (header_of (block_of y 0)) file k ≡ true
  unfolding sound_at stands_at
  at_sound k a b =
      rw (
        head_is,
        record_sound k a b,
        rises_is k a b,
        tests_rises t file count was k a b,
        agrees_is k a b,
      )
      (tests_agrees t file count was k a b)

  pub moved_tests : TableTests y file count
  moved_tests =
      record { size = moved_size t count edition issue was.size ∙ was.size; counted = rw head_is was.counted; header = header_sound; each = at_sound }

  pub moved_sound : check_table y file ≡ Ok count
  moved_sound = table_holds y file count moved_tests

  pub moved_header : edition_of (block_of y 0) ≡ edition
  moved_header = edition_is 0 none

-- A sound table that was moved, and is moved again to the edition and the issue number that it had, is as it was.
module _ (t : List ℕ) (file count edition issue : ℕ) (was : TableTests t file count) (bytes : Bytes t) where
  abbrev there : List ℕ
  there = moved_all t count edition issue

  abbrev again : List ℕ
  again = moved_all there count (edition_of (block_of t 0)) (issue_of (block_of t 0))

  there_size : length there ≡ 512 * (count + 1)
  there_size = moved_size t count edition issue was.size ∙ was.size

  block_again : (k : ℕ) → k ≤ count → block_of again k ≡ block_of t k
  block_again k h =
      moved_block there count (edition_of (block_of t 0)) (issue_of (block_of t 0)) there_size k h
      ∙ ap (moved (edition_of (block_of t 0)) (issue_of (block_of t 0))) (moved_block t count edition issue was.size k h)
      ∙ moved_twice (edition_of (block_of t 0)) (issue_of (block_of t 0)) edition issue (block_of t k) (whole t count edition issue was.size k h)
      ∙ rw (← each_edition t file count was k h, ← each_issue t file count was k h)
      (moved_same (block_of t k) (block_bytes t bytes k) (each_sum t file count was k h))

  pub there_again : again ≡ t
  there_again =
      table_is again (suc count) (moved_size there count (edition_of (block_of t 0)) (issue_of (block_of t 0)) there_size ∙ there_size ∙ omega arith)
      ∙ table_same (block_of again) (block_of t) (suc count) (λ k l. block_again k (omega arith))
      ∙ sym (table_is t (suc count) (was.size ∙ omega arith))
