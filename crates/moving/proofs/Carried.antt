-- What a moved block keeps: the bytes between those that a move may write, and so the numbers there; and that it is as sound as it was.
use Rattle.octets.specs.Standard.{ℕ, ◌+◌, ◌*◌, true, ◌||◌, ◌≡◌, refl, ◌∙◌, List, [], ◌∷◌, arith, eqb, get_or, eq-eqb}
use Rattle.octets.specs.Run.{zero_between}
use Rattle.octets.specs.Sum.{sum_words}
use Rattle.octets.proofs.Chains.{chain_says, ◌also◌}
use Rattle.record.specs.Fields.{edition_of, issue_of, set_of}
use Rattle.record.specs.HeaderBlock.{header_of, sound_edition, is_header, sound_header_rest, sound_header}
use Rattle.record.specs.RecordBlock.{record_of, is_record, sound_set}
use Rattle.record.specs.declared.header.Header.{Header}
use Rattle.record.proofs.Alike.{SameRun, run_within, run_half, run_word, run_zeros, networks_same}
use Rattle.record.proofs.Tests.{RecordTests, HeaderTests, Limits, limits_say, Zeros, rest_says, rest_holds}
use Rattle.moving.specs.Moves.{moved}
use Rattle.moving.specs.Carried.{Carried, record_with, header_with}
use Rattle.moving.proofs.Bytes.{stays_first, stays_last, moved_length, moved_other}

pub moved_carried : (edition issue : ℕ) (b : List ℕ) → Carried b (moved edition issue b)
moved_carried edition issue b = record { size = moved_length edition issue b; bytes = λ i l h. moved_other edition issue b i h }

module _ (b c : List ℕ) (kept : Carried b c) where
  kind_same : get_or c 0 0 ≡ get_or b 0 0
  kind_same = kept.bytes 0 (omega arith) refl

  -- between the edition and the issue number, and between it and the check word
  pub first_run : SameRun b c 2 408
  first_run = record { size = kept.size; bytes = λ i h l. kept.bytes i (omega arith) (stays_first i h l) }

  last_run : SameRun b c 412 508
  last_run = record { size = kept.size; bytes = λ i h l. kept.bytes i (omega arith) (stays_last i h l) }

  pub fields_run : SameRun b c 8 400
  fields_run = run_within b c first_run 8 400 (omega arith) (omega arith)

  pub set_same : set_of c ≡ set_of b
  set_same = run_half b c first_run 406 (omega arith) (omega arith)

  -- the numbers of a record
  pub record_same : record_of c ≡ record_with (record_of b) (edition_of c) (issue_of c)
  unfolding record_of
  record_same =
      rw (
        kind_same,
        run_word b c first_run 4 (omega arith) (omega arith),
        first_run.bytes 8 (omega arith) (omega arith),
        first_run.bytes 9 (omega arith) (omega arith),
        first_run.bytes 10 (omega arith) (omega arith),
        first_run.bytes 11 (omega arith) (omega arith),
        first_run.bytes 12 (omega arith) (omega arith),
        first_run.bytes 13 (omega arith) (omega arith),
        first_run.bytes 14 (omega arith) (omega arith),
        first_run.bytes 15 (omega arith) (omega arith),
        run_word b c first_run 400 (omega arith) (omega arith),
        run_half b c first_run 404 (omega arith) (omega arith),
        set_same,
      )

  -- the numbers of a header
  pub header_same : header_of c ≡ header_with (header_of b) (edition_of c) (issue_of c)
  unfolding header_of
  header_same =
      rw (
        kind_same,
        run_word b c first_run 4 (omega arith) (omega arith),
        run_word b c first_run 8 (omega arith) (omega arith),
        first_run.bytes 12 (omega arith) (omega arith),
        first_run.bytes 13 (omega arith) (omega arith),
        first_run.bytes 14 (omega arith) (omega arith),
        first_run.bytes 15 (omega arith) (omega arith),
      )

  -- A sound record is sound under a header of its new edition and issue number with as many networks; the first edition has no set.
  module _ (k : ℕ) (h g : Header) (file : ℕ) (edition : edition_of c ≡ g.edition) (issue : issue_of c ≡ g.issue) (networks : g.networks ≡ h.networks)
      (sum : sum_words c 128 ≡ 0) (sets : (eqb (set_of b) 0 || eqb (edition_of c) 2) ≡ true) (was : RecordTests b k h file) where
    zeros : Zeros b (record_of b)
    zeros = rest_says b (record_of b) was.rest

    limits_are : Limits (record_of b)
    limits_are = limits_say (record_of b) was.limits

    head_is : is_record (record_with (record_of b) (edition_of c) (issue_of c)) k g ≡ true
    head_is =
        let s = chain_says (eqb (record_of b).kind 2) (_ ∷ _ ∷ _ ∷ []) was.head in
        s 0 also eq-eqb _ _ edition also s 2 also eq-eqb _ _ issue

    rest_is : Zeros c (record_of b)
    rest_is =
        record {
          blank = run_zeros b c first_run 2 4 (omega arith) (omega arith) ∙ zeros.blank;
          public = run_zeros b c first_run (16 + (record_of b).public) 144 (omega arith) (omega arith) ∙ zeros.public;
          private = run_zeros b c first_run (144 + (record_of b).private) 272 (omega arith) (omega arith) ∙ zeros.private;
          server = run_zeros b c first_run (272 + (record_of b).server) 368 (omega arith) (omega arith) ∙ zeros.server;
          mandatory = run_zeros b c first_run (368 + 4 * (record_of b).mandatory) 384 (omega arith) (omega arith) ∙ zeros.mandatory;
          optional = run_zeros b c first_run (384 + 4 * (record_of b).optional) 400 (omega arith) (omega arith) ∙ zeros.optional;
          last = run_zeros b c last_run 412 508 (omega arith) (omega arith) ∙ zeros.last;
        }

    set_is : sound_set (record_with (record_of b) (edition_of c) (issue_of c)) ≡ true
    unfolding record_of
    set_is = sets

    pub record_kept : RecordTests c k g file
    record_kept =
        record {
          sum = sum;
          head = rw record_same head_is;
          set = rw record_same set_is;
          limits = rw record_same was.limits;
          server = rw record_same was.server;
          roaming = rw (record_same, networks) was.roaming;
          profile = rw record_same was.profile;
          rest = rw record_same (rest_holds c (record_of b) rest_is);
        }

  -- A sound header is sound in its new edition.
  module _ (edition : sound_edition (header_with (header_of b) (edition_of c) (issue_of c)) ≡ true) (sum : sum_words c 128 ≡ 0) (was : HeaderTests b) where
    abbrev h : Header
    h = header_of b

    head_new : is_header (header_with h (edition_of c) (issue_of c)) ≡ true
    head_new = let s = chain_says (eqb h.kind 1) (_ ∷ _ ∷ []) was.head in s 0 also edition also s 2

    rest_new : sound_header_rest c h ≡ true
    rest_new =
        let s = chain_says (zero_between b 2 4) (_ ∷ _ ∷ _ ∷ _ ∷ []) was.rest in
        (run_zeros b c first_run 2 4 (omega arith) (omega arith) ∙ s 0) also (run_zeros b c first_run (16 + h.host) 80 (omega arith) (omega arith) ∙ s 1)
        also (run_zeros b c first_run (80 + h.realm) 144 (omega arith) (omega arith) ∙ s 2)
        also (run_zeros b c first_run 400 408 (omega arith) (omega arith) ∙ s 3) also (run_zeros b c last_run 412 508 (omega arith) (omega arith) ∙ s 4)

    pub header_kept : sound_header c ≡ true
    unfolding sound_header
    header_kept =
        rw header_same
        (was.counts also (eq-eqb _ _ sum also head_new also was.numbers also rest_new also (networks_same b c fields_run h.networks ∙ was.places)))
