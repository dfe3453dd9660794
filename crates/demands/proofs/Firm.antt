-- How firm the promise is: it leaves one return for each input, and the word returned decides the answer.
use Rattle.std.specs.Prelude.{Result, Ok, Err}
use Rattle.octets.specs.Standard.{ℕ, zero, suc, ◌+◌, ◌*◌, ◌≤◌, ◌<◌, Bool, true, false, ◌&&◌, cond, ◌≡◌, refl, sym, ap, ◌∙◌, inl, inr, ◌≢◌, List, arith}
use Rattle.octets.specs.Standard.{length, leb, eqb, eq-eqb, ne_eqb}
use Rattle.record.specs.HeaderBlock.{header_of, sound_header}
use Rattle.record.proofs.Sound.{header_count}
use Rattle.blocks.specs.Blocks.{block_of, first_bad}
use Rattle.table.specs.Area.{table_in, check_area}
use Rattle.table.specs.Check.{sound_at, check_records, check_table}
use Rattle.vectors.specs.VectorFile.{pieces_of, sound_piece, check_vectors}
use Rattle.vectors.proofs.Pieces.{piece_near}
use Rattle.calling.specs.Call.{Answer, Answered, Refused}
use Rattle.calling.specs.Lent.{Lent}
use Rattle.refusals.specs.Early.{check_value}
use Rattle.ndushavire.specs.Word.{word, check_word, call_word, move_word, take_word}
use Rattle.ndushavire.specs.Reads.{number_in, take_number, Reads, ReadsCheck, ReadsMove, ReadsTake}
use Rattle.ndushavire.proofs.Parts.{parts}
use Rattle.moving.specs.Outcomes.{forward, back}
use Rattle.moving.specs.Conditions.{ForwardRefuses, BackRefuses}
use Rattle.moving.specs.Outcomes.{Move, refused}
use Rattle.moving.proofs.Moving.{forward_moved, forward_refuses, back_moved, back_refuses}
use Rattle.taking.specs.Ended.{Ended}
use Rattle.taking.specs.TakeOver.{take_over}
use Rattle.taking.specs.TakeOver.{Taken}
use Rattle.taking.specs.TakeOver as take
use Rattle.taking.proofs.Taking.{only_takes, ended}
use Rattle.ndushavire.specs.Promise.{CheckPromise, CheckVectorsPromise, DecidePromise, ForwardPromise, BackPromise, TakePromise, VersionPromise}

-- Any two returns that meet the promise are equal.
pub check_unique : (table profile : List ℕ) (r s : ℕ) → CheckPromise table profile r → CheckPromise table profile s → r ≡ s
check_unique table profile r s p q = p.answer ∙ sym q.answer

pub check_vectors_unique : (vectors : List ℕ) (r s : ℕ) → CheckVectorsPromise vectors r → CheckVectorsPromise vectors s → r ≡ s
check_vectors_unique vectors r s p q = p.answer ∙ sym q.answer

-- So are any two outcomes of a decision: the word, the table, the vectors and the buffer.
pub decide_unique : (x : Lent) (r s : ℕ) (t u v w o q : List ℕ) → DecidePromise x r t v o → DecidePromise x s u w q
    → (r ≡ s) × (t ≡ u) × (v ≡ w) × (o ≡ q)
decide_unique x r s t u v w o q a b =
    (a.word_is ∙ sym b.word_is, a.table_is ∙ sym b.table_is, a.vectors_is ∙ sym b.vectors_is, a.buffer_is ∙ sym b.buffer_is)

-- What is put into a word is read out of it; so is a call.
pub answer_reads : (a : Answer) → a.place < 65536 → a.length < 4294967296 → Reads (Answered a) (call_word (Answered a))
answer_reads a l h =
    let p = parts 0 a.place a.length l h in
    record {
      number = p.number_is;
      place = p.place_is;
      value = p.value_is;
      call = rw (eq-eqb (number_in (word 0 a.place a.length)) 0 p.number_is, p.place_is, p.value_is);
    }

pub refusal_reads : (number besides : ℕ) → 1 ≤ number → besides < 4294967296 → Reads (Refused number besides) (call_word (Refused number besides))
refusal_reads number besides l h =
    let p = parts number 0 besides (omega arith) h in
    let other : number_in (word number 0 besides) ≢ 0 = λ q. omega (arith, p.number_is, q) in
    record {
      number = p.number_is;
      place = p.place_is;
      value = p.value_is;
      call = rw (ne_eqb (number_in (word number 0 besides)) 0 other, p.number_is, p.value_is);
    }

-- So is a check's answer, if what it carries stays below 2^32; n is the number of its refusal.
module _ (n : ℕ) (some : 1 ≤ n) where
  check_reads : (c : Result ℕ ℕ) → check_value c < 4294967296 → ReadsCheck n c (check_word n c)
  check_reads (Ok count) h =
      let p = parts 0 0 count (omega arith) h in
      record { number = p.number_is; place = p.place_is; value = p.value_is; answer = rw (eq-eqb (number_in (word 0 0 count)) 0 p.number_is, p.value_is) }
  check_reads (Err block) h =
      let p = parts n 0 block (omega arith) h in
      let other : number_in (word n 0 block) ≢ 0 = λ q. omega (arith, p.number_is, q) in
      record { number = p.number_is; place = p.place_is; value = p.value_is; answer = rw (ne_eqb (number_in (word n 0 block)) 0 other, p.value_is) }

  word_decides : (c d : Result ℕ ℕ) → check_value c ≤ 4096 → check_value d ≤ 4096 → check_word n c ≡ check_word n d → c ≡ d
  word_decides c d h k e = sym (check_reads c (omega arith)).answer ∙ rw e (check_reads d (omega arith)).answer

-- It does: no table has more than 4,096 records.
first_most : (good : ℕ → Bool) (count n k most : ℕ) → count ≤ most → k + n ≤ most + 1 → check_value (first_bad good count n k) ≤ most
unfolding first_bad
first_most good count zero k most h l = h
first_most good count (suc n) k most h l = go (good k) (first_most good count n (suc k) most h (omega arith))
  where
    go : (x : Bool) → check_value (first_bad good count n (suc k)) ≤ most → check_value (cond x (first_bad good count n (suc k)) (Err k)) ≤ most
    go true r = r
    go false r = omega arith

pub check_most : (t : List ℕ) (file : ℕ) → check_value (check_table t file) ≤ 4096
unfolding check_table check_records
check_most t file = go (leb 512 (length t)) (sound_header (block_of t 0)) (eqb (length t) (512 * ((header_of (block_of t 0)).count + 1))) refl
  where
    go : (x y z : Bool) → sound_header (block_of t 0) ≡ y
        → check_value (cond (x && y && z) (check_records t (header_of (block_of t 0)) file) (Err 0)) ≤ 4096
    go true true true e =
        let n : (header_of (block_of t 0)).count ≤ 4096 = header_count (block_of t 0) (header_of (block_of t 0)) refl refl e in
        first_most (sound_at t (header_of (block_of t 0)) file) (header_of (block_of t 0)).count (header_of (block_of t 0)).count 1 4096 n (omega arith)
    go true true false e = omega arith
    go true false z e = omega arith
    go false y z e = omega arith

area_most : (area : List ℕ) (file : ℕ) → check_value (check_area area file) ≤ 4096
unfolding check_area
area_most area file = check_most (table_in area) file

-- Nor has a vector file more than 4,096 blocks before its first bad one.
near_most : (good : ℕ → Bool) (most : ℕ) → ((j : ℕ) → good j ≡ true → j < most) → (count n k : ℕ) → count ≡ k + n → k ≤ most
    → check_value (first_bad good count n k) ≤ most
unfolding first_bad
near_most good most near count zero k e h = omega arith
near_most good most near count (suc n) k e h = go (good k) refl (near_most good most near count n (suc k) (omega arith))
  where
    go : (x : Bool) → good k ≡ x → (suc k ≤ most → check_value (first_bad good count n (suc k)) ≤ most)
        → check_value (cond x (first_bad good count n (suc k)) (Err k)) ≤ most
    go true g r = r (omega (arith, near k g))
    go false g r = h

vectors_most : (v : List ℕ) → check_value (check_vectors v) ≤ 4096
unfolding check_vectors
vectors_most v = near_most (sound_piece v) 4096 (piece_near v) (pieces_of v) (pieces_of v) 0 (omega arith) (omega arith)

-- What each check is promised to return is read back, and so decides its answer.
pub check_said : (table profile : List ℕ) {r : ℕ} → CheckPromise table profile r → ReadsCheck 5 (check_area table (length profile)) r
check_said table profile p =
    rw p.answer (check_reads 5 (omega arith) (check_area table (length profile)) (omega (arith, area_most table (length profile))))

pub check_vectors_said : (vectors : List ℕ) {r : ℕ} → CheckVectorsPromise vectors r → ReadsCheck 6 (check_vectors vectors) r
check_vectors_said vectors p = rw p.answer (check_reads 6 (omega arith) (check_vectors vectors) (omega (arith, vectors_most vectors)))

pub check_decides : (t u : List ℕ) (file other : ℕ) → check_word 5 (check_area t file) ≡ check_word 5 (check_area u other)
    → check_area t file ≡ check_area u other
check_decides t u file other = word_decides 5 (omega arith) (check_area t file) (check_area u other) (area_most t file) (area_most u other)

pub check_vectors_decides : (v w : List ℕ) → check_word 6 (check_vectors v) ≡ check_word 6 (check_vectors w) → check_vectors v ≡ check_vectors w
check_vectors_decides v w = word_decides 6 (omega arith) (check_vectors v) (check_vectors w) (vectors_most v) (vectors_most w)

-- The moves between editions.
moved_reads : (count : ℕ) → count ≤ 4096 → ReadsMove (Ok count) (move_word (Ok count))
moved_reads count h =
    let p = parts 0 0 count (omega arith) (omega arith) in
    record { number = p.number_is; place = p.place_is; value = p.value_is; move = rw (eq-eqb (number_in (word 0 0 count)) 0 p.number_is, p.value_is) }

unmoved_reads : (number block : ℕ) → 1 ≤ number → block ≤ 4096 → ReadsMove (refused number block) (move_word (refused number block))
unmoved_reads number block l h =
    let p = parts number 0 block (omega arith) (omega arith) in
    let other : number_in (word number 0 block) ≢ 0 = λ q. omega (arith, p.number_is, q) in
    record {
      number = p.number_is;
      place = p.place_is;
      value = p.value_is;
      move = rw (ne_eqb (number_in (word number 0 block)) 0 other, p.number_is, p.value_is);
    }

-- a count and a block that the check told
count_most : (t : List ℕ) (file count : ℕ) → check_table t file ≡ Ok count → count ≤ 4096
count_most t file count e = rw e at (check_most t file)

block_most : (t : List ℕ) (file block : ℕ) → check_table t file ≡ Err block → block ≤ 4096
block_most t file block e = rw e at (check_most t file)

pub forward_said : (table profile : List ℕ) (issue : ℕ) {r : ℕ} {t : List ℕ} → ForwardPromise table profile issue r t
    → ReadsMove (forward table (length profile) issue).move r
forward_said table profile issue p = rw p.word_is (go (forward table file issue).move refl)
  where
    file : ℕ
    file = length profile

    refuses : (number block : ℕ) → ForwardRefuses table file number block → ReadsMove (refused number block) (move_word (refused number block))
    refuses number block (n, inl e) = unmoved_reads number block (omega arith) (block_most table file block e)
    refuses number block (n, inr (o, z)) = unmoved_reads number block (omega arith) (omega arith)

    go : (m : Move) → (forward table file issue).move ≡ m → ReadsMove m (move_word m)
    go (Ok count) e = moved_reads count (count_most table file count (forward_moved table file issue count e).checked)
    go (Err r) e = refuses r.number r.block (forward_refuses table file issue r.number r.block e)

pub back_said : (table profile : List ℕ) {r : ℕ} {t : List ℕ} → BackPromise table profile r t → ReadsMove (back table (length profile)).move r
back_said table profile p = rw p.word_is (go (back table file).move refl)
  where
    file : ℕ
    file = length profile

    refuses : (number block : ℕ) → BackRefuses table file number block → ReadsMove (refused number block) (move_word (refused number block))
    refuses number block (inl (n, inl e)) = unmoved_reads number block (omega arith) (block_most table file block e)
    refuses number block (inl (n, inr (o, z))) = unmoved_reads number block (omega arith) (omega arith)
    refuses number block (inr (n, h)) =
        unmoved_reads number block (omega arith) (omega (arith, h.first.to, count_most table file h.count h.checked))

    go : (m : Move) → (back table file).move ≡ m → ReadsMove m (move_word m)
    go (Ok count) e = moved_reads count (count_most table file count (back_moved table file count e).checked)
    go (Err r) e = refuses r.number r.block (back_refuses table file r.number r.block e)

pub forward_unique : (table profile : List ℕ) (issue r s : ℕ) (t u : List ℕ) → ForwardPromise table profile issue r t → ForwardPromise table profile issue s u
    → (r ≡ s) × (t ≡ u)
forward_unique table profile issue r s t u p q = (p.word_is ∙ sym q.word_is, p.table_is ∙ sym q.table_is)

pub back_unique : (table profile : List ℕ) (r s : ℕ) (t u : List ℕ) → BackPromise table profile r t → BackPromise table profile s u → (r ≡ s) × (t ≡ u)
back_unique table profile r s t u p q = (p.word_is ∙ sym q.word_is, p.table_is ∙ sym q.table_is)

-- The take-over.
took_reads : (count : ℕ) → count ≤ 4096 → ReadsTake (Ok count) (take_word (Ok count))
took_reads count h =
    let p = parts 0 0 count (omega arith) (omega arith) in
    record { number = p.number_is; place = p.place_is; value = p.value_is; take = rw (eq-eqb (number_in (word 0 0 count)) 0 p.number_is, p.value_is) }

untaken_reads : (number : ℕ) → 1 ≤ number → ReadsTake (take.refused number) (take_word (take.refused number))
untaken_reads number l =
    let p = parts number 0 0 (omega arith) (omega arith) in
    let other : number_in (word number 0 0) ≢ 0 = λ q. omega (arith, p.number_is, q) in
    record {
      number = p.number_is;
      place = p.place_is;
      value = p.value_is;
      take = rw (ne_eqb (number_in (word number 0 0)) 0 other, p.number_is);
    }

pub take_said : (area fresh profile : List ℕ) {r : ℕ} {a : List ℕ} → TakePromise area fresh profile r a
    → ReadsTake (take_over area fresh (length profile)).taken r
take_said area fresh profile p = rw p.word_is (go (take_over area fresh file).taken refl)
  where
    file : ℕ
    file = length profile

    refuses : (number : ℕ) → Ended area fresh file (take.refused number) → ReadsTake (take.refused number) (take_word (take.refused number))
    refuses number (inl (e, u)) = untaken_reads number (omega (arith, ap take_number e))
    refuses number (inr (inl (e, u))) = untaken_reads number (omega (arith, ap take_number e))
    refuses number (inr (inr (inl (e, u)))) = untaken_reads number (omega (arith, ap take_number e))
    refuses number (inr (inr (inr (count, e, u)))) = let z : ◌≡◌ {A = ℕ} 0 1 = cc in absurd (omega arith)

    go : (t : Taken) → (take_over area fresh file).taken ≡ t → ReadsTake t (take_word t)
    go (Ok count) e = took_reads count (count_most fresh file count (only_takes area fresh file count e).fit.checked)
    go (Err r) e = refuses r.number (ended area fresh file (take.refused r.number) e)

pub take_unique : (area fresh profile : List ℕ) (r s : ℕ) (a b : List ℕ) → TakePromise area fresh profile r a → TakePromise area fresh profile s b
    → (r ≡ s) × (a ≡ b)
take_unique area fresh profile r s a b p q = (p.word_is ∙ sym q.word_is, p.area_is ∙ sym q.area_is)

-- The version's number.
pub version_unique : (r s : ℕ) → VersionPromise r → VersionPromise s → r ≡ s
version_unique r s p q = p.number_is ∙ sym q.number_is
