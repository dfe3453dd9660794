-- The three demands, as theorems about `serve`: what a call comes to, and the area, the vectors and the buffer afterwards, for anything lent.
-- A table is lent at the front of a working area (`a.table`), which may be longer (02 [8]): `table_in` is the table there, by the count in block 0, and
-- `table_only a` is what is lent, with that table alone. Bytes past the table stay, and do not matter (`promised_past`, `promised_alike`).
-- What the other words below mean is in specs/Call, specs/Frame and specs/Insertion.
use Rattle.std.specs.Prelude.{Ok, Err}
use Rattle.octets.specs.Standard.{ℕ, ◌/◌, ◌%◌, ◌<◌, ◌≤◌, List, ◌∷◌, some, true, false, ◌≡◌, ap, ◌∙◌, sym, ◌⊎◌, ◌≢◌, arith, length, get_or, take, drop}
use Rattle.octets.specs.Run.{over}
use Rattle.blocks.specs.Blocks.{block_of}
use Rattle.table.specs.Named.{private_at}
use Rattle.table.specs.Area.{size_in, table_in, check_area}
use Rattle.table.specs.Check.{check_table}
use Rattle.table.proofs.Areas.{read_alike}
use Rattle.vectors.specs.VectorFile.{check_vectors, SoundVectors}
use Rattle.diameter.specs.Avp.{sound}
use Rattle.diameter.specs.Put.{Piece, Whole, All}
use Rattle.diameter.specs.Message.{command_of}
use Rattle.rewrite.specs.Keeps.{alterable}
use Rattle.calling.specs.Call.{Answer, Answered, Refused}
use Rattle.calling.specs.Lent.{Lent, asking, holding, table_only, dialect_in}
use Rattle.refusals.specs.Early.{wrong_size, wrong_length}
use Rattle.calling.specs.Serve.{SameCall, check_of, trials, answered_by, decision, serve_table, over_area, serve}
use Rattle.calling.proofs.Areas.{served_in, served_length, served_rest, served_stays, serve_exact, alike_call, alike_table, check_in_lem}
use Rattle.ndushavire.specs.Word.{call_word}
use Rattle.ndushavire.specs.Reads.{call_number, call_value, call_in, Reads, ReadsCheck, ReadsMove, ReadsTake}
use Rattle.ndushavire.specs.Promise.{CheckPromise, CheckVectorsPromise, DecidePromise, ForwardPromise, BackPromise, TakePromise}
use Rattle.moving.specs.Outcomes.{forward, back}
use Rattle.taking.specs.TakeOver.{take_over}
use Rattle.demands.proofs.Firm.{check_said, check_vectors_said, forward_said, back_said, take_said}
use Rattle.reading.specs.Kinds.{use_of, is_unknown}
use Rattle.reading.specs.declared.Dialect.{Dialect}
use Rattle.requests.specs.Request.{dialect_of, cx}
use Rattle.demands.specs.Call.{turned_away, answer_to, Exactly}
use Rattle.demands.specs.Frame.{succeeds, subscription_of}
use Rattle.demands.specs.Insertion.{request_of, Foreign, Quiet, Inserted, keep, place_now, placed, FirstMarked, fault_in, behind_row, unsupported}
use Rattle.demands.specs.Insertion.{Cut, Longer, Newer}
use Rattle.demands.specs.Knowing.{is_among, kinds_of_cx, kinds_of}
use Rattle.demands.proofs.Refusals.{refusals, number_most, besides_none, besides_block, answer_long, answer_within, word_reads, refused_kept}
use Rattle.demands.proofs.Refusals.{answered_is, buffer_length, buffer_past}
use Rattle.demands.proofs.Fitting.{fits}
use Rattle.demands.proofs.Frame.{failure_kept, question_kept, vectors_kept}
use Rattle.demands.proofs.Areas.{area_stays, area_checked, area_others, area_header, area_bytes, area_bits}
use Rattle.demands.proofs.Blaming.{blamed_over}
use Rattle.demands.proofs.Insertions.{unmarked_same, marked_kept, mark_answered, fault_first}
use Rattle.demands.proofs.Knowing.{cx_kinds, others_unknown}
use Rattle.demands.proofs.Longer.{marked_or_not, longer_newer}
use Rattle.demands.proofs.Cuts.{every_request}

-- THE CALL. What the exported call is promised to return and to leave is `serve`: the call that its word says, the area, the vectors, the buffer. So each
-- theorem below is one about it.
pub promised : (a : Lent) {r : ℕ} {t' v' o' : List ℕ} → DecidePromise a r t' v' o'
    → serve a ≡ record { call = call_in r; table = t'; vectors = v'; buffer = o' }
promised a p = rw (p.word_is, p.table_is, p.vectors_is, p.buffer_is, (word_reads (table_only a) (fits (table_only a))).call)

-- The area's bytes past the table stay: where the table stays, so does the whole area.
pub promised_past : (a : Lent) → drop (length (table_in a.table)) (serve a).table ≡ drop (length (table_in a.table)) a.table
promised_past = served_rest

pub promised_stays : (a : Lent) → table_in (serve a).table ≡ table_in a.table → (serve a).table ≡ a.table
promised_stays = served_stays

-- They do not matter: over two areas that agree up to the count the call is the same, it leaves the same vectors and buffer, and areas that agree up to it.
pub promised_alike : (a : Lent) (area : List ℕ) → take (size_in a.table) area ≡ take (size_in a.table) a.table
    → SameCall (serve (holding a area)) (serve a) × (table_in (serve (holding a area)).table ≡ table_in (serve a).table)
promised_alike a area same = (alike_call a area same, alike_table a area same)

-- Pages that speak of `serve_table`, the call over a table of its exact length, speak of the exported call by these two: it is `serve_table` over the table at
-- the front of the area; and over an area as long as its table, as a sound table lent alone is, `serve` is `serve_table`.
pub promised_table : (a : Lent) {r : ℕ} {t' v' o' : List ℕ} → DecidePromise a r t' v' o'
    → serve_table (table_only a) ≡ record { call = call_in r; table = table_in t'; vectors = v'; buffer = o' }
promised_table a p =
    rw (p.word_is, p.table_is, p.vectors_is, p.buffer_is, served_in a, (word_reads (table_only a) (fits (table_only a))).call)

pub promised_exact : (a : Lent) → length a.table ≡ size_in a.table → serve a ≡ serve_table a
promised_exact a e = serve_exact a (omega (arith, e))

-- THE CHECKS. Out of the word of the table's check the caller reads number 0 and the count of records, or 5 and the first bad block; out of that of the
-- vector file's number 0 and the count of blocks, or 6 and the first bad block. Bits 32 to 47 are 0. The table is checked that is at the front of its area,
-- as in a call.
pub checked : (t file : List ℕ) {r : ℕ} → CheckPromise t file r → ReadsCheck 5 (check_area t (length file)) r
checked t file p = check_said t file p

-- Areas that agree up to the count check alike.
pub checked_alike : (area other : List ℕ) (file : ℕ) → take (size_in area) other ≡ take (size_in area) area → check_area other file ≡ check_area area file
unfolding check_area
checked_alike area other file same = ap (λ (t : List ℕ). check_table t file) (read_alike area other same)

pub checked_vectors : (v : List ℕ) {r : ℕ} → CheckVectorsPromise v r → ReadsCheck 6 (check_vectors v) r
checked_vectors v p = check_vectors_said v p

-- THE MOVES. Out of the word of a move between editions the caller reads number 0 and the count of records, or the refusal's number, 5 or 8, and its block.
-- Bits 32 to 47 are 0.
pub moved_forward : (t file : List ℕ) (issue : ℕ) {r : ℕ} {t' : List ℕ} → ForwardPromise t file issue r t' → ReadsMove (forward t (length file) issue).move r
moved_forward t file issue p = forward_said t file issue p

pub moved_back : (t file : List ℕ) {r : ℕ} {t' : List ℕ} → BackPromise t file r t' → ReadsMove (back t (length file)).move r
moved_back t file p = back_said t file p

-- TAKING OVER. Out of the word of a take-over the caller reads number 0 and the count of records, or the refusal's number, 9, 10 or 11, and 0. Bits 32 to 47
-- are 0. taking/proofs/Taking is about it, and proofs/TakingOver about the calls before, between and after.
pub taken_over : (area fresh file : List ℕ) {r : ℕ} {area' : List ℕ} → TakePromise area fresh file r area'
    → ReadsTake (take_over area fresh (length file)).taken r
taken_over area fresh file p = take_said area fresh file p

-- DEMAND 1. Every call ends in an answer or in exactly one of seven refusals, each given exactly when the papers say, tried in their order.
module _ (a : Lent) where
  -- The call's number is that of one of the trials, over the table at the front of the area, exactly where this one holds and none earlier does, and 0 exactly
  -- where none holds.
  pub demand_1 : Exactly (trials (table_only a)) (call_number (serve a).call)
  demand_1 = refusals (table_only a)

  pub demand_1_number : (call_number (serve a).call ≤ 6) ⊎ (call_number (serve a).call ≡ 12)
  demand_1_number = number_most (table_only a)

  -- Refusals 12, 1 to 4 and 6 return 0 besides, refusal 5 the first bad block, and an answer returns its length.
  pub demand_1_none : (n k : ℕ) → (serve a).call ≡ Refused n k → n ≢ 5 → k ≡ 0
  demand_1_none = besides_none (table_only a)

  pub demand_1_block : (k : ℕ) → (serve a).call ≡ Refused 5 k → check_area a.table (length a.profile) ≡ Err k
  demand_1_block k e = check_in_lem a ∙ besides_block (table_only a) k e

  pub demand_1_length : (r : Answer) → (serve a).call ≡ Answered r → (count : ℕ) → check_area a.table (length a.profile) ≡ Ok count
      → r.length ≡ length (answer_to (table_only a) count)
  demand_1_length r e count s = answer_long (table_only a) r e count (sym (check_in_lem a) ∙ s)

  -- No answer is longer than the smallest buffer that is taken: it lies within the buffer.
  pub demand_1_fits : wrong_size a.request ≡ false → wrong_length a.request ≡ false → (count : ℕ)
      → check_area a.table (length a.profile) ≡ Ok count → SoundVectors a.vectors → length (answer_to (table_only a) count) ≤ 36864
  demand_1_fits e f count s v = fits (table_only a) e f count (sym (check_in_lem a) ∙ s) v

  pub demand_1_within : call_number (serve a).call ≡ 0 → call_value (serve a).call ≤ length a.buffer
  demand_1_within = answer_within (table_only a) (fits (table_only a))

  -- Out of the word the caller reads the number (bits 48 to 63), the place of the AVP at fault (bits 32 to 47), and what is returned besides (bits 0 to 31).
  pub demand_1_word : Reads (serve a).call (call_word (serve a).call)
  demand_1_word = word_reads (table_only a) (fits (table_only a))

  -- A refusal leaves the whole area, the vectors and the buffer as they came.
  pub demand_1_kept : turned_away (table_only a) ≡ true → ((serve a).table ≡ a.table) × ((serve a).vectors ≡ a.vectors) × ((serve a).buffer ≡ a.buffer)
  demand_1_kept e = let k = refused_kept (table_only a) e in (area_stays a k.0, k.1, k.2)

-- DEMAND 2. Over an area with a sound table of `count` records at its front a call that is not refused is the decision of documents 01 and 02: the call says
-- the length of its answer and the decision's place (proofs/Place is about it), the table at the front of the area and the vectors are then the decision's,
-- and the buffer is the answer's bytes over the buffer as it came.
module _ (a : Lent) (count : ℕ) (sound : check_area a.table (length a.profile) ≡ Ok count) where
  abbrev of_table : check_of (table_only a) ≡ Ok count
  of_table = sym (check_in_lem a) ∙ sound

  pub demand_2 : turned_away (table_only a) ≡ false
      → ((serve a).call ≡ Answered (record { length = length (answer_to (table_only a) count); place = (decision (table_only a) count).place }))
      × (table_in (serve a).table ≡ (decision (table_only a) count).table)
      × ((serve a).vectors ≡ (decision (table_only a) count).vectors)
      × ((serve a).buffer ≡ over (answer_to (table_only a) count) a.buffer)
  unfolding answered_by
  demand_2 e = let s = answered_is (table_only a) count of_table e in (rw s, served_in a ∙ rw s, rw s, rw s)

  -- A result that is no success leaves the whole area and the vectors as they were.
  pub demand_2_failure : succeeds (decision (table_only a) count).given.verdict.result ≡ false
      → ((serve a).table ≡ a.table) × ((serve a).vectors ≡ a.vectors)
  demand_2_failure e = let k = failure_kept (table_only a) count of_table e in (area_stays a k.0, k.1)

  -- A block of the area that is past the table, or whose private identity is not that of the subscription asked about, is as it was, and so is the header.
  pub demand_2_others : (k : ℕ) → (count < k) ⊎ (some (private_at a.table k) ≢ subscription_of (dialect_in a) a.request (table_in a.table) count)
      → block_of (serve a).table k ≡ block_of a.table k
  demand_2_others = area_others a count of_table

  pub demand_2_header : block_of (serve a).table 0 ≡ block_of a.table 0
  demand_2_header = area_header a count of_table

  -- In the other blocks only state, pending, server name and check word change: every other byte is as it was, and so are the bits above pending.
  pub demand_2_bytes : (k i : ℕ) → i < 512 → alterable i ≡ false → get_or (block_of (serve a).table k) i 0 ≡ get_or (block_of a.table k) i 0
  demand_2_bytes = area_bytes a count of_table

  pub demand_2_bits : (k : ℕ) → get_or (block_of (serve a).table k) 9 0 / 2 ≡ get_or (block_of a.table k) 9 0 / 2
  demand_2_bits = area_bits a count of_table

  -- A sound table is sound after every call, with as many records.
  pub demand_2_sound : check_area (serve a).table (length a.profile) ≡ Ok count
  unfolding check_area
  demand_2_sound = area_checked a count of_table

module _ (a : Lent) where
  -- The area has as many bytes as it had.
  pub demand_2_size : length (serve a).table ≡ length a.table
  demand_2_size = served_length a

  -- A UAR or a LIR alters nothing: only a SAR or a MAR does, if any; and the vectors are altered by no other than a MAR.
  pub demand_2_question : command_of a.request ≢ 301 → command_of a.request ≢ 303 → ((serve a).table ≡ a.table) × ((serve a).vectors ≡ a.vectors)
  demand_2_question m n = let k = question_kept (table_only a) m n in (area_stays a k.0, k.1)

  pub demand_2_vectors : command_of a.request ≢ 303 → (serve a).vectors ≡ a.vectors
  demand_2_vectors = vectors_kept (table_only a)

  -- The buffer has as many bytes as it had, and past the answer they are as they came.
  pub demand_2_room : length (serve a).buffer ≡ length a.buffer
  demand_2_room = buffer_length (table_only a) (fits (table_only a))

  pub demand_2_past : drop (call_value (serve a).call) (serve a).buffer ≡ drop (call_value (serve a).call) a.buffer
  demand_2_past = buffer_past (table_only a)

-- DEMAND 3. Let `longer` be a request with AVPs of unknown kinds put in after its first, at one place or at several, so that it stays within 16,384 bytes.
-- A call with `longer` comes to what it comes to with the request, but for the place of an AVP at fault, which is later by what was put in before it; and it
-- leaves the same area, the same vectors and the same buffer. But if one of those put in is marked M, the area is as it was, no vector is used, and the
-- answer is the one of B5001 with the first such in Failed-AVP, and its place, unless the call is refused or the header or an AVP before that one breaks a
-- reading rule. Before the first AVP there is no place, for (b) wants a Session-Id there; nor does this speak of AVPs with reserved flags, which (c) calls
-- B3009.
pub demand_3 : (a : Lent) (longer : List ℕ) (l : Longer a.terms a.request longer) → Newer a longer l
demand_3 = longer_newer

-- The kinds that are known are the same under every command, those of the header's faults too; every AVP of another kind is unknown, the Sh server's 700 and
-- 703 among them.
pub demand_3_kinds : (a : Lent) → a.terms.application ≡ cx → kinds_of (dialect_in a) ≡ kinds_of_cx
demand_3_kinds a = cx_kinds (dialect_in a)

pub demand_3_others : (a : Lent) → a.terms.application ≡ cx → (u : List ℕ) → is_among kinds_of_cx u ≡ false → is_unknown (use_of (dialect_in a) u) ≡ true
demand_3_others a e u n = others_unknown (dialect_in a) u (cx_kinds (dialect_in a) e) n

-- Case by case: a request is a header, a row of AVPs that pass (a), `q` and then `qs`, and any bytes behind them; the longer one has the row `q` and then `rs`.
module _ (head : List ℕ) (twenty : length head ≡ 20) (q : Piece) (qs rs : List Piece) (whole : All Whole (q ∷ qs)) (tail : List ℕ) (fours : length tail % 4 ≡ 0)
    (most : length (request_of head (q ∷ rs) tail) ≤ 16384) (a : Lent) where
  -- If none of them is marked M, the call comes to the same but for the place, which moves with its AVP, and leaves the same area, the same vectors and the
  -- same buffer.
  pub demand_3_unmarked : (i : Inserted (Quiet (dialect_of a.terms head)) qs rs)
      → serve (asking a (request_of head (q ∷ rs) tail)) ≡ placed (place_now (keep q i)) (serve (asking a (request_of head (q ∷ qs) tail)))
  demand_3_unmarked i = ap (over_area a.table) (unmarked_same head twenty q qs rs whole tail fours most (table_only a) i)

  -- If one is, the area is as it was, and no vector is used ..
  pub demand_3_table : FirstMarked (dialect_of a.terms head) qs rs → (serve (asking a (request_of head (q ∷ rs) tail))).table ≡ a.table
  demand_3_table m = area_stays (asking a (request_of head (q ∷ rs) tail)) (marked_kept head twenty q qs rs whole tail fours most (table_only a) m).0

  pub demand_3_vectors : FirstMarked (dialect_of a.terms head) qs rs → (serve (asking a (request_of head (q ∷ rs) tail))).vectors ≡ a.vectors
  demand_3_vectors m = (marked_kept head twenty q qs rs whole tail fours most (table_only a) m).1

  -- .. and the answer is the one of B5001 with the first marked one in Failed-AVP (before a missing AVP, and before a SAR's own B5005 and B5009), its place
  -- that where the first marked one begins ..
  pub demand_3_marked : (m : FirstMarked (dialect_of a.terms head) qs rs) → fault_in (dialect_of a.terms head) head (q ∷ m.front) ≡ false
      → turned_away (table_only (asking a (request_of head (q ∷ qs) tail))) ≡ false
      → serve (asking a (request_of head (q ∷ rs) tail)) ≡ unsupported (asking a (request_of head (q ∷ rs) tail)) m.mark (behind_row (q ∷ m.before))
  demand_3_marked m e t =
      blamed_over (asking a (request_of head (q ∷ rs) tail)) 5001 m.mark.avp (behind_row (q ∷ m.before))
      (mark_answered head twenty q qs rs whole tail fours most (table_only a) m e t)

  -- .. unless the header or an AVP before it breaks a reading rule, (a) to (h): then the call gives what it gives without them, the place moved as above.
  pub demand_3_fault : (m : FirstMarked (dialect_of a.terms head) qs rs) → fault_in (dialect_of a.terms head) head (q ∷ m.front) ≡ true
      → serve (asking a (request_of head (q ∷ rs) tail)) ≡ placed (place_now (keep q m.quiet)) (serve (asking a (request_of head (q ∷ qs) tail)))
  demand_3_fault m e = ap (over_area a.table) (fault_first head twenty q qs rs whole tail fours most (table_only a) m e)

-- These are all cases: of those put in none is marked, or one is the first that is.
pub demand_3_cases : (d : Dialect) (qs rs : List Piece) → Inserted (Foreign d) qs rs → Inserted (Quiet d) qs rs ⊎ FirstMarked d qs rs
demand_3_cases d qs rs = marked_or_not

-- And these are all requests of a right length whose first AVP passes (a): their bytes are such a header, row and rest, and the row is as long as it can
-- be, so that every place before the first length fault is one of its places. Any other has no place: it has no AVP, or a length fault in its first.
pub demand_3_any : (req : List ℕ) → ((i : ℕ) → get_or req i 0 < 256) → wrong_length req ≡ false → sound (drop 20 req) ≡ true → Cut req
demand_3_any = every_request
