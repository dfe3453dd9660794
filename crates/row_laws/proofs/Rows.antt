-- The row, as theorems about `rowed`: the number, the table in its working area, the vectors, the answers, the words, how many requests have a word, and
-- whether records were altered and vectors marked, for anything lent. The file of requests is lent as the request, `answers` as the buffer.
-- What the words below mean is in specs/Turns (the requests in turn), specs/Reads (the word read back), and report_numbers/specs/File and Turns (a file of
-- requests, and one in its place).
use Rattle.std.specs.Prelude.{Ok, Err}
use Rattle.octets.specs.Standard.{ℕ, ◌+◌, ◌*◌, ◌/◌, ◌≤◌, ◌<◌, List, [], ◌∷◌, ◌++◌, true, false, none, ◌≡◌, refl, sym, ap, ◌∙◌, ◌⊎◌, ◌≢◌, arith}
use Rattle.octets.specs.Standard.{length, get_or, take, drop, drop_at, length-append, length-drop, or-false, eqb, ltb}
use Rattle.blocks.specs.Blocks.{block_of}
use Rattle.blocks.specs.Changed.{is_one}
use Rattle.table.specs.Area.{table_in, check_area}
use Rattle.vectors.specs.VectorFile.{check_vectors}
use Rattle.rewrite.specs.Keeps.{alterable}
use Rattle.counting.specs.Words.{long_bytes, words_bytes}
use Rattle.counting.proofs.Longs.{bytes_length}
use Rattle.refusals.specs.Early.{unknown_peer}
use Rattle.calling.specs.Call.{Refused}
use Rattle.calling.specs.Lent.{Lent, asking, table_only}
use Rattle.calling.specs.Serve.{decision, serve}
use Rattle.ndushavire.specs.Reads.{call_number, Reads}
use Rattle.ndushavire.specs.Promise.{DecidePromise, RowPromise}
use Rattle.demands.specs.Call.{turned_away}
use Rattle.demands.specs.Frame.{succeeds}
use Rattle.demands.specs.Insertion.{Longer, Newer, first_mark}
use Rattle.demands.proofs.Demands.{demand_1_number, demand_1_word, demand_1_kept, demand_2_failure, demand_3}
use Rattle.vectors_sent.specs.Row.{left_by, sent_over, Once}
use Rattle.vectors_sent.specs.Sent.{used_at}
use Rattle.vectors_sent.proofs.Sending.{sent_once, sent_over_lem, row_length, row_check}
use Rattle.reporting.specs.Pieces.{stop_of}
use Rattle.reporting.specs.Report.{requests_of, ended}
use Rattle.report_numbers.specs.File.{OneRequest, end_to_end, BrokenOff}
use Rattle.report_numbers.specs.Turns.{InTurn}
use Rattle.row_of_calls.specs.Row.{Rowed, answer_length, alters, marks, ends, next, rowed}
use Rattle.row_of_calls.specs.Word.{call_word}
use Rattle.row_laws.specs.Reads.{row_in, ReadsRow}
use Rattle.row_laws.specs.Turns.{served_of, lent_after, lent_to, AsksAbout, words_by, answers_by, answers_long, some_alters, some_marks, written}
use Rattle.row_laws.specs.Turns.{behind, going_on, words_left, joined, turns_of}
use Rattle.row_laws.proofs.Calls as calls
use Rattle.row_laws.proofs.Ends as ending
use Rattle.row_laws.proofs.Enough.{all_have_room}
use Rattle.row_laws.proofs.Firm as firm
use Rattle.row_laws.proofs.Flags as flags
use Rattle.row_laws.proofs.Folds.{words_fit}
use Rattle.row_laws.proofs.Joined as join
use Rattle.row_laws.proofs.Turns as turns

-- THE ROW. Any two outcomes that meet the promise are one: the word, the table, the vectors, the answers and the words.
pub row_unique : (x : Lent) (ws : List ℕ) (r s : ℕ) (t u v w a b o q : List ℕ) → RowPromise x ws r t v a o → RowPromise x ws s u w b q
    → (r ≡ s) × (t ≡ u) × (v ≡ w) × (a ≡ b) × (o ≡ q)
row_unique = firm.one_outcome

-- Out of its word the caller reads the number (bits 48 to 63), whether a record was altered (bit 32) and a vector marked (bit 33), and how many requests have
-- a word (bits 0 to 31). So what the exported call is promised to return and to leave is `rowed`, and each theorem below is one about it.
pub row_said : (x : Lent) (ws : List ℕ) {r : ℕ} {t' v' a' w' : List ℕ} → RowPromise x ws r t' v' a' w' → ReadsRow (rowed x ws) r
row_said x ws p = firm.row_says x ws p

pub row_meant : (x : Lent) (ws : List ℕ) {r : ℕ} {t' v' a' w' : List ℕ} → RowPromise x ws r t' v' a' w' → rowed x ws ≡ row_in r t' v' a' w'
row_meant x ws p = firm.row_means x ws p

module _ (x : Lent) (ws : List ℕ) where
  -- IT IS CALLS IN TURN. However the row ends, it comes to this: each of the requests that have a word was served over what the one before left; their answers
  -- stand one right behind the other, and so do their words, of 8 bytes each; the table and the vectors are as the last left them. So where it ends by 7 or by
  -- 15, what was done so far stays done.
  pub row_is_calls : rowed x ws ≡ behind x (served_of x ws) (ends (rowed x ws).number (lent_after x (served_of x ws)) (drop (8 * (rowed x ws).served) ws))
  row_is_calls = ending.row_is x ws

  altered_is : (rowed x ws).altered ≡ some_alters x (served_of x ws)
  altered_is = ap (λ (r : Rowed). r.altered) row_is_calls ∙ or-false (some_alters x (served_of x ws))

  marked_is : (rowed x ws).marked ≡ some_marks x (served_of x ws)
  marked_is = ap (λ (r : Rowed). r.marked) row_is_calls ∙ or-false (some_marks x (served_of x ws))

  pub row_count : length (served_of x ws) ≡ (rowed x ws).served
  row_count = ending.served_count x ws

  -- One of them in its place. What is lent to it: the table and the vectors as those before it left them, and as the buffer what is left of `answers`, from
  -- behind their answers on, which are as they came; the profile file and the terms are those of the row.
  module _ (p : InTurn (served_of x ws)) where
    pub row_lent : ((lent_to x p).buffer ≡ drop (length (answers_by x p.before)) x.buffer) × ((lent_to x p).profile ≡ x.profile)
        × ((lent_to x p).terms ≡ x.terms)
    row_lent = (calls.after_buffer x p.before, (calls.after_alike x p.before).profile, (calls.after_alike x p.before).terms)

    -- Where they end, and its own answer begins, the words before it tell.
    pub row_where : length (answers_by x p.before) ≡ answers_long (words_by x p.before)
    row_where = calls.answers_long_lem x p.before

    -- Its 8 bytes in `words` are the word that `ndushavire_decide` returns, lent that; its answer, if it has one, stands in `answers` as that call leaves it
    -- in its buffer; and what it leaves is lent to the one behind it.
    module _ {r : ℕ} {t v o : List ℕ} (d : DecidePromise (lent_to x p) r t v o) where
      pub row_word_lem : take 8 (drop (8 * length p.before) (rowed x ws).words) ≡ long_bytes r
      row_word_lem = turns.turn_word x ws p ∙ ap long_bytes (sym d.word_is)

      pub row_answer : take (answer_length (serve (lent_to x p)).call) (drop (length (answers_by x p.before)) (rowed x ws).answers)
          ≡ take (answer_length (serve (lent_to x p)).call) o
      row_answer = turns.turn_answer x ws p ∙ ap (take (answer_length (serve (lent_to x p)).call)) (sym d.buffer_is)

      pub row_next : ((lent_after x (p.before ++ (p.request ∷ []))).table ≡ t) × ((lent_after x (p.before ++ (p.request ∷ []))).vectors ≡ v)
      unfolding next lent_after
      row_next =
          let e = calls.after_append x p.before (p.request ∷ []) in
          (ap (λ (y : Lent). y.table) e ∙ sym d.table_is, ap (λ (y : Lent). y.vectors) e ∙ sym d.vectors_is)

  -- So do all words of all that was written to `answers`.
  pub row_written : written x ws ≡ answers_long (words_by x (served_of x ws))
  row_written = calls.answers_long_lem x (served_of x ws)

  -- WHERE IT ENDS. By 15 exactly if some request of the file has no word; then there is no room for it: fewer than 36,864 bytes are left in `answers`, or fewer
  -- than 8 in `words`, or 4,294,967,295 words are written, which are never exceeded.
  pub row_15 : eqb (rowed x ws).number 15 ≡ ltb (rowed x ws).served (length (requests_of x))
  row_15 = ending.row_fifteen x ws

  pub row_15_full : (rowed x ws).number ≡ 15
      → (length (drop (written x ws) x.buffer) < 36864) ⊎ ((length ws < 8 * (rowed x ws).served + 8) ⊎ ((rowed x ws).served ≡ 4294967295))
  row_15_full e = ending.fifteen_lacks x ws e

  pub row_limit : (rowed x ws).served ≤ 4294967295
  row_limit = ending.row_limit x ws

  -- After 4,294,967,295 words the row ends by 15, if there are more requests.
  pub row_most : 4294967295 < length (requests_of x) → (rowed x ws).number ≡ 15
  row_most h = (ending.rest_ends x ws (omega (arith, h, row_limit))).0

  -- Otherwise each request of the file has a word: by 0 where they are the whole file, ..
  pub row_0 : (rowed x ws).number ≡ 0 → (served_of x ws ≡ requests_of x) × (end_to_end (served_of x ws) ≡ x.request)
  row_0 e =
      let w = ending.ended_whole x ws 0 (omega arith) e in
      let s = ending.all_served x ws w.0 in
      (s, ap end_to_end s ∙ ending.zero_file x w.1)

  -- .. and by 7 where a report would stop: 1 to 3 bytes left, or a header length under 20 or past the file.
  pub row_7 : (rowed x ws).number ≡ 7 → (served_of x ws ≡ requests_of x) × BrokenOff (drop (stop_of x.request) x.request)
  row_7 e =
      let w = ending.ended_whole x ws 7 (omega arith) e in
      (ending.all_served x ws w.0, ending.seven_breaks x w.1)

  -- It ends by no other number.
  pub row_numbers : ((rowed x ws).number ≡ 0) ⊎ (((rowed x ws).number ≡ 7) ⊎ ((rowed x ws).number ≡ 15))
  row_numbers = ending.three_numbers x ws

  -- Each that has a word had room: so a request is the first without exactly where there is none.
  pub row_had_room : (p : InTurn (served_of x ws))
      → (36864 ≤ length (lent_to x p).buffer) × (8 * length p.before + 8 ≤ length ws) × (length p.before < 4294967295)
  row_had_room p =
      let r = ending.turn_room x ws p in
      (r.answer, omega (arith, r.word, length-drop (8 * length p.before) ws), omega (arith, r.count))

  -- With 36,864 bytes of `answers` and 8 of `words` for each request of the file each has a word, unless there are more than 4,294,967,295; and the row ends
  -- as a report does.
  pub row_room : 36864 * length (requests_of x) ≤ length x.buffer → 8 * length (requests_of x) ≤ length ws → length (requests_of x) ≤ 4294967295
      → ((rowed x ws).served ≡ length (requests_of x)) × ((rowed x ws).number ≡ ended x.request)
  row_room a w m =
      let e = all_have_room (ended x.request) x ws 4294967295 (requests_of x) a w m in
      (e, ending.whole_ends x ws e)

  -- WHAT ITS WORD SAYS of records and vectors: that one was altered or marked is said exactly if one of the requests did it ..
  pub row_altered : (rowed x ws).altered ≡ true → (p : InTurn (served_of x ws)) × (alters (lent_to x p) ≡ true)
  row_altered e = flags.some_one (λ y. alters y) x (served_of x ws) (sym (altered_is) ∙ e)

  pub row_altered_by : (p : InTurn (served_of x ws)) → alters (lent_to x p) ≡ true → (rowed x ws).altered ≡ true
  row_altered_by p e = altered_is ∙ flags.one_some (λ y. alters y) x (served_of x ws) p e

  pub row_marked : (rowed x ws).marked ≡ true → (p : InTurn (served_of x ws)) × (marks (lent_to x p) ≡ true)
  row_marked e = flags.some_one (λ y. marks y) x (served_of x ws) (sym (marked_is) ∙ e)

  pub row_marked_by : (p : InTurn (served_of x ws)) → marks (lent_to x p) ≡ true → (rowed x ws).marked ≡ true
  row_marked_by p e = marked_is ∙ flags.one_some (λ y. marks y) x (served_of x ws) p e

  -- .. and where it is not said, the table's whole area, or the vector file, is byte for byte as it came: there is nothing to store.
  pub row_unaltered : (rowed x ws).altered ≡ false → (rowed x ws).table ≡ x.table
  row_unaltered e =
      ap (λ (r : Rowed). r.table) row_is_calls
      ∙ flags.none_same (λ y. alters y) (λ y. y.table) flags.unaltered_same x (served_of x ws) (sym altered_is ∙ e)

  pub row_unmarked : (rowed x ws).marked ≡ false → (rowed x ws).vectors ≡ x.vectors
  row_unmarked e =
      ap (λ (r : Rowed). r.vectors) row_is_calls
      ∙ flags.none_same (λ y. marks y) (λ y. y.vectors) flags.unmarked_same x (served_of x ws) (sym marked_is ∙ e)

  -- Over an unsound table or an unsound vector file nothing is altered.
  pub row_unsound : (k : ℕ) → check_area x.table (length x.profile) ≡ Err k → ((rowed x ws).table ≡ x.table) × ((rowed x ws).vectors ≡ x.vectors)
  row_unsound k e =
      let u = flags.unsound_unmoved x (served_of x ws) k e in
      (ap (λ (r : Rowed). r.table) row_is_calls ∙ u.table, ap (λ (r : Rowed). r.vectors) row_is_calls ∙ u.vectors)

  pub row_unsound_vectors : (k : ℕ) → check_vectors x.vectors ≡ Err k → ((rowed x ws).table ≡ x.table) × ((rowed x ws).vectors ≡ x.vectors)
  row_unsound_vectors k e =
      let u = flags.spoilt_unmoved x (served_of x ws) k e in
      (ap (λ (r : Rowed). r.table) row_is_calls ∙ u.table, ap (λ (r : Rowed). r.vectors) row_is_calls ∙ u.vectors)

  -- WHAT STAYS. Bytes past what was written, in `answers` and in `words`; the length of every area.
  pub row_answers_past : drop (written x ws) (rowed x ws).answers ≡ drop (written x ws) x.buffer
  row_answers_past =
      let ps : List (List ℕ) = served_of x ws in
      ap (λ (r : Rowed). drop (length (answers_by x ps)) r.answers) row_is_calls
      ∙ drop_at (answers_by x ps) (lent_after x ps).buffer (length (answers_by x ps)) refl
      ∙ calls.after_buffer x ps

  wrote : length (words_bytes (words_by x (served_of x ws))) ≡ 8 * (rowed x ws).served
  wrote =
      bytes_length (words_by x (served_of x ws)) ∙ ap (λ (n : ℕ). 8 * n) (calls.words_count x (served_of x ws) ∙ row_count)

  pub row_words_past : drop (8 * (rowed x ws).served) (rowed x ws).words ≡ drop (8 * (rowed x ws).served) ws
  row_words_past =
      let n : ℕ = 8 * (rowed x ws).served in
      ap (λ (r : Rowed). drop n r.words) row_is_calls ∙ drop_at (words_bytes (words_by x (served_of x ws))) (drop n ws) n wrote

  pub row_answers_length : length (rowed x ws).answers ≡ length x.buffer
  row_answers_length = ap (λ (r : Rowed). length r.answers) row_is_calls ∙ calls.answers_length x (served_of x ws)

  pub row_words_length : length (rowed x ws).words ≡ length ws
  row_words_length =
      let n : ℕ = 8 * (rowed x ws).served in
      ap (λ (r : Rowed). length r.words) row_is_calls
      ∙ length-append (words_bytes (words_by x (served_of x ws))) (drop n ws)
      ∙ omega (arith, wrote, length-drop n ws, row_count, words_fit x ws 4294967295 (served_of x ws) (ending.row_roomy x ws))

  pub row_table_length : length (rowed x ws).table ≡ length x.table
  row_table_length = ap (λ (r : Rowed). length r.table) row_is_calls ∙ (calls.after_alike x (served_of x ws)).area

  pub row_behind : drop (length (table_in x.table)) (rowed x ws).table ≡ drop (length (table_in x.table)) x.table
  row_behind =
      ap (λ (r : Rowed). drop (length (table_in x.table)) r.table) row_is_calls ∙ (calls.after_alike x (served_of x ws)).behind

  row_leaves_vectors : (rowed x ws).vectors ≡ left_by x.vectors (turns_of x (served_of x ws))
  row_leaves_vectors = ap (λ (r : Rowed). r.vectors) row_is_calls ∙ calls.after_vectors x (served_of x ws)

  pub row_vectors_length : length (rowed x ws).vectors ≡ length x.vectors
  row_vectors_length = ap length row_leaves_vectors ∙ row_length x.vectors (turns_of x (served_of x ws))

  pub row_vectors_check : check_vectors (rowed x ws).vectors ≡ check_vectors x.vectors
  row_vectors_check = ap check_vectors row_leaves_vectors ∙ row_check x.vectors (turns_of x (served_of x ws))

  -- NO VECTOR IS SENT TWICE within a row; one that is sent was unused before the row and is used after it.
  pub row_sent_once : Once (sent_over x.vectors (turns_of x (served_of x ws)))
  row_sent_once = sent_once x.vectors (turns_of x (served_of x ws))

  pub row_sent_used : (k : ℕ) → is_one (sent_over x.vectors (turns_of x (served_of x ws))) k ≡ true
      → (used_at x.vectors k ≡ 0) × (used_at (rowed x ws).vectors k ≡ 1)
  row_sent_used k e =
      let s = sent_over_lem x.vectors (turns_of x (served_of x ws)) k e in
      (s.0, ap (λ (v : List ℕ). used_at v k) row_leaves_vectors ∙ s.1)

  -- THE DEMANDS hold of each request: it is a call, `serve (lent_to x p)`, and the theorems about calls are about any. Of demand 1: its word is read back out
  -- of the 8 bytes (`row_word_lem`) as a call's is; its number is 0, 2 to 6, or 12, never 1, for there was room; ..
  module _ (p : InTurn (served_of x ws)) where
    pub row_demand_1 : Reads (serve (lent_to x p)).call (call_word (serve (lent_to x p)).call)
    row_demand_1 = demand_1_word (lent_to x p)

    pub row_demand_1_number : ((call_number (serve (lent_to x p)).call ≤ 6) ⊎ (call_number (serve (lent_to x p)).call ≡ 12))
        × (call_number (serve (lent_to x p)).call ≢ 1)
    row_demand_1_number = (demand_1_number (lent_to x p), turns.turn_not_one x ws p)

    -- .. and 12 for each under a peer edition other than the two.
    pub row_demand_1_peer : unknown_peer x.terms ≡ true → (serve (lent_to x p)).call ≡ Refused 12 0
    row_demand_1_peer e = turns.turn_peer x ws p e

    -- Of demand 2: a refusal, and an answer that is no success, leave the area and the vectors to the next as they came to them.
    pub row_demand_2_refusal : turned_away (table_only (lent_to x p)) ≡ true
        → ((lent_after x (p.before ++ (p.request ∷ []))).table ≡ (lent_after x p.before).table)
        × ((lent_after x (p.before ++ (p.request ∷ []))).vectors ≡ (lent_after x p.before).vectors)
    row_demand_2_refusal e = let k = demand_1_kept (lent_to x p) e in turns.turn_leaves x ws p k.0 k.1

    pub row_demand_2_failure : (count : ℕ) → check_area (lent_to x p).table (length (lent_to x p).profile) ≡ Ok count
        → succeeds (decision (table_only (lent_to x p)) count).given.verdict.result ≡ false
        → ((lent_after x (p.before ++ (p.request ∷ []))).table ≡ (lent_after x p.before).table)
        × ((lent_after x (p.before ++ (p.request ∷ []))).vectors ≡ (lent_after x p.before).vectors)
    row_demand_2_failure count sound e = let k = demand_2_failure (lent_to x p) count sound e in turns.turn_leaves x ws p k.0 k.1

    -- Of demand 3: with AVPs of unknown kinds put into it, the request gets in the row what it gets in a call; and if none of them is marked M, those behind it
    -- are lent what they are lent without.
    pub row_demand_3 : (longer : List ℕ) (l : Longer (lent_to x p).terms p.request longer) → Newer (lent_to x p) longer l
    row_demand_3 longer l = demand_3 (lent_to x p) longer l

    pub row_demand_3_next : (longer : List ℕ) (l : Longer (lent_to x p).terms p.request longer) → first_mark l.inserted ≡ none
        → lent_after x (p.before ++ (longer ∷ [])) ≡ lent_after x (p.before ++ (p.request ∷ []))
    row_demand_3_next longer l e = turns.turn_quiet x ws p longer l e

  -- Over an area with a sound table of `count` records at its front: it is sound after the row, with as many; a record that the row changed is of a
  -- subscription that one of its requests asked about; the header stays, blocks past the count stay, and of the others only state, pending, server name and
  -- check word change.
  module _ (count : ℕ) (sound : check_area x.table (length x.profile) ≡ Ok count) where
    stays : calls.Stays x count (lent_after x (served_of x ws))
    stays = calls.after_stays x (served_of x ws) count sound

    pub row_demand_2_sound : check_area (rowed x ws).table (length x.profile) ≡ Ok count
    row_demand_2_sound =
        ap (λ (r : Rowed). check_area r.table (length x.profile)) row_is_calls
        ∙ ap (λ (f : List ℕ). check_area (lent_after x (served_of x ws)).table (length f)) (sym (calls.after_alike x (served_of x ws)).profile)
        ∙ stays.sound

    pub row_demand_2_asked : (k : ℕ) → block_of (rowed x ws).table k ≢ block_of x.table k
        → (k ≤ count) × ((p : InTurn (served_of x ws)) × AsksAbout x count k p)
    row_demand_2_asked k n = calls.changed_asked x (served_of x ws) count sound k (λ e. n (ap (λ (r : Rowed). block_of r.table k) row_is_calls ∙ e))

    pub row_demand_2_header : block_of (rowed x ws).table 0 ≡ block_of x.table 0
    row_demand_2_header = ap (λ (r : Rowed). block_of r.table 0) row_is_calls ∙ stays.header

    pub row_demand_2_bytes : (k i : ℕ) → i < 512 → alterable i ≡ false → get_or (block_of (rowed x ws).table k) i 0 ≡ get_or (block_of x.table k) i 0
    row_demand_2_bytes k i l e = ap (λ (r : Rowed). get_or (block_of r.table k) i 0) row_is_calls ∙ stays.bytes k i l e

    pub row_demand_2_bits : (k : ℕ) → get_or (block_of (rowed x ws).table k) 9 0 / 2 ≡ get_or (block_of x.table k) 9 0 / 2
    row_demand_2_bits k = ap (λ (r : Rowed). get_or (block_of r.table k) 9 0 / 2) row_is_calls ∙ stays.bits k

-- ONE REQUEST, whose header length is its own and at least 20, with room for its answer and its word: the row is the call.
module _ (x : Lent) (one : OneRequest x.request) (ws : List ℕ) (room : 36864 ≤ length x.buffer) (space : 8 ≤ length ws) where
  pub row_one : rowed x ws ≡ record {
    number = 0;
    table = (serve x).table;
    vectors = (serve x).vectors;
    answers = (serve x).buffer;
    words = long_bytes (call_word (serve x).call) ++ drop 8 ws;
    served = 1;
    altered = alters x;
    marked = marks x;
  }
  row_one = join.one_row x one ws room space

  pub row_one_decides : {r s : ℕ} {t u v w o q b : List ℕ} → DecidePromise x r t v o → RowPromise x ws s u w q b
      → (u ≡ t) × (w ≡ v) × (q ≡ o) × (b ≡ long_bytes r ++ drop 8 ws)
  row_one_decides d p = (
    p.table_is ∙ ap (λ (r : Rowed). r.table) row_one ∙ sym d.table_is,
    p.vectors_is ∙ ap (λ (r : Rowed). r.vectors) row_one ∙ sym d.vectors_is,
    p.answers_is ∙ ap (λ (r : Rowed). r.answers) row_one ∙ sym d.buffer_is,
    p.words_is ∙ ap (λ (r : Rowed). r.words) row_one ∙ ap (λ (n : ℕ). long_bytes n ++ drop 8 ws) (sym d.word_is),
  )

-- TWO ROWS END TO END, the first ended by 0, are one: the second is lent what the first left, its answers and words from behind what the first wrote. Their
-- words together must not pass the limit, which one row keeps (`row_limit`).
pub row_joined : (x : Lent) (ws more : List ℕ) → (rowed x ws).number ≡ 0
    → (rowed x ws).served + (rowed (going_on x ws more) (words_left x ws)).served ≤ 4294967295
    → rowed (asking x (x.request ++ more)) ws ≡ joined x ws (rowed (going_on x ws more) (words_left x ws))
row_joined x ws more whole few = join.both_joined x ws more whole few

-- Only then: no row has more.
pub row_joined_only : (x : Lent) (ws more : List ℕ)
    → rowed (asking x (x.request ++ more)) ws ≡ joined x ws (rowed (going_on x ws more) (words_left x ws))
    → (rowed x ws).served + (rowed (going_on x ws more) (words_left x ws)).served ≤ 4294967295
row_joined_only x ws more e = omega (arith, ap (λ (r : Rowed). r.served) e, row_limit (asking x (x.request ++ more)) ws)
