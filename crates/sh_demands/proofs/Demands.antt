-- 02 [12], "The voicemail box asks too.", as theorems about `sh_serve`, which is what the exported call is promised to return and to leave, for anything lent.
use Rattle.std.specs.Prelude.{Result, Ok, Err}
use Rattle.octets.specs.Standard.{ℕ, ◌%◌, ◌≤◌, List, ◌∷◌, true, false, ◌≡◌, refl, ◌≢◌, ◌⊎◌, sym, ap, ◌∙◌, length, drop}
use Rattle.octets.specs.Run.{over}
use Rattle.table.specs.Area.{table_in, check_area}
use Rattle.diameter.specs.Put.{Piece, Whole, All}
use Rattle.diameter.specs.Avp.{avp_flags, reserved}
use Rattle.reading.specs.Kinds.{known, kind_of, row_of, use_in, use_of, is_unknown, supported_features, user_identity}
use Rattle.reading.specs.declared.Dialect.{Dialect}
use Rattle.requests.specs.Request.{dialect_of, header_fault_sh}
use Rattle.refusals.specs.Early.{early, check_value}
use Rattle.calling.specs.Call.{Answer, Answered, Refused}
use Rattle.ndushavire.specs.Reads.{call_number, call_value, call_in, Reads}
use Rattle.ndushavire.specs.Word.{call_word}
use Rattle.blocks.specs.Blocks.{block_of}
use Rattle.reading.specs.Rules.{Seen, rule_by, rule}
use Rattle.reading.specs.declared.Ruled.TheVariants.{Skipped}
use Rattle.reading.specs.declared.Outcome.TheVariants.{Base, Experimental}
use Rattle.requests.specs.Judged.{fine}
use Rattle.requests.specs.Request.{read_sh, identity_of}
use Rattle.requests.proofs.Sole.{Asks, read_identity}
use Rattle.sh.specs.Tell.{denied}
use Rattle.ndushavire_sh.specs.Lent.{Lent, lent, terms_in, dialect_in}
use Rattle.ndushavire_sh.specs.Promise.{ShDecidePromise}
use Rattle.ndushavire_sh.specs.Serve.{trials_of, told_of, answer_of, answered, sh_serve}
use Rattle.demands.specs.Call.{Exactly}
use Rattle.demands.specs.Insertion.{request_of, Quiet, Inserted, keep, FirstMarked, fault_by, place_now, behind_row, Longer}
use Rattle.demands.specs.Knowing.{kinds_by, is_among, kinds_of}
use Rattle.demands.proofs.Knowing.{others_unknown}
use Rattle.sh_demands.specs.Call.{turned_away}
use Rattle.sh_demands.specs.Insertion.{asking, placed, blaming, Newer}
use Rattle.sh_demands.specs.Knowing.{kinds_of_sh}
use Rattle.sh_demands.specs.Place.{result_of}
use Rattle.sh_demands.specs.Saying.{Holds, refers_else, Known, saying, Says}
use Rattle.sh_demands.specs.Shown.{SameSight}
use Rattle.sh_demands.proofs.Alike.{place_same, answer_same}
use Rattle.sh_demands.proofs.Inserted.{unmarked_same, mark_answered, fault_first}
use Rattle.sh_demands.proofs.Longer.{longer_newer}
use Rattle.sh_demands.proofs.Refusing.{refusals, refused_kept, answered_is, buffer_past, fits}
use Rattle.sh_demands.proofs.Returning.{number_most, besides_none, besides_block, answer_long, word_reads, answer_within, buffer_length}
use Rattle.sh_demands.proofs.Saying.{unknown_only, other_only, known_only, says_unknown, says_other, says_record}

-- ONE OUTCOME. Any two returns and buffers that meet the promise are the same, for every input, refusals too.
pub sh_unique : (x : Lent) {r s : ℕ} {o p : List ℕ} → ShDecidePromise x r o → ShDecidePromise x s p → (r ≡ s) × (o ≡ p)
sh_unique x a b = (a.word_is ∙ sym b.word_is, a.buffer_is ∙ sym b.buffer_is)

-- THE CALL. What the exported call is promised to return and to leave is `sh_serve`: the call that its word says, and the buffer. So each theorem below is one
-- about it.
pub sh_promised : (x : Lent) {r : ℕ} {o : List ℕ} → ShDecidePromise x r o → sh_serve x ≡ record { call = call_in r; buffer = o }
sh_promised x p = rw (p.word_is, p.buffer_is, (word_reads x).call)

-- DEMAND 1. Every call ends in an answer or in exactly one of six refusals, each given exactly when the papers say, tried in their order; a refusal leaves the
-- buffer as it came, and an answer every byte past it. The table is lent to be read: there is none to leave.
module _ (x : Lent) where
  pub sh_demand_1 : Exactly (trials_of x (check_area x.table (length x.profile))) (call_number (sh_serve x).call)
  sh_demand_1 = refusals x

  pub sh_demand_1_number : (call_number (sh_serve x).call ≤ 5) ⊎ (call_number (sh_serve x).call ≡ 12)
  sh_demand_1_number = number_most x

  -- Refusals 12 and 1 to 4 return 0 besides, refusal 5 the first bad block, and an answer returns its length.
  pub sh_demand_1_none : (n k : ℕ) → (sh_serve x).call ≡ Refused n k → n ≢ 5 → k ≡ 0
  sh_demand_1_none = besides_none x

  pub sh_demand_1_block : (k : ℕ) → (sh_serve x).call ≡ Refused 5 k → check_area x.table (length x.profile) ≡ Err k
  sh_demand_1_block = besides_block x

  pub sh_demand_1_length : (a : Answer) → (sh_serve x).call ≡ Answered a → (count : ℕ) → check_area x.table (length x.profile) ≡ Ok count
      → a.length ≡ length (answer_of x count)
  sh_demand_1_length = answer_long x

  -- Out of the word the caller reads the number (bits 48 to 63), the place of the AVP at fault (bits 32 to 47), and what is returned besides (bits 0 to 31).
  pub sh_demand_1_word : Reads (sh_serve x).call (call_word (sh_serve x).call)
  sh_demand_1_word = word_reads x

  pub sh_demand_1_kept : turned_away x ≡ true → (sh_serve x).buffer ≡ x.buffer
  sh_demand_1_kept = refused_kept x

  pub sh_demand_1_past : drop (call_value (sh_serve x).call) (sh_serve x).buffer ≡ drop (call_value (sh_serve x).call) x.buffer
  sh_demand_1_past = buffer_past x

  -- The answer lies within the buffer, which has as many bytes as it had.
  pub sh_demand_1_within : call_number (sh_serve x).call ≡ 0 → call_value (sh_serve x).call ≤ length x.buffer
  sh_demand_1_within = answer_within x

  pub sh_demand_1_room : length (sh_serve x).buffer ≡ length x.buffer
  sh_demand_1_room = buffer_length x

  -- every answer fits
  pub sh_demand_1_fits : early (terms_in x) x.request x.buffer ≡ 0 → (count : ℕ) → check_area x.table (length x.profile) ≡ Ok count
      → length (answer_of x count) ≤ 36864
  sh_demand_1_fits = fits x

-- DEMAND 2. A call that is not refused over a sound table is the decision: the call says its answer's length and the place of the AVP at fault, and the buffer
-- is the answer's bytes over the buffer as it came.
pub sh_demand_2 : (x : Lent) (count : ℕ) → check_area x.table (length x.profile) ≡ Ok count → turned_away x ≡ false
    → ((sh_serve x).call ≡ Answered (record { length = length (answer_of x count); place = (told_of x count).verdict.place }))
    × ((sh_serve x).buffer ≡ over (answer_of x count) x.buffer)
unfolding answered
sh_demand_2 x count s e = let a = answered_is x count s e in (rw a, rw a)

-- WHAT IT SAYS. A request that was read, over a sound table: the answer is X5001 exactly when no record has the identity asked about; X5100 exactly when one
-- has and some Data-Reference is neither 11 nor 12; else B2001, and its 702, read back, says the stored server name and the state of the record with that identity.
module _ (x : Lent) (count : ℕ) (sound : check_area x.table (length x.profile) ≡ Ok count) (seen : Seen)
    (read : read_sh (dialect_in x) x.request ≡ fine seen) where
  counted : (told_of x count).verdict.result ≡ result_of x
  counted = ap (λ (c : Result ℕ ℕ). (told_of x (check_value c)).verdict.result) (sym sound)

  pub sh_unknown : turned_away x ≡ false → ((k : ℕ) → Holds x count (identity_of seen) k → ⊥) → sh_serve x ≡ saying x (denied 5001)
  sh_unknown = says_unknown x count sound seen read

  pub sh_unknown_only : result_of x ≡ Experimental 5001 → (k : ℕ) → Holds x count (identity_of seen) k → ⊥
  sh_unknown_only e = unknown_only x count sound seen read (counted ∙ e)

  pub sh_other : turned_away x ≡ false → (k : ℕ) → Holds x count (identity_of seen) k → refers_else x ≡ true → sh_serve x ≡ saying x (denied 5100)
  sh_other = says_other x count sound seen read

  pub sh_other_only : result_of x ≡ Experimental 5100 → Known x count (identity_of seen) true
  sh_other_only e = other_only x count sound seen read (counted ∙ e)

  pub sh_says : turned_away x ≡ false → (k : ℕ) → Holds x count (identity_of seen) k → refers_else x ≡ false
      → Says x (block_of (table_in x.table) k) (sh_serve x)
  sh_says = says_record x count sound seen read

  pub sh_says_only : result_of x ≡ Base 2001 → Known x count (identity_of seen) false
  sh_says_only e = known_only x count sound seen read (counted ∙ e)

-- THE NEIGHBOUR'S LINE of a call stands in `sh_neighbour`; it rests on this: tables that show the same of the identity asked about get the same answer,
-- whatever else they hold.
pub sh_neighbours_line : (req : List ℕ) (peer : ℕ) (area file o other foreign p : List ℕ) (count many : ℕ)
    → SameSight req peer (table_in area) (table_in other) count many
    → (answer_of (lent req area file o peer) count ≡ answer_of (lent req other foreign p peer) many)
    × ((told_of (lent req area file o peer) count).verdict.place ≡ (told_of (lent req other foreign p peer) many).verdict.place)
sh_neighbours_line req peer area file o other foreign p count many s =
    (answer_same req peer (table_in area) (table_in other) count many s, place_same req peer (table_in area) (table_in other) count many s)

-- "OVER ITS OWN LIST OF KNOWN KINDS: document 01's of vendor 0, and with V and 10415 the kinds 700, 703 and 628; every other is unknown", whatever the command.
pub sh_kinds : (x : Lent) → kinds_of (dialect_in x) ≡ kinds_of_sh
unfolding kinds_by known use_in
sh_kinds x = refl

pub sh_others : (x : Lent) (u : List ℕ) → is_among kinds_of_sh u ≡ false → is_unknown (use_of (dialect_in x) u) ≡ true
sh_others x u = others_unknown (dialect_in x) u (sh_kinds x)

-- "628 IS SKIPPED HERE", with M too and whatever it holds, wherever reading comes to one without a reserved flag.
pub sh_features : (x : Lent) (seen : Seen) (a : List ℕ) → kind_of a ≡ supported_features → reserved (avp_flags a) ≡ 0 → rule (dialect_in x) seen a ≡ Skipped
unfolding rule rule_by row_of known use_in
sh_features x seen a k r = rw (k, r)

-- "THE ONE PUBLIC-IDENTITY THAT 700 MUST HOLD": the 700 of a request that was read holds a 601 of vendor 10415 and nothing else, and the identity asked about
-- is the data of that 601.
pub sh_identity : (x : Lent) (seen : Seen) → read_sh (dialect_in x) x.request ≡ fine seen → Asks 601 user_identity seen
sh_identity x seen = read_identity (dialect_in x) x.request seen

-- DEMAND 3, over this list, so that 601, 602 and all others of the Cx server's are among the unknown kinds here. Let `longer` be a request with AVPs of unknown
-- kinds put in after its first, so that it stays within 16,384 bytes. A call with `longer` comes to what it comes to with the request, but for the place of an
-- AVP at fault, and leaves the same buffer; but if one of those put in is marked M, it is answered by B5001 with the first such in Failed-AVP, and its place,
-- unless the call is refused or the header or an AVP before that one breaks a reading rule.
pub sh_demand_3 : (x : Lent) (longer : List ℕ) (l : Longer (terms_in x) x.request longer) → Newer x longer l
sh_demand_3 = longer_newer

-- Case by case: a request is a header, a row of AVPs that pass (a), `q` and then `qs`, and any bytes behind them; the longer one has the row `q` and then `rs`,
-- which is `qs` with AVPs of unknown kinds put in.
module _ (head : List ℕ) (twenty : length head ≡ 20) (q : Piece) (qs rs : List Piece) (whole : All Whole (q ∷ qs)) (tail : List ℕ) (fours : length tail % 4 ≡ 0)
    (most : length (request_of head (q ∷ rs) tail) ≤ 16384) (x : Lent) where
  abbrev dialect : Dialect
  dialect = dialect_of (terms_in x) head

  -- If none of them is marked M, the call comes to the same but for the place, which moves with its AVP, and leaves the same buffer.
  pub sh_demand_3_unmarked : (i : Inserted (Quiet dialect) qs rs)
      → sh_serve (asking x (request_of head (q ∷ rs) tail)) ≡ placed (place_now (keep q i)) (sh_serve (asking x (request_of head (q ∷ qs) tail)))
  sh_demand_3_unmarked = unmarked_same head twenty q qs rs whole tail fours most x

  -- If one is, the answer is the one of B5001 with the first marked one in Failed-AVP, and its place ..
  pub sh_demand_3_marked : (m : FirstMarked dialect qs rs) → fault_by (header_fault_sh dialect head) dialect (q ∷ m.front) ≡ false
      → turned_away (asking x (request_of head (q ∷ qs) tail)) ≡ false
      → sh_serve (asking x (request_of head (q ∷ rs) tail)) ≡ blaming (asking x (request_of head (q ∷ rs) tail)) 5001 m.mark.avp (behind_row (q ∷ m.before))
  sh_demand_3_marked = mark_answered head twenty q qs rs whole tail fours most x

  -- .. unless the header or an AVP before it breaks a reading rule: then the call gives what it gives without them, the place moved as above.
  pub sh_demand_3_fault : (m : FirstMarked dialect qs rs) → fault_by (header_fault_sh dialect head) dialect (q ∷ m.front) ≡ true
      → sh_serve (asking x (request_of head (q ∷ rs) tail)) ≡ placed (place_now (keep q m.quiet)) (sh_serve (asking x (request_of head (q ∷ qs) tail)))
  sh_demand_3_fault = fault_first head twenty q qs rs whole tail fours most x
