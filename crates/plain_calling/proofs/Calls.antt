-- What each way through a call leaves: as in `calling/Calls`, without what is noted there besides.
use Rattle.std.specs.Prelude.{Result, Ok, Err}
use Rattle.octets.specs.Standard.{ℕ, ◌≤◌, ◌≡◌, refl, sym, ◌∙◌, ap, List, [], ◌++◌, length, take, drop, length-take-le}
use Rattle.table.specs.Area.{table_in}
use Rattle.table.specs.Check.{check_table}
use Rattle.vectors.specs.VectorFile.{check_vectors}
use Rattle.rewrite.specs.Change.{altered_up_to}
use Rattle.reading.specs.declared.Dialect.{Dialect}
use Rattle.reading.specs.declared.Terms.{Terms}
use Rattle.requests.specs.Features.{wanted_of}
use Rattle.requests.specs.Found.{judged_of}
use Rattle.requests.specs.Judged.{bad}
use Rattle.requests.specs.Request.{dialect_of, read_in}
use Rattle.requests.specs.declared.features.Wanted.{Wanted}
use Rattle.refusals.proofs.Passing.{lets}
use Rattle.deciding.specs.Answers.{Tells}
use Rattle.deciding.specs.Decide.{decide, faulted}
use Rattle.deciding.proofs.Answering.{fault_decided, fault_near}
use Rattle.refusals.specs.Passed.{Passed}
use Rattle.reading.specs.declared.Verdict.{Verdict}
use Rattle.plain_reading.specs.Read.{read_as}
use Rattle.deciding.specs.declared.Told.{Told}
use Rattle.refusals.specs.Early.{early}
use Rattle.calling.specs.Leaves.{Leaves, serve_checked}
use Rattle.calling.specs.Lent.{Lent, lent, table_only}
use Rattle.calling.specs.Serve.{Served, serve_found, serve_table_by, serve_table, serve}
use Rattle.refusals.specs.Trial.{tried}
use Rattle.refusals.specs.Numbers.{number_of, value_of}
use Rattle.refusals.specs.declared.Refusal.{Refusal}
use Rattle.refusals.specs.declared.Refusal.TheVariants.{Unsound, UnsoundVectors}
use Rattle.calling.proofs.Calls as calls
use Rattle.plain_reading.specs.Listed.{places_of}
use Rattle.plain_reading.specs.Plain.{plain_read}
use Rattle.plain_reading.proofs.AsWalked.{plain_reads}
use Rattle.plain_deciding.specs.Says.{Says}
use Rattle.plain_deciding.specs.declared.Said.{Said}
use Rattle.plain_calling.specs.Comes.{Comes}

-- what is wanted by the terms of the dialect
pub wanted_own : (req : List ℕ) (terms : Terms) (d : Dialect) (w : Wanted) → d ≡ dialect_of terms req → w ≡ wanted_of terms req → w ≡ wanted_of d.terms req
wanted_own req terms d w e f = f ∙ rw e

-- The request is read as the definition reads it.
pub list_read : (d : Dialect) (req list : List ℕ) (w : Result (List ℕ) Verdict) → list ≡ places_of req → read_as req w ≡ plain_read d req list
    → read_as req w ≡ read_in d req
list_read d req list w e f = f ∙ rw e (plain_reads d req)

-- A fault of reading: what it decides, and where it is.
pub bad_decided : (d : Dialect) (req t : List ℕ) (count : ℕ) (v : List ℕ) (f : Verdict) → bad f ≡ read_in d req → decide d req t count v ≡ faulted t v f
unfolding judged_of
bad_decided d req t count v f e = fault_decided d req t count v [] (Err f) f e refl

pub bad_near : (d : Dialect) (req o : List ℕ) (f : Verdict) → bad f ≡ read_in d req → Passed req o → f.place ≤ 16384
unfolding judged_of
bad_near d req o f e p = fault_near d req [] o (Err f) f e refl p

-- A refusal.
refusing : {x : Lent} {s : Served} {count : ℕ} {r : Refusal} {t v o : List ℕ} → Leaves x s count (Err r) t v o → Comes s (Err r) t v o
refusing l = record { call_is = l.call_is; table_is = l.table_is; vectors_is = l.vectors_is; buffer_is = l.buffer_is }

module _ (req t file v o : List ℕ) (terms : Terms) where
  abbrev x : Lent
  x = lent req t file v o terms

  pub refuses : (r : Refusal) → number_of r ≡ early terms req o → value_of r ≡ 0 → Comes (serve_table x) (Err r) t v o
  refuses r e z = refusing (calls.refuses req t file v o terms 0 r e z)

  pub over_bad : (c d : Result ℕ ℕ) (k : ℕ) → c ≡ Err k → Comes (serve_checked x c d) (Err (Unsound k)) t v o
  over_bad c d k e = refusing (calls.over_bad req t file v o terms c d k e)

  pub over_spoilt : (count : ℕ) {d : Result ℕ ℕ} (k : ℕ) → d ≡ check_vectors v → d ≡ Err k
      → Comes (serve_checked x (Ok count) (check_vectors v)) (Err UnsoundVectors) t v o
  over_spoilt count k is e = refusing (calls.over_spoilt req t file v o terms count (check_vectors v) k (sym is ∙ e))

  pub over_good : (c d : Result ℕ ℕ) (count : ℕ) (dialect : Dialect) {r : Result Said Refusal} {t' v' o' : List ℕ} → dialect ≡ dialect_of terms req → c ≡ Ok count
      → Comes (serve_checked (lent req t file v o dialect.terms) (Ok count) d) r t' v' o' → Comes (serve_checked x c d) r t' v' o'
  over_good c d count dialect is e s = rw e (rw is at s)

  -- the answer: what is said of it is part of what is told
  pub over_answered : (count : ℕ) {d : Result ℕ ℕ} (m : ℕ) (dialect : Dialect) (said : Said) {t' v' o' : List ℕ} → dialect ≡ dialect_of terms req
      → d ≡ check_vectors v → d ≡ Ok m → Says dialect req t count file v o o' said → t' ≡ (decide dialect req t count v).table
      → v' ≡ (decide dialect req t count v).vectors
      → Comes (serve_checked x (Ok count) (check_vectors v)) (Ok said) t' v' o'
  over_answered count m dialect said {t'} {v'} {o'} is checked e s f g =
      let all : Told =
      record {
        length = said.length;
        place = said.place;
        command = dialect.command;
        result = (decide dialect req t count v).given.verdict.result;
        altered = altered_up_to t (decide dialect req t count v).table count;
      } in
      let tells : Tells dialect req t count file v o o' all =
      record { answers = s.answers; place_is = s.place_is; command_is = refl; result_is = refl; altered_is = refl } in
      let l = calls.over_answered req t file v o terms count (check_vectors v) m dialect all is (sym checked ∙ e) tells f g in
      record { call_is = l.call_is; table_is = l.table_is; vectors_is = l.vectors_is; buffer_is = l.buffer_is }

  pub call_serves : (c : Result ℕ ℕ) {r : Result Said Refusal} {t' v' o' : List ℕ} → 0 ≡ early terms req o → c ≡ check_table t (length file)
      → Comes (serve_checked x c (check_vectors v)) r t' v' o' → Comes (serve_table x) r t' v' o'
  unfolding serve_table_by serve_found tried serve_checked
  call_serves c e f s =
      let l = lets terms req o (sym e) in
      rw (l.peer, l.room, l.size, l.long, l.asks, ← f) s

-- The table at the front of an area.
pub area_serves : (req area file v o : List ℕ) (terms : Terms) (n : ℕ) {r : Result Said Refusal} {t' v' o' : List ℕ} → take n area ≡ table_in area → n ≤ length area
    → Comes (serve_table (lent req (take n area) file v o terms)) r t' v' o' → Comes (serve (lent req area file v o terms)) r (t' ++ drop n area) v' o'
area_serves req area file v o terms n {r} {t'} {v'} {o'} e h l =
    let whole : Lent = lent req area file v o terms in
    let s : Comes (serve_table (table_only whole)) r t' v' o' = rw e at l in
    let k : n ≡ length (table_in area) = sym (length-take-le n area h) ∙ ap length e in
    record {
      call_is = s.call_is;
      table_is = ap (λ (t : List ℕ). t ++ drop n area) s.table_is ∙ ap (λ (m : ℕ). (serve_table (table_only whole)).table ++ drop m area) k;
      vectors_is = s.vectors_is;
      buffer_is = s.buffer_is;
    }
