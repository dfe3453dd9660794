-- One call: what it comes to, the table, the vectors and the buffer afterwards, for any bytes.
use Rattle.std.specs.Prelude.{ℕ, List, [], ◌∷◌, ◌++◌, ◌≡◌, length, Result}
use Rattle.octets.specs.Run.{over}
use Rattle.vectors.specs.VectorFile.{check_vectors}
use Rattle.deciding.specs.Rules.{Rules, in_force}
use Rattle.deciding.specs.Decide.{Decision, decide_by}
use Rattle.reading.specs.declared.Outcome.{Outcome}
use Rattle.refusals.specs.Early.{early_trials, is_bad, check_value, unsound}
use Rattle.calling.specs.Call.{Call, Answered, Refused}
use Rattle.calling.specs.Lent.{Lent, table_only, put_back, dialect_in}
use Rattle.refusals.specs.Trial.{Trial, tried}

-- what comes of a call
pub record Served : Type 0 where
  pub call : Call
  pub table : List ℕ
  pub vectors : List ℕ
  pub buffer : List ℕ

-- "6, vector file unsound, at every call, after 5"
abbrev pub unsound_vectors : Result ℕ ℕ → Trial
unsound_vectors d = record { holds = is_bad d; number = 6; besides = 0 }

-- those of a table and a vector file that are checked so
abbrev pub file_trials : Result ℕ ℕ → Result ℕ ℕ → List Trial
file_trials c d = unsound c ∷ unsound_vectors d ∷ []

abbrev pub trials_of : Lent → Result ℕ ℕ → List Trial
trials_of x c = early_trials x.terms x.request x.buffer ++ file_trials c (check_vectors x.vectors)

-- "All leave table and buffer as they came", and the vectors
unfoldable pub refused : Lent → Trial → Served
refused x r = record { call = Refused r.number r.besides; table = x.table; vectors = x.vectors; buffer = x.buffer }

-- the answer of a decision; "the call returns the answer's length; buffer bytes past it stay"; "and the entry shall return, beside the answer's length,
-- the place of the AVP at fault"
abbrev pub answer_by : Rules → Lent → Decision → List ℕ
answer_by r x d = r.answer x.terms x.request x.table x.profile x.vectors d.given

unfoldable pub answered_by : Rules → Lent → Decision → Served
answered_by r x d =
    record {
      call = Answered (record { length = length (answer_by r x d); place = d.place });
      table = d.table;
      vectors = d.vectors;
      buffer = over (answer_by r x d) x.buffer;
    }

-- A call under some rules, over a table whose length must be exact, where its check answers so: "Tried in this order. .. Otherwise the call returns the
-- answer's length"
abbrev pub decision_by : Rules → Lent → ℕ → Decision
decision_by r x count = decide_by r (dialect_in x) x.request x.table count x.vectors

unfoldable pub serve_found : Rules → Lent → Result ℕ ℕ → Served
serve_found r x c = tried (refused x) (answered_by r x (decision_by r x (check_value c))) (trials_of x c)

unfoldable pub serve_table_by : Rules → Lent → Served
serve_table_by r x = serve_found r x (r.check x.table (length x.profile))

-- under the rules in force
abbrev pub answer_of : Lent → Decision → List ℕ
answer_of = answer_by in_force

abbrev pub answered : Lent → Decision → Served
answered = answered_by in_force

abbrev pub serve_table : Lent → Served
serve_table = serve_table_by in_force

-- what the check of its table answers, its trials, the decision over a table that is sound, of so many records
abbrev pub check_of : Lent → Result ℕ ℕ
check_of x = in_force.check x.table (length x.profile)

abbrev pub trials : Lent → List Trial
trials x = trials_of x (check_of x)

abbrev pub decision : Lent → ℕ → Decision
decision = decision_by in_force

-- the one that is answered with, where no refusal is given, and its result
abbrev pub decided : Lent → Decision
decided x = decision x (check_value (check_of x))

abbrev pub result_of : Lent → Outcome
result_of x = (decided x).given.verdict.result

-- The call. "The working area may be longer than the table: when a request .. reads it, blocks past the count, and a last piece under 512 bytes, are not looked
-- at": the table at the front of the area is served, and put back; every byte behind it stays as it came.
abbrev pub over_area : List ℕ → Served → Served
over_area area s = record { call = s.call; table = put_back area s.table; vectors = s.vectors; buffer = s.buffer }

abbrev pub serve_by : Rules → Lent → Served
serve_by r x = over_area x.table (serve_table_by r (table_only x))

abbrev pub serve : Lent → Served
serve = serve_by in_force

-- two calls come to the same: the answer or the refusal, the vectors and the buffer
pub record SameCall (r s : Served) : Type 0 where
  pub call : r.call ≡ s.call
  pub vectors : r.vectors ≡ s.vectors
  pub buffer : r.buffer ≡ s.buffer
