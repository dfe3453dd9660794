-- One call of the Sh server: what it comes to, and the buffer afterwards, for any bytes.
use Rattle.std.specs.Prelude.{ℕ, List, [], ◌∷◌, ◌++◌, length, Result}
use Rattle.octets.specs.Run.{over}
use Rattle.table.specs.Area.{table_in, check_area}
use Rattle.refusals.specs.Early.{early_trials, check_value, unsound}
use Rattle.refusals.specs.Trial.{Trial, tried}
use Rattle.calling.specs.Call.{Call, Answered, Refused}
use Rattle.sh.specs.Answer.{sh_answer}
use Rattle.sh.specs.Tell.{Telling, tell}
use Rattle.ndushavire_sh.specs.Lent.{Lent, terms_in, dialect_in}

-- "The table is only read": what comes of a call is its outcome, and the buffer
pub record Served : Type 0 where
  pub call : Call
  pub buffer : List ℕ

-- 12, 1 to 4, then 5 of a table that is checked so
abbrev pub trials_of : Lent → Result ℕ ℕ → List Trial
trials_of x c = early_trials (terms_in x) x.request x.buffer ++ (unsound c ∷ [])

-- "All leave table and buffer as they came"
unfoldable pub refused : Lent → Trial → Served
refused x r = record { call = Refused r.number r.besides; buffer = x.buffer }

-- what is told, of the table at the front of its area and of so many records, and the answer
abbrev pub told_of : Lent → ℕ → Telling
told_of x count = tell (dialect_in x) x.request (table_in x.table) count

abbrev pub answer_of : Lent → ℕ → List ℕ
answer_of x count = sh_answer (terms_in x) x.request (table_in x.table) (told_of x count)

unfoldable pub answered : Lent → ℕ → Served
answered x count =
    record {
      call = Answered (record { length = length (answer_of x count); place = (told_of x count).verdict.place });
      buffer = over (answer_of x count) x.buffer;
    }

-- "Tried in this order. .. Otherwise the call returns the answer's length"
unfoldable pub serve_checked : Lent → Result ℕ ℕ → Served
serve_checked x c = tried (refused x) (answered x (check_value c)) (trials_of x c)

abbrev pub sh_serve : Lent → Served
sh_serve x = serve_checked x (check_area x.table (length x.profile))
