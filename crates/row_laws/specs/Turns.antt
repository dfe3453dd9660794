-- The requests of a row in turn: what each is lent, its word and its answer, and what all of them leave.
use Rattle.std.specs.Prelude.{ℕ, ◌+◌, ◌*◌, Bool, false, ◌||◌, List, [], ◌∷◌, ◌++◌, ◌≡◌, length, take, drop}
use Rattle.std.proofs.Math.Option.{some}
use Rattle.table.specs.Area.{table_in}
use Rattle.table.specs.Named.{private_at}
use Rattle.counting.specs.Words.{words_bytes}
use Rattle.calling.specs.Lent.{Lent, lent, asking, dialect_in}
use Rattle.calling.specs.Serve.{serve}
use Rattle.ndushavire.specs.Reads.{call_in}
use Rattle.demands.specs.Frame.{subscription_of}
use Rattle.reporting.specs.Report.{requests_of}
use Rattle.row_of_calls.specs.Row.{Rowed, answer_length, alters, marks, next, rowed}
use Rattle.row_of_calls.specs.Word.{call_word}
use Rattle.report_numbers.specs.Turns.{InTurn}
use Rattle.vectors_sent.specs.Row.{Turn}

-- the requests that have a word: so many of the file's, from its first on
abbrev pub served_of : Lent → List ℕ → List (List ℕ)
served_of x words = take (rowed x words).served (requests_of x)

-- what requests in turn leave to the one behind them: the table, the vectors, and `answers` from behind their answers on
unfoldable pub lent_after : Lent → List (List ℕ) → Lent
lent_after x [] = x
lent_after x (p ∷ ps) = lent_after (next x p) ps

-- what is lent to a request in its place: itself, and what those before it left
abbrev pub lent_to : (x : Lent) {ps : List (List ℕ)} → InTurn ps → Lent
lent_to x p = asking (lent_after x p.before) p.request

-- block k of the area as it came is of the subscription that such a request asks about, over a table of count records
abbrev pub AsksAbout : (x : Lent) → ℕ → ℕ → {ps : List (List ℕ)} → InTurn ps → Type 0
AsksAbout x count k p =
    some (private_at x.table k) ≡ subscription_of (dialect_in (lent_to x p)) p.request (table_in (lent_to x p).table) count

-- their words, and their answers, each right behind the one before; a refusal has no bytes there
unfoldable pub words_by : Lent → List (List ℕ) → List ℕ
words_by x [] = []
words_by x (p ∷ ps) = call_word (serve (asking x p)).call ∷ words_by (next x p) ps

unfoldable pub answers_by : Lent → List (List ℕ) → List ℕ
answers_by x [] = []
answers_by x (p ∷ ps) = take (answer_length (serve (asking x p)).call) (serve (asking x p)).buffer ++ answers_by (next x p) ps

-- how many bytes the answers have that words tell of
unfoldable pub answers_long : List ℕ → ℕ
answers_long [] = 0
answers_long (w ∷ ws) = answer_length (call_in w) + answers_long ws

-- whether a test holds of one of the calls: whether one altered a record, and whether one marked a vector
unfoldable pub some_call : (Lent → Bool) → Lent → List (List ℕ) → Bool
some_call test x [] = false
some_call test x (p ∷ ps) = test (asking x p) || some_call test (next x p) ps

abbrev pub some_alters : Lent → List (List ℕ) → Bool
some_alters x ps = some_call (λ y. alters y) x ps

abbrev pub some_marks : Lent → List (List ℕ) → Bool
some_marks x ps = some_call (λ y. marks y) x ps

-- the bytes that a row writes to `answers`
abbrev pub written : Lent → List ℕ → ℕ
written x words = length (answers_by x (served_of x words))

-- requests served, and behind them what comes of others
abbrev pub behind : Lent → List (List ℕ) → Rowed → Rowed
behind x ps r =
    record {
      number = r.number;
      table = r.table;
      vectors = r.vectors;
      answers = answers_by x ps ++ r.answers;
      words = words_bytes (words_by x ps) ++ r.words;
      served = length ps + r.served;
      altered = some_alters x ps || r.altered;
      marked = some_marks x ps || r.marked;
    }

-- a row over another file that goes on where the first ended: it is lent what that left, from behind what it wrote
abbrev pub going_on : Lent → List ℕ → List ℕ → Lent
going_on x words more =
    lent more (rowed x words).table x.profile (rowed x words).vectors (drop (written x words) (rowed x words).answers) x.terms

abbrev pub words_left : Lent → List ℕ → List ℕ
words_left x words = drop (8 * (rowed x words).served) (rowed x words).words

-- two rows as one: what the first wrote, and behind it what the second left
abbrev pub joined : Lent → List ℕ → Rowed → Rowed
joined x words r =
    record {
      number = r.number;
      table = r.table;
      vectors = r.vectors;
      answers = take (written x words) (rowed x words).answers ++ r.answers;
      words = take (8 * (rowed x words).served) (rowed x words).words ++ r.words;
      served = (rowed x words).served + r.served;
      altered = (rowed x words).altered || r.altered;
      marked = (rowed x words).marked || r.marked;
    }

-- the calls of a row as vectors_sent/specs/Row has calls
unfoldable pub turns_of : Lent → List (List ℕ) → List Turn
turns_of x [] = []
turns_of x (p ∷ ps) =
    record { request = p; table = x.table; profile = x.profile; buffer = x.buffer; terms = x.terms } ∷ turns_of (next x p) ps
