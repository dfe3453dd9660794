-- What each way through a call leaves.
use Rattle.std.specs.Prelude.{Result, Ok, Err}
use Rattle.octets.specs.Standard.{ℕ, ◌<◌, List, Bool, true, false, cond, ◌≡◌, refl, sym, ◌∙◌, arith, length}
use Rattle.table.specs.Check.{check_table}
use Rattle.table.specs.SoundTable.{SoundTable}
use Rattle.vectors.specs.VectorFile.{check_vectors, SoundVectors}
use Rattle.reading.specs.declared.Dialect.{Dialect}
use Rattle.reading.specs.declared.Terms.{Terms}
use Rattle.requests.specs.Request.{dialect_of}
use Rattle.deciding.specs.Decide.{decide}
use Rattle.refusals.proofs.Passing.{lets}
use Rattle.deciding.specs.Answers.{Tells}
use Rattle.deciding.specs.declared.Told.{Told}
use Rattle.refusals.specs.declared.Refusal.{Refusal}
use Rattle.refusals.specs.declared.Refusal.TheVariants.{UnknownPeer, SmallBuffer, WrongSize, WrongLength, NoRequest, Unsound, UnsoundVectors}
use Rattle.refusals.specs.Numbers.{number_of, value_of}
use Rattle.calling.specs.Lent.{Lent, lent}
use Rattle.refusals.specs.Trial.{tried}
use Rattle.refusals.specs.Early.{unknown_peer, small_buffer, wrong_size, no_request, check_value, wrong_length, early}
use Rattle.calling.specs.Serve.{refused, answered_by, check_of}
use Rattle.calling.specs.Serve.{serve_found, serve_table_by, serve_table}
use Rattle.calling.specs.Leaves.{Leaves, serve_checked}

pub checked_sound : (t : List ℕ) (n count : ℕ) {c : Result ℕ ℕ} → c ≡ check_table t n → c ≡ Ok count → SoundTable t count
checked_sound t n count e f = record { file = n; checked = sym e ∙ f }

pub vectors_sound : (v : List ℕ) (n : ℕ) {d : Result ℕ ℕ} → d ≡ check_vectors v → d ≡ Ok n → SoundVectors v
vectors_sound v n e f = record { count = n; checked = sym e ∙ f }

pub dialect_own : (req : List ℕ) (terms : Terms) (d : Dialect) → d ≡ dialect_of terms req → d ≡ dialect_of d.terms req
dialect_own req terms d e = rw e

module _ (req t file v o : List ℕ) (terms : Terms) where
  abbrev x : Lent
  x = lent req t file v o terms

  numbered : (r : Refusal) → 0 < number_of r
  numbered UnknownPeer = omega arith
  numbered SmallBuffer = omega arith
  numbered WrongSize = omega arith
  numbered WrongLength = omega arith
  numbered NoRequest = omega arith
  numbered (Unsound block) = omega arith
  numbered UnsoundVectors = omega arith

  pub refuses : (count : ℕ) (r : Refusal) → number_of r ≡ early terms req o → value_of r ≡ 0 → Leaves x (serve_table x) count (Err r) t v o
  unfolding early serve_table_by serve_found tried refused
  refuses count r e z = go (unknown_peer terms) (small_buffer o) (wrong_size req) (wrong_length req) (no_request req) refl refl refl refl refl e
    where
      go : (u a b c d : Bool) → unknown_peer terms ≡ u → small_buffer o ≡ a → wrong_size req ≡ b → wrong_length req ≡ c → no_request req ≡ d
          → number_of r ≡ cond u 12 (cond a 1 (cond b 2 (cond c 3 (cond d 4 0)))) → Leaves x (serve_table x) count (Err r) t v o
      go true a b c d p f g h i n = record { call_is = rw (p, n, z); table_is = rw p; vectors_is = rw p; buffer_is = rw p; noted = tt }
      go false true b c d p f g h i n = record { call_is = rw (p, f, n, z); table_is = rw (p, f); vectors_is = rw (p, f); buffer_is = rw (p, f); noted = tt }
      go false false true c d p f g h i n =
          record { call_is = rw (p, f, g, n, z); table_is = rw (p, f, g); vectors_is = rw (p, f, g); buffer_is = rw (p, f, g); noted = tt }
      go false false false true d p f g h i n =
          record { call_is = rw (p, f, g, h, n, z); table_is = rw (p, f, g, h); vectors_is = rw (p, f, g, h); buffer_is = rw (p, f, g, h); noted = tt }
      go false false false false true p f g h i n = record {
        call_is = rw (p, f, g, h, i, n, z);
        table_is = rw (p, f, g, h, i);
        vectors_is = rw (p, f, g, h, i);
        buffer_is = rw (p, f, g, h, i);
        noted = tt;
      }
      go false false false false false p f g h i n = absurd (omega (arith, numbered r, n))

  -- The last two, and the answer.
  pub over_bad : (c d : Result ℕ ℕ) (k : ℕ) → c ≡ Err k → Leaves x (serve_checked x c d) (check_value c) (Err (Unsound k)) t v o
  unfolding serve_checked tried refused
  over_bad c d k e = record { call_is = rw e; table_is = rw e; vectors_is = rw e; buffer_is = rw e; noted = tt }

  pub over_good : (c d : Result ℕ ℕ) (count : ℕ) (dialect : Dialect) {r : Result Told Refusal} {t' v' o' : List ℕ} → dialect ≡ dialect_of terms req → c ≡ Ok count
      → Leaves (lent req t file v o dialect.terms) (serve_checked (lent req t file v o dialect.terms) (Ok count) d) count r t' v' o'
      → Leaves x (serve_checked x c d) (check_value c) r t' v' o'
  over_good c d count dialect is e s = rw e (rw is at s)

  module _ (count : ℕ) (d : Result ℕ ℕ) where
    pub over_spoilt : (k : ℕ) → d ≡ Err k → Leaves x (serve_checked x (Ok count) d) count (Err UnsoundVectors) t v o
    unfolding serve_checked tried refused
    over_spoilt k e = record { call_is = rw e; table_is = rw e; vectors_is = rw e; buffer_is = rw e; noted = tt }

    pub over_answered : (m : ℕ) (dialect : Dialect) (told : Told) {t' v' o' : List ℕ} → dialect ≡ dialect_of terms req → d ≡ Ok m
        → Tells dialect req t count file v o o' told → t' ≡ (decide dialect req t count v).table → v' ≡ (decide dialect req t count v).vectors
        → Leaves x (serve_checked x (Ok count) d) count (Ok told) t' v' o'
    unfolding serve_checked tried answered_by
    over_answered m dialect told is e a f g =
        let b = rw is at a in
        let t-is = rw is at f in
        record {
          call_is = rw (e, b.answers.count, b.place_is);
          table_is = t-is ∙ rw e;
          vectors_is = (rw is at g) ∙ rw e;
          buffer_is = b.answers.bytes ∙ rw e;
          noted = (b.command_is, b.result_is, rw t-is b.altered_is);
        }

  pub rest_serves : (c d : Result ℕ ℕ) {count : ℕ} {r : Result Told Refusal} {t' v' o' : List ℕ} → 0 ≡ early terms req o → c ≡ check_table t (length file)
      → d ≡ check_vectors v → Leaves x (serve_checked x c d) count r t' v' o' → Leaves x (serve_table x) count r t' v' o'
  unfolding serve_table_by serve_found tried serve_checked
  rest_serves c d e f g s =
      let l = lets terms req o (sym e) in
      rw (l.peer, l.room, l.size, l.long, l.asks, ← f, ← g) s

  -- the same with the count that was found
  pub call_serves : (c d : Result ℕ ℕ) {r : Result Told Refusal} {t' v' o' : List ℕ} → 0 ≡ early terms req o → c ≡ check_table t (length file) → d ≡ check_vectors v
      → Leaves x (serve_checked x c d) (check_value c) r t' v' o' → Leaves x (serve_table x) (check_value (check_of x)) r t' v' o'
  call_serves c d e f g s = rw (← f) (rest_serves c d e f g s)
