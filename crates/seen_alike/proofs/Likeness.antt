-- Two sound tables of as many records that agree in every byte that a request can see: every call comes to the same, with the same vectors and the same
-- buffer, and leaves tables that are alike again. What `AlikeTables` means is in specs/Alike; `holding` and `SameCall`
-- are calling's, in Lent and Serve.
use Rattle.std.specs.Prelude.{Result, Ok}
use Rattle.octets.specs.Standard.{ℕ, Bool, true, false, cond, ◌≡◌, refl, sym, ◌∙◌, ap, List, [], ◌∷◌, length}
use Rattle.octets.proofs.Numbers.{Bytes}
use Rattle.table.specs.SoundTable.{SoundTable}
use Rattle.rewrite.specs.Change.{altered_up_to}
use Rattle.rewrite.proofs.Counts.{altered_none}
use Rattle.reading.specs.Rules.{Seen}
use Rattle.requests.specs.Judged.{fine}
use Rattle.requests.specs.Request.{read_in}
use Rattle.choices.specs.declared.Given.{Given}
use Rattle.reading.specs.declared.Dialect.{Dialect}
use Rattle.answering.specs.Answer.{answer_bytes}
use Rattle.deciding.specs.Plans.{plan_read}
use Rattle.deciding.specs.Decide.{decide}
use Rattle.calling.specs.Lent.{Lent, holding, dialect_in}
use Rattle.refusals.specs.Trial.{Trial, tried}
use Rattle.refusals.specs.Early.{check_value}
use Rattle.calling.specs.Serve.{Served, SameCall, check_of, refused, answered, answered_by, decision, result_of, serve_found, serve_table_by, serve_table}
use Rattle.seen_alike.specs.Alike.{AlikeTables}
use Rattle.seen_alike.proofs.Together.{tables_sight, asks_any, plan_same, given_same, vectors_same}
use Rattle.seen_alike.proofs.Plans.{place_same}
use Rattle.seen_alike.proofs.Answers.{bytes_same}
use Rattle.seen_alike.proofs.Effects.{tables_alike}
use Rattle.seen_alike.proofs.Altered.{altered_same}

-- What is planned, decided and answered; one of the tables is sound.
module _ (t u : List ℕ) (count : ℕ) (sound : SoundTable t count) (alike : AlikeTables t u count) where
  pub plan_alike : (dialect : Dialect) (req v : List ℕ) (seen : Seen) → read_in dialect req ≡ fine seen
      → plan_read dialect req t count v seen ≡ plan_read dialect req u count v seen
  plan_alike dialect req v seen e = plan_same t u count sound alike dialect req v seen e

  pub given_alike : (dialect : Dialect) (req v : List ℕ) → (decide dialect req t count v).given ≡ (decide dialect req u count v).given
  given_alike dialect req v = given_same t u count sound alike dialect req v

  pub place_alike : (dialect : Dialect) (req v : List ℕ) → (decide dialect req t count v).place ≡ (decide dialect req u count v).place
  place_alike dialect req v = place_same t u count count dialect req v v

  pub vectors_alike : (dialect : Dialect) (req v : List ℕ) → (decide dialect req t count v).vectors ≡ (decide dialect req u count v).vectors
  vectors_alike dialect req v = vectors_same t u count sound alike dialect req v

  pub decision_alike : (dialect : Dialect) (req file v : List ℕ)
      → answer_bytes dialect.terms req t file v (decide dialect req t count v).given
      ≡ answer_bytes dialect.terms req u file v (decide dialect req u count v).given
  decision_alike dialect req file v =
      bytes_same (tables_sight t u count sound alike file) dialect req v v (λ e. refl) (λ seen e. asks_any dialect req seen)

  -- the tables afterwards, if both are sound
  pub table_alike : SoundTable u count → (dialect : Dialect) (req v : List ℕ)
      → AlikeTables (decide dialect req t count v).table (decide dialect req u count v).table count
  table_alike other dialect req v = tables_alike t u count sound other alike dialect req v

  -- how many records it alters, if both are of bytes
  pub altered_alike : SoundTable u count → Bytes t → Bytes u → (dialect : Dialect) (req v : List ℕ)
      → altered_up_to t (decide dialect req t count v).table count ≡ altered_up_to u (decide dialect req u count v).table count
  altered_alike other bytes other-bytes dialect req v = altered_same t u count sound other alike bytes other-bytes dialect req v

-- The same refusals, tried in one order: what holds of each that is given by both, and of what both do otherwise.
tried_both : (P : Served → Served → Type 0) (give other : Trial → Served) (o p : Served) → ((r : Trial) → P (give r) (other r)) → P o p → (rs : List Trial)
    → P (tried give o rs) (tried other p rs)
unfolding tried
tried_both P give other o p f h [] = h
tried_both P give other o p f h (r ∷ rs) = go r.holds (tried_both P give other o p f h rs)
  where
    go : (x : Bool) → P (tried give o rs) (tried other p rs) → P (cond x (give r) (tried give o rs)) (cond x (other r) (tried other p rs))
    go true next = f r
    go false next = next

-- A call, and the same call over a table that is alike; both are sound.
module _ (x : Lent) (u : List ℕ) (count : ℕ) (first : check_of x ≡ Ok count) (second : check_of (holding x u) ≡ Ok count)
    (alike : AlikeTables x.table u count) where
  sound : SoundTable x.table count
  sound = record { file = length x.profile; checked = first }

  other : SoundTable u count
  other = record { file = length x.profile; checked = second }

  -- what holds of refusals and of the answers holds of the calls
  both_by : (P : Served → Served → Type 0) → ((r : Trial) → P (refused x r) (refused (holding x u) r))
      → P (answered x (decision x count)) (answered (holding x u) (decision (holding x u) count)) → P (serve_table x) (serve_table (holding x u))
  unfolding serve_table_by serve_found
  both_by P f h =
      rw (first, second)
      (tried_both P (refused x) (refused (holding x u)) (answered x (decision x count)) (answered (holding x u) (decision (holding x u) count)) f h _)

  pub serve_alike : SameCall (serve_table x) (serve_table (holding x u))
  unfolding refused answered_by
  serve_alike =
      let bytes = decision_alike x.table u count sound alike (dialect_in x) x.request x.profile x.vectors in
      both_by SameCall (λ r. record { call = refl; vectors = refl; buffer = refl })
      (record {
        call = rw (bytes, place_alike x.table u count sound alike (dialect_in x) x.request x.vectors);
        vectors = vectors_alike x.table u count sound alike (dialect_in x) x.request x.vectors;
        buffer = rw bytes;
      })

  pub serve_after : AlikeTables (serve_table x).table (serve_table (holding x u)).table count
  unfolding refused answered_by
  serve_after =
      both_by (λ r s. AlikeTables r.table s.table count) (λ r. alike)
      (table_alike x.table u count sound alike other (dialect_in x) x.request x.vectors)

  -- what the report counts besides: the result, and the records altered
  pub result_alike : result_of x ≡ result_of (holding x u)
  result_alike =
      ap (λ (c : Result ℕ ℕ). (decision x (check_value c)).given.verdict.result) first
      ∙ ap (λ (g : Given). g.verdict.result) (given_alike x.table u count sound alike (dialect_in x) x.request x.vectors)
      ∙ sym (ap (λ (c : Result ℕ ℕ). (decision (holding x u) (check_value c)).given.verdict.result) second)

  pub serve_altered : Bytes x.table → Bytes u → altered_up_to x.table (serve_table x).table count ≡ altered_up_to u (serve_table (holding x u)).table count
  unfolding refused answered_by
  serve_altered bytes other-bytes =
      both_by (λ r s. altered_up_to x.table r.table count ≡ altered_up_to u s.table count)
      (λ r. altered_none x.table count ∙ sym (altered_none u count))
      (altered_alike x.table u count sound alike other bytes other-bytes (dialect_in x) x.request x.vectors)
