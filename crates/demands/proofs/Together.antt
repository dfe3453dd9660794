-- Sets, over whole calls: the members of a set are altered together or not at all.
use Rattle.std.specs.Prelude.{Ok}
use Rattle.octets.specs.Standard.{ℕ, ◌≤◌, List, [], ◌∷◌, true, ◌≡◌, refl, sym, ap, ◌∙◌, length}
use Rattle.octets.proofs.Numbers.{Bytes}
use Rattle.record.specs.Sets.{same_set}
use Rattle.blocks.specs.Blocks.{block_of}
use Rattle.table.specs.SoundTable.{SoundTable}
use Rattle.rewrite.specs.Change.{differ}
use Rattle.rewrite.specs.Fitting.{change_of}
use Rattle.rewrite.specs.declared.Change.TheVariants.{Settled, Challenged}
use Rattle.rewrite.proofs.Together.{altered_together}
use Rattle.rewrite.proofs.Writes.{differ_same}
use Rattle.reading.specs.Kinds.{server_name}
use Rattle.reading.specs.Rules.{Seen}
use Rattle.reading.specs.declared.Dialect.{Dialect}
use Rattle.requests.specs.Features.{beyond_set}
use Rattle.requests.specs.Judged.{Judged, bad, fine}
use Rattle.requests.specs.Request.{read_in, data_seen}
use Rattle.choices.specs.declared.plan.Deed.{Deed}
use Rattle.choices.specs.declared.plan.Deed.TheVariants.{Leave, Settle, Challenge}
use Rattle.assignment.specs.Assignment.{stored_name, planned_records}
use Rattle.deciding.specs.Plans.{assignment_of, plan_read}
use Rattle.deciding.specs.Rules.{in_force}
use Rattle.deciding.specs.Decide.{Decision, performed_by, judged_by, decide_by, decide}
use Rattle.deciding.proofs.Tests.{either}
use Rattle.deciding.specs.Deeds.{carried_out}
use Rattle.deciding.specs.DeedFits.{DeedFits}
use Rattle.deciding.proofs.Deeds.{plan_fits}
use Rattle.calling.specs.Lent.{Lent, dialect_in}
use Rattle.refusals.specs.Early.{check_value}
use Rattle.calling.specs.Serve.{check_of, refused, answered_by, serve_table}
use Rattle.calling.proofs.Kept.{serve_by_lem}

-- TOGETHER. Of two records of one set both have other bytes after a call, or neither.
module _ (t : List ℕ) (count : ℕ) (sound : SoundTable t count) (bytes : Bytes t) (j k : ℕ) (a : 1 ≤ j) (b : j ≤ count) (c : 1 ≤ k) (d : k ≤ count)
    (one : same_set (block_of t j) (block_of t k) ≡ true) where
  abbrev Together : List ℕ → Type 0
  Together y = differ (block_of t j) (block_of y j) ≡ differ (block_of t k) (block_of y k)

  left_together : Together t
  left_together = differ_same (block_of t j) ∙ sym (differ_same (block_of t k))

  deed_together : (req : List ℕ) (seen : Seen) (e : Deed) → DeedFits count (data_seen seen server_name) e → Together (carried_out req t count seen e)
  unfolding carried_out assignment_of change_of
  deed_together req seen Leave f = left_together
  deed_together req seen (Settle w) f =
      let s = assignment_of req t seen in
      altered_together t count sound bytes (Settled w.state) (stored_name w.named s.server) f (planned_records t count s w.owned) j k a b c d one
  deed_together req seen (Challenge i) (from, to, least, most) =
      altered_together t count sound bytes Challenged (data_seen seen server_name) (least, most) (i ∷ []) j k a b c d one

  decide_together : (dialect : Dialect) (req v : List ℕ) → Together (decide dialect req t count v).table
  unfolding decide_by judged_by performed_by
  decide_together dialect req v = go (read_in dialect req) refl
    where
      go : (e : Judged) → read_in dialect req ≡ e → Together (judged_by in_force dialect req t count v e).table
      go (bad f) e = left_together
      go (fine seen) e =
          either (λ (d : Decision). Together d.table) (beyond_set dialect.terms req) left_together
          (deed_together req seen (plan_read dialect req t count v seen).deed (plan_fits dialect req t count v seen e))

pub members_together : (x : Lent) (count : ℕ) → check_of x ≡ Ok count → Bytes x.table → (j k : ℕ) → 1 ≤ j → j ≤ count → 1 ≤ k → k ≤ count
    → same_set (block_of x.table j) (block_of x.table k) ≡ true
    → differ (block_of x.table j) (block_of (serve_table x).table j) ≡ differ (block_of x.table k) (block_of (serve_table x).table k)
unfolding refused answered_by
members_together x count e bytes j k a b c d one =
    serve_by_lem x (λ s. differ (block_of x.table j) (block_of s.table j) ≡ differ (block_of x.table k) (block_of s.table k))
    (λ r l m. left_together x.table count sound bytes j k a b c d one)
    (λ h. rw q (decide_together x.table count sound bytes j k a b c d one (dialect_in x) x.request x.vectors))
  where
    sound : SoundTable x.table count
    sound = record { file = length x.profile; checked = e }

    q : check_value (check_of x) ≡ count
    q = ap check_value e
