-- What is to be written fits, what is to be sent can be sent, and what is given has room.
use Rattle.octets.specs.Standard.{ℕ, List, ◌≡◌, ◌⊎◌, arith}
use Rattle.vectors.specs.Sendable.{Sendable}
use Rattle.vectors.specs.VectorFile.{SoundVectors}
use Rattle.vectors.proofs.Sendable.{none_sendable, unused_sendable}
use Rattle.reading.specs.Kinds.{user_name, server_name}
use Rattle.reading.specs.Rules.{Seen}
use Rattle.reading.specs.declared.Dialect.{Dialect}
use Rattle.requests.specs.Judged.{fine}
use Rattle.requests.specs.Request.{read_in, data_seen}
use Rattle.choices.specs.declared.plan.Plan.{Plan}
use Rattle.questions.specs.Authentication.{to_send}
use Rattle.deciding.specs.Plans.{plan_read}
use Rattle.deciding.specs.Decide.{performed_by, decide}
use Rattle.deciding.specs.DeedFits.{DeedFits}
use Rattle.deciding.proofs.Cases.{Blameless, Comes, tells, settles, challenges}
use Rattle.deciding.proofs.Comes.{comes, decide_by_lem}

pub plan_fits : (dialect : Dialect) (req t : List ℕ) (count : ℕ) (v : List ℕ) (seen : Seen) → read_in dialect req ≡ fine seen
    → DeedFits count (data_seen seen server_name) (plan_read dialect req t count v seen).deed
plan_fits dialect req t count v seen is = go (plan_read dialect req t count v seen) (comes dialect req t count v seen is)
  where
    go : (p : Plan) → Comes dialect req t count v seen p → DeedFits count (data_seen seen server_name) p.deed
    go p (tells g x) = tt
    go p (settles g w x) = x.fits
    go p (challenges k x) = x.fits

-- an answer has User-Data or Failed-AVP, and not both
pub plan_light : (dialect : Dialect) (req t : List ℕ) (count : ℕ) (v : List ℕ) (seen : Seen) → read_in dialect req ≡ fine seen
    → ((plan_read dialect req t count v seen).given.profile ≡ 0) ⊎ Blameless (plan_read dialect req t count v seen).given
plan_light dialect req t count v seen is = go (plan_read dialect req t count v seen) (comes dialect req t count v seen is)
  where
    go : (p : Plan) → Comes dialect req t count v seen p → (p.given.profile ≡ 0) ⊎ Blameless p.given
    go p (tells g x) = x.carries.light
    go p (settles g w x) = x.carries.light
    go p (challenges k x) = x.carries.light

module _ (dialect : Dialect) (req t : List ℕ) (count : ℕ) (v : List ℕ) (vectors : SoundVectors v) where
  comes_sendable : (seen : Seen) (p : Plan) → Comes dialect req t count v seen p → Sendable v p.given.sent
  unfolding to_send
  comes_sendable seen p (tells g x) = rw x.none (none_sendable v)
  comes_sendable seen p (settles g w x) = rw x.none (none_sendable v)
  comes_sendable seen p (challenges k x) = unused_sendable v (data_seen seen user_name) _ vectors (omega arith)

  pub plan_sendable : (seen : Seen) → read_in dialect req ≡ fine seen → Sendable v (plan_read dialect req t count v seen).given.sent
  plan_sendable seen is = comes_sendable seen (plan_read dialect req t count v seen) (comes dialect req t count v seen is)

  pub decide_sendable : Sendable v (decide dialect req t count v).given.sent
  unfolding performed_by
  decide_sendable = decide_by_lem dialect req t count v (λ d. Sendable v d.given.sent) (λ f b. none_sendable v) (λ seen e p c. comes_sendable seen p c)
