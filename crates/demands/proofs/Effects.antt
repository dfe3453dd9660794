-- What a decision does to the table and the vectors: nothing, or one change of records of the subscription asked about, by a SAR or by a MAR.
use Rattle.octets.specs.Standard.{ℕ, List, Option, some, true, ◌≡◌, refl, ap, ◌∙◌, ◌⊎◌, inl, inr}
use Rattle.table.specs.Named.{private_at}
use Rattle.rewrite.specs.Change.{after_of, reaches}
use Rattle.rewrite.specs.Keeps.{Keeps}
use Rattle.reading.specs.declared.Dialect.{Dialect}
use Rattle.reading.specs.Rules.{Seen}
use Rattle.reading.specs.Verdicts.{number_of}
use Rattle.requests.specs.Judged.{fine}
use Rattle.requests.specs.Request.{read_in}
use Rattle.choices.specs.declared.plan.Plan.{Plan}
use Rattle.blocks.specs.Changed.{is_one}
use Rattle.deciding.specs.Rules.{in_force}
use Rattle.deciding.specs.Decide.{Decision, performed_by, decide}
use Rattle.deciding.specs.Deeds.{carried_out, spent_by}
use Rattle.deciding.proofs.Cases.{Owner, the_user, the_first, Writes, Comes, tells, settles, challenges}
use Rattle.deciding.proofs.Comes.{decide_by_lem}
use Rattle.demands.specs.Frame.{succeeds, first_owner, asked_in, subscription_of}

-- It writes: a success, with one change, which keeps what every effect keeps, of records of one subscription, none of them the header, and of their sets. It
-- is the effect of a SAR, and then the vectors are as they were, or of a MAR.
pub record Altered (command : ℕ) (t : List ℕ) (count : ℕ) (v : List ℕ) (subscription : Option (List ℕ)) (d : Decision) : Type 0 where
  pub good : succeeds d.given.verdict.result ≡ true
  pub by : ((command ≡ 301) × (d.vectors ≡ v)) ⊎ (command ≡ 303)
  pub records : List ℕ
  pub change : List ℕ → List ℕ
  pub keeps : Keeps change
  pub table : d.table ≡ after_of t count (reaches t records) change
  pub owned : (k : ℕ) → is_one records k ≡ true → some (private_at t k) ≡ subscription

module _ (dialect : Dialect) (req t : List ℕ) (count : ℕ) (v : List ℕ) where
  -- what a decision does: nothing, or it writes
  abbrev pub Does : Decision → Type 0
  Does d = ((d.table ≡ t) × (d.vectors ≡ v)) ⊎ Altered dialect.command t count v (subscription_of dialect req t count) d

  module _ (seen : Seen) (read : read_in dialect req ≡ fine seen) where
    owner_asked : (owner : List ℕ) → Owner dialect req t count v seen owner → some owner ≡ subscription_of dialect req t count
    unfolding subscription_of asked_in first_owner
    owner_asked owner (the_user g) = rw (read, g)
    owner_asked owner (the_first a avps k g i f) = rw (read, g, i, f)

    altered : (d : Decision) → succeeds d.given.verdict.result ≡ true → ((dialect.command ≡ 301) × (d.vectors ≡ v)) ⊎ (dialect.command ≡ 303)
        → Writes dialect req t count v seen d.table → Altered dialect.command t count v (subscription_of dialect req t count) d
    altered d good by w =
        record {
          good = good;
          by = by;
          records = w.records;
          change = w.change;
          keeps = w.keeps;
          table = w.table;
          owned = λ k i. ap some (w.owned k i) ∙ owner_asked w.owner w.whose;
        }

    plan_does : (p : Plan) → Comes dialect req t count v seen p → Does (performed_by in_force req t count v seen p)
    unfolding performed_by carried_out spent_by number_of
    plan_does p (tells g x) = inl (refl, refl)
    plan_does p (settles g w x) = inr (altered _ x.good (inl (x.command, refl)) x.writes)
    plan_does p (challenges k x) = inr (altered _ refl (inr x.command) x.writes)

  pub decide_does : Does (decide dialect req t count v)
  decide_does = decide_by_lem dialect req t count v Does (λ f b. inl (refl, refl)) plan_does
