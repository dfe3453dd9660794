-- What a request that was read may come to, case by case, with what laws above need of each: it tells, and nothing is written; it settles, as a SAR does; it
-- challenges, as a MAR does.
use Rattle.std.specs.Prelude.{Some}
use Rattle.octets.specs.Standard.{ℕ, ◌/◌, ◌≤◌, ◌<◌, List, ◌∷◌, true, false, ◌≡◌, refl, ◌⊎◌, inl, inr, arith, eqb}
use Rattle.blocks.specs.Changed.{is_one}
use Rattle.table.specs.Named.{private_at}
use Rattle.vectors.specs.Chosen.{none_sent}
use Rattle.vectors.specs.declared.choice.Sent.{Sent}
use Rattle.lookup.specs.Find.{find_public}
use Rattle.rewrite.specs.Change.{after_of, reaches}
use Rattle.rewrite.specs.Keeps.{Keeps}
use Rattle.rewrite.specs.Fitting.{Fitting}
use Rattle.diameter.specs.Avp.{data_of}
use Rattle.diameter.specs.Message.{body_of}
use Rattle.reading.specs.Kinds.{user_name, server_name, number_auth_items}
use Rattle.reading.specs.Rules.{Seen}
use Rattle.reading.specs.Verdicts.{number_of}
use Rattle.reading.specs.declared.Dialect.{Dialect}
use Rattle.reading.specs.declared.Outcome.{Outcome}
use Rattle.reading.specs.declared.Verdict.{Verdict}
use Rattle.counting.specs.Counting.{Listed}
use Rattle.requests.specs.Request.{given, data_seen, value_seen, identities}
use Rattle.choices.specs.Given.{blameless, given_of, given_fault, given_sent}
use Rattle.choices.specs.Plans.{only}
use Rattle.choices.specs.declared.Given.{Given}
use Rattle.choices.specs.declared.plan.Deed.TheVariants.{Settle, Challenge}
use Rattle.choices.specs.declared.plan.Plan.{Plan}
use Rattle.choices.specs.declared.plan.Settling.{Settling}
use Rattle.questions.specs.Authentication.{to_send}
use Rattle.assignment.specs.Assignment.{Assignment, stored_name}
use Rattle.deciding.specs.Plans.{assignment_of}
use Rattle.deciding.specs.Deeds.{settled_by, challenged_by}
use Rattle.deciding.specs.DeedFits.{DeedFits}
use Rattle.deciding.proofs.Read.{Fails}

-- no AVP of the request is at fault
abbrev pub Blameless : Given → Type 0
Blameless g = (g.verdict.place ≡ 0) × (g.verdict.lacks ≡ 0)

-- a result 2xxx
abbrev pub Succeeds : Outcome → Type 0
Succeeds r = eqb (number_of r / 1000) 2 ≡ true

-- each block that is named is one of so many records, or 0
pub record Within (count : ℕ) (g : Given) : Type 0 where
  pub user : g.user ≤ count
  pub public : g.public ≤ count
  pub server : g.server ≤ count
  pub capable : g.capable ≤ count
  pub profile : g.profile ≤ count

-- What every answer carries: a result that has a column of the report, things of the table's records, and User-Data or Failed-AVP, not both.
pub record Carries (count : ℕ) (g : Given) : Type 0 where
  pub result : Listed g.verdict.result
  pub within : Within count g
  pub light : (g.profile ≡ 0) ⊎ Blameless g

pub carries_fault : (count : ℕ) (f : Verdict) → Listed f.result → Carries count (given_fault f)
carries_fault count f l =
    record {
      result = l;
      within = record { user = omega arith; public = omega arith; server = omega arith; capable = omega arith; profile = omega arith };
      light = inl refl;
    }

module _ (dialect : Dialect) (req t : List ℕ) (count : ℕ) (v : List ℕ) (seen : Seen) where
  abbrev s : Assignment
  s = assignment_of req t seen

  abbrev name : List ℕ
  name = data_seen seen server_name

  abbrev pub sending : Sent
  sending = to_send v (data_seen seen user_name) (value_seen seen number_auth_items)

  -- It tells: no vector is sent. Only a SAR can be blamed here, for its identities, and a MAR that only tells is no success.
  pub record Tells (g : Given) : Type 0 where
    pub carries : Carries count g
    pub none : g.sent ≡ none_sent
    pub blames : (dialect.command ≡ 301) ⊎ Blameless g
    pub apart : dialect.command ≡ 303 → Fails g.verdict.result

  -- Whose the records are that are written: the User-Name's, or those of the subscription of the first identity.
  pub data Owner : List ℕ → Type 0 where
    the_user : given seen user_name ≡ true → Owner (data_seen seen user_name)
    the_first : (a : List ℕ) (avps : List (List ℕ)) (k : ℕ) → given seen user_name ≡ false → identities (body_of req) ≡ a ∷ avps
        → find_public t count (data_of a) ≡ Some k → Owner (private_at t k)

  -- What is written: one change, which keeps what every effect keeps, of records of one subscription, none of them the header, and of their sets.
  pub record Writes (after : List ℕ) : Type 0 where
    pub records : List ℕ
    pub change : List ℕ → List ℕ
    pub keeps : Keeps change
    pub table : after ≡ after_of t count (reaches t records) change
    pub later : is_one records 0 ≡ false
    pub owner : List ℕ
    pub whose : Owner owner
    pub owned : (k : ℕ) → is_one records k ≡ true → private_at t k ≡ owner

  pub record Settles (g : Given) (w : Settling) : Type 0 where
    pub command : dialect.command ≡ 301
    pub carries : Carries count g
    pub none : g.sent ≡ none_sent
    pub good : Succeeds g.verdict.result
    pub fits : Fitting w.state (stored_name w.named name)
    pub writes : Writes (settled_by t count s w)

  pub record Challenges (k : ℕ) : Type 0 where
    pub command : dialect.command ≡ 303
    pub carries : Carries count (given_sent k sending)
    pub some : 0 < sending.count
    pub fits : DeedFits count name (Challenge k)
    pub writes : Writes (challenged_by t count name k)

  pub data Comes : Plan → Type 0 where
    tells : (g : Given) → Tells g → Comes (only g)
    settles : (g : Given) (w : Settling) → Settles g w → Comes (record { given = g; deed = Settle w })
    challenges : (k : ℕ) → Challenges k → Comes (record { given = given_sent k sending; deed = Challenge k })

  -- a result of no AVP's fault, with blocks
  pub of_result : (r : Outcome) (user server capable profile : ℕ) → Listed r → user ≤ count → server ≤ count → capable ≤ count → profile ≤ count
      → (dialect.command ≡ 303 → Fails r) → Tells (given_of (blameless r) user server capable profile)
  of_result r user server capable profile l a b c d apart =
      record {
        carries =
            record { result = l; within = record { user = a; public = omega arith; server = b; capable = c; profile = d }; light = inr (refl, refl) };
        none = refl;
        blames = inr (refl, refl);
        apart = apart;
      }

  pub alone : (r : Outcome) → Listed r → (dialect.command ≡ 303 → Fails r) → Tells (given_of (blameless r) 0 0 0 0)
  alone r l apart = of_result r 0 0 0 0 l (omega arith) (omega arith) (omega arith) (omega arith) apart
