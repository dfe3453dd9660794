-- 02 [7], "A branch nobody can reach.": the B5012 of UAR and LIR, as it stood in the two decisions, is never given over a sound table. The decisions with it
-- are in specs/WithBranch.
use Rattle.std.specs.Prelude.{Option, Some, None, Ok}
use Rattle.octets.specs.Standard.{ℕ, Bool, true, false, cond, not, ◌&&◌, ◌≡◌, refl, List, eqb, ltb, length, ltb-true, lt-ltb}
use Rattle.record.specs.Fields.{state_of, server_size}
use Rattle.blocks.specs.Blocks.{block_of}
use Rattle.table.specs.Check.{check_table}
use Rattle.table.specs.SoundTable.{SoundTable}
use Rattle.table.proofs.Sound.{sound_served}
use Rattle.lookup.specs.Find.{find_public}
use Rattle.reading.specs.Kinds.{user_name, public_identity, visited_network, authorization_type}
use Rattle.reading.specs.Rules.{Seen}
use Rattle.reading.specs.declared.Outcome.TheVariants.{Base, Experimental}
use Rattle.reading.specs.declared.Dialect.{Dialect}
use Rattle.requests.specs.Request.{data_seen, value_seen}
use Rattle.choices.specs.Choices.{authorization, location}
use Rattle.choices.specs.declared.choice.Asked.{Asked}
use Rattle.choices.specs.declared.choice.Sought.{Sought}
use Rattle.choices.specs.declared.choice.Choice.TheVariants.{Alone, Server, Capabilities, First}
use Rattle.lookup.specs.Among.{Among}
use Rattle.questions.specs.Authorization.{asked_at, asked_of, authorize_found, authorize}
use Rattle.questions.specs.Location.{sought_at, sought_of, locate_found, locate}
use Rattle.lookup.proofs.Among.{public_among}
use Rattle.deciding.specs.Plans.{uar_plan, lir_plan, plan_read}
use Rattle.deciding.specs.Rules.{in_force}
use Rattle.calling.specs.Lent.{Lent, dialect_in}
use Rattle.calling.specs.Serve.{decision_by, decision, serve_table_by, serve_table}
use Rattle.older_rules.specs.WithBranch.{server_if, old_authorization, old_location, stored_in, old_authorize, old_locate, old_plan, with_branch}
use Rattle.older_rules.proofs.Rules.{rules_same, decided_same}

-- Where a record in state 1 or 2 stores a name, the branch is not taken.
authorization_same : (stored : Bool) (a : Asked) (kind : ℕ) → (a.present ≡ true → stored ≡ true) → old_authorization stored a kind ≡ authorization a kind
unfolding old_authorization authorization server_if
authorization_same stored a kind h = go a.present h
  where
    go : (x : Bool) → (x ≡ true → stored ≡ true)
        → cond (not a.known) (Alone (Experimental 5001))
        (cond (not a.together) (Alone (Experimental 5002))
        (cond a.barred (Alone (Base 5003))
        (cond (not (eqb kind 1) && not a.roams) (Alone (Experimental 5004))
        (cond (eqb kind 2) (Capabilities (Base 2001))
        (cond x (cond stored (Server (cond (eqb kind 0) (Experimental 2002) (Base 2001))) (Alone (Base 5012)))
        (cond (eqb kind 1) (Alone (Experimental 5003))
        (First (Experimental 2002) (Experimental 2001))))))))
        ≡ cond (not a.known) (Alone (Experimental 5001))
        (cond (not a.together) (Alone (Experimental 5002))
        (cond a.barred (Alone (Base 5003))
        (cond (not (eqb kind 1) && not a.roams) (Alone (Experimental 5004))
        (cond (eqb kind 2) (Capabilities (Base 2001))
        (cond x (Server (cond (eqb kind 0) (Experimental 2002) (Base 2001)))
        (cond (eqb kind 1) (Alone (Experimental 5003))
        (First (Experimental 2002) (Experimental 2001))))))))
    go true e = rw (e refl)
    go false e = refl

location_same : (stored : Bool) (a : Sought) → (a.present ≡ true → stored ≡ true) → old_location stored a ≡ location a
unfolding old_location location server_if
location_same stored a h = go a.present h
  where
    go : (x : Bool) → (x ≡ true → stored ≡ true)
        → cond (not a.known) (Alone (Experimental 5001))
        (cond x (cond stored (Server (Base 2001)) (Alone (Base 5012)))
        (cond (not a.services) (Alone (Experimental 5003))
        (First (Base 2001) (Experimental 2003))))
        ≡ cond (not a.known) (Alone (Experimental 5001))
        (cond x (Server (Base 2001))
        (cond (not a.services) (Alone (Experimental 5003))
        (First (Base 2001) (Experimental 2003))))
    go true e = rw (e refl)
    go false e = refl

module _ (t : List ℕ) (count : ℕ) (sound : SoundTable t count) where
  -- "how a registered line can lack a server name. It can't."
  served : (k : ℕ) → Among count (Some k) → ltb 0 (state_of (block_of t k)) ≡ true → ltb 0 (server_size (block_of t k)) ≡ true
  served k among e = lt-ltb _ _ (sound_served t count sound k (among.from k refl) (among.to k refl) (ltb-true _ _ e))

  asked_served : (user network : List ℕ) (f : Option ℕ) → Among count f → (asked_of t count user network f).present ≡ true → stored_in t f ≡ true
  unfolding asked_of asked_at
  asked_served user network (Some k) among e = served k among e
  asked_served user network None among e = e

  sought_served : (f : Option ℕ) → Among count f → (sought_of t f).present ≡ true → stored_in t f ≡ true
  unfolding sought_of sought_at
  sought_served (Some k) among e = served k among e
  sought_served None among e = e

  authorize_same : (user network : List ℕ) (kind : ℕ) (f : Option ℕ) → Among count f
      → old_authorize t count user network kind f ≡ authorize_found t count user network kind f
  unfolding old_authorize authorize_found
  authorize_same user network kind f among =
      rw (authorization_same (stored_in t f) (asked_of t count user network f) kind (asked_served user network f among))

  locate_same : (f : Option ℕ) → Among count f → old_locate t count f ≡ locate_found t count f
  unfolding old_locate locate_found
  locate_same f among = rw (location_same (stored_in t f) (sought_of t f) (sought_served f among))

  plan_same : (d : Dialect) (req v : List ℕ) (seen : Seen) → old_plan d req t count v seen ≡ plan_read d req t count v seen
  unfolding old_plan plan_read uar_plan lir_plan authorize locate
  plan_same d req v seen =
      rw (
        authorize_same (data_seen seen user_name) (data_seen seen visited_network) (value_seen seen authorization_type)
            (find_public t count (data_seen seen public_identity)) (public_among t count (data_seen seen public_identity) refl),
        locate_same (find_public t count (data_seen seen public_identity)) (public_among t count (data_seen seen public_identity) refl),
      )

pub decided_alike : (x : Lent) (count : ℕ) → check_table x.table (length x.profile) ≡ Ok count
    → decision_by with_branch x count ≡ decision x count
decided_alike x count e =
    decided_same with_branch in_force x count refl refl (plan_same x.table count (record { file = length x.profile; checked = e }) (dialect_in x)
    x.request x.vectors)
    (λ s d. refl)

-- "Answers are the same for every input."
pub same_for_every_input : (x : Lent) → serve_table_by with_branch x ≡ serve_table x
same_for_every_input x = rules_same with_branch in_force x refl (λ g. refl) (decided_alike x)
