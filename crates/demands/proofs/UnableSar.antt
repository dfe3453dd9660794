-- "The SAR's B5012 for type 0 stays": it is given exactly where a SAR of type 0 means a record that stores another name than the request's; and a SAR never
-- comes to B5003.
use Rattle.std.specs.Prelude.{Ok, Option, Some, None, Err}
use Rattle.octets.specs.Standard.{ℕ, List, [], ◌∷◌, map, Bool, true, false, cond, not, ◌&&◌, true≢false, ◌≡◌, refl, sym, ap, ◌∙◌, ◌⊎◌, inl, inr, ◌≢◌}
use Rattle.octets.specs.Standard.{arith, length}
use Rattle.octets.proofs.All.{and_left}
use Rattle.octets.proofs.Names.{same_eq, same_refl, same_yes, same_no}
use Rattle.blocks.specs.Changed.{is_one}
use Rattle.table.specs.Named.{private_at}
use Rattle.lookup.specs.Find.{is_at, find_public, find_private}
use Rattle.lookup.proofs.Halves.{Only, found_only, no_found}
use Rattle.diameter.specs.Avp.{data_of}
use Rattle.diameter.specs.AvpAt.{avp_at}
use Rattle.diameter.specs.Message.{command_of, body_of}
use Rattle.reading.specs.Kinds.{user_name, server_name, assignment_type}
use Rattle.reading.specs.Rules.{Seen}
use Rattle.reading.specs.declared.Outcome.{Outcome}
use Rattle.reading.specs.declared.Outcome.TheVariants.{Base, Experimental}
use Rattle.requests.specs.Identity.{places_from}
use Rattle.requests.specs.Request.{given, data_seen, value_seen, identities}
use Rattle.requests.proofs.Naming.{identities_at}
use Rattle.choices.specs.Plans.{Finding, finding_of, grant, plan_of}
use Rattle.choices.specs.Types.{type_of, is_removal, asks_only, carries_user, effect_of}
use Rattle.choices.specs.declared.Given.{Given}
use Rattle.choices.specs.declared.types.AssignmentType.{AssignmentType}
use Rattle.choices.specs.declared.types.AssignmentType.TheVariants.{NoAssignment, Registration, ReRegistration, UnregisteredUser, Removal}
use Rattle.choices.specs.declared.types.AssignmentType.TheVariants.{StoringRemoval, Failure}
use Rattle.choices.specs.declared.types.Effect.{Effect}
use Rattle.choices.specs.declared.plan.Sar.{Sar}
use Rattle.choices.specs.declared.plan.Survey.{Survey}
use Rattle.choices.specs.declared.plan.Plan.{Plan}
use Rattle.assignment.specs.Assignment.{Assignment, meant_by, every, find_all, numbers_of, first_of, found, own_at, stores_at, survey_of, user_known, owner_by}
use Rattle.assignment.specs.Assignment.{named_survey, owned_survey, assign_meant, assign}
use Rattle.deciding.specs.Plans.{assignment_of, sar_plan, plan_read}
use Rattle.deciding.specs.Decide.{performed_by, judged_by, decide_by}
use Rattle.deciding.proofs.Tests.{either}
use Rattle.calling.specs.Lent.{Lent, dialect_in}
use Rattle.calling.specs.Serve.{check_of, result_of}
use Rattle.demands.specs.Call.{Decides}
use Rattle.demands.specs.Sets.{Stands, Belongs}
use Rattle.demands.specs.Unable.{StoresOther}
use Rattle.demands.proofs.Barring.{stands_found, belongs_known, none_known, lent_sound, result_counted}
use Rattle.demands.proofs.Results.{decided_upon, is_base}
use Rattle.demands.proofs.TypeRead.{type_read, asks_zero}

-- The results of a plan: those of the effects are successes.
abbrev Neither : Outcome → Type 0
Neither r = (is_base 5012 r ≡ false) × (is_base 5003 r ≡ false)

effect_neither : (kind : AssignmentType) (keep : Bool) → Neither (effect_of kind keep).result
effect_neither Removal keep = (refl, refl)
effect_neither StoringRemoval keep = either (λ (e : Effect). Neither e.result) keep (refl, refl) (refl, refl)
effect_neither Failure keep = (refl, refl)
effect_neither NoAssignment keep = (refl, refl)
effect_neither Registration keep = (refl, refl)
effect_neither ReRegistration keep = (refl, refl)
effect_neither UnregisteredUser keep = (refl, refl)

grant_neither : (s : Sar) (first : ℕ) (r : Outcome) → Neither r → Neither (grant s first r).verdict.result
unfolding grant
grant_neither s first r n = either (λ (g : Given). Neither g.verdict.result) (carries_user s.kind) n n

unable : {A : Type 0} (r : Outcome) → is_base 5012 r ≡ false → r ≡ Base 5012 → A
unable r h e = absurd (true≢false (sym (ap (is_base 5012) e) ∙ h))

module _ (v : Survey) (s : Sar) (first : ℕ) (owned : Bool) (kind : AssignmentType) where
  abbrev comes : Finding → Outcome
  comes f = (plan_of f s first owned).given.verdict.result

  fine_neither : Neither (comes (Ok tt))
  unfolding plan_of
  fine_neither = grant_neither s first _ (effect_neither s.kind s.keep)

  abbrev Asked : Type 0
  Asked = (asks_only kind ≡ true) × (v.known ≡ true) × (v.own ≡ true) × (v.stores ≡ false)

  finding_asked : comes (finding_of v kind) ≡ Base 5012 → Asked
  unfolding finding_of plan_of
  finding_asked = go v.known v.own (asks_only kind) v.stores v.fits (v.some && v.right)
    where
      go : (known own asks stores fits right : Bool)
          → comes (cond (not known) (Err (Experimental 5001)) (cond (not own) (Err (Experimental 5002))
          (cond asks (cond stores (Ok tt) (Err (Base 5012)))
          (cond (not fits) (Err (Experimental 5005)) (cond (not right) (Err (Experimental 5007)) (Ok tt))))))
          ≡ Base 5012
          → (asks ≡ true) × (known ≡ true) × (own ≡ true) × (stores ≡ false)
      go false own asks stores fits right e = unable (Experimental 5001) refl e
      go true false asks stores fits right e = unable (Experimental 5002) refl e
      go true true true true fits right e = unable (comes (Ok tt)) fine_neither.0 e
      go true true true false fits right e = (refl, refl, refl, refl)
      go true true false stores false right e = unable (Experimental 5005) refl e
      go true true false stores true false e = unable (Experimental 5007) refl e
      go true true false stores true true e = unable (comes (Ok tt)) fine_neither.0 e

  asked_finding : Asked → comes (finding_of v kind) ≡ Base 5012
  unfolding finding_of plan_of
  asked_finding (a, b, c, d) = rw (a, b, c, d)

  unknown_finding : v.known ≡ false → comes (finding_of v kind) ≡ Experimental 5001
  unfolding finding_of plan_of
  unknown_finding e = rw e

  apart_finding : v.known ≡ true → v.own ≡ false → comes (finding_of v kind) ≡ Experimental 5002
  unfolding finding_of plan_of
  apart_finding e f = rw (e, f)

  abbrev Free : Finding → Type 0
  Free f = is_base 5003 (comes f) ≡ false

  finding_free : is_base 5003 (comes (finding_of v kind)) ≡ false
  unfolding finding_of plan_of
  finding_free =
      either Free (not v.known) refl
      (either Free (not v.own) refl
      (either Free (asks_only kind) (either Free v.stores fine_neither.1 refl)
      (either Free (not v.fits) refl
      (either Free (not (v.some && v.right)) refl
      fine_neither.1))))

-- no removal asks only
removal_acts : (kind : AssignmentType) → is_removal kind ≡ true → asks_only kind ≡ true → ⊥
removal_acts Removal e f = true≢false (sym f)
removal_acts StoringRemoval e f = true≢false (sym f)
removal_acts Failure e f = true≢false (sym f)
removal_acts NoAssignment e f = true≢false (sym e)
removal_acts Registration e f = true≢false (sym f)
removal_acts ReRegistration e f = true≢false (sym f)
removal_acts UnregisteredUser e f = true≢false (sym f)

-- A plan: the one record that it asks about.
module _ (t : List ℕ) (count : ℕ) (s : Assignment) where
  abbrev result : Plan → Outcome
  result p = p.given.verdict.result

  record Asks : Type 0 where
    place : ℕ
    one : s.places ≡ place ∷ []
    asked : Asked (named_survey t count s) s.numbers (first_of (found t count s)) false s.numbers.kind

  plan_asks : result (assign t count s) ≡ Base 5012 → Asks
  unfolding assign assign_meant meant_by
  plan_asks = go (is_removal s.numbers.kind) s.numbers.named s.places refl refl
    where
      owned : {A : Type 0} → is_removal s.numbers.kind ≡ true
          → result (plan_of (finding_of (owned_survey t count s) s.numbers.kind) s.numbers 0 true) ≡ Base 5012 → A
      owned e r = absurd (removal_acts s.numbers.kind e (finding_asked (owned_survey t count s) s.numbers 0 true s.numbers.kind r).0)

      listed : {A : Type 0} → is_removal s.numbers.kind ≡ true
          → result (plan_of (finding_of (named_survey t count s) s.numbers.kind) s.numbers (first_of (found t count s)) false) ≡ Base 5012 → A
      listed e r =
          absurd (removal_acts s.numbers.kind e
          (finding_asked (named_survey t count s) s.numbers (first_of (found t count s)) false s.numbers.kind r).0)

      go : (removal named : Bool) (ps : List ℕ) → is_removal s.numbers.kind ≡ removal → s.places ≡ ps
          → result (assign_meant t count s (meant_by removal named ps)) ≡ Base 5012 → Asks
      go true true [] e f r = owned e r
      go true false [] e f r = unable (Base 5005) refl r
      go false named [] e f r = unable (Base 5005) refl r
      go removal named (p ∷ []) e f r =
          record { place = p; one = f; asked = finding_asked (named_survey t count s) s.numbers (first_of (found t count s)) false s.numbers.kind r }
      go true named (p ∷ (q ∷ ps)) e f r = listed e r
      go false named (p ∷ (q ∷ ps)) e f r = unable (Base 5009) refl r

  -- of one place, whatever its type
  abbrev one_result : Outcome
  one_result = result (plan_of (finding_of (named_survey t count s) s.numbers.kind) s.numbers (first_of (found t count s)) false)

  one_plan : (p : ℕ) → s.places ≡ p ∷ [] → result (assign t count s) ≡ one_result
  unfolding assign assign_meant meant_by named_survey
  one_plan p e = rw e

  asks_plan : Asks → result (assign t count s) ≡ Base 5012
  asks_plan a =
      one_plan a.place a.one
      ∙ asked_finding (named_survey t count s) s.numbers (first_of (found t count s)) false s.numbers.kind a.asked

  plan_free : is_base 5003 (result (assign t count s)) ≡ false
  unfolding assign assign_meant meant_by
  plan_free = go (is_removal s.numbers.kind) s.numbers.named s.places
    where
      listed : is_base 5003 (result (plan_of (finding_of (named_survey t count s) s.numbers.kind) s.numbers (first_of (found t count s)) false)) ≡ false
      listed = finding_free (named_survey t count s) s.numbers (first_of (found t count s)) false s.numbers.kind

      go : (removal named : Bool) (ps : List ℕ) → is_base 5003 (result (assign_meant t count s (meant_by removal named ps))) ≡ false
      go true true [] = finding_free (owned_survey t count s) s.numbers 0 true s.numbers.kind
      go true false [] = refl
      go false named [] = refl
      go removal named (p ∷ []) = listed
      go true named (p ∷ (q ∷ ps)) = listed
      go false named (p ∷ (q ∷ ps)) = refl

pub sar_free : (req t : List ℕ) (count : ℕ) (seen : Seen) → is_base 5003 (sar_plan req t count seen).given.verdict.result ≡ false
unfolding sar_plan
sar_free req t count seen = plan_free t count (assignment_of req t seen)

-- one identity, one place
one_place : (req a : List ℕ) → identities (body_of req) ≡ a ∷ [] → (p : ℕ) × (places_from 20 (body_of req) ≡ p ∷ [])
one_place req a e = go (places_from 20 (body_of req)) refl (identities_at req 20 ∙ e)
  where
    go : (ps : List ℕ) → places_from 20 (body_of req) ≡ ps → map (avp_at req) ps ≡ a ∷ [] → (p : ℕ) × (places_from 20 (body_of req) ≡ p ∷ [])
    go [] q f = absurd (omega (arith, ap length f))
    go (p ∷ []) q f = (p, q)
    go (p ∷ (p2 ∷ ps)) q f = absurd (omega (arith, ap length f))

module _ (x : Lent) (count : ℕ) (sound : check_of x ≡ Ok count) (sar : command_of x.request ≡ 301) where
  abbrev t : List ℕ
  t = x.table

  module _ (seen : Seen) (read : Decides (dialect_in x) x.request seen) where
    abbrev says : Assignment
    says = assignment_of x.request t seen

    abbrev user : List ℕ
    user = data_seen seen user_name

    result_is : result_of x ≡ (assign t count says).given.verdict.result
    unfolding decide_by judged_by performed_by plan_read sar_plan
    result_is = result_counted x count sound ∙ rw (read.read, read.inside, sar)

    -- one identity is named
    module _ (a : List ℕ) (named : identities (body_of x.request) ≡ a ∷ []) where
      one_result_lem : result_of x ≡ one_result t count says
      unfolding assignment_of
      one_result_lem = let p = one_place x.request a named in result_is ∙ one_plan t count says p.0 p.1

      known_none : find_public t count (data_of a) ≡ None → (named_survey t count says).known ≡ false
      unfolding named_survey survey_of find_all every assignment_of
      known_none e = rw (named, e)

      unknown_result : (named_survey t count says).known ≡ false → result_of x ≡ Experimental 5001
      unfolding assignment_of
      unknown_result e =
          one_result_lem ∙ unknown_finding (named_survey t count says) says.numbers (first_of (found t count says)) false says.numbers.kind e

    -- what is seen of the one record
    module _ (a : List ℕ) (named : identities (body_of x.request) ≡ a ∷ []) (k : ℕ) (at : find_public t count (data_of a) ≡ Some k) where
      known_is : (named_survey t count says).known ≡ user_known t count (given seen user_name) user
      unfolding named_survey survey_of find_all every assignment_of
      known_is = rw (named, at)

      own_is : (named_survey t count says).own ≡ (own_at t (owner_by t k (given seen user_name) user) k && true)
      unfolding named_survey survey_of find_all numbers_of every assignment_of
      own_is = rw (named, at)

      stores_is : (named_survey t count says).stores ≡ (stores_at t (data_seen seen server_name) k && true)
      unfolding named_survey survey_of find_all numbers_of every assignment_of
      stores_is = rw (named, at)

      user_known_lem : (g : Bool) → (g ≡ true → is_at (find_private t count user) ≡ true) → user_known t count g user ≡ true
      unfolding user_known
      user_known_lem true h = h refl
      user_known_lem false h = refl

      own_holds : (g : Bool) → (g ≡ true → private_at t k ≡ user) → (own_at t (owner_by t k g user) k && true) ≡ true
      unfolding own_at owner_by
      own_holds true h = rw (same_yes _ _ (h refl))
      own_holds false h = rw (same_refl (private_at t k))

      own_says : (g : Bool) → (own_at t (owner_by t k g user) k && true) ≡ true → g ≡ true → private_at t k ≡ user
      unfolding own_at owner_by
      own_says true h e = same_eq _ _ (and_left _ true h)
      own_says false h e = absurd (true≢false (sym e))

      user_unknown : given seen user_name ≡ true → is_at (find_private t count user) ≡ false → result_of x ≡ Experimental 5001
      unfolding user_known
      user_unknown g none = unknown_result a named (known_is ∙ rw (g, none))

      apart_result : given seen user_name ≡ true → is_at (find_private t count user) ≡ true → private_at t k ≢ user → result_of x ≡ Experimental 5002
      unfolding assignment_of user_known own_at owner_by
      apart_result g known n =
          one_result_lem a named
          ∙ apart_finding (named_survey t count says) says.numbers (first_of (found t count says)) false says.numbers.kind
          (known_is ∙ rw (g, known)) (own_is ∙ rw (g, same_no _ _ n))

  -- after X5001 and X5002
  pub stored_unknown : (seen : Seen) → Decides (dialect_in x) x.request seen → (identity : List ℕ) → identities (body_of x.request) ≡ identity ∷ []
      → ((k : ℕ) → Stands t count k (data_of identity) → ⊥)
      ⊎ ((given seen user_name ≡ true) × ((k : ℕ) → Belongs t count k (data_seen seen user_name) → ⊥))
      → result_of x ≡ Experimental 5001
  stored_unknown seen read a named (inl none) =
      unknown_result seen read a named
      (known_none seen read a named (no_found t count (data_of a) (λ j b c q. none j (record { from = b; to = c; name = q }))))
  stored_unknown seen read a named (inr (g, none)) = go (find_public t count (data_of a)) refl
    where
      go : (f : Option ℕ) → find_public t count (data_of a) ≡ f → result_of x ≡ Experimental 5001
      go None e = unknown_result seen read a named (known_none seen read a named e)
      go (Some k) e = user_unknown seen read a named k e g (none_known t count (data_seen seen user_name) none)

  pub stored_apart : (seen : Seen) → Decides (dialect_in x) x.request seen → (identity : List ℕ) → identities (body_of x.request) ≡ identity ∷ []
      → (k j : ℕ) → Stands t count k (data_of identity) → given seen user_name ≡ true → Belongs t count j (data_seen seen user_name)
      → private_at t k ≢ data_seen seen user_name → result_of x ≡ Experimental 5002
  stored_apart seen read a named k j s g b n =
      apart_result seen read a named k (stands_found t count (lent_sound x count sound) k (data_of a) s) g (belongs_known t count j (data_seen seen user_name) b) n

  pub stored_given : StoresOther x count → result_of x ≡ Base 5012
  unfolding assignment_of type_of stores_at
  stored_given o =
      let k = o.block in
      let at : find_public t count (data_of o.identity) ≡ Some k = stands_found t count (lent_sound x count sound) k _ o.public in
      let p = one_place x.request o.identity o.named in
      result_is o.seen o.read
      ∙ asks_plan t count (says o.seen o.read)
      (record {
        place = p.0;
        one = p.1;
        asked = (
          rw o.asks,
          known_is o.seen o.read o.identity o.named k at
              ∙ user_known_lem o.seen o.read o.identity o.named k at (given o.seen user_name)
              (λ g. belongs_known t count k _ (record { from = o.public.from; to = o.public.to; name = o.private g })),
          own_is o.seen o.read o.identity o.named k at
              ∙ own_holds o.seen o.read o.identity o.named k at (given o.seen user_name) o.private,
          stores_is o.seen o.read o.identity o.named k at ∙ rw (same_no _ _ o.other),
        );
      })

  stored_found : (seen : Seen) → Decides (dialect_in x) x.request seen → result_of x ≡ Base 5012 → StoresOther x count
  unfolding assignment_of named_survey survey_of find_all every stores_at
  stored_found seen read r =
      let a : Asks t count (says seen read) = plan_asks t count (says seen read) (sym (result_is seen read) ∙ r) in
      let identity = avp_at x.request a.place in
      let named : identities (body_of x.request) ≡ identity ∷ [] = sym (identities_at x.request 20) ∙ ap (map (avp_at x.request)) a.one in
      go a named (find_public t count (data_of identity)) refl
    where
      go : (a : Asks t count (says seen read)) → identities (body_of x.request) ≡ avp_at x.request a.place ∷ [] → (f : Option ℕ)
          → find_public t count (data_of (avp_at x.request a.place)) ≡ f → StoresOther x count
      go a named None e = absurd (true≢false (sym (rw (named, e) at a.asked.1)))
      go a named (Some k) e =
          let identity = avp_at x.request a.place in
          let o : Only t count (data_of identity) k = found_only t count (data_of identity) (lent_sound x count sound) k e in
          record {
            seen = seen;
            read = read;
            asks = asks_zero (value_seen seen assignment_type) (type_read (dialect_in x) x.request seen read.read) a.asked.0;
            identity = identity;
            named = named;
            block = k;
            public = record { from = o.from; to = o.to; name = o.named };
            private = own_says seen read identity named k e (given seen user_name) (sym (own_is seen read identity named k e) ∙ a.asked.2);
            other = λ q. true≢false (rw (same_yes _ _ q) at (sym (stores_is seen read identity named k e) ∙ a.asked.3));
          }

  pub stored_only : result_of x ≡ Base 5012 → StoresOther x count
  unfolding is_one
  stored_only r =
      let u = decided_upon (dialect_in x) x.request t count x.vectors 5012 refl (sym (result_counted x count sound) ∙ r) in
      stored_found u.seen u.decides r
