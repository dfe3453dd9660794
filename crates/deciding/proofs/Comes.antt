-- A request that was read comes to one of the cases of `Cases`: the decisions of the four commands, walked through once. Laws about decisions go by
-- `decide_by` and these cases.
use Rattle.std.specs.Prelude.{Option, Some, None, Ok, Err}
use Rattle.octets.specs.Standard.{ℕ, ◌≤◌, ◌<◌, List, [], ◌∷◌, map, Bool, true, false, cond, not, ◌&&◌, ◌||◌, true≢false, ◌≡◌, refl, sym, ap, ◌∙◌, inl}
use Rattle.octets.specs.Standard.{inr, arith, length, eqb, ltb, eqb-true, eqb-false, ne_eqb, ltb-true}
use Rattle.octets.proofs.All.{and_left, and_right}
use Rattle.octets.proofs.Names.{same_eq}
use Rattle.blocks.specs.Changed.{is_one}
use Rattle.table.specs.Named.{private_at}
use Rattle.lookup.specs.Find.{is_at, find_public, serves_at, find_server, block_found}
use Rattle.lookup.specs.Among.{Among}
use Rattle.lookup.proofs.Among.{public_among}
use Rattle.lookup.proofs.First.{first_stands}
use Rattle.rewrite.specs.Renew.{settled, challenged}
use Rattle.rewrite.specs.Fitting.{Fitting}
use Rattle.rewrite.proofs.Challenged.{challenged_keeps}
use Rattle.rewrite.proofs.Settled.{settled_keeps}
use Rattle.diameter.specs.Avp.{data_of}
use Rattle.diameter.specs.Message.{body_of}
use Rattle.diameter.specs.AvpAt.{avp_at}
use Rattle.reading.specs.Kinds.{row_of, known, use_in, user_name, public_identity, server_name}
use Rattle.reading.specs.Rules.{Seen}
use Rattle.reading.specs.Verdicts.{number_of}
use Rattle.reading.specs.declared.Dialect.{Dialect}
use Rattle.reading.specs.declared.Outcome.{Outcome}
use Rattle.reading.specs.declared.Outcome.TheVariants.{Base, Experimental}
use Rattle.reading.specs.declared.Verdict.{Verdict}
use Rattle.counting.specs.Results.{base_results, experimental_results, index_in}
use Rattle.counting.specs.Counting.{listed, Listed}
use Rattle.requests.specs.Features.{beyond_set}
use Rattle.requests.specs.Identity.{places_from}
use Rattle.requests.specs.Judged.{Judged, bad, fine}
use Rattle.requests.specs.Request.{read_in, given, data_seen, scheme_of, identities}
use Rattle.requests.proofs.Kept.{read_needed, read_spoken, server_most, server_least, read_command}
use Rattle.requests.proofs.Naming.{identities_at}
use Rattle.choices.specs.Challenges.{claim_of, challenge_of}
use Rattle.choices.specs.Choices.{authorization, location}
use Rattle.choices.specs.Plans.{Finding, finding_of, grant, deed_of, plan_of}
use Rattle.choices.specs.Types.{is_removal, asks_only, carries_user, effect_of}
use Rattle.choices.specs.declared.Given.{Given}
use Rattle.choices.specs.declared.challenge.Claimed.{Claimed}
use Rattle.choices.specs.declared.choice.Asked.{Asked}
use Rattle.choices.specs.declared.choice.Choice.{Choice}
use Rattle.choices.specs.declared.choice.Choice.TheVariants.{Alone, Server, Capabilities, First}
use Rattle.choices.specs.declared.choice.Sought.{Sought}
use Rattle.choices.specs.declared.plan.Deed.TheVariants.{Leave, Settle}
use Rattle.choices.specs.declared.plan.Plan.{Plan}
use Rattle.choices.specs.declared.plan.Sar.{Sar}
use Rattle.choices.specs.declared.plan.Survey.{Survey}
use Rattle.choices.specs.declared.types.Effect.{Effect}
use Rattle.choices.specs.declared.types.AssignmentType.{AssignmentType}
use Rattle.choices.specs.declared.types.AssignmentType.TheVariants.{NoAssignment, Registration, ReRegistration, UnregisteredUser, Removal}
use Rattle.choices.specs.declared.types.AssignmentType.TheVariants.{StoringRemoval, Failure}
use Rattle.questions.specs.Authentication.{claimed_at, claimed_of, authenticate_found, authenticate}
use Rattle.questions.specs.Authorization.{authorize_found, authorize}
use Rattle.questions.specs.Carried.{served_by, carried}
use Rattle.questions.specs.Location.{locate_found, locate}
use Rattle.assignment.specs.Assignment.{Means, Assignment, meant_by, every, found, find_all, numbers_of, first_of, own_at, survey_of, owner_by, named_survey}
use Rattle.assignment.specs.Assignment.{owned_survey, assign_meant, assign, stored_name, planned_records}
use Rattle.assignment.proofs.OwnTurns.{no_zero}
use Rattle.assignment.proofs.Rows.{row_fits}
use Rattle.deciding.specs.Plans.{assignment_of, uar_plan, sar_plan, lir_plan, mar_plan, plan_read}
use Rattle.deciding.specs.Rules.{in_force}
use Rattle.deciding.specs.Decide.{Decision, faulted, feature_unsupported, performed_by, judged_by, decide_by, decide}
use Rattle.deciding.proofs.Read.{Fails, fails_listed, read_fails}
use Rattle.deciding.proofs.Tests.{either}
use Rattle.deciding.proofs.Cases.{Blameless, Succeeds, Carries, carries_fault, sending, Tells, Owner, the_user, the_first, Comes, tells}
use Rattle.deciding.proofs.Cases.{settles, challenges, of_result, alone}
use Rattle.assignment.specs.declared.Meant.TheVariants as meant

-- what was found is one of the records, or nothing
public_within : (t : List ℕ) (count : ℕ) (name : List ℕ) → block_found (find_public t count name) ≤ count
public_within t count name = go (find_public t count name) refl
  where
    go : (f : Option ℕ) → find_public t count name ≡ f → block_found f ≤ count
    go (Some k) e = (public_among t count name (sym e)).to k refl
    go None e = omega arith

-- UAR and LIR
abbrev ChoiceListed : Choice → Type 0
ChoiceListed (Alone r) = Listed r
ChoiceListed (Server r) = Listed r
ChoiceListed (Capabilities r) = Listed r
ChoiceListed (First r other) = Listed r × Listed other

authorization_listed : (a : Asked) (kind : ℕ) → ChoiceListed (authorization a kind)
unfolding authorization listed index_in base_results experimental_results
authorization_listed a kind =
    either ChoiceListed (not a.known) refl
    (either ChoiceListed (not a.together) refl
    (either ChoiceListed a.barred refl
    (either ChoiceListed (not (eqb kind 1) && not a.roams) refl
    (either ChoiceListed (eqb kind 2) refl
    (either ChoiceListed a.present (either Listed (eqb kind 0) refl refl)
    (either ChoiceListed (eqb kind 1) refl
    (refl, refl)))))))

location_listed : (a : Sought) → ChoiceListed (location a)
unfolding location listed index_in base_results experimental_results
location_listed a =
    either ChoiceListed (not a.known) refl
    (either ChoiceListed a.present refl
    (either ChoiceListed (not a.services) refl
    (refl, refl)))

module _ (dialect : Dialect) (req t : List ℕ) (count : ℕ) (v : List ℕ) (seen : Seen) where
  carried_tells : (user : List ℕ) (k : ℕ) → k ≤ count → (c : Choice) → ChoiceListed c → (dialect.command ≡ 303 → ⊥)
      → Tells dialect req t count v seen (carried t count user k c)
  unfolding carried find_server
  carried_tells user k h (Alone r) l n = alone dialect req t count v seen r l (λ e. absurd (n e))
  carried_tells user k h (Server r) l n = of_result dialect req t count v seen r 0 k 0 0 l (omega arith) h (omega arith) (omega arith) (λ e. absurd (n e))
  carried_tells user k h (Capabilities r) l n = of_result dialect req t count v seen r 0 0 k 0 l (omega arith) (omega arith) h (omega arith) (λ e. absurd (n e))
  carried_tells user k h (First r other) l n = go (find_server t count user) refl
    where
      go : (f : Option ℕ) → find_server t count user ≡ f → Tells dialect req t count v seen (served_by f r other k)
      go (Some j) e =
          of_result dialect req t count v seen r 0 j 0 0 l.0 (omega arith) (omega (arith, (first_stands (serves_at t user) count 1 j e).to))
          (omega arith) (omega arith)
          (λ z. absurd (n z))
      go None e = of_result dialect req t count v seen other 0 0 k 0 l.1 (omega arith) (omega arith) h (omega arith) (λ z. absurd (n z))

-- SAR. What is found of its records: a listed result, or all are known and of one subscription.
data Reached (v : Survey) : Finding → Type 0 where
  denied : (r : Outcome) → Listed r → Reached v (Err r)
  clear : v.known ≡ true → v.own ≡ true → Reached v (Ok tt)

reached : (v : Survey) (kind : AssignmentType) → Reached v (finding_of v kind)
unfolding finding_of listed index_in base_results experimental_results
reached v kind = go v.known v.own (asks_only kind) v.stores v.fits (v.some && v.right) refl refl
  where
    go : (known own asks stores fits right : Bool) → v.known ≡ known → v.own ≡ own
        → Reached v (cond (not known) (Err (Experimental 5001))
        (cond (not own) (Err (Experimental 5002)) (cond asks (cond stores (Ok tt) (Err (Base 5012)))
        (cond (not fits) (Err (Experimental 5005)) (cond (not right) (Err (Experimental 5007)) (Ok tt))))))
    go false own asks stores fits right a b = denied _ refl
    go true false asks stores fits right a b = denied _ refl
    go true true true true fits right a b = clear a b
    go true true true false fits right a b = denied _ refl
    go true true false stores false right a b = denied _ refl
    go true true false stores true false a b = denied _ refl
    go true true false stores true true a b = clear a b

-- each row of the effects has a column and is a success
row_result : (kind : AssignmentType) (keep : Bool) → Listed (effect_of kind keep).result × Succeeds (effect_of kind keep).result
unfolding listed index_in base_results experimental_results number_of
row_result NoAssignment keep = (refl, refl)
row_result Registration keep = (refl, refl)
row_result ReRegistration keep = (refl, refl)
row_result UnregisteredUser keep = (refl, refl)
row_result Removal keep = (refl, refl)
row_result StoringRemoval true = (refl, refl)
row_result StoringRemoval false = (refl, refl)
row_result Failure keep = (refl, refl)

-- a test of all the records holds of each
pub one_holds : (p : ℕ → Bool) (ks : List ℕ) (k : ℕ) → every p ks ≡ true → is_one ks k ≡ true → p k ≡ true
unfolding every is_one
one_holds p [] k a e = absurd (true≢false (sym e))
one_holds p (j ∷ ks) k a e = go (eqb k j) refl e (one_holds p ks k (and_right (p j) (every p ks) a))
  where
    go : (x : Bool) → eqb k j ≡ x → (x || is_one ks k) ≡ true → (is_one ks k ≡ true → p k ≡ true) → p k ≡ true
    go true f g next = rw (eqb-true k j f) (and_left (p j) (every p ks) a)
    go false f g next = next g

-- block 0, the header, is none of those that a SAR names
named_later : (t : List ℕ) (count : ℕ) (avps : List (List ℕ)) → is_one (numbers_of (find_all t count avps)) 0 ≡ false
unfolding find_all numbers_of is_one
named_later t count [] = refl
named_later t count (a ∷ avps) = go (find_public t count (data_of a)) refl (named_later t count avps)
  where
    go : (f : Option ℕ) → find_public t count (data_of a) ≡ f → is_one (numbers_of (find_all t count avps)) 0 ≡ false
        → is_one (numbers_of (f ∷ find_all t count avps)) 0 ≡ false
    go None e next = next
    go (Some k) e next = rw (ne_eqb 0 k (omega (arith, (public_among t count (data_of a) (sym e)).from k refl))) next

-- whom it means, by the places of its identities: one at least where it means them, else a User-Name is given
data Whom (given : Bool) (n : ℕ) : Means → Type 0 where
  faulty : (f : Verdict) → Listed f.result → Whom given n (Err f)
  own : given ≡ true → Whom given n (Ok meant.Owned)
  listing : (place : ℕ) → (n ≡ 0 → ⊥) → Whom given n (Ok (meant.Listed place))

means : (removal given : Bool) (places : List ℕ) → Whom given (length places) (meant_by removal given places)
unfolding meant_by listed index_in base_results
means true true [] = own refl
means true false [] = faulty _ refl
means false given [] = faulty _ refl
means removal given (p ∷ []) = listing p (λ e. omega arith)
means true given (p ∷ (q ∷ others)) = listing p (λ e. omega arith)
means false given (p ∷ (q ∷ others)) = faulty _ refl

-- MAR. Its steps: a refusal, or the identities match and there is a vector to send.
data Claim (a : Claimed) : Finding → Type 0 where
  refused : (r : Outcome) → Fails r → Claim a (Err r)
  granted : a.together ≡ true → a.some ≡ true → Claim a (Ok tt)

claim : (a : Claimed) → Claim a (claim_of a)
unfolding claim_of listed index_in base_results experimental_results number_of
claim a = go a.known a.together a.served a.some refl refl
  where
    go : (known together served left : Bool) → a.together ≡ together → a.some ≡ left
        → Claim a (cond (not known) (Err (Experimental 5001)) (cond (not together) (Err (Experimental 5002))
        (cond (not served) (Err (Experimental 5006)) (cond (not left) (Err (Base 5012)) (Ok tt)))))
    go false together served left e f = refused _ refl
    go true false served left e f = refused _ refl
    go true true false left e f = refused _ refl
    go true true true false e f = refused _ refl
    go true true true true e f = granted e f

map-length : {X Y : Type 0} (f : X → Y) (l : List X) → length (map f l) ≡ length l
map-length f [] = refl
map-length f (x ∷ l) = rw (map-length f l)

grant_plain : (n : Sar) (first : ℕ) (r : Outcome) → Blameless (grant n first r) × ((grant n first r).verdict.result ≡ r)
unfolding grant
grant_plain n first r =
    either (λ (g : Given). Blameless g × (g.verdict.result ≡ r)) (carries_user n.kind) ((refl, refl), refl) ((refl, refl), refl)

pub plan_blameless : (f : Finding) (n : Sar) (first : ℕ) (owned : Bool) → Blameless (plan_of f n first owned).given
unfolding plan_of
plan_blameless (Err r) n first owned = (refl, refl)
plan_blameless (Ok done) n first owned = (grant_plain n first _).0

module _ (dialect : Dialect) (req t : List ℕ) (count : ℕ) (v : List ℕ) (seen : Seen) (read : read_in dialect req ≡ fine seen) where
  abbrev Came : Plan → Type 0
  Came p = Comes dialect req t count v seen p

  abbrev sar : Assignment
  sar = assignment_of req t seen

  module _ (is : dialect.command ≡ 301) where
    other : {A : Type 0} → dialect.command ≡ 303 → A
    other e = absurd (omega arith)

    grant_tells : (first : ℕ) (r : Outcome) → first ≤ count → Listed r → Tells dialect req t count v seen (grant sar.numbers first r)
    unfolding grant
    grant_tells first r h l =
        either (Tells dialect req t count v seen) (carries_user sar.numbers.kind)
        (of_result dialect req t count v seen r first 0 0 _ l h (omega arith) (omega arith)
        (either (λ (k : ℕ). k ≤ count) (eqb sar.numbers.already 0) h (omega arith)) other)
        (alone dialect req t count v seen r l other)

    abbrev row : Effect
    row = effect_of sar.numbers.kind sar.numbers.keep

    row_comes : (first : ℕ) (all : Bool) (owner : List ℕ) → first ≤ count → Owner dialect req t count v seen owner
        → every (own_at t owner) (planned_records t count sar all) ≡ true → is_one (planned_records t count sar all) 0 ≡ false
        → Came (plan_of (Ok tt) sar.numbers first all)
    unfolding plan_of deed_of assignment_of own_at
    row_comes first all owner h whose all_own later = go row.write
      where
        says : Listed row.result × Succeeds row.result
        says = row_result sar.numbers.kind sar.numbers.keep

        told : Tells dialect req t count v seen (grant sar.numbers first row.result)
        told = grant_tells first row.result h says.0

        fits : Fitting row.state (stored_name row.named (data_seen seen server_name))
        fits = row_fits (data_seen seen server_name) (server_least dialect req seen read (inl is)) (server_most dialect req seen read)
            sar.numbers.kind sar.numbers.keep

        go : (x : Bool) → Came (record {
          given = grant sar.numbers first row.result;
          deed = cond x (Settle (record { owned = all; state = row.state; named = row.named })) Leave;
        })
        go false = tells _ told
        go true =
            settles _ _ (record {
              command = is;
              carries = told.carries;
              none = told.none;
              good = rw (grant_plain sar.numbers first row.result).1 says.1;
              fits = fits;
              writes =
                  record {
                    records = planned_records t count sar all;
                    change = settled row.state (stored_name row.named (data_seen seen server_name));
                    keeps = settled_keeps _ _ fits;
                    table = refl;
                    later = later;
                    owner = owner;
                    whose = whose;
                    owned = λ k i. same_eq (private_at t k) owner (one_holds (own_at t owner) (planned_records t count sar all) k all_own i);
                  };
            })

    owned_comes : given seen user_name ≡ true → (f : Finding) → Reached (owned_survey t count sar) f → Came (plan_of f sar.numbers 0 true)
    unfolding plan_of owned_survey survey_of planned_records assignment_of
    owned_comes g f (denied r l) = tells _ (alone dialect req t count v seen r l other)
    owned_comes g f (clear k o) = row_comes 0 true (data_seen seen user_name) (omega arith) (the_user g) o (no_zero t _ count)

    -- where all are known the first is
    first_owner_lem : (named : Bool) → given seen user_name ≡ named → (ids : List (List ℕ)) → identities (body_of req) ≡ ids → (length ids ≡ 0 → ⊥)
        → every is_at (find_all t count ids) ≡ true
        → Owner dialect req t count v seen (owner_by t (first_of (find_all t count ids)) named (data_seen seen user_name))
    unfolding owner_by find_all every
    first_owner_lem true g ids i n k = the_user g
    first_owner_lem false g [] i n k = absurd (n refl)
    first_owner_lem false g (a ∷ avps) i n k = go (find_public t count (data_of a)) refl k
      where
        go : (f : Option ℕ) → find_public t count (data_of a) ≡ f → (is_at f && every is_at (find_all t count avps)) ≡ true
            → Owner dialect req t count v seen (private_at t (block_found f))
        go (Some j) e h = the_first a avps j g i e
        go None e h = absurd (true≢false (sym h))

    first_within : (avps : List (List ℕ)) → first_of (find_all t count avps) ≤ count
    unfolding find_all
    first_within [] = omega arith
    first_within (a ∷ avps) = public_within t count (data_of a)

    named_comes : (length (identities (body_of req)) ≡ 0 → ⊥) → (f : Finding) → Reached (named_survey t count sar) f
        → Came (plan_of f sar.numbers (first_of (found t count sar)) false)
    unfolding plan_of named_survey survey_of planned_records assignment_of
    named_comes n f (denied r l) = tells _ (alone dialect req t count v seen r l other)
    named_comes n f (clear k o) =
        let ids = identities (body_of req) in
        row_comes (first_of (find_all t count ids)) false _ (first_within ids)
        (first_owner_lem (given seen user_name) refl ids refl n (and_left (every is_at (find_all t count ids)) _ k)) o (named_later t count ids)

    places_counted : length (places_from 20 (body_of req)) ≡ length (identities (body_of req))
    places_counted = sym (map-length (avp_at req) (places_from 20 (body_of req))) ∙ ap length (identities_at req 20)

    meant_comes : (m : Means) → Whom (given seen user_name) (length (places_from 20 (body_of req))) m → Came (assign_meant t count sar m)
    unfolding assign_meant
    meant_comes m (faulty f l) = tells _ (record { carries = carries_fault count f l; none = refl; blames = inl is; apart = other })
    meant_comes m (own g) = owned_comes g _ (reached (owned_survey t count sar) sar.numbers.kind)
    meant_comes m (listing place n) = named_comes (λ e. n (places_counted ∙ e)) _ (reached (named_survey t count sar) sar.numbers.kind)

    sar_comes : Came (sar_plan req t count seen)
    unfolding sar_plan assign assignment_of
    sar_comes = meant_comes _ (means (is_removal sar.numbers.kind) (given seen user_name) (places_from 20 (body_of req)))

  -- MAR
  module _ (is : dialect.command ≡ 303) where
    one_is : (j k : ℕ) → is_one (k ∷ []) j ≡ true → j ≡ k
    unfolding is_one
    one_is j k e = go (eqb j k) refl e
      where
        go : (x : Bool) → eqb j k ≡ x → (x || false) ≡ true → j ≡ k
        go true f g = eqb-true j k f
        go false f g = absurd (true≢false (sym g))

    user_given : given seen user_name ≡ true
    unfolding row_of known use_in
    user_given = read_needed dialect req seen user_name read (omega arith) (rw ((read_spoken dialect req seen read).0, is))

    challenge_comes : (k : ℕ) → 1 ≤ k → k ≤ count → (a : Claimed) → (a.together ≡ true → private_at t k ≡ data_seen seen user_name)
        → (a.some ≡ true → 0 < (sending dialect req t count v seen).count) → (f : Finding) → Claim a f
        → Came (challenge_of f k (sending dialect req t count v seen))
    unfolding challenge_of is_one listed index_in base_results
    challenge_comes k from to a owns left f (refused r l) = tells _ (alone dialect req t count v seen r (fails_listed r l) (λ e. l))
    challenge_comes k from to a owns left f (granted e l) =
        let least = server_least dialect req seen read (inr (λ z. omega arith, λ z. omega arith, λ z. omega arith)) in
        let most = server_most dialect req seen read in
        challenges k (record {
          command = is;
          carries =
              record {
                result = refl;
                within = record { user = to; public = to; server = omega arith; capable = omega arith; profile = omega arith };
                light = inl refl;
              };
          some = left l;
          fits = (from, to, least, most);
          writes =
              record {
                records = k ∷ [];
                change = challenged (data_seen seen server_name);
                keeps = challenged_keeps (data_seen seen server_name) least most;
                table = refl;
                later = rw (ne_eqb 0 k (omega arith));
                owner = data_seen seen user_name;
                whose = the_user user_given;
                owned = λ j i. rw (one_is j k i) (owns e);
              };
        })

    found_comes : (f : Option ℕ) → Among count f
        → Came (authenticate_found t count (data_seen seen user_name) (scheme_of seen) (sending dialect req t count v seen) f)
    unfolding authenticate_found claimed_of claimed_at claim_of challenge_of private_at listed index_in experimental_results number_of
    found_comes None among = tells _ (alone dialect req t count v seen (Experimental 5001) refl (λ e. refl))
    found_comes (Some k) among =
        let a = claimed_of t count (data_seen seen user_name) (scheme_of seen) (ltb 0 (sending dialect req t count v seen).count) (Some k) in
        challenge_comes k (among.from k refl) (among.to k refl) a (λ e. same_eq (private_at t k) (data_seen seen user_name) e) (λ e. ltb-true 0 _ e)
        (claim_of a) (claim a)

    mar_comes : Came (mar_plan t count v seen)
    unfolding mar_plan authenticate
    mar_comes = found_comes (find_public t count (data_seen seen public_identity)) (public_among t count (data_seen seen public_identity) refl)

  pub comes : Came (plan_read dialect req t count v seen)
  unfolding plan_read uar_plan lir_plan authorize authorize_found locate locate_found
  comes = go (eqb dialect.command 300) (eqb dialect.command 301) (eqb dialect.command 302) refl refl refl
    where
      public : List ℕ
      public = data_seen seen public_identity

      go : (x y z : Bool) → eqb dialect.command 300 ≡ x → eqb dialect.command 301 ≡ y → eqb dialect.command 302 ≡ z
          → Came (cond x (uar_plan t count seen) (cond y (sar_plan req t count seen) (cond z (lir_plan t count seen) (mar_plan t count v seen))))
      go true y z a b c =
          tells _ (carried_tells dialect req t count v seen _ _ (public_within t count public) _ (authorization_listed _ _)
          (λ e. absurd (omega (arith, eqb-true dialect.command 300 a))))
      go false true z a b c = sar_comes (eqb-true _ _ b)
      go false false true a b c =
          tells _ (carried_tells dialect req t count v seen _ _ (public_within t count public) _ (location_listed _)
          (λ e. absurd (omega (arith, eqb-true dialect.command 302 c))))
      go false false false a b c =
          let n = dialect.command in
          let r = read_command dialect req seen read in
          mar_comes (omega (arith, eqb-false n 300 a, eqb-false n 301 b, eqb-false n 302 c, r.0, r.1))

-- What holds of a fault, that reading found or of a feature that is not supported, and of what a request that was read comes to, holds of the decision.
pub decide_by_lem : (dialect : Dialect) (req t : List ℕ) (count : ℕ) (v : List ℕ) (P : Decision → Type 0)
    → ((f : Verdict) → Fails f.result → P (faulted t v f))
    → ((seen : Seen) → read_in dialect req ≡ fine seen → (p : Plan) → Comes dialect req t count v seen p → P (performed_by in_force req t count v seen p))
    → P (decide dialect req t count v)
unfolding decide_by judged_by listed index_in experimental_results number_of
decide_by_lem dialect req t count v P faults reads = go (read_in dialect req) refl
  where
    go : (j : Judged) → read_in dialect req ≡ j → P (judged_by in_force dialect req t count v j)
    go (bad f) e = faults f (read_fails dialect req f e)
    go (fine seen) e =
        either P (beyond_set dialect.terms req) (faults feature_unsupported refl)
        (reads seen e (plan_read dialect req t count v seen) (comes dialect req t count v seen e))

-- what each answer carries
pub decide_carries : (dialect : Dialect) (req t : List ℕ) (count : ℕ) (v : List ℕ) → Carries count (decide dialect req t count v).given
unfolding performed_by
decide_carries dialect req t count v =
    decide_by_lem dialect req t count v (λ d. Carries count d.given) (λ f b. carries_fault count f (fails_listed f.result b)) (λ seen e p c. go seen p c)
  where
    go : (seen : Seen) (p : Plan) → Comes dialect req t count v seen p → Carries count p.given
    go seen p (tells g x) = x.carries
    go seen p (settles g w x) = x.carries
    go seen p (challenges k x) = x.carries
