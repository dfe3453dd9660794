-- The questions of a UAR, a LIR and a MAR have one answer over tables of which they see the same, and what comes of it is given alike: one verdict, with things
-- of records that are like each other.
use Rattle.std.specs.Prelude.{Option, Some, None, Ok, Err}
use Rattle.octets.specs.Standard.{ℕ, Bool, ◌≡◌, refl, inl, inr, List, ltb}
use Rattle.blocks.specs.Blocks.{block_of}
use Rattle.table.specs.Named.{private_at}
use Rattle.vectors.specs.declared.choice.Sent.{Sent}
use Rattle.lookup.specs.Find.{find_public, find_server, block_found}
use Rattle.reading.specs.declared.Outcome.{Outcome}
use Rattle.reading.specs.declared.Verdict.{Verdict}
use Rattle.choices.specs.Challenges.{claim_of, challenge_of}
use Rattle.choices.specs.Choices.{authorization, location}
use Rattle.choices.specs.Given.{blameless, given_of, given_fault, given_plain, given_server, given_capable}
use Rattle.choices.specs.declared.Given.{Given}
use Rattle.choices.specs.declared.choice.Choice.{Choice}
use Rattle.choices.specs.declared.choice.Choice.TheVariants.{Alone, Server, Capabilities, First}
use Rattle.choices.specs.declared.plan.Deed.{Deed}
use Rattle.choices.specs.declared.plan.Deed.TheVariants.{Leave, Settle, Challenge}
use Rattle.choices.specs.declared.plan.Plan.{Plan}
use Rattle.choices.specs.Plans.{Finding, only}
use Rattle.questions.specs.Authentication.{claimed_at, claimed_of, to_send, authenticate_found, authenticate}
use Rattle.questions.specs.Authorization.{asked_at, asked_of, authorize_found, authorize}
use Rattle.questions.specs.Carried.{served_by, carried}
use Rattle.questions.specs.Location.{sought_at, sought_of, locate_found, locate}
use Rattle.seen_alike.specs.Shown.{SameRecord, SameSight, FoundAlike, BlockAlike}
use Rattle.seen_alike.proofs.Lookups.{roam_same, private_known, server_alike, barred_alike}

-- What two decisions give, and what two plans do, where like records are to be seen as one.
pub record GivenAlike (Like : ℕ → ℕ → Type 0) (g h : Given) : Type 0 where
  pub verdict : g.verdict ≡ h.verdict
  pub sent : g.sent ≡ h.sent
  pub user : BlockAlike Like g.user h.user
  pub public : BlockAlike Like g.public h.public
  pub server : BlockAlike Like g.server h.server
  pub capable : BlockAlike Like g.capable h.capable
  pub profile : BlockAlike Like g.profile h.profile

abbrev pub DeedAlike : (ℕ → ℕ → Type 0) → Deed → Deed → Type 0
DeedAlike Like Leave Leave = Unit
DeedAlike Like Leave (Settle z) = ⊥
DeedAlike Like Leave (Challenge k) = ⊥
DeedAlike Like (Settle w) Leave = ⊥
DeedAlike Like (Settle w) (Settle z) = w ≡ z
DeedAlike Like (Settle w) (Challenge k) = ⊥
DeedAlike Like (Challenge j) Leave = ⊥
DeedAlike Like (Challenge j) (Settle z) = ⊥
DeedAlike Like (Challenge j) (Challenge k) = Like j k

pub record PlanAlike (Like : ℕ → ℕ → Type 0) (p q : Plan) : Type 0 where
  pub given : GivenAlike Like p.given q.given
  pub deed : DeedAlike Like p.deed q.deed

module _ (Like : ℕ → ℕ → Type 0) where
  pub none_alike : BlockAlike Like 0 0
  none_alike = inl (refl, refl)

  -- a verdict, with things of blocks that are alike
  pub of_alike : (v : Verdict) (a b c d e f g h : ℕ) → BlockAlike Like a e → BlockAlike Like b f → BlockAlike Like c g → BlockAlike Like d h
      → GivenAlike Like (given_of v a b c d) (given_of v e f g h)
  of_alike v a b c d e f g h i j k l =
      record { verdict = refl; sent = refl; user = i; public = none_alike; server = j; capable = k; profile = l }

  pub fault_alike : (v : Verdict) → GivenAlike Like (given_fault v) (given_fault v)
  fault_alike v = of_alike v 0 0 0 0 0 0 0 0 none_alike none_alike none_alike none_alike

  pub only_alike : (g h : Given) → GivenAlike Like g h → PlanAlike Like (only g) (only h)
  only_alike g h a = record { given = a; deed = tt }

  found_block : (f g : Option ℕ) → FoundAlike Like f g → BlockAlike Like (block_found f) (block_found g)
  found_block (Some j) (Some k) l = inr l
  found_block (Some j) None l = absurd l
  found_block None (Some k) l = absurd l
  found_block None None l = none_alike

  server_given : (r : Outcome) (j k : ℕ) → BlockAlike Like j k → GivenAlike Like (given_server r j) (given_server r k)
  server_given r j k l = of_alike (blameless r) 0 j 0 0 0 k 0 0 none_alike l none_alike none_alike

  capable_given : (r : Outcome) (j k : ℕ) → BlockAlike Like j k → GivenAlike Like (given_capable r j) (given_capable r k)
  capable_given r j k l = of_alike (blameless r) 0 0 j 0 0 0 k 0 none_alike none_alike l none_alike

module _ {file other t u : List ℕ} {count many : ℕ} {Like : ℕ → ℕ → Type 0} {Public Private : List ℕ → Type 0}
    (sight : SameSight file other t u count many Like Public Private) where
  carried_alike : (user : List ℕ) → Private user → (j k : ℕ) → BlockAlike Like j k → (c : Choice)
      → GivenAlike Like (carried t count user j c) (carried u many user k c)
  unfolding carried
  carried_alike user a j k l (Alone r) = fault_alike Like (blameless r)
  carried_alike user a j k l (Server r) = server_given Like r j k l
  carried_alike user a j k l (Capabilities r) = capable_given Like r j k l
  carried_alike user a j k l (First r s) = go (find_server t count user) (find_server u many user) (server_alike sight user a)
    where
      go : (f g : Option ℕ) → FoundAlike Like f g → GivenAlike Like (served_by f r s j) (served_by g r s k)
      go (Some m) (Some n) h = server_given Like r m n (inr h)
      go (Some m) None h = absurd h
      go None (Some n) h = absurd h
      go None None h = capable_given Like s j k l

  -- UAR
  asked_alike : (user network : List ℕ) → Private user → (j k : ℕ) → Like j k → Private (private_at t j)
      → asked_of t count user network (Some j) ≡ asked_of u many user network (Some k)
  unfolding asked_of asked_at private_at
  asked_alike user network a j k l own =
      let s : SameRecord file other (block_of t j) (block_of u k) = sight.shown j k l in
      rw (
        private_known sight user a,
        roam_same file other (block_of t 0) (block_of u 0) (block_of t j) (block_of u k) network sight.header s,
        barred_alike sight (block_of t j) (block_of u k) s own,
        s.private,
        s.state,
      )

  unknown_alike : (user network : List ℕ) (kind : ℕ) → Private user
      → GivenAlike Like (authorize_found t count user network kind None) (authorize_found u many user network kind None)
  unfolding authorize_found asked_of
  unknown_alike user network kind a = carried_alike user a 0 0 (none_alike Like) (authorization (asked_of t count user network None) kind)

  authorized : (user network : List ℕ) (kind : ℕ) → Private user → (f g : Option ℕ) → FoundAlike Like f g → ((k : ℕ) → f ≡ Some k → Private (private_at t k))
      → GivenAlike Like (authorize_found t count user network kind f) (authorize_found u many user network kind g)
  unfolding authorize_found
  authorized user network kind a (Some j) (Some k) l own =
      rw (← asked_alike user network a j k l (own j refl))
      (carried_alike user a j k (inr l) (authorization (asked_of t count user network (Some j)) kind))
  authorized user network kind a (Some j) None l own = absurd l
  authorized user network kind a None (Some k) l own = absurd l
  authorized user network kind a None None l own = unknown_alike user network kind a

  pub authorize_alike : (user public network : List ℕ) (kind : ℕ) → Public public → Private user
      → GivenAlike Like (authorize t count user public network kind) (authorize u many user public network kind)
  unfolding authorize
  authorize_alike user public network kind p a =
      authorized user network kind a (find_public t count public) (find_public u many public) (sight.found public p) (sight.owner public p)

  -- LIR
  there_alike : (j k : ℕ) → Like j k → Private (private_at t j) → GivenAlike Like (locate_found t count (Some j)) (locate_found u many (Some k))
  unfolding locate_found sought_of sought_at private_at
  there_alike j k l own =
      let s : SameRecord file other (block_of t j) (block_of u k) = sight.shown j k l in
      rw (← s.private, ← s.state, ← s.bits) (carried_alike (private_at t j) own j k (inr l) (location (sought_of t (Some j))))

  absent_alike : GivenAlike Like (locate_found t count None) (locate_found u many None)
  unfolding locate_found sought_of location carried
  absent_alike = fault_alike Like _

  located : (f g : Option ℕ) → FoundAlike Like f g → ((k : ℕ) → f ≡ Some k → Private (private_at t k))
      → GivenAlike Like (locate_found t count f) (locate_found u many g)
  located (Some j) (Some k) l own = there_alike j k l (own j refl)
  located (Some j) None l own = absurd l
  located None (Some k) l own = absurd l
  located None None l own = absent_alike

  pub locate_alike : (public : List ℕ) → Public public → GivenAlike Like (locate t count public) (locate u many public)
  unfolding locate
  locate_alike public p = located (find_public t count public) (find_public u many public) (sight.found public p) (sight.owner public p)

  -- MAR, with the same vectors
  challenged_alike : (f : Finding) (sent : Sent) (j k : ℕ) → Like j k → PlanAlike Like (challenge_of f j sent) (challenge_of f k sent)
  unfolding challenge_of
  challenged_alike (Err r) sent j k l = only_alike Like (given_plain r) (given_plain r) (fault_alike Like (blameless r))
  challenged_alike (Ok done) sent j k l =
      record {
        given =
            record {
              verdict = refl;
              sent = refl;
              user = inr l;
              public = inr l;
              server = none_alike Like;
              capable = none_alike Like;
              profile = none_alike Like;
            };
        deed = l;
      }

  claimed_alike : (user asked : List ℕ) (some : Bool) → Private user → (j k : ℕ) → Like j k
      → claimed_of t count user asked some (Some j) ≡ claimed_of u many user asked some (Some k)
  unfolding claimed_of claimed_at
  claimed_alike user asked some a j k l = rw (private_known sight user a, (sight.shown j k l).private)

  unclaimed_alike : (user asked : List ℕ) (sent : Sent)
      → PlanAlike Like (authenticate_found t count user asked sent None) (authenticate_found u many user asked sent None)
  unfolding authenticate_found claimed_of claim_of challenge_of
  unclaimed_alike user asked sent = only_alike Like _ _ (fault_alike Like _)

  authenticated : (user asked : List ℕ) (sent : Sent) → Private user → (f g : Option ℕ) → FoundAlike Like f g
      → PlanAlike Like (authenticate_found t count user asked sent f) (authenticate_found u many user asked sent g)
  unfolding authenticate_found
  authenticated user asked sent a (Some j) (Some k) l =
      rw (← claimed_alike user asked (ltb 0 sent.count) a j k l)
      (challenged_alike (claim_of (claimed_of t count user asked (ltb 0 sent.count) (Some j))) sent j k l)
  authenticated user asked sent a (Some j) None l = absurd l
  authenticated user asked sent a None (Some k) l = absurd l
  authenticated user asked sent a None None l = unclaimed_alike user asked sent

  pub authenticate_alike : (v user public asked : List ℕ) (number : ℕ) → Public public → Private user
      → PlanAlike Like (authenticate t count v user public asked number) (authenticate u many v user public asked number)
  unfolding authenticate
  authenticate_alike v user public asked number p a =
      authenticated user asked (to_send v user number) a (find_public t count public) (find_public u many public) (sight.found public p)
