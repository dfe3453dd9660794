-- An answer takes the same of like records, so that decisions which give alike are answered with the same bytes.
use Rattle.octets.specs.Standard.{ℕ, Bool, true, false, ◌≡◌, refl, ap, inl, inr, List, arith, eqb, eqb-true, eqb-false, ne_eqb}
use Rattle.record.specs.Fields.{private_of, public_of, server_of, mandatory_of, optional_of, profile_of}
use Rattle.blocks.specs.Blocks.{block_of, of_block}
use Rattle.vectors.specs.Chosen.{none_sent}
use Rattle.vectors.specs.declared.choice.Sent.{Sent}
use Rattle.items.specs.Items.{sent_bytes}
use Rattle.pen.specs.Bytes.{if_there}
use Rattle.reading.specs.Rules.{Seen}
use Rattle.reading.specs.declared.Outcome.{Outcome}
use Rattle.requests.specs.Judged.{fine}
use Rattle.requests.specs.Request.{read_in}
use Rattle.choices.specs.declared.Given.{Given}
use Rattle.choices.specs.declared.plan.Plan.{Plan}
use Rattle.parts.specs.Profile.{profile_at}
use Rattle.reading.specs.declared.Dialect.{Dialect}
use Rattle.reading.specs.declared.Terms.{Terms}
use Rattle.envelope.specs.Front.{origin_bytes}
use Rattle.reply.specs.Pieces.{top_bytes, identity_bytes, name_bytes, data_bytes, given_bytes}
use Rattle.answering.specs.Answer.{rest_bytes, body_bytes, answer_bytes}
use Rattle.deciding.specs.Decide.{performed_by, decide}
use Rattle.deciding.proofs.Cases.{Comes, tells, settles, challenges}
use Rattle.deciding.proofs.Comes.{decide_by_lem}
use Rattle.seen_alike.specs.Shown.{SameSight, BlockAlike}
use Rattle.seen_alike.proofs.Decisions.{GivenAlike}
use Rattle.seen_alike.proofs.Plans.{Asks, given_alike}

-- none but a MAR sends vectors, and where none is sent the vector file does not matter
none_sent_lem : (dialect : Dialect) (req t : List ℕ) (count : ℕ) (v : List ℕ) → (dialect.command ≡ 303 → ⊥) → (decide dialect req t count v).given.sent ≡ none_sent
unfolding performed_by
none_sent_lem dialect req t count v n =
    decide_by_lem dialect req t count v (λ d. d.given.sent ≡ none_sent) (λ f b. refl) (λ seen e p c. go seen p c)
  where
    go : (seen : Seen) (p : Plan) → Comes dialect req t count v seen p → p.given.sent ≡ none_sent
    go seen p (tells g x) = x.none
    go seen p (settles g w x) = x.none
    go seen p (challenges k x) = absurd (n x.command)

no_vectors : (v w : List ℕ) → sent_bytes v none_sent ≡ sent_bytes w none_sent
unfolding sent_bytes if_there
no_vectors v w = refl

sent_same : (dialect : Dialect) (req t : List ℕ) (count : ℕ) (v w : List ℕ) → (dialect.command ≡ 303 → v ≡ w)
    → sent_bytes v (decide dialect req t count v).given.sent ≡ sent_bytes w (decide dialect req t count v).given.sent
sent_same dialect req t count v w same = go (eqb dialect.command 303) refl
  where
    sent : Sent
    sent = (decide dialect req t count v).given.sent

    go : (x : Bool) → eqb dialect.command 303 ≡ x → sent_bytes v sent ≡ sent_bytes w sent
    go true e = ap (λ (z : List ℕ). sent_bytes z sent) (same (eqb-true dialect.command 303 e))
    go false e = rw (none_sent_lem dialect req t count v (eqb-false dialect.command 303 e)) (no_vectors v w)

module _ {file other t u : List ℕ} {count many : ℕ} {Like : ℕ → ℕ → Type 0} {Public Private : List ℕ → Type 0}
    (sight : SameSight file other t u count many Like Public Private) where
  -- something of a record, nothing where there is none
  of_same : (f g : List ℕ → List ℕ) → ((j k : ℕ) → Like j k → f (block_of t j) ≡ g (block_of u k)) → (j k : ℕ) → BlockAlike Like j k
      → of_block f t j ≡ of_block g u k
  of_same f g each j k (inl (a, b)) = rw (a, b)
  of_same f g each j k (inr l) = rw (ne_eqb j 0 (omega (arith, sight.first j k l)), ne_eqb k 0 (omega (arith, sight.second j k l))) (each j k l)

  module _ (g h : Given) (a : GivenAlike Like g h) where
    identity_same : identity_bytes t g ≡ identity_bytes u h
    unfolding identity_bytes
    identity_same =
        rw (
          of_same private_of private_of (λ j k l. (sight.shown j k l).private) g.user h.user a.user,
          of_same public_of public_of (λ j k l. (sight.shown j k l).public) g.public h.public a.public,
        )

    name_same : name_bytes t g ≡ name_bytes u h
    unfolding name_bytes
    name_same = rw (identity_same, of_same server_of server_of (λ j k l. (sight.shown j k l).server) g.server h.server a.server)

    profile_same : profile_at t file g.profile ≡ profile_at u other h.profile
    profile_same =
        of_same (λ (b : List ℕ). profile_of b file) (λ (b : List ℕ). profile_of b other) (λ j k l. (sight.shown j k l).profile) g.profile h.profile
        a.profile

    data_same : data_bytes t file g ≡ data_bytes u other h
    unfolding data_bytes
    data_same =
        rw (
          of_same mandatory_of mandatory_of (λ j k l. (sight.shown j k l).mandatory) g.capable h.capable a.capable,
          of_same optional_of optional_of (λ j k l. (sight.shown j k l).optional) g.capable h.capable a.capable,
          profile_same,
        )

    top_same : (terms : Terms) (req : List ℕ) (r : Outcome) → top_bytes terms req t r ≡ top_bytes terms req u r
    unfolding top_bytes origin_bytes
    top_same terms req r = rw (sight.header.host, sight.header.realm)

    module _ (terms : Terms) (req v w : List ℕ) (sent : sent_bytes v g.sent ≡ sent_bytes w g.sent) where
      body_same : body_bytes terms req t file v g ≡ body_bytes terms req u other w h
      unfolding body_bytes rest_bytes given_bytes
      body_same = rw (top_same terms req g.verdict.result, name_same, data_same, sent, a.verdict, a.sent)

      pub answer_same : answer_bytes terms req t file v g ≡ answer_bytes terms req u other w h
      unfolding answer_bytes
      answer_same = rw (body_same, a.verdict)

  -- the answer of the decision
  pub bytes_same : (dialect : Dialect) (req v w : List ℕ) → (dialect.command ≡ 303 → v ≡ w)
      → ((seen : Seen) → read_in dialect req ≡ fine seen → Asks dialect req seen Public Private)
      → answer_bytes dialect.terms req t file v (decide dialect req t count v).given
      ≡ answer_bytes dialect.terms req u other w (decide dialect req u many w).given
  bytes_same dialect req v w same asks =
      answer_same (decide dialect req t count v).given (decide dialect req u many w).given (given_alike sight dialect req v w same asks) dialect.terms req
      v w (sent_same dialect req t count v w same)
