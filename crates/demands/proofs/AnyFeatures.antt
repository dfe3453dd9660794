-- The features show in X5011 and in the own list alone: reading does not depend on them, nor does the decision on a request that asks for nothing beyond; and
-- a request without 628 is served alike whatever they are.
use Rattle.octets.specs.Standard.{ℕ, ◌+◌, List, [], ◌∷◌, Bool, true, false, cond, true≢false, ◌≡◌, refl, sym, ap, ◌∙◌, length}
use Rattle.diameter.specs.Avp.{padded}
use Rattle.diameter.specs.Message.{body_of, command_of}
use Rattle.diameter.specs.Walk.{Walk, ended, faulty, avp}
use Rattle.reading.specs.Groups.{members_of, too_often, group_fault}
use Rattle.reading.specs.Kinds.{kind_of, row_of, use_in}
use Rattle.reading.specs.Rules.{Seen, content_fault, rule}
use Rattle.reading.specs.declared.Content.{Content}
use Rattle.reading.specs.declared.Content.TheVariants.{Free, Number, Sized, Members}
use Rattle.reading.specs.declared.Dialect.{Dialect}
use Rattle.reading.specs.declared.group.Group.TheVariants.{Application, AuthDataItem, SupportedFeatures, UserIdentity}
use Rattle.requests.specs.Features.{beyond_set}
use Rattle.requests.specs.Judged.{Judged, bad, fine, nothing, judge}
use Rattle.requests.specs.Request.{read_in}
use Rattle.envelope.specs.Front.{front_bytes}
use Rattle.reply.specs.Pieces.{top_bytes}
use Rattle.answering.specs.Answer.{body_bytes, answer_bytes}
use Rattle.deciding.specs.Decide.{Decision, judged_by, decide_by}
use Rattle.deciding.specs.Plans.{plan_read}
use Rattle.deciding.specs.Rules.{in_force}
use Rattle.calling.specs.Lent.{Lent, dialect_in}
use Rattle.refusals.specs.Trial.{Trial, tried}
use Rattle.refusals.specs.Early.{check_value}
use Rattle.calling.specs.Serve.{Served, check_of, trials, refused, answered, answered_by, decision, serve_found, serve_table_by, serve_table}
use Rattle.older_rules.specs.WithoutFeatures.{NoFeatures}
use Rattle.requests.proofs.Featured.{none_beyond}
use Rattle.older_rules.proofs.Features.{none_listed, on_same}
use Rattle.demands.specs.Features.{with_features, Beyond}
use Rattle.demands.proofs.Dialects.{spoken, read_same}
use Rattle.demands.proofs.PeerCalls.{tried_same}
use Rattle.demands.proofs.Wanting.{beyond_says, beyond_holds}

module _ (command app peer features other : ℕ) where
  abbrev this : Dialect
  this = spoken command app peer features

  abbrev that : Dialect
  that = spoken command app peer other

  content_any : (c : Content) (a : List ℕ) → content_fault this c a ≡ content_fault that c a
  unfolding content_fault group_fault too_often members_of
  content_any Free a = refl
  content_any (Number least most) a = refl
  content_any (Sized least most) a = refl
  content_any (Members Application) a = refl
  content_any (Members AuthDataItem) a = refl
  content_any (Members SupportedFeatures) a = refl
  content_any (Members UserIdentity) a = refl

  rule_any : (seen : Seen) (a : List ℕ) → rule this seen a ≡ rule that seen a
  unfolding rule use_in
  rule_any seen a = rw (content_any (row_of (kind_of a)).content a)

  judge_any : (at : ℕ) (w : Walk) (seen : Seen) → judge this at w seen ≡ judge that at w seen
  unfolding judge
  judge_any at ended seen = refl
  judge_any at (faulty t) seen = refl
  judge_any at (avp a w) seen = rw (rule_any seen a) (on_same (rule that seen a) seen a at _ _ (λ s. judge_any (at + padded (length a)) w s))

-- "reading", of a call
pub reading_any : (a : Lent) (features other : ℕ)
    → read_in (dialect_in (with_features a features)) a.request ≡ read_in (dialect_in (with_features a other)) a.request
reading_any a features other =
    read_same (command_of a.request) a.terms.application a.terms.peer a.terms.peer features other a.request
    (judge_any (command_of a.request) a.terms.application a.terms.peer features other 20 (body_of a.request) nothing)

-- a part of what comes of a call, which its refusals and its answer have alike
tried_part : {A : Type 0} (part : Served → A) (give other : Trial → Served) (o p : Served) → ((r : Trial) → part (give r) ≡ part (other r)) → part o ≡ part p
    → (rs : List Trial) → part (tried give o rs) ≡ part (tried other p rs)
unfolding tried
tried_part part give other o p each last [] = last
tried_part part give other o p each last (r ∷ rs) = go r.holds (tried_part part give other o p each last rs)
  where
    go : (b : Bool) → part (tried give o rs) ≡ part (tried other p rs) → part (cond b (give r) (tried give o rs)) ≡ part (cond b (other r) (tried other p rs))
    go true rest = each r
    go false rest = rest

-- nothing is asked for beyond: either reading finds a fault, or no 628 asks for it
module _ (x : Lent) (features other : ℕ) (n : Beyond (with_features x features) → ⊥) (m : Beyond (with_features x other) → ⊥) where
  none_asked : (y : Lent) → (Beyond y → ⊥) → (seen : Seen) → read_in (dialect_in y) y.request ≡ fine seen → beyond_set y.terms y.request ≡ false
  none_asked y k seen r = go (beyond_set y.terms y.request) refl
    where
      go : (b : Bool) → beyond_set y.terms y.request ≡ b → b ≡ false
      go true e = absurd (k (beyond_says y seen r e))
      go false e = refl

  pub decided_any : (count : ℕ) → decision (with_features x features) count ≡ decision (with_features x other) count
  unfolding decide_by judged_by plan_read
  decided_any count =
      ap (judged_by in_force (dialect_in (with_features x features)) x.request x.table count x.vectors) (reading_any x features other)
      ∙ judged (read_in (dialect_in (with_features x other)) x.request) refl
    where
      judged : (j : Judged) → read_in (dialect_in (with_features x other)) x.request ≡ j
          → judged_by in_force (dialect_in (with_features x features)) x.request x.table count x.vectors j
          ≡ judged_by in_force (dialect_in (with_features x other)) x.request x.table count x.vectors j
      judged (bad f) r = refl
      judged (fine seen) r =
          rw (none_asked (with_features x features) n seen (reading_any x features other ∙ r), none_asked (with_features x other) m seen r)

  pub part_any : {A : Type 0} (part : Served → A)
      → ((d : Decision) → part (answered (with_features x features) d) ≡ part (answered (with_features x other) d))
      → part (serve_table (with_features x features)) ≡ part (serve_table (with_features x other))
  unfolding serve_table_by serve_found refused
  part_any part same =
      tried_part part (refused (with_features x features)) (refused (with_features x other)) _ _ (λ r. refl)
      (same _ ∙ ap (λ (d : Decision). part (answered (with_features x other) d)) (decided_any (check_value (check_of x)))) (trials (with_features x features))

-- and without a 628 the answer is
module _ (x : Lent) (free : NoFeatures (body_of x.request)) (features other : ℕ) where
  answered_any : (d : Decision) → answered (with_features x features) d ≡ answered (with_features x other) d
  unfolding answered_by answer_bytes body_bytes top_bytes front_bytes
  answered_any d =
      rw (none_listed (with_features x features).terms x.request free, none_listed (with_features x other).terms x.request free)

  refused_any : (r : Trial) → refused (with_features x features) r ≡ refused (with_features x other) r
  unfolding refused
  refused_any r = refl

  pub served_any : serve_table (with_features x features) ≡ serve_table (with_features x other)
  unfolding serve_table_by serve_found
  served_any =
      let n : Beyond (with_features x features) → ⊥ = λ b. true≢false (sym (beyond_holds (with_features x features) b) ∙ none_beyond x.request free _) in
      let m : Beyond (with_features x other) → ⊥ = λ b. true≢false (sym (beyond_holds (with_features x other) b) ∙ none_beyond x.request free _) in
      tried_same (refused (with_features x features)) (refused (with_features x other)) _ _ refused_any (trials (with_features x features))
      (λ e. answered_any _ ∙ ap (answered (with_features x other)) (decided_any x features other n m (check_value (check_of x))))
