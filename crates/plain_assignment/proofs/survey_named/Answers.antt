use Rattle.octets.specs.Standard.{rules, true, false}
use Rattle.plain_assignment.proofs.Surveyed.{named_says, is_own, is_stored, is_fit, is_right}
use Rattle.plain_assignment.proofs.survey_named.Goals as goal

pub returns : goal.returns
returns c =
    named_says c.args.t.now c.args.owner.now c.args.said.now.server.now c.args.said.now.numbers.kind _ c.args.count c.args.said.now.numbers.named
    c.args.said.now.user.now
    (c.every_named-known.ensures (λ b. true) (λ b r h. search rules)) c.user_known.ensures (c.every_named-absent.ensures (λ b. false) (λ b r h. search rules))
    (c.every_named-own.ensures (is_own c.args.owner.now) (λ b r h. search rules)) (c.every_named-stores.ensures (is_stored c.args.said.now.server.now) (λ b r h. search rules))
    (c.every_named-fits.ensures (is_fit c.args.said.now.server.now) (λ b r h. search rules)) (c.every_named-right.ensures (is_right c.args.said.now.numbers.kind) (λ b r h. search rules))
