use Rattle.octets.specs.Standard.{rules, false}
use Rattle.plain_assignment.proofs.Surveyed.{owned_says, is_own, is_stored, is_fit, is_right}
use Rattle.plain_assignment.proofs.survey_owned.Goals as goal

pub returns : goal.returns
returns c =
    owned_says c.args.t.now c.args.said.now.server.now c.args.said.now.numbers.kind c.args.count c.args.said.now.numbers.named c.args.said.now.user.now
    c.user_known.ensures (c.every_owned-absent.ensures (λ b. false) (λ b r h. search rules)) (c.every_owned-own.ensures (is_own c.args.said.now.user.now) (λ b r h. search rules))
    (c.every_owned-stores.ensures (is_stored c.args.said.now.server.now) (λ b r h. search rules)) (c.every_owned-fits.ensures (is_fit c.args.said.now.server.now) (λ b r h. search rules))
    (c.every_owned-right.ensures (is_right c.args.said.now.numbers.kind) (λ b r h. search rules))
