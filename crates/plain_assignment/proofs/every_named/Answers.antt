use Rattle.octets.specs.Standard.{refl, rules, ◌∙◌}
use Rattle.std.proofs.lemmas.Fn.{says_at}
use Rattle.lookup.proofs.Among.{among_room, public_among}
use Rattle.requests.proofs.Naming.{named_less}
use Rattle.plain_assignment.proofs.Passes.{named_start, named_stop, named_turn, kept_found, kept_unknown}
use Rattle.plain_assignment.proofs.every_named.Goals.{in-Some-find_public, in-None}
use Rattle.plain_assignment.proofs.every_named.Goals as goal

pub loop-place-init : goal.loop-place-init
loop-place-init g c = λ p h. named_start _ _ _ _ _

pub block-requires : goal.block-requires
block-requires g c = search (rules, among_room, public_among)

pub loop-place-smaller : goal.loop-place-smaller
loop-place-smaller g c = search (rules, named_less)

pub loop-place-preserved : goal.loop-place-preserved
loop-place-preserved g c = λ p h.
    named_turn c.args.t.now p c.args.unknown c.args.count c.args.req.now c.loop-place.at c.loop-place.good _ (c.loop-place.invariant p h)
    c.next_identity.result c.next_identity.ensures c.in-Some.field-0 c.in-Some.is c.data_at.ensures.0 c.find_public.ensures
    (elim c.match-find_public.branch [
      | in-Some-find_public w ↦
          kept_found c.args.t.now p c.args.unknown _ w.in-Some-find_public.is w.block.ensures (w.kept-is ∙ h _ _ (says_at g.F.Fn w.keeps-kept.ensures refl))
      | in-None w ↦ kept_unknown c.args.t.now p c.args.unknown w.in-None.is w.kept-is
    ])

pub returns : goal.returns
returns g c = λ p h.
    named_stop c.args.t.now p c.args.unknown c.args.count c.args.req.now c.loop-place.at c.loop-place.good _ (c.loop-place.invariant p h)
    c.next_identity.result c.next_identity.ensures c.in_default.is
