use Rattle.octets.specs.Standard.{rules, refl}
use Rattle.octets.proofs.Ranges.{all_range}
use Rattle.record.specs.Networks.{sound_place, new_place}
use Rattle.record.proofs.Places.{places_all, places_refused}
use Rattle.record.proofs.networks.sound.Goals as goal

pub returns-then-all : goal.returns-then-all
returns-then-all c =
    places_all _ _ c.if-all.true (all_range _ _ (sound_place c.args.b.now c.args.n) 8 c.all.ensures.ran refl (λ x y q k. search rules))
    (all_range _ _ (new_place c.args.b.now c.args.n) 8 c.all-then-all.ensures.ran refl (λ x y q k. search rules))

pub returns-else-all : goal.returns-else-all
returns-else-all c =
    places_refused _ _ c.if-all.false (all_range _ _ (sound_place c.args.b.now c.args.n) 8 c.all.ensures.ran refl (λ x y q k. search rules))
