use Rattle.octets.specs.Standard.{rules, refl}
use Rattle.octets.proofs.Ranges.{all_range}
use Rattle.record.specs.Networks.{other_place}
use Rattle.record.proofs.Places.{new_unused, new_used}
use Rattle.record.proofs.networks.new_place.Goals as goal

pub returns-then-n-j : goal.returns-then-n-j
returns-then-n-j c = search (rules, new_unused)

pub returns-else-n-j : goal.returns-else-n-j
returns-else-n-j c = new_used _ _ _ c.if-n-j.false (all_range _ _ (other_place c.args.b.now c.args.j) c.args.j c.all.ensures.ran refl (λ x y q k. search rules))
