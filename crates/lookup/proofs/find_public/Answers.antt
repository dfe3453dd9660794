use Rattle.octets.specs.Standard.{refl, rules}
use Rattle.lookup.specs.Find.{find_public}
use Rattle.lookup.proofs.First.{first_start}
use Rattle.lookup.proofs.Halves.{halves_less, halves_equal, halves_greater, halves_none}
use Rattle.table.proofs.Sound.{sound_few, sound_size}
use Rattle.lookup.proofs.find_public.Goals as goal

pub overflow_add-high : goal.overflow_add-high
overflow_add-high c = let few = sound_few _ _ c.requires in search rules

pub loop-low-init : goal.loop-low-init
unfolding find_public
loop-low-init c = (search (rules, sound_few), search (rules, sound_size), search rules, search rules, first_start _ _ refl)

pub loop-low-preserved-in-Less : goal.loop-low-preserved-in-Less
loop-low-preserved-in-Less c = (search rules, search rules, search rules, search rules, search (rules, halves_less))

pub returns-in-Equal : goal.returns-in-Equal
returns-in-Equal c = search (rules, halves_equal)

pub loop-low-preserved : goal.loop-low-preserved
loop-low-preserved c = (search rules, search rules, search rules, search rules, search (rules, halves_greater))

pub returns : goal.returns
returns c = search (rules, halves_none)
