use Rattle.rewrite.specs.Change.{reaches}
use Rattle.rewrite.specs.Fitting.{change_of}
use Rattle.plain_assignment.proofs.Sets.{Gone}
use Rattle.octets.specs.Standard.{◌+◌, ◌*◌, ◌≤◌, ◌≡◌, [], ◌∷◌, length}
use Rattle.plain_assignment.proofs.effects.change_set.Given as goal

abbrev pub invariant-loop-i : goal.invariant-loop-i
invariant-loop-i l =
    (l.count ≤ 4096) × (length l.initial.t ≡ 512 * (l.count + 1)) × (length l.t ≡ 512 * (l.count + 1))
    × Gone l.initial.t l.count (reaches l.initial.t (l.k ∷ [])) (change_of l.c l.name) l.i l.t
