use Rattle.octets.specs.Standard.{◌≡◌, drop}
use Rattle.quoting.specs.Quoted.{listable}
use Rattle.quoting.proofs.listable.Given as goal

abbrev pub invariant-loop-x : goal.invariant-loop-x
invariant-loop-x l = listable l.name ≡ listable (drop l.x-index l.name)
