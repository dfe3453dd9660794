use Rattle.markup.proofs.Written.{wrote_one}
use Rattle.octets.specs.Standard.{length-set, rules}
use Rattle.markup.proofs.put_byte.Goals as goal

pub shape_of-out : goal.shape_of-out
shape_of-out c = simp length-set

pub returns : goal.returns
returns c = search (rules, wrote_one)
