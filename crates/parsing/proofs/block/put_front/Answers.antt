use Rattle.octets.specs.Standard.{arith, length-set, rules}
use Rattle.parsing.proofs.Written.{wrote_front}
use Rattle.parsing.proofs.block.put_front.Goals as goal

pub bounds-out-1 : goal.bounds-out-1
bounds-out-1 c = simp length-set (omega arith)

pub bounds-out-2 : goal.bounds-out-2
bounds-out-2 c = simp length-set (omega arith)

pub bounds-out-3 : goal.bounds-out-3
bounds-out-3 c = simp length-set (omega arith)

pub bounds-out-4 : goal.bounds-out-4
bounds-out-4 c = simp length-set (omega arith)

pub bounds-out-5 : goal.bounds-out-5
bounds-out-5 c = simp length-set (omega arith)

pub bounds-out-6 : goal.bounds-out-6
bounds-out-6 c = simp length-set (omega arith)

pub bounds-out-7 : goal.bounds-out-7
bounds-out-7 c = simp length-set (omega arith)

pub bounds-out-8 : goal.bounds-out-8
bounds-out-8 c = simp length-set (omega arith)

pub bounds-out-9 : goal.bounds-out-9
bounds-out-9 c = simp length-set (omega arith)

pub bounds-out-10 : goal.bounds-out-10
bounds-out-10 c = simp length-set (omega arith)

pub bounds-out-11 : goal.bounds-out-11
bounds-out-11 c = simp length-set (omega arith)

pub bounds-out-12 : goal.bounds-out-12
bounds-out-12 c = simp length-set (omega arith)

pub bounds-out-13 : goal.bounds-out-13
bounds-out-13 c = simp length-set (omega arith)

pub bounds-out-14 : goal.bounds-out-14
bounds-out-14 c = simp length-set (omega arith)

pub bounds-out-15 : goal.bounds-out-15
bounds-out-15 c = simp length-set (omega arith)

pub shape_of-out : goal.shape_of-out
shape_of-out c = simp length-set

pub returns : goal.returns
returns c = search (rules, wrote_front)
