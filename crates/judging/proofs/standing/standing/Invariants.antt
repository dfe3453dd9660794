use Rattle.judging.specs.Passes.{Standing}
use Rattle.judging.proofs.standing.standing.Given as goal

abbrev pub invariant-loop-m : goal.invariant-loop-m
invariant-loop-m l = Standing l.list l.header l.file l.places l.a l.m l.at l.sets
