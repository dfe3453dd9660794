use Rattle.octets.specs.Standard.{◌+◌, ◌≤◌, arith, one-mul, shl_exact, lit<}
use Rattle.record.proofs.subscriber.Record.roams.Goals as goal

pub returns : goal.returns
returns c = let n = c.args.networks in let h : 1 + n ≤ 32 = omega arith in rw (shl_exact 1 n 32 (lit< tt) h, one-mul)
