use Rattle.std.proofs.lemmas.Result.{err_from_is_err_and}
use Rattle.refusals.proofs.Passing.{passes}
use Rattle.calling.proofs.Calls.{refuses, rest_serves}
use Rattle.octets.specs.Standard.{rules}
use Rattle.calling.proofs.call_over.Goals as goal

pub returns-in_err-early : goal.returns-in_err-early
returns-in_err-early c =
    let p = err_from_is_err_and c.from_residual.result c.from_residual.ensures.1 in
    rw (p.1, p.2) (refuses _ _ _ _ _ _ _ _ c.in_err-early.ensures.number c.in_err-early.ensures.value)

pub over_checked-requires : goal.over_checked-requires
over_checked-requires c = search (rules, passes)

pub returns : goal.returns
returns c = rest_serves _ _ _ _ _ _ _ _ c.in_ok-early.ensures.number c.requires.0 c.requires.1 c.over_checked.ensures
