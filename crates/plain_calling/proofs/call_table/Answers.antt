use Rattle.std.proofs.lemmas.Result.{err_from_is_err_and}
use Rattle.refusals.proofs.Passing.{passes}
use Rattle.plain_calling.proofs.Calls.{refuses, call_serves}
use Rattle.octets.specs.Standard.{rules}
use Rattle.plain_calling.proofs.call_table.Goals as goal

pub returns-in_err-early : goal.returns-in_err-early
returns-in_err-early c =
    let p = err_from_is_err_and c.from_residual.result c.from_residual.ensures.1 in
    rw (p.1, p.2) (refuses _ _ _ _ _ _ _ c.in_err-early.ensures.number c.in_err-early.ensures.value)

pub new-l-requires : goal.new-l-requires
new-l-requires c = (passes _ _ _ c.in_ok-early.ensures.number (search rules)).most

pub over_table-requires : goal.over_table-requires
over_table-requires c = (rw c.new-l.ensures (passes _ _ _ c.in_ok-early.ensures.number (search rules)), search rules)

pub returns : goal.returns
returns c = call_serves _ _ _ _ _ _ _ c.in_ok-early.ensures.number c.check-table.ensures (rw c.new-l.ensures at c.over_table.ensures)
