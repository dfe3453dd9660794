use Rattle.std.proofs.lemmas.Result.{err_from_is_err_and}
use Rattle.requests.proofs.Requests.{request_header, request_first, request_walk, request_walked}
use Rattle.octets.specs.Standard.{rules}
use Rattle.requests.proofs.read_by.Goals as goal

pub returns-in_err-header : goal.returns-in_err-header
returns-in_err-header c =
    let p = err_from_is_err_and c.from_residual.result c.from_residual.ensures.1 in
    rw (p.1, p.2) (request_header _ _ _ _ _ c.in_err-header.ensures)

pub returns-then-first_other : goal.returns-then-first_other
returns-then-first_other c = search (rules, request_first)

pub returns-in_err-walk_message : goal.returns-in_err-walk_message
returns-in_err-walk_message c =
    let p = err_from_is_err_and c.from_residual-in_err-walk_message.result c.from_residual-in_err-walk_message.ensures.1 in
    rw (p.1, p.2) (request_walk _ _ _ _ c.in_ok-header.ensures _ c.first_other.ensures c.if-first_other.false _ c.in_err-walk_message.ensures)

pub returns : goal.returns
returns c = search (rules, request_walked)
