use Rattle.std.proofs.lemmas.Result.{err_from_is_err_and}
use Rattle.sh.proofs.Tellings.{fault_tells, unknown_tells, other_tells, known_tells}
use Rattle.octets.specs.Standard.{rules}
use Rattle.sh.proofs.telling.tell.Goals as goal

pub returns-in_err-read_sh : goal.returns-in_err-read_sh
returns-in_err-read_sh c =
    let p = err_from_is_err_and c.from_residual.result c.from_residual.ensures.1 in
    rw (p.1, p.2) (record { tells = fault_tells _ _ _ _ _ _ c.read_sh.ensures c.requires.0 c.requires.1 _ c.in_err-read_sh.was; success = tt })

pub returns-in_default : goal.returns-in_default
returns-in_default c = search (rules, unknown_tells)

pub returns-then-asked : goal.returns-then-asked
returns-then-asked c = search (rules, other_tells)

pub returns-clause-tells : goal.returns-clause-tells
returns-clause-tells c =
    known_tells _ _ _ _ _ _ c.read_sh.ensures c.requires.0 c.requires.1 _ c.in_ok-read_sh.was _ c.member_of-identity.ensures.0 _ c.find_public.ensures _ c.in-Some.is
    _ c.references_of-asked.ensures c.of.ensures c.if-asked.false
