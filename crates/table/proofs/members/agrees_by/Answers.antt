use Rattle.table.proofs.Remembered.{apart_agrees, apart_kept, hash_own}
use Rattle.octets.specs.Standard.{rules}
use Rattle.table.proofs.members.agrees_by.Goals as goal

pub returns-then-set-eq0 : goal.returns-then-set-eq0
returns-then-set-eq0 c = search (rules, apart_agrees, apart_kept)

pub held-requires : goal.held-requires
held-requires c = search (rules, hash_own)
