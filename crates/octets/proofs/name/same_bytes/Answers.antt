use Rattle.octets.specs.Standard.{rules}
use Rattle.octets.proofs.Eights.{bytes_alike, eights_front, eights_apart, differ_more, eights_last}
use Rattle.octets.proofs.name.same_bytes.Goals as goal

pub returns-then-n-lt8 : goal.returns-then-n-lt8
returns-then-n-lt8 c = search (rules, bytes_alike)

pub returns-then-be64 : goal.returns-then-be64
returns-then-be64 c = search (rules, eights_apart)

pub passed-requires : goal.passed-requires
passed-requires c = (search rules, search rules, search rules, search (rules, eights_front))

pub returns-in-Some : goal.returns-in-Some
returns-in-Some c = search (rules, differ_more)

pub returns-in-None : goal.returns-in-None
returns-in-None c =
    eights_last _ _ _ _ _ (search rules) (search rules) c.in-None.ensures (search rules) (search rules) (search rules) (search rules)
