use Rattle.octets.specs.Standard.{rules}
use Rattle.plain_reading.proofs.Turns.{whole_a, whole_b, whole_c, whole_d, whole_f, whole_g, whole_h, whole_newer}
use Rattle.plain_reading.proofs.listed.Places.breaks_whole.Goals as goal

pub returns-in-A : goal.returns-in-A
returns-in-A c = search (rules, whole_a)

pub returns-in-B : goal.returns-in-B
returns-in-B c = search (rules, whole_b)

pub returns-in-C : goal.returns-in-C
returns-in-C c = search (rules, whole_c)

pub returns-in-D : goal.returns-in-D
returns-in-D c = search (rules, whole_d)

pub returns-in-F : goal.returns-in-F
returns-in-F c = search (rules, whole_f)

pub returns-in-G : goal.returns-in-G
returns-in-G c = search (rules, whole_g)

pub returns-in-H : goal.returns-in-H
returns-in-H c = search (rules, whole_h)

pub returns-in-Newer : goal.returns-in-Newer
returns-in-Newer c = search (rules, whole_newer)
