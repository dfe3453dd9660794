use Rattle.reading.proofs.Known.{kind_base, kind_vendor, kind_stranger}
use Rattle.octets.specs.Standard.{rules}
use Rattle.reading.proofs.kinds.kind_by.Goals as goal

pub returns-then-flags-lt-V_FLAG : goal.returns-then-flags-lt-V_FLAG
returns-then-flags-lt-V_FLAG c = search (rules, kind_base)

pub returns-then-vendor-eq-VENDOR : goal.returns-then-vendor-eq-VENDOR
returns-then-vendor-eq-VENDOR c = search (rules, kind_vendor)

pub returns : goal.returns
returns c = search (rules, kind_stranger)
