-- Laws of tests: what holds of both branches, and of those of two tests that are one.
use Rattle.octets.specs.Standard.{Bool, true, false, cond}

pub either : {X : Type 0} (P : X → Type 0) (x : Bool) {a b : X} → P a → P b → P (cond x a b)
either P true p q = p
either P false p q = q

pub each : {X Y : Type 0} (P : X → Y → Type 0) (x : Bool) {a b : X} {c d : Y} → P a c → P b d → P (cond x a b) (cond x c d)
each P true p q = p
each P false p q = q
