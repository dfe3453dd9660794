-- What holds of a kind's use in each column holds of its use in a dialect.
use Rattle.octets.specs.Standard.{◌≡◌, refl, Bool, true, false, cond, eqb, eqb-true}
use Rattle.reading.specs.declared.Dialect.{Dialect}
use Rattle.reading.specs.declared.Kind.{Kind}
use Rattle.reading.specs.declared.Use.{Use}
use Rattle.reading.specs.Kinds.{use_in, sh}

pub use_any : (P : Use → Type 0) (d : Dialect) (k : Kind) → (d.terms.application ≡ sh → P k.uses.udr)
    → P k.uses.uar → P k.uses.sar → P k.uses.lir → P k.uses.mar → P (use_in d k)
unfolding use_in
use_any P d k udr uar sar lir mar =
    go (eqb d.terms.application sh) (eqb d.command 300) (eqb d.command 301) (eqb d.command 302) refl
  where
    go : (w x y z : Bool) → eqb d.terms.application sh ≡ w
        → P (cond w k.uses.udr (cond x k.uses.uar (cond y k.uses.sar (cond z k.uses.lir k.uses.mar))))
    go true x y z e = udr (eqb-true _ _ e)
    go false true y z e = uar
    go false false true z e = sar
    go false false false true e = lir
    go false false false false e = mar
