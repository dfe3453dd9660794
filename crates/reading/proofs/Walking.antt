-- A walk over AVPs goes on and ends: what is left grows less at each.
use Rattle.std.specs.Prelude.{Result, Ok}
use Rattle.octets.specs.Standard.{ℕ, ◌-◌, ◌<◌, ◌≤◌, ◌≡◌, List, arith}
use Rattle.diameter.specs.Reader.{read_of}
use Rattle.diameter.specs.declared.Avp.{Avp}
use Rattle.diameter.proofs.Reading.{read_later}

module _ (at : ℕ) (t : List ℕ) (r : Result Avp ℕ) (e : r ≡ read_of at t) (a : Avp) (d : r ≡ Ok a) where
  pub read_less : {n : ℕ} → at < n → n - a.next < n - at
  read_less h = omega (arith, read_later at t r e a d)

  pub read_from_lem : (n : ℕ) → n ≤ at → n ≤ a.next
  read_from_lem n h = omega (arith, read_later at t r e a d)
