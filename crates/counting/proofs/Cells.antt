-- The word of a request that can be counted is its own: none of the first five, and below 145.
use Rattle.octets.specs.Standard.{ℕ, ◌≤◌, ◌<◌, arith, Bool, true, false, cond, eqb}
use Rattle.counting.specs.Results.{command_row}
use Rattle.counting.specs.Counted.{cell_of}
use Rattle.counting.specs.Counting.{Fits}
use Rattle.counting.specs.Event.{Event}
use Rattle.std.specs.Prelude.{Ok, Err}
use Rattle.counting.proofs.Columns.{listed_column}

pub row_few : (c : ℕ) → command_row c ≤ 4
unfolding command_row
row_few c = go (eqb c 300) (eqb c 301) (eqb c 302) (eqb c 303)
  where
    go : (p q r s : Bool) → cond p 0 (cond q 1 (cond r 2 (cond s 3 4))) ≤ 4
    go true q r s = omega arith
    go false true r s = omega arith
    go false false true s = omega arith
    go false false false true = omega arith
    go false false false false = omega arith

pub cell_above : (e : Event) → Fits e → 5 ≤ cell_of e
unfolding cell_of
cell_above (Ok e) f = omega arith
cell_above (Err n) f = omega (arith, f.0)

pub cell_below : (e : Event) → Fits e → cell_of e < 145
unfolding cell_of
cell_below (Ok e) f = omega (arith, row_few e.command, listed_column e.result f)
cell_below (Err n) f = omega (arith, f.1)
