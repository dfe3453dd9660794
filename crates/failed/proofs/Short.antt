-- What Failed-AVP holds is short: no more than the request itself, or an example.
use Rattle.octets.specs.Standard.{ℕ, ◌≤◌, List, [], Bool, true, false, cond, arith, length, take, replicate, length-set, length-take, eqb, leb}
use Rattle.diameter.specs.Avp.{avp_head, avp_len}
use Rattle.pen.specs.Bytes.{avp_bytes, vendor_bytes}
use Rattle.pen.proofs.Sizes.{avp_length, vendor_length}
use Rattle.reading.specs.Kinds.{row_of}
use Rattle.failed.specs.Failing.{head_part, alone, failed_of, is_four, example_size, sample, example_of, example}

pub fault_length : (n : ℕ) (t : List ℕ) → length (failed_of n t) ≤ length t
unfolding failed_of alone head_part
fault_length n t = go (eqb n 5014) (leb (avp_head t) (length t))
  where
    part : (y : Bool) → length (cond y (take (avp_head t) t) []) ≤ length t
    part true = simp length-take (omega arith)
    part false = omega arith

    go : (x y : Bool) → length (cond x (alone (cond y (take (avp_head t) t) [])) (take (avp_len t) t)) ≤ length t
    go true y = simp length-set (part y)
    go false y = simp length-take (omega arith)

pub example_length : (k : ℕ) → length (example k) ≤ 16
unfolding example_of sample
example_length k = go (eqb (row_of k).vendor 0) (is_four (row_of k).content)
  where
    go : (x y : Bool)
        → length (cond x (avp_bytes (row_of k).code (replicate (example_size y) 0)) (vendor_bytes (row_of k).code (replicate (example_size y) 0))) ≤ 16
    go true true = omega (arith, avp_length (row_of k).code (replicate 4 0))
    go true false = omega (arith, avp_length (row_of k).code [])
    go false true = omega (arith, vendor_length (row_of k).code (replicate 4 0))
    go false false = omega (arith, vendor_length (row_of k).code [])
