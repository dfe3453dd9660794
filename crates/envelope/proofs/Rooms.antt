-- Room for what is written in two parts, one after the other.
use Rattle.octets.specs.Standard.{ℕ, ◌≤◌, ◌≡◌, List, ◌++◌, arith, length, length-append, length-take, length-drop}
use Rattle.octets.specs.Run.{Wrote}
use Rattle.octets.proofs.Writes.{lent, over_length}

pub room_left : (w v : List ℕ) {m : ℕ} → length (w ++ v) ≤ m → length w ≤ m
room_left w v h = let k = rw length-append at h in omega arith

-- what was written has left the rest free
pub room_right : (w v : List ℕ) {b xs : List ℕ} {n : ℕ} → Wrote w b xs n → length (w ++ v) ≤ length b → length v ≤ length (lent n xs)
room_right w v {b} {xs} {n} p h =
    let k = rw length-append at h in
    let l : length xs ≡ length b = rw p.bytes (over_length w b (omega arith)) in
    simp (length-take, length-drop) (omega (arith, p.count))

pub wrote_most : {w b xs : List ℕ} {r m : ℕ} → Wrote w b xs r → length w ≤ m → r ≤ m
wrote_most p h = omega (arith, p.count)

pub wrote_within : {w b xs : List ℕ} {n : ℕ} → Wrote w b xs n → length w ≤ length b → n ≤ length xs
wrote_within {w} {b} {xs} p h = let l : length xs ≡ length b = rw p.bytes (over_length w b h) in omega (arith, p.count)
