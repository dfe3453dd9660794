-- Words and digits, written one after the other.
use Rattle.octets.specs.Standard.{ℕ, ◌+◌, ◌-◌, ◌^◌, ◌≤◌, ◌<◌, Bool, true, false, ◌≡◌, refl, sym, List, append_assoc, arith, pow-le-pow_right, leb}
use Rattle.octets.specs.Standard.{lit<, length, take, leb-true, leb-false}
use Rattle.lines.specs.Digits.{last_digits, IsDigitCount}
use Rattle.octets.specs.Run.{Wrote}
use Rattle.octets.proofs.Writes.{lent, back, then, named}
use Rattle.lines.specs.Words.{Number, Words}
use Rattle.std.specs.Prelude.{decimal}
use Rattle.lines.proofs.Spelled.{Spelled, decimal_spelled}

-- A number of 64 bits takes at most twenty digits.
pub twenty_places : (n k : ℕ) → IsDigitCount 10 1 n k → n < 18446744073709551616 → k ≤ 20
twenty_places n k f h = go (leb k 20) refl
  where
    go : (x : Bool) → leb k 20 ≡ x → k ≤ 20
    go true e = leb-true _ _ e
    go false e =
        let l : 20 < k = leb-false k 20 e in
        let p : 10 ^ 20 ≤ 10 ^ (k - 1) = pow-le-pow_right (lit< tt) {i = 20} {j = k - 1} (omega arith) in
        let q : 10 ^ (k - 1) ≤ n = f.2 (omega arith) in
        absurd (omega arith)

pub number_room : (n k : ℕ) (text out : List ℕ) → IsDigitCount 10 1 n k → n < 18446744073709551616 → k ≡ length (take k text) → 20 ≤ length out
    → length (take k text) ≤ length out
number_room n k text out f h e r = omega (arith, twenty_places n k f h)

pub number_wrote : (n k : ℕ) (text : List ℕ) {b xs : List ℕ} → IsDigitCount 10 1 n k → k ≡ length (take k text) → take k text ≡ last_digits 10 k n
    → Wrote (take k text) b xs (length (take k text)) → Number n b xs k
number_wrote n k text f e d w = record { fewest = f; wrote = named d (sym e) w }

-- The library's text of a number, written over the front of a buffer.
pub decimal_wrote : (n : ℕ) (text : List ℕ) {b xs : List ℕ} → n < 18446744073709551616 → text ≡ decimal n → Wrote text b xs (length text)
    → Number n b xs (length text)
decimal_wrote n text h e w =
    let s : Spelled n text = rw e (decimal_spelled n h) in
    record { fewest = s.fewest; wrote = named s.digits refl w }

-- Words, a number after them, words after both.
pub words_wrote : (n : ℕ) (first last : List ℕ) {b xs ys zs : List ℕ} {k : ℕ} → Wrote first b xs (length first) → Number n (lent (length first) xs) ys k
    → Wrote last (lent (length first + k) (back (length first) xs ys)) zs (length last)
    → Words first n last b (back (length first + k) (back (length first) xs ys) zs) (length first + k + length last)
words_wrote n first last {k = k} p q r = record {
  places = k;
  fewest = q.fewest;
  wrote = named (append_assoc first (last_digits 10 k n) last) refl (then (then p q.wrote) r);
}
