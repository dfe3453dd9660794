-- The places of visited networks: one in use, one that is not, and all together.
use Rattle.octets.specs.Standard.{ℕ, ◌+◌, ◌<◌, ◌≤◌, Bool, true, ◌≡◌, List, lt-ltb, le-ltb, lt-leb, le-leb}
use Rattle.octets.specs.Standard.{◌-◌, false, not, sym, ap, ◌∙◌, arith, length, length-take-le, length-drop, get_or, get_or-take, get_or-drop, take, drop}
use Rattle.std.specs.Prelude.{nat_eq}
use Rattle.std.specs.Cmp.Lexicographic.{pointwise}
use Rattle.octets.specs.All.{all_below}
use Rattle.octets.specs.Name.{alike_at}
use Rattle.octets.proofs.All.{all_alike}
use Rattle.octets.proofs.Eights.{bytes_alike}
use Rattle.octets.specs.Run.{zero_between}
use Rattle.record.specs.Networks.{place_at, used_place, sound_place, same_byte, other_place, new_place, sound_networks}

pub place_used : (b : List ℕ) (n i : ℕ) {x : Bool} → i < n → x ≡ used_place b i → x ≡ sound_place b n i
unfolding sound_place
place_used b n i h e = rw (lt-ltb _ _ h) e

pub place_unused : (b : List ℕ) (n i at : ℕ) {x : Bool} → n ≤ i → at ≡ place_at i → x ≡ zero_between b at (at + 32) → x ≡ sound_place b n i
unfolding sound_place
place_unused b n i at h a e = rw (le-ltb _ _ h, ← a) e

pub new_unused : (b : List ℕ) (n j : ℕ) → n ≤ j → true ≡ new_place b n j
unfolding new_place
new_unused b n j h = rw (le-leb _ _ h)

pub new_used : (b : List ℕ) (n j : ℕ) {x : Bool} → j < n → x ≡ all_below (other_place b j) j → x ≡ new_place b n j
unfolding new_place
new_used b n j h e = rw (lt-leb _ _ h) e

-- Places compared as parts of the block.
pub places_other : (b : List ℕ) (j i x y : ℕ) {r : Bool} → length b ≡ 512 → i < 8 → j < 8 → x ≡ place_at i → y ≡ place_at j
    → r ≡ not (pointwise nat_eq (take (x + 32 - x) (drop x b)) (take (y + 32 - y) (drop y b))) → r ≡ other_place b j i
unfolding other_place same_byte alike_at
places_other b j i x y l hi hj ex ey e = e ∙ ap not (bytes_alike (part x) (part y) (long x (omega (arith, ex)) ∙ sym (long y (omega (arith, ey)))) ∙ counted ∙ same)
  where
    part : ℕ → List ℕ
    part z = take (z + 32 - z) (drop z b)

    long : (z : ℕ) → z + 32 ≤ 512 → length (part z) ≡ 32
    long z h = length-take-le (z + 32 - z) (drop z b) (rw length-drop (omega (arith, l))) ∙ omega arith

    counted : all_below (alike_at (part x) (part y)) (length (part x)) ≡ all_below (alike_at (part x) (part y)) 32
    counted = ap (all_below (alike_at (part x) (part y))) (long x (omega (arith, ex)))

    at : (z k : ℕ) → k < 32 → get_or (part z) k 0 ≡ get_or b (z + k) 0
    at z k h = get_or-take (z + 32 - z) (drop z b) k 0 (omega arith) ∙ rw get_or-drop

    same : all_below (alike_at (part x) (part y)) 32 ≡ all_below (same_byte b (place_at i) (place_at j)) 32
    same = all_alike _ _ 32 (λ k h. rw (at x k h, at y k h, ex, ey))

pub places_all : (b : List ℕ) (n : ℕ) {x y : Bool} → x ≡ true → x ≡ all_below (sound_place b n) 8 → y ≡ all_below (new_place b n) 8 → y ≡ sound_networks b n
unfolding sound_networks
places_all b n g e f = rw (← e, g, f)

pub places_refused : (b : List ℕ) (n : ℕ) {x : Bool} → x ≡ false → x ≡ all_below (sound_place b n) 8 → x ≡ sound_networks b n
unfolding sound_networks
places_refused b n g e = rw (← e, g)
