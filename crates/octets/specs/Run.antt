-- Runs of bytes: zeros in a list, a name in its field, bytes written over the front of a buffer.
use Rattle.std.specs.Prelude.{◌≡◌, ℕ, zero, suc, ◌+◌, ◌-◌, ◌<◌, ◌≤◌, Bool, List, ◌++◌, length, drop, nat_eq, slice_index, slice_set}
use Rattle.octets.specs.All.{all_below}

-- the n bytes from a place are all zero; the bytes from one place up to another
unfoldable pub zeros : List ℕ → ℕ → ℕ → Bool
zeros s at n = all_below (λ (i : ℕ). nat_eq (slice_index s (at + i)) 0) n

unfoldable pub zero_between : List ℕ → ℕ → ℕ → Bool
zero_between s from to = zeros s from (to - from)

-- 128 bytes of zeros, and 128 whose bits are all set
pub record Mask (m : List ℕ) : Type 0 where
  pub size : length m ≡ 256
  pub clear : (i : ℕ) → i < 128 → slice_index m i ≡ 0
  pub full : (i : ℕ) → 128 ≤ i → i < 256 → slice_index m i ≡ 255

-- a field of n bytes at a place: the name, and zeros past its end
unfoldable pub put_name : List ℕ → ℕ → List ℕ → ℕ → List ℕ
put_name s at name zero = s
put_name s at name (suc n) = slice_set (put_name s at name n) (at + n) (slice_index name n)

-- a buffer with w written over its front
unfoldable pub over : List ℕ → List ℕ → List ℕ
over w b = w ++ drop (length w) b

-- w, r bytes long, was written over the front of a buffer; what is past it stayed
pub record Wrote (w before after : List ℕ) (r : ℕ) : Type 0 where
  pub count : r ≡ length w
  pub bytes : after ≡ over w before
