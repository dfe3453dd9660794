-- "144-399 eight places of 32: a length 1 to 31, then the visited network's name, no two alike"
use Rattle.std.specs.Prelude.{ℕ, ◌+◌, ◌*◌, Bool, ◌&&◌, ◌||◌, not, cond, List, get_or, take, drop, eqb, leb, ltb}
use Rattle.octets.specs.All.{all_below}
use Rattle.octets.specs.Run.{zero_between}

-- where place i begins; the name in it
abbrev pub place_at : ℕ → ℕ
place_at i = 144 + 32 * i

unfoldable pub network_of : List ℕ → ℕ → List ℕ
network_of b i = take (get_or b (place_at i) 0) (drop (place_at i + 1) b)

-- a place in use: a length 1 to 31, the name, and zeros after it
unfoldable pub used_place : List ℕ → ℕ → Bool
used_place b i = leb 1 (get_or b (place_at i) 0) && leb (get_or b (place_at i) 0) 31 && zero_between b (place_at i + 1 + get_or b (place_at i) 0) (place_at i + 32)

-- place i of a header with n networks
unfoldable pub sound_place : List ℕ → ℕ → ℕ → Bool
sound_place b n i = cond (ltb i n) (used_place b i) (zero_between b (place_at i) (place_at i + 32))

-- place i holds another name than place j: used places have zeros past the name, so all 32 bytes are compared
unfoldable pub same_byte : List ℕ → ℕ → ℕ → ℕ → Bool
same_byte b x y i = eqb (get_or b (x + i) 0) (get_or b (y + i) 0)

unfoldable pub other_place : List ℕ → ℕ → ℕ → Bool
other_place b j i = not (all_below (same_byte b (place_at i) (place_at j)) 32)

-- place j, if it is in use, holds another name than each place before it
unfoldable pub new_place : List ℕ → ℕ → ℕ → Bool
new_place b n j = leb n j || all_below (other_place b j) j

unfoldable pub sound_networks : List ℕ → ℕ → Bool
sound_networks b n = all_below (sound_place b n) 8 && all_below (new_place b n) 8
