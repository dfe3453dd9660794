-- The places of visited networks, and a header's tests together.
use Rattle.octets.specs.Standard.{ℕ, ◌+◌, ◌<◌, ◌≤◌, Bool, ◌&&◌, not, and_assoc, ◌≡◌, ◌∙◌, ap, List, arith, length, get_or, take}
use Rattle.octets.specs.Standard.{drop, length-take-le, length-drop, get_or-take, get_or-drop, eqb, leb, lt-ltb, le-ltb}
use Rattle.octets.specs.All.{all_below}
use Rattle.octets.specs.Name.{same, alike_at}
use Rattle.octets.specs.Run.{zero_between}
use Rattle.octets.specs.Sum.{sum_words}
use Rattle.octets.proofs.All.{all_alike}
use Rattle.record.specs.HeaderBlock.{header_of, sound_counts, is_header, sound_numbers, sound_header_rest, sound_header}
use Rattle.record.specs.Networks.{place_at, used_place, sound_place, same_byte, other_place, new_place, sound_networks}
use Rattle.record.specs.declared.header.Header.{Header}

module _ (b : List ℕ) where
  place_length : (i : ℕ) → length b ≡ 512 → i < 8 → length (take 32 (drop (place_at i) b)) ≡ 32
  place_length i l h = length-take-le 32 (drop (place_at i) b) (omega (arith, length-drop (place_at i) b))

  pub place_unused : (n i at : ℕ) {x : Bool} → n ≤ i → at ≡ place_at i → x ≡ zero_between b at (at + 32) → x ≡ sound_place b n i
  unfolding sound_place
  place_unused n i at h e f = rw (le-ltb _ _ h, ← e) f

  pub place_used : (n i at size : ℕ) {z : Bool} → i < n → at ≡ place_at i → size ≡ get_or b at 0 → z ≡ zero_between b (at + 1 + size) (at + 32)
      → (leb 1 size && leb size 31 && z) ≡ sound_place b n i
  unfolding sound_place used_place
  place_used n i at size h e f g = rw (lt-ltb _ _ h, ← e, ← f, g)

  -- two places that are compared byte by byte
  pub place_other : (j i : ℕ) {p q : List ℕ} {x : Bool} → length b ≡ 512 → i < 8 → j < 8 → p ≡ take 32 (drop (place_at i) b) → q ≡ take 32 (drop (place_at j) b)
      → x ≡ same p q → not x ≡ other_place b j i
  unfolding other_place same alike_at same_byte
  place_other j i {p} {q} l hi hj e f g =
      let m : length p ≡ 32 = rw e (place_length i l (omega arith)) in
      let n : length q ≡ 32 = rw f (place_length j l hj) in
      rw (g, m, n, e, f)
      (ap not (all_alike _ (same_byte b (place_at i) (place_at j)) 32 (λ k h. rw (
        get_or-take 32 (drop (place_at i) b) k 0 h,
        get_or-take 32 (drop (place_at j) b) k 0 h,
        get_or-drop (place_at i) b k 0,
        get_or-drop (place_at j) b k 0,
      ))))

-- The tests of a header.
module _ (b : List ℕ) (h : Header) (c t n r w v : Bool) (s : ℕ) where
  pub header_all : h ≡ header_of b → c ≡ sound_counts h → s ≡ sum_words b 128 → t ≡ is_header h → n ≡ sound_numbers h → r ≡ sound_header_rest b h
      → w ≡ all_below (sound_place b h.networks) 8 → v ≡ all_below (new_place b h.networks) 8 → (c && eqb s 0 && t && n && r && w && v) ≡ sound_header b
  unfolding sound_header sound_networks
  header_all eh ec es et en er ew ev = grouped c (eqb s 0) t n r w v ∙ rw (ec, et, en, er, ew, ev, es, eh)
    where
      grouped : (c s t n r w v : Bool) → (c && s && t && n && r && w && v) ≡ (c && (s && t && n && r && (w && v)))
      grouped c s t n r w v = simp and_assoc
