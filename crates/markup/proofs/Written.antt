-- A name is escaped byte by byte.
use Rattle.octets.specs.Standard.{ℕ, ◌+◌, ◌-◌, ◌≤◌, ◌<◌, ◌≡◌, refl, ap, List, [], ◌∷◌, ◌++◌, arith, add-one, length, get_or, drop, length-append, length-take}
use Rattle.octets.specs.Standard.{length-drop, set, drop-cons, drop_of_length-le, ne_eqb, mid_of, put_mid}
use Rattle.octets.specs.Run.{Wrote}
use Rattle.octets.proofs.Writes.{Going, going_more, going_end, over_sets}
use Rattle.markup.specs.Escapes.{escapes, escape_by, escape_of, escaped}
use Rattle.markup.proofs.Escaping.{escape_other, escape_least}

-- One byte: what is sent for it, the room that this takes, and that it was written.
module _ (x : ℕ) (w : List ℕ) (is : escape_of x ≡ w) where
  room_of : {m : ℕ} → length (escape_of x) ≤ m → length w ≤ m
  room_of h = rw is at h

  wrote_of : {b xs : List ℕ} {r : ℕ} → Wrote w b xs r → Wrote (escape_of x) b xs r
  wrote_of p = rw is p

sent_ampersand : (x : ℕ) → x ≡ 0x26 → escape_of x ≡ 0x26 ∷ 0x61 ∷ 0x6D ∷ 0x70 ∷ 0x3B ∷ []
unfolding escape_of escape_by escapes
sent_ampersand x e = rw e

sent_less : (x : ℕ) → x ≡ 0x3C → escape_of x ≡ 0x26 ∷ 0x6C ∷ 0x74 ∷ 0x3B ∷ []
unfolding escape_of escape_by escapes
sent_less x e = rw e

sent_greater : (x : ℕ) → x ≡ 0x3E → escape_of x ≡ 0x26 ∷ 0x67 ∷ 0x74 ∷ 0x3B ∷ []
unfolding escape_of escape_by escapes
sent_greater x e = rw e

sent_quote : (x : ℕ) → x ≡ 0x22 → escape_of x ≡ 0x26 ∷ 0x71 ∷ 0x75 ∷ 0x6F ∷ 0x74 ∷ 0x3B ∷ []
unfolding escape_of escape_by escapes
sent_quote x e = rw e

sent_apostrophe : (x : ℕ) → x ≡ 0x27 → escape_of x ≡ 0x26 ∷ 0x61 ∷ 0x70 ∷ 0x6F ∷ 0x73 ∷ 0x3B ∷ []
unfolding escape_of escape_by escapes
sent_apostrophe x e = rw e

other_byte : (x : ℕ) → (x ≡ 0x26 → ⊥) → (x ≡ 0x3C → ⊥) → (x ≡ 0x3E → ⊥) → (x ≡ 0x22 → ⊥) → (x ≡ 0x27 → ⊥) → escape_of x ≡ x ∷ []
other_byte x p q r s t =
    escape_other x
    (record { ampersand = ne_eqb x 0x26 p; less = ne_eqb x 0x3C q; greater = ne_eqb x 0x3E r; quote = ne_eqb x 0x22 s; apostrophe = ne_eqb x 0x27 t })

module _ (x : ℕ) {m : ℕ} (h : length (escape_of x) ≤ m) where
  pub room_ampersand : x ≡ 0x26 → 5 ≤ m
  room_ampersand e = room_of x _ (sent_ampersand x e) h

  pub room_less : x ≡ 0x3C → 4 ≤ m
  room_less e = room_of x _ (sent_less x e) h

  pub room_greater : x ≡ 0x3E → 4 ≤ m
  room_greater e = room_of x _ (sent_greater x e) h

  pub room_quote : x ≡ 0x22 → 6 ≤ m
  room_quote e = room_of x _ (sent_quote x e) h

  pub room_apostrophe : x ≡ 0x27 → 6 ≤ m
  room_apostrophe e = room_of x _ (sent_apostrophe x e) h

  pub room_other : 1 ≤ m
  room_other = omega (arith, escape_least x)

module _ (x : ℕ) {b xs : List ℕ} {r : ℕ} where
  pub wrote_ampersand : x ≡ 0x26 → Wrote (0x26 ∷ 0x61 ∷ 0x6D ∷ 0x70 ∷ 0x3B ∷ []) b xs r → Wrote (escape_of x) b xs r
  wrote_ampersand e p = wrote_of x _ (sent_ampersand x e) p

  pub wrote_less : x ≡ 0x3C → Wrote (0x26 ∷ 0x6C ∷ 0x74 ∷ 0x3B ∷ []) b xs r → Wrote (escape_of x) b xs r
  wrote_less e p = wrote_of x _ (sent_less x e) p

  pub wrote_greater : x ≡ 0x3E → Wrote (0x26 ∷ 0x67 ∷ 0x74 ∷ 0x3B ∷ []) b xs r → Wrote (escape_of x) b xs r
  wrote_greater e p = wrote_of x _ (sent_greater x e) p

  pub wrote_quote : x ≡ 0x22 → Wrote (0x26 ∷ 0x71 ∷ 0x75 ∷ 0x6F ∷ 0x74 ∷ 0x3B ∷ []) b xs r → Wrote (escape_of x) b xs r
  wrote_quote e p = wrote_of x _ (sent_quote x e) p

  pub wrote_apostrophe : x ≡ 0x27 → Wrote (0x26 ∷ 0x61 ∷ 0x70 ∷ 0x6F ∷ 0x73 ∷ 0x3B ∷ []) b xs r → Wrote (escape_of x) b xs r
  wrote_apostrophe e p = wrote_of x _ (sent_apostrophe x e) p

  pub wrote_other : (x ≡ 0x26 → ⊥) → (x ≡ 0x3C → ⊥) → (x ≡ 0x3E → ⊥) → (x ≡ 0x22 → ⊥) → (x ≡ 0x27 → ⊥) → Wrote (x ∷ []) b xs r → Wrote (escape_of x) b xs r
  wrote_other p q s t u w = wrote_of x _ (other_byte x p q s t u) w

pub wrote_one : (x : ℕ) (b : List ℕ) → 1 ≤ length b → Wrote (x ∷ []) b (set b 0 x) 1
wrote_one x b h = record { count = refl; bytes = over_sets (x ∷ []) b h }

-- What is done of a text is no longer than the text.
going_within : {b xs rest all : List ℕ} {n m : ℕ} → Going b xs n rest all → length all ≤ m → n ≤ m
going_within {rest = rest} {all = all} g h =
    let w : length (g.done ++ rest) ≡ length all = ap length g.whole in
    omega (arith, g.wrote.count, simp length-append at w)

-- The turns of the loop over the bytes.
module _ (n : List ℕ) (i : ℕ) {b xs all : List ℕ} {at : ℕ} where
  pub escaped_end : length n ≤ i → Going b xs at (escaped (drop i n)) all → Wrote all b xs at
  unfolding escaped
  escaped_end h g = going_end (rw (drop_of_length-le n {i = i} h) at g)

  module _ (h : i < length n) (g : Going b xs at (escaped (drop i n)) all) where
    step : Going b xs at (escape_of (get_or n i 0) ++ escaped (drop (i + 1) n)) all
    unfolding escaped
    step = rw (add-one i) (rw (drop-cons n i 0 h) at g)

    pub escape_room : length all ≤ length b → length xs ≡ length b → length (escape_of (get_or n i 0)) ≤ length (mid_of at (length xs - at) xs)
    escape_room k e =
        let t = step in
        let w : length (t.done ++ (escape_of (get_or n i 0) ++ escaped (drop (i + 1) n))) ≡ length all = ap length t.whole in
        let c : at ≡ length t.done = t.wrote.count in
        simp (length-take, length-drop) (omega (arith, simp length-append at w))

    pub escaped_more : {ys : List ℕ} {r : ℕ} → Wrote (escape_of (get_or n i 0)) (mid_of at (length xs - at) xs) ys r
        → Going b (put_mid at (length xs - at) xs ys) (at + r) (escaped (drop (i + 1) n)) all
    escaped_more w = going_more step w

    pub escaped_within : {ys : List ℕ} {r : ℕ} → length all ≤ length b → Wrote (escape_of (get_or n i 0)) (mid_of at (length xs - at) xs) ys r → at + r ≤ length b
    escaped_within k w = going_within (escaped_more w) k
