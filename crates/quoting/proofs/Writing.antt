-- A name written byte by byte, with its quotes around it; its bytes copied back.
use Rattle.octets.specs.Standard.{ℕ, suc, ◌+◌, ◌-◌, ◌<◌, ◌≤◌, ◌≡◌, refl, sym, ◌∙◌, ap, arith}
use Rattle.octets.specs.Standard.{eqb, eqb-true, replicate, take, cond, Bool, true, false, List, [], ◌∷◌, ◌++◌, append_assoc, append-nil, length, drop, get_or, set, length-append}
use Rattle.octets.specs.Standard.{length-take, length-drop, drop-drop, drop_of_length-le, get_or-drop, mid_of, put_mid}
use Rattle.octets.specs.Run.{Wrote, over}
use Rattle.octets.proofs.Writes.{over_filled, Going, going_none, going_more, going_end, over_snoc, then, lent, back, named}
use Rattle.quoting.specs.Quoted.{listed_byte, width, doubled, quoted, quoted_size, taken}
use Rattle.quoting.proofs.Names.{doubled_next, byte_width}

-- What is still to be written has room, and so has its first part.
pub going_room : {b xs all : List ℕ} {n : ℕ} (v rest : List ℕ) → Going b xs n (v ++ rest) all → length all ≤ length b → length xs ≡ length b
    → length v ≤ length (mid_of n (length xs - n) xs)
going_room {b} {xs} {all} {n} v rest g h k =
    let w : length (g.done ++ (v ++ rest)) ≡ length all = ap length g.whole in
    let c : n ≡ length g.done = g.wrote.count in
    simp (length-take, length-drop) (omega (arith, simp length-append at w))

-- One byte, which may be a quote: as often as it is wide.
pub byte_filled : (x : ℕ) → replicate (width x) x ≡ listed_byte x
byte_filled x = go (eqb x 34) refl
  where
    go : (c : Bool) → eqb x 34 ≡ c → replicate (cond c 2 1) x ≡ cond c (34 ∷ 34 ∷ []) (x ∷ [])
    go true e = let q : x ≡ 34 = eqb-true x 34 e in rw q
    go false e = refl

module _ (x : ℕ) (b : List ℕ) (room : length (listed_byte x) ≤ length b) (n : ℕ) (wide : n ≡ width x) where
  pub byte_room : n ≤ length b
  byte_room = omega (arith, byte_width x)

  pub byte_wrote : {y : List ℕ} → y ≡ replicate (length (take n b)) x → Wrote (listed_byte x) b (y ++ drop n b) n
  byte_wrote e = named (ap (λ (k : ℕ). replicate k x) wide ∙ byte_filled x) refl (over_filled b n x byte_room e)

-- The turns of the loop over a name.
module _ (b name : List ℕ) where
  module _ (i : ℕ) {xs : List ℕ} {n : ℕ} (h : i < length name) (g : Going b xs n (doubled (drop i name)) (doubled name)) where
    step : Going b xs n (listed_byte (get_or name i 0) ++ doubled (drop (i + 1) name)) (doubled name)
    step = rw (doubled_next name i h) at g

    pub turn_room : length (doubled name) ≤ length b → length xs ≡ length b → length (listed_byte (get_or name i 0)) ≤ length (mid_of n (length xs - n) xs)
    turn_room l k = going_room (listed_byte (get_or name i 0)) (doubled (drop (i + 1) name)) step l k

    pub turn_more : {ys : List ℕ} {r : ℕ} → Wrote (listed_byte (get_or name i 0)) (mid_of n (length xs - n) xs) ys r
        → Going b (put_mid n (length xs - n) xs ys) (n + r) (doubled (drop (i + 1) name)) (doubled name)
    turn_more w = going_more step w

  pub turn_all : (i : ℕ) {xs : List ℕ} {n : ℕ} → length name ≤ i → Going b xs n (doubled (drop i name)) (doubled name) → Wrote (doubled name) b xs n
  unfolding doubled
  turn_all i h g = going_end (rw (drop_of_length-le name {i = i} h) at g)

-- The quotes around it.
pub wrote_closed : (name : List ℕ) {b xs ys : List ℕ} {n : ℕ} → Wrote (doubled name) b xs n → Wrote (34 ∷ []) (lent n xs) ys 1
    → Wrote (doubled name ++ (34 ∷ [])) b (back n xs ys) (n + 1)
wrote_closed name p q = then p q

module _ (name : List ℕ) {b xs ys : List ℕ} {n : ℕ} (p : Wrote (34 ∷ []) b xs 1) (q : Wrote (doubled name ++ (34 ∷ [])) (lent 1 xs) ys n) where
  pub wrote_size : 1 + n ≡ quoted_size name
  wrote_size = omega (arith, q.count, length-append (doubled name) (34 ∷ []))

  pub wrote_quoted : Wrote (quoted name) b (back 1 xs ys) (1 + n)
  unfolding quoted
  wrote_quoted = then p q

-- A name copied out of the list: the turns of that loop.
module _ (b s : List ℕ) (n : ℕ) where
  pub taken_none : Going b b 0 (taken (n - 0) (drop 0 s)) (taken n s)
  taken_none = let e : n - 0 ≡ n = omega arith in rw e (going_none b (taken n s))

  pub taken_more : (i j x w : ℕ) {xs : List ℕ} → j < n → length xs ≡ length b → n ≤ length b → x ≡ get_or s i 0 → w ≡ width x
      → Going b xs j (taken (n - j) (drop i s)) (taken n s) → Going b (set xs j x) (j + 1) (taken (n - (j + 1)) (drop (i + w) s)) (taken n s)
  unfolding taken
  taken_more i j x w {xs} h l r e f g =
      let m : n - j ≡ suc (n - (j + 1)) = omega arith in
      let z : i + 0 ≡ i = omega arith in
      let a : get_or (drop i s) 0 0 ≡ x = get_or-drop i s 0 0 ∙ ap (λ (k : ℕ). get_or s k 0) z ∙ sym e in
      let rest : List ℕ = taken (n - (j + 1)) (drop (i + w) s) in
      let t : taken (n - j) (drop i s) ≡ x ∷ rest = (rw (m, a, ← f, drop-drop w i s)) in
      let whole : g.done ++ (x ∷ rest) ≡ taken n s = rw t at g.whole in
      record {
        done = g.done ++ (x ∷ []);
        wrote = record {
          count = omega (arith, g.wrote.count, length-append g.done (x ∷ []));
          bytes = ap (λ (y : List ℕ). set y j x) g.wrote.bytes ∙ over_snoc g.done b j x (sym g.wrote.count) (omega arith);
        };
        whole = append_assoc g.done (x ∷ []) rest ∙ whole;
      }

-- all of them, in the front of a longer buffer
pub taken_all : (out s : List ℕ) (n i j : ℕ) {xs : List ℕ} → n ≤ length out → length (take n out) ≡ n → n ≤ j → j ≤ n
    → Going (take n out) xs j (taken (n - j) (drop i s)) (taken n s) → Wrote (taken n s) out (xs ++ drop n out) n
unfolding taken over
taken_all out s n i j {xs} room l h k g =
    let m : n - j ≡ 0 = omega arith in
    let w : Wrote (taken n s) (take n out) xs j = going_end (rw m at g) in
    let c : length (taken n s) ≡ n = omega (arith, w.count) in
    let e : xs ≡ taken n s = w.bytes ∙ rw (drop_of_length-le (take n out) {i = length (taken n s)} (omega (arith, c, l)), append-nil) in
    record { count = sym c; bytes = rw (e, c) }
