-- A line written: a number behind its comma, the numbers one by one, the names, all of it.
use Rattle.octets.specs.Standard.{ℕ, ◌+◌, ◌-◌, ◌*◌, ◌<◌, ◌≤◌, ◌≡◌, refl, ◌∙◌, ap, arith, add-one, List, [], ◌∷◌, ◌++◌, append_assoc, length}
use Rattle.octets.specs.Standard.{drop}
use Rattle.octets.specs.Standard.{get_or, length-append, length-take, length-drop, drop-cons, drop_of_length-le, mid_of, put_mid}
use Rattle.octets.specs.Run.{Wrote}
use Rattle.octets.proofs.Writes.{Going, going_more, going_end, then, lent, back, named}
use Rattle.record.specs.Fields.{public_of, private_of, server_of, public_size, private_size, server_size}
use Rattle.decimals.specs.Decimal.{decimal}
use Rattle.decimals.proofs.Sizes.{decimal_length, size_few}
use Rattle.quoting.specs.Quoted.{quoted}
use Rattle.quoting.proofs.Names.{doubled_most, quoted_length}
use Rattle.quoting.proofs.Writing.{going_room}
use Rattle.rows.specs.Row.{Row, numbers_of, row_of, numbers_line, line_of}
use Rattle.rows.specs.Written.{number_bytes, number_size, names_line, names_size}

pub wrote_number : (n : ℕ) {b xs ys : List ℕ} {r : ℕ} → Wrote (44 ∷ []) b xs 1 → Wrote (decimal n) (lent 1 xs) ys r
    → Wrote (number_bytes n) b (back 1 xs ys) (1 + r)
wrote_number n p q = then p q

-- Two parts, one behind the other: both have room.
module _ (x y b : List ℕ) (h : length (x ++ y) ≤ length b) where
  pub former_room : length x ≤ length b
  former_room = omega (arith, length-append x y)

  pub latter_room : {xs : List ℕ} {n : ℕ} → Wrote x b xs n → length xs ≡ length b → length y ≤ length (mid_of n (length xs - n) xs)
  latter_room w l = simp (length-take, length-drop) (omega (arith, w.count, length-append x y))

-- The turns of the loop over numbers, and the line's end behind them.
numbers_next : (ns : List ℕ) (i : ℕ) → i < length ns → numbers_line (drop i ns) ≡ number_bytes (get_or ns i 0) ++ numbers_line (drop (i + 1) ns)
unfolding numbers_line
numbers_next ns i h = rw (add-one i, drop-cons ns i 0 h)

module _ (b ns : List ℕ) (i : ℕ) {xs : List ℕ} {n : ℕ} (g : Going b xs n (numbers_line (drop i ns)) (numbers_line ns)) where
  module _ (h : i < length ns) where
    step : Going b xs n (number_bytes (get_or ns i 0) ++ numbers_line (drop (i + 1) ns)) (numbers_line ns)
    step = rw (numbers_next ns i h) at g

    pub turn_room : length (numbers_line ns) ≤ length b → length xs ≡ length b → number_size (get_or ns i 0) ≤ length (mid_of n (length xs - n) xs)
    turn_room l k =
        omega (arith, decimal_length (get_or ns i 0), going_room (number_bytes (get_or ns i 0)) (numbers_line (drop (i + 1) ns)) step l k)

    pub turn_more : {ys : List ℕ} {r : ℕ} → Wrote (number_bytes (get_or ns i 0)) (mid_of n (length xs - n) xs) ys r
        → Going b (put_mid n (length xs - n) xs ys) (n + r) (numbers_line (drop (i + 1) ns)) (numbers_line ns)
    turn_more w = going_more step w

  module _ (h : length ns ≤ i) where
    last : Going b xs n ((13 ∷ 10 ∷ []) ++ []) (numbers_line ns)
    unfolding numbers_line
    last = rw (drop_of_length-le ns {i = i} h) at g

    pub end_room : length (numbers_line ns) ≤ length b → length xs ≡ length b → 2 ≤ length (mid_of n (length xs - n) xs)
    end_room l k = going_room (13 ∷ 10 ∷ []) [] last l k

    pub end_within : length (numbers_line ns) ≤ length b → length xs ≡ length b → n + 2 ≤ length b
    end_within l k = let r = simp (length-take, length-drop) at (end_room l k) in omega (arith, r)

    pub turn_all : {ys : List ℕ} → Wrote (13 ∷ 10 ∷ []) (mid_of n (length xs - n) xs) ys 2 → Wrote (numbers_line ns) b (put_mid n (length xs - n) xs ys) (n + 2)
    turn_all w = going_end (going_more last w)

-- The names.
module _ (a b c : List ℕ) {o x1 x2 x3 x4 x5 : List ℕ} {m r s : ℕ} where
  pub wrote_names : Wrote (quoted a) o x1 m → Wrote (44 ∷ []) (lent m x1) x2 1 → Wrote (quoted b) (lent (m + 1) (back m x1 x2)) x3 r
      → Wrote (44 ∷ []) (lent (m + 1 + r) (back (m + 1) (back m x1 x2) x3)) x4 1
      → Wrote (quoted c) (lent (m + 1 + r + 1) (back (m + 1 + r) (back (m + 1) (back m x1 x2) x3) x4)) x5 s
      → Wrote (names_line a b c) o (back (m + 1 + r + 1) (back (m + 1 + r) (back (m + 1) (back m x1 x2) x3) x4) x5) (m + 1 + r + 1 + s)
  unfolding names_line
  wrote_names p1 p2 p3 p4 p5 =
      named
      (append_assoc (((quoted a ++ (44 ∷ [])) ++ quoted b)) (44 ∷ []) (quoted c) ∙ append_assoc (quoted a ++ (44 ∷ [])) (quoted b) (44 ∷ quoted c)
      ∙ append_assoc (quoted a) (44 ∷ []) (quoted b ++ (44 ∷ quoted c)))
      refl (then (then (then (then p1 p2) p3) p4) p5)

-- A line is its names and its numbers.
pub line_parts : (r : Row) → names_line r.public r.private r.server ++ numbers_line r.numbers ≡ line_of r
unfolding names_line line_of
line_parts r =
    append_assoc (quoted r.public) (44 ∷ (quoted r.private ++ (44 ∷ quoted r.server))) (numbers_line r.numbers)
    ∙ ap (λ (l : List ℕ). quoted r.public ++ (44 ∷ l)) (append_assoc (quoted r.private) (44 ∷ quoted r.server) (numbers_line r.numbers))

names_length : (a b c : List ℕ) → length (names_line a b c) ≡ names_size a b c
unfolding names_line
names_length a b c = simp length-append (omega (arith, quoted_length a, quoted_length b, quoted_length c))

-- the line of a record is its names and its numbers
module _ (b x y z o : List ℕ) (ex : x ≡ public_of b) (ey : y ≡ private_of b) (ez : z ≡ server_of b) where
  whole : (ns : List ℕ) → ns ≡ numbers_of b → names_line x y z ++ numbers_line ns ≡ line_of (row_of b)
  unfolding row_of
  whole ns e = rw (ex, ey, ez, e) (line_parts (row_of b))

  pub names_room : length (line_of (row_of b)) ≤ length o → names_size x y z ≤ length o
  names_room h = omega (arith, former_room (names_line x y z) (numbers_line (numbers_of b)) o (rw (whole _ refl) h), names_length x y z)

  module _ (ns : List ℕ) (e : ns ≡ numbers_of b) {xs : List ℕ} {n : ℕ} (w : Wrote (names_line x y z) o xs n) where
    pub numbers_room : length (line_of (row_of b)) ≤ length o → length xs ≡ length o → length (numbers_line ns) ≤ length (mid_of n (length xs - n) xs)
    numbers_room h l = latter_room (names_line x y z) (numbers_line ns) o (rw (whole ns e) h) w l

    pub wrote_line : {ys : List ℕ} {r : ℕ} → Wrote (numbers_line ns) (lent n xs) ys r → Wrote (line_of (row_of b)) o (back n xs ys) (n + r)
    wrote_line v = named (whole ns e) refl (then w v)

-- No line is longer than names of quotes and numbers of ten digits make it.
numbers_most : (ns : List ℕ) → length (numbers_line ns) ≤ 11 * length ns + 2
unfolding numbers_line
numbers_most [] = omega arith
numbers_most (n ∷ ns) = omega (arith, length-append (decimal n) (numbers_line ns), decimal_length n, size_few n, numbers_most ns)

pub line_short : (b : List ℕ) → public_size b ≤ 128 → private_size b ≤ 128 → server_size b ≤ 96 → length (line_of (row_of b)) ≤ 1024
unfolding row_of numbers_of public_of private_of server_of
line_short b h i j =
    let p : length (public_of b) ≤ 128 = simp length-take (omega arith) in
    let q : length (private_of b) ≤ 128 = simp length-take (omega arith) in
    let r : length (server_of b) ≤ 96 = simp length-take (omega arith) in
    omega (
      arith,
      ap length (line_parts (row_of b)),
      length-append (names_line (public_of b) (private_of b) (server_of b)) (numbers_line (numbers_of b)),
      names_length (public_of b) (private_of b) (server_of b),
      doubled_most (public_of b),
      doubled_most (private_of b),
      doubled_most (server_of b),
      numbers_most (numbers_of b),
    )
