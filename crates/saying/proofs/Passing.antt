-- A line ends behind its first LF: no other byte of it is one.
use Rattle.octets.specs.Standard.{ℕ, zero, suc, ◌+◌, ◌/◌, ◌%◌, ◌<◌, ◌≤◌, Bool, true, false, cond, ◌≡◌, refl, ◌∙◌, arith, add-one, eqb, ne_eqb}
use Rattle.octets.specs.Standard.{leb-true, leb, List, [], ◌∷◌, ◌++◌, append_assoc, length, length-append, drop}
use Rattle.octets.specs.Standard.{Option, none, some}
use Rattle.octets.specs.Standard.{ltb, ltb-true, ltb-false, length-drop, take, ◌-◌}
use Rattle.parsing.proofs.Fields.{part_end}
use Rattle.std.specs.Prelude.{None, Some}
use Rattle.std.specs.List.{position, position_or_len}
use Rattle.octets.proofs.All.{and_left, and_right}
use Rattle.decimals.specs.Decimal.{digit_count, digits_of, decimal}
use Rattle.quoting.specs.Quoted.{is_listed, listable, listed_byte, doubled, quoted}
use Rattle.rows.specs.Row.{Row, numbers_line, line_of}
use Rattle.rows.specs.RowIn.{row_in, row_size}
use Rattle.rows.proofs.Lines as line
use Rattle.importing.specs.Said.{place_of}
use Rattle.saying.specs.Passed.{line_size}

-- bytes behind which a line goes on
record Goes (a : List ℕ) : Type 0 where
  on : (t : List ℕ) → line_size (a ++ t) ≡ length a + line_size t

goes_none : Goes []
goes_none = record { on = λ t. omega arith }

goes_byte : (x : ℕ) (a : List ℕ) → (x ≡ 10 → ⊥) → Goes a → Goes (x ∷ a)
unfolding line_size
goes_byte x a h g = record { on = λ t. rw (ne_eqb x 10 h) (omega (arith, g.on t)) }

goes_append : (a b : List ℕ) → Goes a → Goes b → Goes (a ++ b)
goes_append a b g h = record { on = λ t. rw (append_assoc a b t) (omega (arith, g.on (b ++ t), h.on t, length-append a b)) }

-- a name in its quotes
goes_listed : (x : ℕ) → is_listed x ≡ true → Goes (listed_byte x)
goes_listed x e = go (eqb x 34)
  where
    least : 32 ≤ x
    least = leb-true 32 x (and_left (leb 32 x) (leb x 126) e)

    go : (c : Bool) → Goes (cond c (34 ∷ 34 ∷ []) (x ∷ []))
    go true = goes_byte 34 (34 ∷ []) (λ z. omega arith) (goes_byte 34 [] (λ z. omega arith) goes_none)
    go false = goes_byte x [] (λ z. omega (arith, least)) goes_none

goes_doubled : (s : List ℕ) → listable s ≡ true → Goes (doubled s)
unfolding listable doubled
goes_doubled [] e = goes_none
goes_doubled (x ∷ s) e =
    goes_append (listed_byte x) (doubled s) (goes_listed x (and_left (is_listed x) (listable s) e))
    (goes_doubled s (and_right (is_listed x) (listable s) e))

goes_quoted : (s : List ℕ) → listable s ≡ true → Goes (quoted s)
unfolding quoted
goes_quoted s e =
    goes_byte 34 (doubled s ++ (34 ∷ [])) (λ z. omega arith)
    (goes_append (doubled s) (34 ∷ []) (goes_doubled s e) (goes_byte 34 [] (λ z. omega arith) goes_none))

-- a number
goes_digits : (k n : ℕ) → Goes (digits_of k n)
unfolding digits_of
goes_digits zero n = goes_none
goes_digits (suc k) n =
    goes_append (digits_of k (n / 10)) ((48 + n % 10) ∷ []) (goes_digits k (n / 10)) (goes_byte (48 + n % 10) [] (λ z. omega arith) goes_none)

goes_decimal : (n : ℕ) → Goes (decimal n)
unfolding decimal
goes_decimal n = goes_digits (digit_count n) n

-- the whole line
numbers_end : (ns t : List ℕ) → line_size (numbers_line ns ++ t) ≡ length (numbers_line ns)
unfolding numbers_line line_size
numbers_end [] t = refl
numbers_end (n ∷ ns) t =
    let g : Goes (44 ∷ decimal n) = goes_byte 44 (decimal n) (λ z. omega arith) (goes_decimal n) in
    rw (append_assoc (decimal n) (numbers_line ns) t)
    (omega (arith, g.on (numbers_line ns ++ t), numbers_end ns t, length-append (decimal n) (numbers_line ns)))

line_end : (r : Row) (t : List ℕ) → line.Fitting r → line_size (line_of r ++ t) ≡ length (line_of r)
unfolding line_of
line_end r t f =
    let a : List ℕ = quoted r.public in
    let b : List ℕ = 44 ∷ quoted r.private in
    let c : List ℕ = 44 ∷ quoted r.server in
    let d : List ℕ = numbers_line r.numbers in
    let g : Goes a = goes_quoted r.public f.public in
    let h : Goes b = goes_byte 44 (quoted r.private) (λ z. omega arith) (goes_quoted r.private f.private) in
    let i : Goes c = goes_byte 44 (quoted r.server) (λ z. omega arith) (goes_quoted r.server f.server) in
    let w : (a ++ (b ++ (c ++ d))) ++ t ≡ a ++ (b ++ (c ++ (d ++ t))) = simp append_assoc in
    rw w
    (omega (
      arith,
      g.on (b ++ (c ++ (d ++ t))),
      h.on (c ++ (d ++ t)),
      i.on (d ++ t),
      numbers_end r.numbers t,
      length-append a (b ++ (c ++ d)),
      length-append b (c ++ d),
      length-append c d,
    ))

row_end : (s : List ℕ) (r : Row) → row_in s ≡ some r → line_size s ≡ length (line_of r)
row_end s r e =
    let p : line.ReadRow s r = line.written_read s r e in
    let t : List ℕ = drop (length (line_of r)) s in
    let f : s ≡ line_of r ++ t = p.front in
    let g : line_size (line_of r ++ t) ≡ length (line_of r) = line_end r t p.fitting in
    rw (← f) at g

-- The next line begins behind it, where there is a line.
pub place_past : (list : List ℕ) (n at : ℕ) {r : ℕ} → place_of list n < place_of list (n + 1) → at ≡ place_of list n → r ≡ at + line_size (drop at list)
    → r ≡ place_of list (n + 1)
unfolding place_of
place_past list n at {r} h p e = rw (add-one n) (go (row_in (drop (place_of list n) list)) refl (rw (add-one n) at h))
  where
    go : (o : Option Row) → row_in (drop (place_of list n) list) ≡ o → place_of list n < place_of list n + row_size o → r ≡ place_of list n + row_size o
    go none f l = absurd (omega arith)
    go (some x) f l = e ∙ rw (p, row_end (drop (place_of list n) list) x f)

-- The place of the first LF.
abbrev is_lf : ℕ → Bool
is_lf x = eqb x 10

unfoldable first_lf : List ℕ → ℕ
first_lf s = position_or_len is_lf s

lf_cons : (x : ℕ) (s : List ℕ) → first_lf (x ∷ s) ≡ cond (eqb x 10) 0 (1 + first_lf s)
unfolding first_lf
lf_cons x s = go (eqb x 10) refl
  where
    go : (b : Bool) → eqb x 10 ≡ b → position_or_len is_lf (x ∷ s) ≡ cond b 0 (1 + position_or_len is_lf s)
    go true e = rw e refl
    go false e = rw e refl

line_some : (s : List ℕ) → first_lf s < length s → line_size s ≡ suc (first_lf s)
unfolding line_size
line_some [] h = absurd (omega arith)
line_some (x ∷ s) h = go (eqb x 10) (first_lf (x ∷ s)) (lf_cons x s) h (line_some s)
  where
    go : (b : Bool) (p : ℕ) → p ≡ cond b 0 (1 + first_lf s) → p < suc (length s) → (first_lf s < length s → line_size s ≡ suc (first_lf s))
        → suc (cond b 0 (line_size s)) ≡ suc p
    go true p e l r = omega (arith, e)
    go false p e l r = omega (arith, e, r (omega (arith, e, l)))

line_none : (s : List ℕ) → length s ≤ first_lf s → line_size s ≡ length s
unfolding line_size
line_none [] h = refl
line_none (x ∷ s) h = go (eqb x 10) (first_lf (x ∷ s)) (lf_cons x s) h (line_none s)
  where
    go : (b : Bool) (p : ℕ) → p ≡ cond b 0 (1 + first_lf s) → suc (length s) ≤ p → (length s ≤ first_lf s → line_size s ≡ length s)
        → suc (cond b 0 (line_size s)) ≡ suc (length s)
    go true p e l r = absurd (omega (arith, e))
    go false p e l r = omega (arith, e, r (omega (arith, e, l)))

module _ (list : List ℕ) (at : ℕ) where
  pub part_lf : position is_lf (take (length list - at) (drop at list)) ≡ position is_lf (drop at list)
  part_lf = rw (part_end list at) refl

  pub past_found : (i : ℕ) → position is_lf (drop at list) ≡ Some i → (at + i + 1 ≡ at + line_size (drop at list)) × (at + i + 1 ≤ length list)
  unfolding first_lf
  past_found i e = go (ltb (first_lf (drop at list)) (length (drop at list))) refl e
    where
      go : (c : Bool) → ltb (first_lf (drop at list)) (length (drop at list)) ≡ c → cond c (Some (first_lf (drop at list))) None ≡ Some i
          → (at + i + 1 ≡ at + line_size (drop at list)) × (at + i + 1 ≤ length list)
      go true f g =
          let q : first_lf (drop at list) ≡ i = cc in
          let l : first_lf (drop at list) < length (drop at list) = ltb-true _ _ f in
          (omega (arith, line_some (drop at list) l), omega (arith, length-drop at list))
      go false f g = absurd cc

  pub past_none : at ≤ length list → position is_lf (drop at list) ≡ None → length list ≡ at + line_size (drop at list)
  unfolding first_lf
  past_none h e = go (ltb (first_lf (drop at list)) (length (drop at list))) refl e
    where
      go : (c : Bool) → ltb (first_lf (drop at list)) (length (drop at list)) ≡ c → cond c (Some (first_lf (drop at list))) None ≡ None
          → length list ≡ at + line_size (drop at list)
      go true f g = absurd cc
      go false f g =
          let l : length (drop at list) ≤ first_lf (drop at list) = ltb-false _ _ f in
          omega (arith, line_none (drop at list) l, length-drop at list)
