-- A row's line: what was written is read, and what is read is what is written.
use Rattle.octets.specs.Standard.{ℕ, ◌+◌, ◌^◌, ◌<◌, ◌≤◌, Bool, true, false, ◌&&◌, cond, ◌≡◌, refl, sym, ◌∙◌, ap, arith, eqb, leb, eqb-true}
use Rattle.octets.specs.Standard.{leb-true, le-leb, some-injective, List, [], ◌∷◌, ◌++◌, append_assoc, length, drop, get_or, drop_at, drop-drop, Option}
use Rattle.octets.specs.Standard.{none, some}
use Rattle.octets.proofs.All.{and_left, and_right}
use Rattle.decimals.specs.Decimal.{digit_count, decimal, is_digit, number_in}
use Rattle.decimals.proofs.Sizes.{decimal_length}
use Rattle.decimals.proofs.Reading as number
use Rattle.quoting.specs.Quoted.{listable, quoted, quoted_size, name_in}
use Rattle.quoting.proofs.Names.{quoted_length}
use Rattle.quoting.proofs.Reading as name
use Rattle.rows.specs.Row.{Row, numbers_line, line_of}
use Rattle.rows.specs.RowIn.{and_then, name_after, number_after, ends_line, numbers_in, limits, second_at, third_at, numbers_at, row_in}

-- Each number is at most so great, and 32 bits hold it.
unfoldable pub fits : List ℕ → List ℕ → Bool
fits [] [] = true
fits [] (n ∷ ns) = false
fits (m ∷ ms) [] = false
fits (m ∷ ms) (n ∷ ns) = leb n m && leb m 4294967295 && fits ms ns

-- none of the limits is greater than 32 bits hold
unfoldable pub small : List ℕ → Bool
small [] = true
small (m ∷ ms) = leb m 4294967295 && small ms

-- What stands behind a byte and some bytes.
behind : (x : ℕ) (w t : List ℕ) (n : ℕ) → length w ≡ n → drop (1 + n) (x ∷ (w ++ t)) ≡ t
behind x w t n e = sym (drop-drop n 1 (x ∷ (w ++ t))) ∙ drop_at w t n e

-- A line goes on with no digit and no quote behind a field.
no_digit : (ns rest : List ℕ) → is_digit (get_or (numbers_line ns ++ rest) 0 0) ≡ false
unfolding numbers_line
no_digit [] rest = refl
no_digit (n ∷ ns) rest = refl

no_quote : (ns rest : List ℕ) → eqb (get_or (numbers_line ns ++ rest) 0 0) 34 ≡ false
unfolding numbers_line
no_quote [] rest = refl
no_quote (n ∷ ns) rest = refl

-- The numbers.
numbers_written : (ms ns rest : List ℕ) → fits ms ns ≡ true → numbers_in ms (numbers_line ns ++ rest) ≡ some ns
unfolding fits numbers_line numbers_in number_after
numbers_written [] [] rest e = refl
numbers_written [] (n ∷ ns) rest e = let z : ◌≡◌ {A = ℕ} 0 1 = cc in absurd (omega arith)
numbers_written (m ∷ ms) [] rest e = let z : ◌≡◌ {A = ℕ} 0 1 = cc in absurd (omega arith)
numbers_written (m ∷ ms) (n ∷ ns) rest e =
    let two : (leb n m && leb m 4294967295) ≡ true = and_left (leb n m && leb m 4294967295) (fits ms ns) e in
    let l : n ≤ m = leb-true n m (and_left (leb n m) (leb m 4294967295) two) in
    let h : m ≤ 4294967295 = leb-true m 4294967295 (and_right (leb n m) (leb m 4294967295) two) in
    let k : n < 10 ^ 10 = omega arith in
    let t : List ℕ = numbers_line ns ++ rest in
    let read : number_in m (decimal n ++ t) ≡ some n = number.read_written m n t l k (no_digit ns rest) in
    rw (
      append_assoc (decimal n) (numbers_line ns) rest,
      read,
      behind 44 (decimal n) t (digit_count n) (decimal_length n),
      numbers_written ms ns rest (and_right (leb n m && leb m 4294967295) (fits ms ns) e),
    )

pub record ReadNumbers (ms s ns : List ℕ) : Type 0 where
  pub within : fits ms ns ≡ true
  pub rest : List ℕ
  pub whole : s ≡ numbers_line ns ++ rest

-- a byte that stands at the front of a list, and two
first_byte : (s : List ℕ) (x : ℕ) → 0 < x → eqb (get_or s 0 0) x ≡ true → s ≡ x ∷ drop 1 s
first_byte [] x h e = let z : 0 ≡ x = eqb-true 0 x e in absurd (omega arith)
first_byte (y ∷ s) x h e = let q : y ≡ x = eqb-true y x e in rw q

end_bytes_lem : (s : List ℕ) → ends_line s ≡ true → s ≡ 13 ∷ 10 ∷ drop 2 s
end_bytes_lem [] e = let z : ◌≡◌ {A = ℕ} 0 1 = cc in absurd (omega arith)
end_bytes_lem (x ∷ []) e = let z : ◌≡◌ {A = ℕ} 0 10 = eqb-true 0 10 (and_right (eqb x 13) (eqb 0 10) e) in absurd (omega arith)
end_bytes_lem (x ∷ y ∷ s) e =
    let p : x ≡ 13 = eqb-true x 13 (and_left (eqb x 13) (eqb y 10) e) in
    let q : y ≡ 10 = eqb-true y 10 (and_right (eqb x 13) (eqb y 10) e) in
    rw (p, q)

-- a number behind a comma, and what stands behind it
number_after_lem : (m : ℕ) (s : List ℕ) (v : ℕ) → number_after m s ≡ some v → (v ≤ m) × (s ≡ 44 ∷ (decimal v ++ drop (1 + digit_count v) s))
unfolding number_after
number_after_lem m s v e = go (eqb (get_or s 0 0) 44) refl e
  where
    go : (c : Bool) → eqb (get_or s 0 0) 44 ≡ c → cond c (number_in m (drop 1 s)) none ≡ some v
        → (v ≤ m) × (s ≡ 44 ∷ (decimal v ++ drop (1 + digit_count v) s))
    go false f g = let z : ◌≡◌ {A = ℕ} 0 1 = cc in absurd (omega arith)
    go true f g =
        let p = number.written_read m (drop 1 s) v g in
        (p.within, first_byte s 44 (omega arith) f ∙ ap (λ (l : List ℕ). 44 ∷ l) (p.front ∙ rw (drop-drop (digit_count v) 1 s)))

pub name_after_lem : (m : ℕ) (s v : List ℕ) → name_after m s ≡ some v
    → (listable v ≡ true) × (length v ≤ m) × (s ≡ 44 ∷ (quoted v ++ drop (1 + quoted_size v) s))
unfolding name_after
name_after_lem m s v e = go (eqb (get_or s 0 0) 44) refl e
  where
    go : (c : Bool) → eqb (get_or s 0 0) 44 ≡ c → cond c (name_in m (drop 1 s)) none ≡ some v
        → (listable v ≡ true) × (length v ≤ m) × (s ≡ 44 ∷ (quoted v ++ drop (1 + quoted_size v) s))
    go false f g = let z : ◌≡◌ {A = ℕ} 0 1 = cc in absurd (omega arith)
    go true f g =
        let p = name.written_read m (drop 1 s) v g in
        (p.named, p.within, first_byte s 44 (omega arith) f ∙ ap (λ (l : List ℕ). 44 ∷ l) (p.front ∙ rw (drop-drop (quoted_size v) 1 s)))

pub numbers_read : (ms s ns : List ℕ) → small ms ≡ true → numbers_in ms s ≡ some ns → ReadNumbers ms s ns
unfolding small fits numbers_line numbers_in
numbers_read [] s ns t e = go (ends_line s) refl e
  where
    go : (c : Bool) → ends_line s ≡ c → cond c (some []) none ≡ some ns → ReadNumbers [] s ns
    go false f g = let z : ◌≡◌ {A = ℕ} 0 1 = cc in absurd (omega arith)
    go true f g = let n : ns ≡ [] = cc in rw n (record { within = refl; rest = drop 2 s; whole = end_bytes_lem s f })
numbers_read (m ∷ ms) s ns t e =
    one (number_after m s) refl e (λ v vs. numbers_read ms (drop (1 + digit_count v) s) vs (and_right (leb m 4294967295) (small ms) t))
  where
    more : (v : ℕ) → number_after m s ≡ some v → (o : Option (List ℕ)) → numbers_in ms (drop (1 + digit_count v) s) ≡ o
        → and_then o (λ (vs : List ℕ). some (v ∷ vs)) ≡ some ns
        → ((vs : List ℕ) → numbers_in ms (drop (1 + digit_count v) s) ≡ some vs → ReadNumbers ms (drop (1 + digit_count v) s) vs)
        → ReadNumbers (m ∷ ms) s ns
    more v f none g h r = let z : ◌≡◌ {A = ℕ} 0 1 = cc in absurd (omega arith)
    more v f (some vs) g h r =
        let n : ns ≡ v ∷ vs = cc in
        let p = number_after_lem m s v f in
        let q : ReadNumbers ms (drop (1 + digit_count v) s) vs = r vs g in
        rw n (record {
          within = rw (le-leb v m p.0, and_left (leb m 4294967295) (small ms) t) q.within;
          rest = q.rest;
          whole = p.1
              ∙ ap (λ (l : List ℕ). 44 ∷ l) (ap (λ (l : List ℕ). decimal v ++ l) q.whole ∙ sym (append_assoc (decimal v) (numbers_line vs) q.rest));
        })

    one : (o : Option ℕ) → number_after m s ≡ o
        → and_then o (λ (v : ℕ). and_then (numbers_in ms (drop (1 + digit_count v) s)) (λ (vs : List ℕ). some (v ∷ vs))) ≡ some ns
        → ((v : ℕ) (vs : List ℕ) → numbers_in ms (drop (1 + digit_count v) s) ≡ some vs → ReadNumbers ms (drop (1 + digit_count v) s) vs)
        → ReadNumbers (m ∷ ms) s ns
    one none f g r = let z : ◌≡◌ {A = ℕ} 0 1 = cc in absurd (omega arith)
    one (some v) f g r = more v f (numbers_in ms (drop (1 + digit_count v) s)) refl g (r v)

-- A row that a line can have.
pub record Fitting (r : Row) : Type 0 where
  pub public : listable r.public ≡ true
  pub private : listable r.private ≡ true
  pub server : listable r.server ≡ true
  pub public_size_lem : length r.public ≤ 128
  pub private_size_lem : length r.private ≤ 128
  pub server_size_lem : length r.server ≤ 96
  pub numbers : fits limits r.numbers ≡ true

-- What was written is read.
pub read_written : (r : Row) (rest : List ℕ) → Fitting r → row_in (line_of r ++ rest) ≡ some r
unfolding row_in name_after line_of
read_written r rest f =
    let a : List ℕ = r.public in
    let b : List ℕ = r.private in
    let c : List ℕ = r.server in
    let t3 : List ℕ = numbers_line r.numbers ++ rest in
    let t2 : List ℕ = 44 ∷ (quoted c ++ t3) in
    let t1 : List ℕ = 44 ∷ (quoted b ++ t2) in
    let s : List ℕ = quoted a ++ t1 in
    let whole : line_of r ++ rest ≡ s =
    (rw (
      append_assoc (quoted a) (44 ∷ (quoted b ++ (44 ∷ (quoted c ++ numbers_line r.numbers)))) rest,
      append_assoc (quoted b) (44 ∷ (quoted c ++ numbers_line r.numbers)) rest,
      append_assoc (quoted c) (numbers_line r.numbers) rest,
    )) in
    let n1 : name_in 128 s ≡ some a = name.read_written 128 a t1 f.public f.public_size_lem refl in
    let d1 : drop (second_at a) s ≡ t1 = drop_at (quoted a) t1 (quoted_size a) (quoted_length a) in
    let n2 : name_in 128 (quoted b ++ t2) ≡ some b = name.read_written 128 b t2 f.private f.private_size_lem refl in
    let d2 : drop (third_at a b) s ≡ t2 =
    sym (drop-drop (1 + quoted_size b) (quoted_size a) s) ∙ ap (drop (1 + quoted_size b)) d1 ∙ behind 44 (quoted b) t2 (quoted_size b) (quoted_length b) in
    let n3 : name_in 96 (quoted c ++ t3) ≡ some c = name.read_written 96 c t3 f.server f.server_size_lem (no_quote r.numbers rest) in
    let d3 : drop (numbers_at a b c) s ≡ t3 =
    sym (drop-drop (1 + quoted_size c) (third_at a b) s) ∙ ap (drop (1 + quoted_size c)) d2 ∙ behind 44 (quoted c) t3 (quoted_size c) (quoted_length c) in
    let n4 : numbers_in limits t3 ≡ some r.numbers = numbers_written limits r.numbers rest f.numbers in
    rw (whole, n1, d1, n2, d2, n3, d3, n4)

-- What is read is what is written.
pub record ReadRow (s : List ℕ) (r : Row) : Type 0 where
  pub fitting : Fitting r
  pub front : s ≡ line_of r ++ drop (length (line_of r)) s

pub written_read : (s : List ℕ) (r : Row) → row_in s ≡ some r → ReadRow s r
unfolding row_in line_of small
written_read s r e = first (name_in 128 s) refl e
  where
    last : (a b c ns : List ℕ) → name_in 128 s ≡ some a → name_after 128 (drop (second_at a) s) ≡ some b → name_after 96 (drop (third_at a b) s) ≡ some c
        → numbers_in limits (drop (numbers_at a b c) s) ≡ some ns → record { public = a; private = b; server = c; numbers = ns } ≡ r → ReadRow s r
    last a b c ns p1 p2 p3 p4 is =
        let q1 = name.written_read 128 s a p1 in
        let q2 = name_after_lem 128 (drop (second_at a) s) b p2 in
        let q3 = name_after_lem 96 (drop (third_at a b) s) c p3 in
        let q4 = numbers_read limits (drop (numbers_at a b c) s) ns refl p4 in
        let row : Row = record { public = a; private = b; server = c; numbers = ns } in
        let d2 : drop (1 + quoted_size b) (drop (second_at a) s) ≡ drop (third_at a b) s = drop-drop (1 + quoted_size b) (quoted_size a) s in
        let d3 : drop (1 + quoted_size c) (drop (third_at a b) s) ≡ drop (numbers_at a b c) s = drop-drop (1 + quoted_size c) (third_at a b) s in
        let w3 : drop (third_at a b) s ≡ 44 ∷ (quoted c ++ (numbers_line ns ++ q4.rest)) =
        q3.2 ∙ ap (λ (l : List ℕ). 44 ∷ (quoted c ++ l)) (d3 ∙ q4.whole) in
        let w2 : drop (second_at a) s ≡ 44 ∷ (quoted b ++ (44 ∷ (quoted c ++ (numbers_line ns ++ q4.rest)))) =
        q2.2 ∙ ap (λ (l : List ℕ). 44 ∷ (quoted b ++ l)) (d2 ∙ w3) in
        let w1 : s ≡ quoted a ++ (44 ∷ (quoted b ++ (44 ∷ (quoted c ++ (numbers_line ns ++ q4.rest))))) =
        q1.front ∙ ap (λ (l : List ℕ). quoted a ++ l) w2 in
        let whole : s ≡ line_of row ++ q4.rest =
        w1
        ∙ sym
        (rw (
          append_assoc (quoted a) (44 ∷ (quoted b ++ (44 ∷ (quoted c ++ numbers_line ns)))) q4.rest,
          append_assoc (quoted b) (44 ∷ (quoted c ++ numbers_line ns)) q4.rest,
          append_assoc (quoted c) (numbers_line ns) q4.rest,
        )) in
        let end : drop (length (line_of row)) s ≡ q4.rest =
        ap (drop (length (line_of row))) whole ∙ drop_at (line_of row) q4.rest (length (line_of row)) refl in
        rw (← is) (record {
          fitting = record {
            public = q1.named;
            private = q2.0;
            server = q3.0;
            public_size_lem = q1.within;
            private_size_lem = q2.1;
            server_size_lem = q3.1;
            numbers = q4.within;
          };
          front = whole ∙ ap (λ (l : List ℕ). line_of row ++ l) (sym end);
        })

    fourth : (a b c : List ℕ) → name_in 128 s ≡ some a → name_after 128 (drop (second_at a) s) ≡ some b → name_after 96 (drop (third_at a b) s) ≡ some c
        → (o : Option (List ℕ)) → numbers_in limits (drop (numbers_at a b c) s) ≡ o
        → and_then o (λ (ns : List ℕ). some (record { public = a; private = b; server = c; numbers = ns })) ≡ some r → ReadRow s r
    fourth a b c p1 p2 p3 none p4 g = let z : ◌≡◌ {A = ℕ} 0 1 = cc in absurd (omega arith)
    fourth a b c p1 p2 p3 (some ns) p4 g = last a b c ns p1 p2 p3 p4 (some-injective _ _ g)

    third : (a b : List ℕ) → name_in 128 s ≡ some a → name_after 128 (drop (second_at a) s) ≡ some b
        → (o : Option (List ℕ)) → name_after 96 (drop (third_at a b) s) ≡ o
        → and_then o (λ (c : List ℕ). and_then (numbers_in limits (drop (numbers_at a b c) s)) (λ (ns : List ℕ).
        some (record { public = a; private = b; server = c; numbers = ns }))) ≡ some r → ReadRow s r
    third a b p1 p2 none p3 g = let z : ◌≡◌ {A = ℕ} 0 1 = cc in absurd (omega arith)
    third a b p1 p2 (some c) p3 g = fourth a b c p1 p2 p3 (numbers_in limits (drop (numbers_at a b c) s)) refl g

    second : (a : List ℕ) → name_in 128 s ≡ some a → (o : Option (List ℕ)) → name_after 128 (drop (second_at a) s) ≡ o
        → and_then o
        (λ (b : List ℕ). and_then (name_after 96 (drop (third_at a b) s)) (λ (c : List ℕ). and_then (numbers_in limits (drop (numbers_at a b c) s)) (λ (ns : List ℕ).
        some (record { public = a; private = b; server = c; numbers = ns })))) ≡ some r → ReadRow s r
    second a p1 none p2 g = let z : ◌≡◌ {A = ℕ} 0 1 = cc in absurd (omega arith)
    second a p1 (some b) p2 g = third a b p1 p2 (name_after 96 (drop (third_at a b) s)) refl g

    first : (o : Option (List ℕ)) → name_in 128 s ≡ o
        → and_then o
        (λ (a : List ℕ). and_then (name_after 128 (drop (second_at a) s)) (λ (b : List ℕ). and_then (name_after 96 (drop (third_at a b) s)) (λ (c : List ℕ).
        and_then (numbers_in limits (drop (numbers_at a b c) s)) (λ (ns : List ℕ). some (record { public = a; private = b; server = c; numbers = ns }))))) ≡ some r
        → ReadRow s r
    first none p1 g = let z : ◌≡◌ {A = ℕ} 0 1 = cc in absurd (omega arith)
    first (some a) p1 g = second a p1 (name_after 128 (drop (second_at a) s)) refl g
