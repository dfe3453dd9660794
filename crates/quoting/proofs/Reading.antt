-- Reading a name: the turns of the loop; what was written is read, and what is read is what is written.
use Rattle.octets.specs.Standard.{ℕ, suc, ◌+◌, ◌*◌, ◌<◌, ◌≤◌, Bool, true, false, ◌&&◌, not, cond, true≢false, ◌≡◌, refl, sym, ◌∙◌, ap, arith, add-one}
use Rattle.std.specs.Prelude.{Some, None}
use Rattle.octets.specs.Standard.{ne_eqb, lt-leb, eqb, leb, ltb, eqb-true, eq-eqb, le-leb, leb-true, ltb-true, ltb-false}
use Rattle.octets.specs.Standard.{List, [], ◌∷◌, ◌++◌, append_assoc, append-nil, length, drop, get_or, length-append, drop-cons, drop_of_length-le}
use Rattle.octets.specs.Standard.{get_or-eq_default, drop_at, Option, none, some}
use Rattle.octets.proofs.All.{and_left, and_right}
use Rattle.quoting.specs.Quoted.{is_listed, listable, listed_byte, width, doubled, quoted, quoted_size, and_byte, and_name, closes_at, name_from, at_most}
use Rattle.quoting.specs.Quoted.{name_in, as_name, taken}
use Rattle.quoting.specs.declared.Name.{Name}
use Rattle.quoting.proofs.Names.{byte_width, doubled_append, doubled_most, quoted_length}

-- Part of a name is read, and the rest goes on at place i.
pub record Begun (s : List ℕ) (i n : ℕ) : Type 0 where
  pub done : List ℕ
  pub place : i ≡ suc (length (doubled done))
  pub count : n ≡ length done
  pub left : name_from false (drop 1 s) ≡ and_name done (name_from false (drop i s))

and_none : (o : Option (List ℕ)) → o ≡ and_name [] o
and_none none = refl
and_none (some name) = refl

and_more : (done : List ℕ) (x : ℕ) (o : Option (List ℕ)) → and_name done (and_byte x o) ≡ and_name (done ++ (x ∷ [])) o
and_more done x none = refl
and_more done x (some name) = ap some (sym (append_assoc done (x ∷ []) name))

pub begun_none : (s : List ℕ) → Begun s 1 0
unfolding doubled
begun_none s = record { done = []; place = refl; count = refl; left = and_none (name_from false (drop 1 s)) }

pub closes_read : (s : List ℕ) (i r : ℕ) → r ≡ get_or s (i + 1) 0 → (eqb (get_or s i 0) 34 && not (eqb r 34)) ≡ closes_at s i
closes_read s i r e = rw e

pub not_closing : (s : List ℕ) (i : ℕ) {x : Bool} → x ≡ closes_at s i → x ≡ false → closes_at s i ≡ false
not_closing s i e f = sym e ∙ f

-- Where the byte at i closes the name, where it is of the name, and where it is neither.
module _ (s : List ℕ) (i : ℕ) (h : i < length s) where
  opens : drop i s ≡ get_or s i 0 ∷ drop (suc i) s
  opens = drop-cons s i 0 h

  closed : closes_at s i ≡ true → name_from false (drop i s) ≡ some []
  unfolding name_from
  closed e =
      let q : eqb (get_or s i 0) 34 ≡ true = and_left (eqb (get_or s i 0) 34) _ e in
      let p : not (eqb (get_or s (i + 1) 0) 34) ≡ true = and_right (eqb (get_or s i 0) 34) _ e in
      rw (opens, q) (go (ltb (suc i) (length s)) refl (rw (add-one i) at p))
    where
      go : (x : Bool) → ltb (suc i) (length s) ≡ x → not (eqb (get_or s (suc i) 0) 34) ≡ true → name_from true (drop (suc i) s) ≡ some []
      go true f p = rw (drop-cons s (suc i) 0 (ltb-true _ _ f)) (pick (eqb (get_or s (suc i) 0) 34) p)
        where
          pick : (c : Bool) → not c ≡ true → cond c (and_byte 34 (name_from false (drop (suc (suc i)) s))) (some []) ≡ some []
          pick true p = absurd (true≢false (sym p))
          pick false p = refl
      go false f p = rw (drop_of_length-le s {i = suc i} (ltb-false _ _ f))

  -- a quote that does not close is followed by another
  doubled_quote : get_or s i 0 ≡ 34 → closes_at s i ≡ false → (suc i < length s) × (get_or s (suc i) 0 ≡ 34)
  doubled_quote e f =
      let n : not (eqb (get_or s (i + 1) 0) 34) ≡ false = rw (eq-eqb (get_or s i 0) 34 e) at f in
      let q : get_or s (suc i) 0 ≡ 34 = rw (add-one i) at (eqb-true (get_or s (i + 1) 0) 34 (is (eqb (get_or s (i + 1) 0) 34) n)) in
      (within (ltb (suc i) (length s)) refl q, q)
    where
      is : (c : Bool) → not c ≡ false → c ≡ true
      is true p = refl
      is false p = absurd (true≢false p)

      within : (x : Bool) → ltb (suc i) (length s) ≡ x → get_or s (suc i) 0 ≡ 34 → suc i < length s
      within true g q = ltb-true _ _ g
      within false g q = let z : get_or s (suc i) 0 ≡ 0 = get_or-eq_default s 0 (ltb-false (suc i) (length s) g) in absurd (omega arith)

  pub after_within : (w : ℕ) → closes_at s i ≡ false → w ≡ width (get_or s i 0) → i + w ≤ length s
  after_within w f k = rw k (go (eqb (get_or s i 0) 34) refl)
    where
      go : (c : Bool) → eqb (get_or s i 0) 34 ≡ c → i + cond c 2 1 ≤ length s
      go true e = omega (arith, (doubled_quote (eqb-true _ _ e) f).0)
      go false e = omega arith

  onward : closes_at s i ≡ false → is_listed (get_or s i 0) ≡ true
      → name_from false (drop i s) ≡ and_byte (get_or s i 0) (name_from false (drop (i + width (get_or s i 0)) s))
  unfolding name_from
  onward f t = go (eqb (get_or s i 0) 34) refl
    where
      go : (c : Bool) → eqb (get_or s i 0) 34 ≡ c → name_from false (drop i s) ≡ and_byte (get_or s i 0) (name_from false (drop (i + cond c 2 1) s))
      go true e =
          let q : get_or s i 0 ≡ 34 = eqb-true _ _ e in
          let d = doubled_quote q f in
          let n : i + 2 ≡ suc (suc i) = omega arith in
          rw (opens, e, drop-cons s (suc i) 0 d.0, d.1, q, n)
      go false e = rw (opens, e, t, add-one i)

  unlisted : closes_at s i ≡ false → is_listed (get_or s i 0) ≡ false → name_from false (drop i s) ≡ none
  unfolding name_from
  unlisted f t = go (eqb (get_or s i 0) 34) refl
    where
      go : (c : Bool) → eqb (get_or s i 0) 34 ≡ c → name_from false (drop i s) ≡ none
      go true e = absurd (true≢false (rw (eqb-true (get_or s i 0) 34 e) at t))
      go false e = rw (opens, e, t)

  module _ (n : ℕ) (b : Begun s i n) where
    pub begun_closed : {x : Bool} → x ≡ closes_at s i → x ≡ true → Some (record { size = i + 1; length = n }) ≡ as_name (name_from false (drop 1 s))
    begun_closed e t =
        let o : name_from false (drop 1 s) ≡ some (b.done ++ []) = b.left ∙ rw (closed (sym e ∙ t)) in
        let p : i + 1 ≡ length (doubled b.done) + 2 = omega (arith, b.place) in
        rw (o, append-nil b.done, p, b.count)

    module _ {x y : Bool} (ex : x ≡ closes_at s i) (fx : x ≡ false) (ey : y ≡ is_listed (get_or s i 0)) where
      pub begun_more : (r : ℕ) → r ≡ i + width (get_or s i 0) → y ≡ true → Begun s r (n + 1)
      unfolding doubled
      begun_more r e t = record {
        done = b.done ++ (get_or s i 0 ∷ []);
        place =
            (let w : length (doubled (b.done ++ (get_or s i 0 ∷ []))) ≡ length (doubled b.done) + width (get_or s i 0) =
            (rw (
              doubled_append b.done (get_or s i 0 ∷ []),
              append-nil (listed_byte (get_or s i 0)),
              length-append (doubled b.done) (listed_byte (get_or s i 0)),
              byte_width (get_or s i 0),
            )) in
            omega (arith, b.place));
        count = omega (arith, b.count, length-append b.done (get_or s i 0 ∷ []));
        left =
            b.left ∙ ap (and_name b.done) (onward (sym ex ∙ fx) (sym ey ∙ t))
            ∙ and_more b.done (get_or s i 0) (name_from false (drop (i + width (get_or s i 0)) s))
            ∙ rw e;
      }

      pub begun_not : y ≡ false → None ≡ as_name (name_from false (drop 1 s))
      begun_not t = let o : name_from false (drop 1 s) ≡ none = b.left ∙ rw (unlisted (sym ex ∙ fx) (sym ey ∙ t)) in rw o

pub begun_open : (s : List ℕ) (i n : ℕ) → Begun s i n → length s ≤ i → None ≡ as_name (name_from false (drop 1 s))
unfolding name_from
begun_open s i n b h = let o : name_from false (drop 1 s) ≡ none = b.left ∙ rw (drop_of_length-le s {i = i} h) in rw o

-- The answer.
module _ (s : List ℕ) (most : ℕ) where
  pub name_empty : length s ≡ 0 → None ≡ as_name (name_in most s)
  unfolding name_in
  name_empty h = go s h
    where
      go : (s : List ℕ) → length s ≡ 0 → None ≡ as_name (name_in most s)
      go [] h = refl
      go (x ∷ s) h = absurd (omega arith)

  by_front : (length s ≡ 0 → ⊥) → name_in most s ≡ cond (eqb (get_or s 0 0) 34) (at_most most (name_from false (drop 1 s))) none
  unfolding name_in
  by_front h = go s h
    where
      go : (s : List ℕ) → (length s ≡ 0 → ⊥) → name_in most s ≡ cond (eqb (get_or s 0 0) 34) (at_most most (name_from false (drop 1 s))) none
      go [] h = absurd (h refl)
      go (x ∷ s) h = refl

  pub name_unquoted : (length s ≡ 0 → ⊥) → (get_or s 0 0 ≡ 34 → ⊥) → None ≡ as_name (name_in most s)
  name_unquoted h q = rw (by_front h, ne_eqb (get_or s 0 0) 34 q)

  module _ (h : length s ≡ 0 → ⊥) (q : get_or s 0 0 ≡ 34) where
    quoted_front : name_in most s ≡ at_most most (name_from false (drop 1 s))
    quoted_front = rw (by_front h, eq-eqb (get_or s 0 0) 34 q)

    pub name_open : None ≡ as_name (name_from false (drop 1 s)) → None ≡ as_name (name_in most s)
    name_open e = rw quoted_front (pick (name_from false (drop 1 s)) e)
      where
        pick : (o : Option (List ℕ)) → None ≡ as_name o → None ≡ as_name (at_most most o)
        pick none f = refl
        pick (some name) f = cc

    module _ (n : Name) (e : Some n ≡ as_name (name_from false (drop 1 s))) where
      pub name_read : n.length ≤ most → Some n ≡ as_name (name_in most s)
      name_read l = rw quoted_front (pick (name_from false (drop 1 s)) e)
        where
          pick : (o : Option (List ℕ)) → Some n ≡ as_name o → Some n ≡ as_name (at_most most o)
          pick none f = cc
          pick (some name) f =
              let m : n ≡ record { size = quoted_size name; length = length name } = cc in
              let k : length name ≤ most = rw m at l in
              rw (le-leb (length name) most k) f

      pub name_size : n.length ≤ most → n.size ≤ 2 * most + 2
      name_size l = pick (name_from false (drop 1 s)) e
        where
          pick : (o : Option (List ℕ)) → Some n ≡ as_name o → n.size ≤ 2 * most + 2
          pick none f = cc
          pick (some name) f =
              let m : n ≡ record { size = quoted_size name; length = length name } = cc in
              let k : length name ≤ most = rw m at l in
              rw m (omega (arith, doubled_most name))

      pub name_long : most < n.length → None ≡ as_name (name_in most s)
      name_long l = rw quoted_front (pick (name_from false (drop 1 s)) e)
        where
          pick : (o : Option (List ℕ)) → Some n ≡ as_name o → None ≡ as_name (at_most most o)
          pick none f = refl
          pick (some name) f =
              let m : n ≡ record { size = quoted_size name; length = length name } = cc in
              let k : most < length name = rw m at l in
              rw (lt-leb (length name) most k)

-- What was written is read: at the front of a list that goes on with no quote.
from_written : (name rest : List ℕ) → listable name ≡ true → eqb (get_or rest 0 0) 34 ≡ false → name_from false (doubled name ++ (34 ∷ rest)) ≡ some name
unfolding listable doubled name_from
from_written [] [] t e = refl
from_written [] (y ∷ rest) t e = rw e
from_written (x ∷ name) rest t e =
    go (eqb x 34) refl (and_left (is_listed x) (listable name) t) (from_written name rest (and_right (is_listed x) (listable name) t) e)
  where
    go : (c : Bool) → eqb x 34 ≡ c → is_listed x ≡ true → name_from false (doubled name ++ (34 ∷ rest)) ≡ some name
        → name_from false ((cond c (34 ∷ 34 ∷ []) (x ∷ []) ++ doubled name) ++ (34 ∷ rest)) ≡ some (x ∷ name)
    go true f l r = let q : x ≡ 34 = eqb-true x 34 f in rw (r, q)
    go false f l r = rw (f, l, r)

pub read_written : (most : ℕ) (name rest : List ℕ) → listable name ≡ true → length name ≤ most → eqb (get_or rest 0 0) 34 ≡ false
    → name_in most (quoted name ++ rest) ≡ some name
unfolding quoted name_in
read_written most name rest t h e =
    rw (append_assoc (doubled name) (34 ∷ []) rest, from_written name rest t e, le-leb (length name) most h)

-- What is read is what is written.
record Quoted (front s name : List ℕ) : Type 0 where
  named : listable name ≡ true
  rest : List ℕ
  whole : front ++ s ≡ doubled name ++ (34 ∷ rest)

abbrev before : Bool → List ℕ
before true = 34 ∷ []
before false = []

from_read : (q : Bool) (s name : List ℕ) → name_from q s ≡ some name → Quoted (before q) s name
unfolding listable doubled name_from
from_read false [] name e = let z : ◌≡◌ {A = ℕ} 0 1 = cc in absurd (omega arith)
from_read true [] name e = let n : name ≡ [] = cc in rw n (record { named = refl; rest = []; whole = refl })
from_read true (x ∷ s) name e = go (eqb x 34) refl e (from_read false s)
  where
    more : (o : Option (List ℕ)) → o ≡ name_from false s → and_byte 34 o ≡ some name → ((m : List ℕ) → name_from false s ≡ some m → Quoted [] s m)
        → x ≡ 34 → Quoted (34 ∷ []) (x ∷ s) name
    more none f g r q = let z : ◌≡◌ {A = ℕ} 0 1 = cc in absurd (omega arith)
    more (some m) f g r q =
        let n : name ≡ 34 ∷ m = cc in
        let p : Quoted [] s m = r m (sym f) in
        rw (n, q) (record { named = p.named; rest = p.rest; whole = ap (λ (l : List ℕ). 34 ∷ 34 ∷ l) p.whole })

    go : (c : Bool) → eqb x 34 ≡ c → cond c (and_byte 34 (name_from false s)) (some []) ≡ some name → ((m : List ℕ) → name_from false s ≡ some m → Quoted [] s m)
        → Quoted (34 ∷ []) (x ∷ s) name
    go true f g r = more (name_from false s) refl g r (eqb-true x 34 f)
    go false f g r = let n : name ≡ [] = cc in rw n (record { named = refl; rest = x ∷ s; whole = refl })
from_read false (x ∷ s) name e = go (eqb x 34) (is_listed x) refl refl e (from_read true s) (from_read false s)
  where
    more : (o : Option (List ℕ)) → o ≡ name_from false s → and_byte x o ≡ some name → ((m : List ℕ) → name_from false s ≡ some m → Quoted [] s m)
        → eqb x 34 ≡ false → is_listed x ≡ true → Quoted [] (x ∷ s) name
    more none f g r q l = let z : ◌≡◌ {A = ℕ} 0 1 = cc in absurd (omega arith)
    more (some m) f g r q l =
        let n : name ≡ x ∷ m = cc in
        let p : Quoted [] s m = r m (sym f) in
        rw n (record { named = rw l p.named; rest = p.rest; whole = rw q (ap (λ (t : List ℕ). x ∷ t) p.whole) })

    go : (c d : Bool) → eqb x 34 ≡ c → is_listed x ≡ d → cond c (name_from true s) (cond d (and_byte x (name_from false s)) none) ≡ some name
        → ((m : List ℕ) → name_from true s ≡ some m → Quoted (34 ∷ []) s m) → ((m : List ℕ) → name_from false s ≡ some m → Quoted [] s m)
        → Quoted [] (x ∷ s) name
    go true d f h g r t =
        let p : Quoted (34 ∷ []) s name = r name g in
        rw (eqb-true x 34 f) (record { named = p.named; rest = p.rest; whole = p.whole })
    go false true f h g r t = more (name_from false s) refl g t f h
    go false false f h g r t = let z : ◌≡◌ {A = ℕ} 0 1 = cc in absurd (omega arith)

pub record ReadName (most : ℕ) (s name : List ℕ) : Type 0 where
  pub named : listable name ≡ true
  pub within : length name ≤ most
  pub front : s ≡ quoted name ++ drop (quoted_size name) s

pub written_read : (most : ℕ) (s name : List ℕ) → name_in most s ≡ some name → ReadName most s name
unfolding name_in quoted
written_read most [] name e = let z : ◌≡◌ {A = ℕ} 0 1 = cc in absurd (omega arith)
written_read most (x ∷ s) name e = go (eqb x 34) refl e
  where
    found : x ≡ 34 → (m : List ℕ) → name_from false s ≡ some m → (c : Bool) → leb (length m) most ≡ c → cond c (some m) none ≡ some name
        → ReadName most (x ∷ s) name
    found q m f false l g = let z : ◌≡◌ {A = ℕ} 0 1 = cc in absurd (omega arith)
    found q m f true l g =
        let n : m ≡ name = cc in
        let p : Quoted [] s name = from_read false s name (rw n at f) in
        let w : x ∷ s ≡ quoted name ++ p.rest =
        (rw (q, append_assoc (doubled name) (34 ∷ []) p.rest) (ap (λ (t : List ℕ). 34 ∷ t) p.whole)) in
        let d : drop (quoted_size name) (x ∷ s) ≡ p.rest =
        ap (drop (quoted_size name)) w ∙ drop_at (quoted name) p.rest (quoted_size name) (quoted_length name) in
        record { named = p.named; within = leb-true (length name) most (rw n at l); front = w ∙ rw d }

    pick : x ≡ 34 → (o : Option (List ℕ)) → name_from false s ≡ o → at_most most o ≡ some name → ReadName most (x ∷ s) name
    pick q none f g = let z : ◌≡◌ {A = ℕ} 0 1 = cc in absurd (omega arith)
    pick q (some m) f g = found q m f (leb (length m) most) refl g

    go : (c : Bool) → eqb x 34 ≡ c → cond c (at_most most (name_from false s)) none ≡ some name → ReadName most (x ∷ s) name
    go true f g = pick (eqb-true x 34 f) (name_from false s) refl g
    go false f g = let z : ◌≡◌ {A = ℕ} 0 1 = cc in absurd (omega arith)

-- A name that stands here is copied out of the list.
pub taken_written : (name rest : List ℕ) → taken (length name) (doubled name ++ rest) ≡ name
unfolding taken doubled
taken_written [] rest = refl
taken_written (x ∷ name) rest = go (eqb x 34) refl (taken_written name rest)
  where
    go : (c : Bool) → eqb x 34 ≡ c → taken (length name) (doubled name ++ rest) ≡ name
        → taken (suc (length name)) ((cond c (34 ∷ 34 ∷ []) (x ∷ []) ++ doubled name) ++ rest) ≡ x ∷ name
    go true f r = let q : x ≡ 34 = eqb-true x 34 f in rw (q, r)
    go false f r = rw (f, r)
