-- A name and a number behind a comma, and the three names of a line, as code reads them.
use Rattle.octets.specs.Standard.{ℕ, ◌+◌, ◌-◌, ◌*◌, ◌≤◌, Bool, true, false, ◌&&◌, cond, ◌≡◌, ◌∙◌, refl, ap, arith}
use Rattle.octets.specs.Standard.{eqb, List, [], length, take, drop, get_or, length-drop}
use Rattle.octets.specs.Standard.{get_or-drop, take_all, Option, none, some}
use Rattle.std.specs.Prelude.{None, Some}
use Rattle.decimals.specs.Decimal.{digit_count, number_in, as_number}
use Rattle.decimals.specs.declared.Number.{Number}
use Rattle.quoting.specs.Quoted.{doubled, name_in, as_name}
use Rattle.quoting.specs.declared.Name.{Name}
use Rattle.quoting.proofs.Reading as quoted
use Rattle.rows.specs.RowIn.{name_after, number_after, ends_line, second_at, third_at}
use Rattle.parsing.specs.Parsed.{given, name_here, name_behind, number_here, number_behind, names_in, as_names, Fitted}
use Rattle.parsing.specs.declared.Names.{Names}

-- a part that is lent to the end
pub part_end : (s : List ℕ) (p : ℕ) → take (length s - p) (drop p s) ≡ drop p s
part_end s p = take_all (length s - p) (drop p s) (omega (arith, length-drop p s))

-- What was returned says what there is.
pub record Given {A B : Type 0} (f : A → B) (o : Option A) (b : B) : Type 0 where
  pub value : A
  pub is : o ≡ some value
  pub made : b ≡ f value

pub given_some : {A B : Type 0} (f : A → B) (o : Option A) {b : B} → Some b ≡ given f o → Given f o b
given_some f none e = absurd (cc)
given_some f (some a) e = record { value = a; is = refl; made = cc }

pub given_none : {A B : Type 0} (f : A → B) (o : Option A) → None ≡ given f o → o ≡ none
given_none f none e = refl
given_none f (some a) e = absurd (cc)

-- What goes on from what was returned.
given_over : {A B C : Type 0} (f : A → B) (g : A → C) (h : B → C) (o : Option A) {b : B} → Some b ≡ given f o → ((a : A) → h (f a) ≡ g a)
    → Some (h b) ≡ given g o
given_over f g h none e k = absurd (cc)
given_over f g h (some a) {b} e k = let q : b ≡ f a = cc in ap Some (rw q (k a))

-- What the readers of a name and of a number return.
name_given : (o : Option (List ℕ)) → as_name o ≡ given name_here o
name_given none = refl
name_given (some name) = refl

number_given : (o : Option ℕ) → as_number o ≡ given number_here o
number_given none = refl
number_given (some v) = refl

-- What stands behind a comma, or where none stands.
module _ (s : List ℕ) (at most : ℕ) where
  module _ (e : eqb (get_or (drop at s) 0 0) 44 ≡ false) where
    pub name_other : None ≡ given name_behind (name_after most (drop at s))
    unfolding name_after
    name_other = rw e

    pub number_other : None ≡ given number_behind (number_after most (drop at s))
    unfolding number_after
    number_other = rw e

  module _ (e : eqb (get_or (drop at s) 0 0) 44 ≡ true) (r : List ℕ) (f : r ≡ drop 1 (drop at s)) where
    pub unnamed : None ≡ as_name (name_in most r) → None ≡ given name_behind (name_after most (drop at s))
    unfolding name_after
    unnamed h = let q : name_in most (drop 1 (drop at s)) ≡ none = given_none name_here _ (rw f at (h ∙ name_given (name_in most r))) in rw (e, q)

    pub named : {n : Name} → Some n ≡ as_name (name_in most r)
        → Some (record { size = n.size + 1; length = n.length }) ≡ given name_behind (name_after most (drop at s))
    unfolding name_after
    named h = rw e (given_over name_here name_behind (λ (n : Name). record { size = n.size + 1; length = n.length }) _ (rw f at (h ∙ name_given (name_in most r))) longer)
      where
        longer : (name : List ℕ)
            → ◌≡◌ {A = Name} (record { size = length (doubled name) + 2 + 1; length = length name }) (name_behind name)
        longer name = let z : length (doubled name) + 2 + 1 ≡ 1 + (length (doubled name) + 2) = omega arith in rw z

    pub unnumbered : None ≡ as_number (number_in most r) → None ≡ given number_behind (number_after most (drop at s))
    unfolding number_after
    unnumbered h = let q : number_in most (drop 1 (drop at s)) ≡ none = given_none number_here _ (rw f at (h ∙ number_given (number_in most r))) in rw (e, q)

    pub numbered : {n : Number} → Some n ≡ as_number (number_in most r)
        → Some (record { size = n.size + 1; value = n.value }) ≡ given number_behind (number_after most (drop at s))
    unfolding number_after
    numbered h = rw e (given_over number_here number_behind (λ (n : Number). record { size = n.size + 1; value = n.value }) _ (rw f at (h ∙ number_given (number_in most r))) longer)
      where
        longer : (v : ℕ) → ◌≡◌ {A = Number} (record { size = digit_count v + 1; value = v }) (number_behind v)
        longer v = let z : digit_count v + 1 ≡ 1 + digit_count v = omega arith in rw z

-- A name that was read is as long as it may be.
after_length : (most : ℕ) (t name : List ℕ) → name_after most t ≡ some name → length name ≤ most
unfolding name_after
after_length most t name e = go (eqb (get_or t 0 0) 44) e
  where
    go : (x : Bool) → cond x (name_in most (drop 1 t)) none ≡ some name → length name ≤ most
    go true g = (quoted.written_read most (drop 1 t) name g).within
    go false g = absurd (cc)

-- The three names: all three are there, or one is none.
abbrev together : Name → Name → Name → Names
together a b c =
    record {
      public = a.length;
      private = b.length;
      server = c.length;
      second = a.size;
      third = a.size + b.size;
      numbers = a.size + b.size + c.size;
    }

together_lem : (a b c : Name) (x y z : List ℕ) → a ≡ name_here x → b ≡ name_behind y → c ≡ name_behind z
    → together a b c ≡ as_names (record { public = x; private = y; server = z; numbers = [] })
together_lem a b c x y z p q r = rw (p, q, r)

module _ (s : List ℕ) where
  pub no_first : None ≡ as_name (name_in 128 s) → None ≡ given as_names (names_in s)
  unfolding names_in
  no_first h = rw (given_none name_here (name_in 128 s) (h ∙ name_given (name_in 128 s)))

  module _ (a : Name) (ea : Some a ≡ as_name (name_in 128 s)) where
    first : Given name_here (name_in 128 s) a
    first = given_some name_here (name_in 128 s) (ea ∙ name_given (name_in 128 s))

    pub no_second : None ≡ given name_behind (name_after 128 (drop a.size s)) → None ≡ given as_names (names_in s)
    unfolding names_in
    no_second h =
        let q : name_after 128 (drop (second_at first.value) s) ≡ none = given_none name_behind _ (rw first.made at h) in rw (first.is, q)

    module _ (b : Name) (eb : Some b ≡ given name_behind (name_after 128 (drop a.size s))) where
      second : Given name_behind (name_after 128 (drop (second_at first.value) s)) b
      second = given_some name_behind _ (rw first.made at eb)

      pub no_third : None ≡ given name_behind (name_after 96 (drop (a.size + b.size) s)) → None ≡ given as_names (names_in s)
      unfolding names_in
      no_third h =
          let q : name_after 96 (drop (third_at first.value second.value) s) ≡ none = given_none name_behind _ (rw (first.made, second.made) at h) in
          rw (first.is, second.is, q)

      module _ (c : Name) (ec : Some c ≡ given name_behind (name_after 96 (drop (a.size + b.size) s))) where
        third : Given name_behind (name_after 96 (drop (third_at first.value second.value) s)) c
        third = given_some name_behind _ (rw (first.made, second.made) at ec)

        pub names_there : Some (together a b c) ≡ given as_names (names_in s)
        unfolding names_in
        names_there = rw (first.is, second.is, third.is) (ap Some (together_lem a b c _ _ _ first.made second.made third.made))

        pub names_fitted : a.size ≤ 2 * 128 + 2 → b.size ≤ 2 * 128 + 3 → Fitted (together a b c)
        names_fitted h i = record {
          public = rw first.made (quoted.written_read 128 s first.value first.is).within;
          private = rw second.made (after_length 128 (drop (second_at first.value) s) second.value second.is);
          server = rw third.made (after_length 96 (drop (third_at first.value second.value) s) third.value third.is);
          second = omega arith;
          third = omega arith;
        }

pub ends_read : (s : List ℕ) (at x y : ℕ) → x ≡ get_or s at 0 → y ≡ get_or s (at + 1) 0 → (eqb x 13 && eqb y 10) ≡ ends_line (drop at s)
ends_read s at x y e f = let z : at + 0 ≡ at = omega arith in rw (get_or-drop at s 0 0, get_or-drop at s 1 0, z, e, f)
