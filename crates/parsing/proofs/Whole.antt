-- A whole line: its names and its numbers are its row, and the names that are taken out of the list are the row's.
use Rattle.octets.specs.Standard.{ℕ, ◌+◌, true, ◌≡◌, refl, sym, ◌∙◌, ap, arith, List, [], ◌∷◌, ◌++◌, append_assoc}
use Rattle.octets.specs.Standard.{length, drop, drop-drop, length-append, Option, some-injective, none, some}
use Rattle.quoting.specs.Quoted.{doubled, quoted, taken}
use Rattle.quoting.proofs.Names.{quoted_length}
use Rattle.quoting.proofs.Reading.{taken_written}
use Rattle.quoting.proofs.Reading as name
use Rattle.rows.specs.Row.{Row, numbers_line, line_of}
use Rattle.rows.specs.RowIn.{and_then, name_after, numbers_in, limits, second_at, third_at, numbers_at, row_in}
use Rattle.quoting.specs.Quoted.{name_in}
use Rattle.rows.specs.Block.{block_from}
use Rattle.rows.proofs.Lines as line
use Rattle.rows.proofs.Blocks.{fits_at_lem, fits_length}
use Rattle.std.specs.Prelude.{None, Some}
use Rattle.parsing.specs.Parsed.{given, names_in, as_names, as_numbers, Sized, row_taken, row_length, block_over}
use Rattle.parsing.specs.declared.Names.{Names}
use Rattle.parsing.specs.declared.Values.{Values}
use Rattle.parsing.proofs.Fields.{Given, given_some, given_none}

-- a row with its numbers
abbrev with_numbers : Row → List ℕ → Row
with_numbers r ns = record { public = r.public; private = r.private; server = r.server; numbers = ns }

row_parts : (s : List ℕ)
    → row_in s ≡ and_then (names_in s)
    (λ (r : Row). and_then (numbers_in limits (drop (numbers_at r.public r.private r.server) s)) (λ (ns : List ℕ). some (with_numbers r ns)))
unfolding row_in names_in
row_parts s = first (name_in 128 s)
  where
    on : Row → Option Row
    on r = and_then (numbers_in limits (drop (numbers_at r.public r.private r.server) s)) (λ (ns : List ℕ). some (with_numbers r ns))

    third : List ℕ → List ℕ → List ℕ → Option Row
    third a b c = some (record { public = a; private = b; server = c; numbers = [] })

    last : (a b : List ℕ) (o : Option (List ℕ))
        → and_then o
        (λ (c : List ℕ). and_then (numbers_in limits (drop (numbers_at a b c) s))
        (λ (ns : List ℕ). some (record { public = a; private = b; server = c; numbers = ns })))
        ≡ and_then (and_then o (third a b)) on
    last a b none = refl
    last a b (some c) = refl

    second : (a : List ℕ) (o : Option (List ℕ))
        → and_then o
        (λ (b : List ℕ). and_then (name_after 96 (drop (third_at a b) s)) (λ (c : List ℕ). and_then (numbers_in limits (drop (numbers_at a b c) s)) (λ (ns : List ℕ).
        some (record { public = a; private = b; server = c; numbers = ns }))))
        ≡ and_then (and_then o (λ (b : List ℕ). and_then (name_after 96 (drop (third_at a b) s)) (third a b))) on
    second a none = refl
    second a (some b) = last a b (name_after 96 (drop (third_at a b) s))

    first : (o : Option (List ℕ))
        → and_then o
        (λ (a : List ℕ). and_then (name_after 128 (drop (second_at a) s)) (λ (b : List ℕ). and_then (name_after 96 (drop (third_at a b) s)) (λ (c : List ℕ).
        and_then (numbers_in limits (drop (numbers_at a b c) s)) (λ (ns : List ℕ). some (record { public = a; private = b; server = c; numbers = ns })))))
        ≡ and_then
        (and_then o
        (λ (a : List ℕ). and_then (name_after 128 (drop (second_at a) s)) (λ (b : List ℕ). and_then (name_after 96 (drop (third_at a b) s)) (third a b)))) on
    first none = refl
    first (some a) = second a (name_after 128 (drop (second_at a) s))

-- how long a line is
line_size_lem : (r : Row) → numbers_at r.public r.private r.server + length (numbers_line r.numbers) ≡ length (line_of r)
unfolding line_of
line_size_lem r =
    simp length-append (omega (arith, quoted_length r.public, quoted_length r.private, quoted_length r.server))

-- A name that stands in quotes is taken out of them.
quoted_taken : (s a rest : List ℕ) → s ≡ quoted a ++ rest → taken (length a) (drop 1 s) ≡ a
unfolding quoted
quoted_taken s a rest e =
    ap (λ (l : List ℕ). taken (length a) (drop 1 l)) e ∙ ap (taken (length a)) (append_assoc (doubled a) (34 ∷ []) rest) ∙ taken_written a (34 ∷ rest)

after_taken : (s b rest : List ℕ) (at : ℕ) → drop at s ≡ 44 ∷ (quoted b ++ rest) → taken (length b) (drop (at + 2) s) ≡ b
after_taken s b rest at e =
    ap (taken (length b)) (sym (drop-drop 2 at s) ∙ ap (drop 2) e) ∙ quoted_taken (quoted b ++ rest) b rest refl

-- the three names, one by one
record NamesRead (s : List ℕ) (r : Row) : Type 0 where
  public : name_in 128 s ≡ some r.public
  private : name_after 128 (drop (second_at r.public) s) ≡ some r.private
  server : name_after 96 (drop (third_at r.public r.private) s) ≡ some r.server

names_say : (s : List ℕ) (r : Row) → names_in s ≡ some r → NamesRead s r
unfolding names_in
names_say s r e = first (name_in 128 s) refl e
  where
    third : (a b : List ℕ) → name_in 128 s ≡ some a → name_after 128 (drop (second_at a) s) ≡ some b → (o : Option (List ℕ))
        → name_after 96 (drop (third_at a b) s) ≡ o
        → and_then o (λ (c : List ℕ). some (record { public = a; private = b; server = c; numbers = [] })) ≡ some r → NamesRead s r
    third a b p q none f g = let z : ◌≡◌ {A = ℕ} 0 1 = cc in absurd (omega arith)
    third a b p q (some c) f g =
        let is : record { public = a; private = b; server = c; numbers = [] } ≡ r = some-injective _ _ g in
        rw (← is) (record { public = p; private = q; server = f })

    second : (a : List ℕ) → name_in 128 s ≡ some a → (o : Option (List ℕ)) → name_after 128 (drop (second_at a) s) ≡ o
        → and_then o
        (λ (b : List ℕ). and_then (name_after 96 (drop (third_at a b) s))
        (λ (c : List ℕ). some (record { public = a; private = b; server = c; numbers = [] }))) ≡ some r
        → NamesRead s r
    second a p none f g = let z : ◌≡◌ {A = ℕ} 0 1 = cc in absurd (omega arith)
    second a p (some b) f g = third a b p f (name_after 96 (drop (third_at a b) s)) refl g

    first : (o : Option (List ℕ)) → name_in 128 s ≡ o
        → and_then o
        (λ (a : List ℕ). and_then (name_after 128 (drop (second_at a) s)) (λ (b : List ℕ). and_then (name_after 96 (drop (third_at a b) s)) (λ (c : List ℕ).
        some (record { public = a; private = b; server = c; numbers = [] })))) ≡ some r
        → NamesRead s r
    first none f g = let z : ◌≡◌ {A = ℕ} 0 1 = cc in absurd (omega arith)
    first (some a) f g = second a f (name_after 128 (drop (second_at a) s)) refl g

row_taken_lem : (s : List ℕ) (r : Row) (ns : List ℕ) → names_in s ≡ some r → row_taken s (as_names r) ns ≡ with_numbers r ns
row_taken_lem s r ns e =
    let n : NamesRead s r = names_say s r e in
    let p : taken (length r.public) (drop 1 s) ≡ r.public = quoted_taken s r.public _ (name.written_read 128 s r.public n.public).front in
    let q : taken (length r.private) (drop (second_at r.public + 2) s) ≡ r.private =
    after_taken s r.private _ (second_at r.public) (line.name_after_lem 128 (drop (second_at r.public) s) r.private n.private).2 in
    let t : taken (length r.server) (drop (third_at r.public r.private + 2) s) ≡ r.server =
    after_taken s r.server _ (third_at r.public r.private)
    (line.name_after_lem 96 (drop (third_at r.public r.private) s) r.server n.server).2 in
    rw (p, q, t)

-- The numbers that an array holds fit their bytes.
fits_sized : (ns : List ℕ) → line.fits limits ns ≡ true → Sized ns
fits_sized ns e = record {
  count = fits_length limits ns e;
  state = fits_at_lem limits ns e 0;
  pending = fits_at_lem limits ns e 1;
  barred = fits_at_lem limits ns e 2;
  services = fits_at_lem limits ns e 3;
  roaming = fits_at_lem limits ns e 4;
  mandatory = fits_at_lem limits ns e 5;
  optional = fits_at_lem limits ns e 10;
}

pub numbers_sized : (s : List ℕ) (at : ℕ) {m : Values} → Some m ≡ given (as_numbers at) (numbers_in limits (drop at s)) → Sized m.numbers
unfolding line.small
numbers_sized s at {m} e = let g : Given (as_numbers at) (numbers_in limits (drop at s)) m = given_some (as_numbers at) _ e in go m g.value g.is g.made
  where
    go : (m : Values) (ns : List ℕ) → numbers_in limits (drop at s) ≡ some ns → m ≡ as_numbers at ns → Sized m.numbers
    go m ns f made = rw made (fits_sized ns (line.numbers_read limits (drop at s) ns refl f).within)

-- The answer: no names, no numbers, or a block.
module _ (s b : List ℕ) (issue k : ℕ) where
  none_size : row_in s ≡ none → None ≡ given row_length (row_in s)
  none_size e = rw e

  none_block : row_in s ≡ none → b ≡ block_over issue k (row_in s) b
  none_block e = rw e

  module _ (e : None ≡ given as_names (names_in s)) where
    nameless : row_in s ≡ none
    nameless = row_parts s ∙ rw (given_none as_names (names_in s) e)

    pub nameless_size : None ≡ given row_length (row_in s)
    nameless_size = none_size nameless

    pub nameless_block : b ≡ block_over issue k (row_in s) b
    nameless_block = none_block nameless

  with : (n : Names) (r : Row) → names_in s ≡ some r → n ≡ as_names r → (o : Option (List ℕ)) → numbers_in limits (drop n.numbers s) ≡ o
      → row_in s ≡ and_then o (λ (ns : List ℕ). some (with_numbers r ns))
  with n r f made o p =
      row_parts s ∙ rw f (rw made at (ap (λ (o : Option (List ℕ)). and_then o (λ (ns : List ℕ). some (with_numbers r ns))) p))

  module _ (n : Names) (e : Some n ≡ given as_names (names_in s)) where
    names : Given as_names (names_in s) n
    names = given_some as_names (names_in s) e

    module _ (f : None ≡ given (as_numbers n.numbers) (numbers_in limits (drop n.numbers s))) where
      numberless : row_in s ≡ none
      numberless = with n names.value names.is names.made none (given_none (as_numbers n.numbers) _ f)

      pub numberless_size : None ≡ given row_length (row_in s)
      numberless_size = none_size numberless

      pub numberless_block : b ≡ block_over issue k (row_in s) b
      numberless_block = none_block numberless

    module _ (m : Values) (f : Some m ≡ given (as_numbers n.numbers) (numbers_in limits (drop n.numbers s))) where
      whole : (r : Row) → names_in s ≡ some r → n ≡ as_names r → (ns : List ℕ) → numbers_in limits (drop n.numbers s) ≡ some ns → m ≡ as_numbers n.numbers ns
          → (row_in s ≡ some (row_taken s n m.numbers)) × (m.end ≡ length (line_of (row_taken s n m.numbers)))
      whole r g made ns h read =
          let v : m.numbers ≡ ns = rw read in
          let t : row_taken s n m.numbers ≡ with_numbers r ns = rw (v, made) (row_taken_lem s r ns g) in
          let z : m.end ≡ n.numbers + length (numbers_line ns) = rw read in
          rw t (with n r g made (some ns) h, z ∙ rw made (line_size_lem (with_numbers r ns)))

      there : (row_in s ≡ some (row_taken s n m.numbers)) × (m.end ≡ length (line_of (row_taken s n m.numbers)))
      there =
          let g : Given (as_numbers n.numbers) (numbers_in limits (drop n.numbers s)) m = given_some (as_numbers n.numbers) _ f in
          whole names.value names.is names.made g.value g.is g.made

      pub whole_size : Some m.end ≡ given row_length (row_in s)
      whole_size = rw there.0 (ap Some there.1)

  pub whole_block : {n : Names} {m : Values} {y : List ℕ} → y ≡ block_from issue k (row_taken s n m.numbers) → Some n ≡ given as_names (names_in s)
      → Some m ≡ given (as_numbers n.numbers) (numbers_in limits (drop n.numbers s)) → y ≡ block_over issue k (row_in s) b
  whole_block {n} {m} wrote e f = rw (there n e m f).0 wrote
