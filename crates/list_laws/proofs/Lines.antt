-- The lines of an export: CR stands nowhere in them but at their end.
use Rattle.octets.specs.Standard.{ℕ, zero, suc, ◌+◌, ◌%◌, ◌/◌, ◌<◌, ◌≤◌, Bool, true, false, cond, ◌≡◌, refl, sym, ◌∙◌, ap, arith}
use Rattle.octets.specs.Standard.{eqb, ne_eqb, List, [], ◌∷◌, ◌++◌, append_assoc, append-nil, length, take}
use Rattle.octets.proofs.All.{and_right}
use Rattle.blocks.specs.Blocks.{block_of}
use Rattle.decimals.specs.Decimal.{digits_of, decimal, digit_count}
use Rattle.quoting.specs.Quoted.{listable, is_listed, listed_byte, doubled, quoted}
use Rattle.rows.specs.Row.{Row, row_of, numbers_line, line_of}
use Rattle.rows.proofs.Lines as line
use Rattle.listing.specs.ListOf.{first_line, lines_of}
use Rattle.importing.proofs.Falling.{least}
use Rattle.importing.proofs.Given as goal
use Rattle.importing.proofs.Given.{Exportable}
use Rattle.list_laws.specs.Ends.{line_ends}
use Rattle.list_laws.proofs.Ends.{plain, plain_append, Line, joined, joined_ends, joined_cut}

plain_one : (x : ℕ) (s : List ℕ) → (x ≡ 13 → ⊥) → plain s ≡ true → plain (x ∷ s) ≡ true
unfolding plain
plain_one x s n e = rw (ne_eqb x 13 n) e

digits_plain : (k n : ℕ) → plain (digits_of k n) ≡ true
unfolding digits_of plain
digits_plain zero n = refl
digits_plain (suc k) n = plain_append (digits_of k (n / 10)) ((48 + n % 10) ∷ []) (digits_plain k (n / 10)) (plain_one (48 + n % 10) [] (λ z. omega arith) refl)

doubled_plain : (s : List ℕ) → listable s ≡ true → plain (doubled s) ≡ true
unfolding doubled listable plain
doubled_plain [] e = refl
doubled_plain (x ∷ s) e =
    plain_append (listed_byte x) (doubled s) (go (eqb x 34)) (doubled_plain s (and_right (is_listed x) (listable s) e))
  where
    go : (y : Bool) → plain (cond y (34 ∷ 34 ∷ []) (x ∷ [])) ≡ true
    go true = refl
    go false = plain_one x [] (λ z. omega (arith, (least x s e).0)) refl

quoted_plain : (s : List ℕ) → listable s ≡ true → plain (quoted s) ≡ true
unfolding quoted plain
quoted_plain s e = plain_append (doubled s) (34 ∷ []) (doubled_plain s e) refl

-- bytes before a line
line_behind : (a s : List ℕ) → plain a ≡ true → Line s → Line (a ++ s)
line_behind a s e l =
    record {
      body = a ++ l.body;
      clear = plain_append a l.body e l.clear;
      whole = ap (λ (y : List ℕ). a ++ y) l.whole ∙ sym (append_assoc a l.body (13 ∷ 10 ∷ []));
    }

numbers_line_lem : (ns : List ℕ) → Line (numbers_line ns)
unfolding numbers_line decimal plain
numbers_line_lem [] = record { body = []; clear = refl; whole = refl }
numbers_line_lem (n ∷ ns) = line_behind (44 ∷ decimal n) (numbers_line ns) (digits_plain (digit_count n) n) (numbers_line_lem ns)

row_line : (r : Row) → line.Fitting r → Line (line_of r)
unfolding line_of plain
row_line r f =
    line_behind (quoted r.public) _ (quoted_plain r.public f.public)
    (line_behind (44 ∷ quoted r.private) _ (quoted_plain r.private f.private)
    (line_behind (44 ∷ quoted r.server) _ (quoted_plain r.server f.server) (numbers_line_lem r.numbers)))

first_line_lem : Line first_line
unfolding first_line plain
first_line_lem = record { body = take 119 first_line; clear = refl; whole = refl }

-- line i + 1 of a table's list
unfoldable pub line_at : List ℕ → ℕ → List ℕ
line_at t zero = first_line
line_at t (suc i) = line_of (row_of (block_of t (suc i)))

pub lines_joined : (t : List ℕ) (j : ℕ) → joined (line_at t) (suc j) ≡ first_line ++ lines_of t j
unfolding joined line_at lines_of
lines_joined t zero = sym (append-nil first_line)
lines_joined t (suc j) =
    ap (λ (y : List ℕ). y ++ line_of (row_of (block_of t (suc j)))) (lines_joined t j)
    ∙ append_assoc first_line (lines_of t j) (line_of (row_of (block_of t (suc j))))

module _ (header : List ℕ) (file : ℕ) (t : List ℕ) (x : Exportable header file t) where
  each_line : (i : ℕ) → i ≤ x.count → Line (line_at t i)
  unfolding line_at
  each_line zero h = first_line_lem
  each_line (suc i) h = row_line (row_of (block_of t (suc i))) (goal.fitting header file t x (suc i) (omega arith) h)

  -- j lines end behind the first j records' lines, and one more; fewer before
  pub lines_end : (j : ℕ) → j ≤ x.count → line_ends (first_line ++ lines_of t j) ≡ suc j
  unfolding line_ends
  lines_end j h =
      ap line_ends (sym (append-nil (first_line ++ lines_of t j)) ∙ ap (λ (y : List ℕ). y ++ []) (sym (lines_joined t j)))
      ∙ joined_ends (line_at t) (suc j) (λ i l. each_line i (omega arith)) []
      ∙ omega arith

  pub lines_cut : (j n : ℕ) → j ≤ x.count → n < length (first_line ++ lines_of t j) → line_ends (take n (first_line ++ lines_of t j)) ≤ j
  lines_cut j n h l =
      let e : joined (line_at t) (suc j) ≡ first_line ++ lines_of t j = lines_joined t j in
      let c : suc (line_ends (take n (joined (line_at t) (suc j)))) ≤ suc j =
      joined_cut (line_at t) (suc j) (λ i g. each_line i (omega arith)) n (omega (arith, ap length e)) in
      rw (← e) (omega arith)
