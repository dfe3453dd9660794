-- The row and the column of a command and a result, as the code looks them up.
use Rattle.octets.specs.Standard.{ℕ, ◌+◌, ◌*◌, ◌<◌, arith, ◌≡◌, ◌∙◌, ne_eqb, ltb-true}
use Rattle.reading.specs.declared.Outcome.{Outcome}
use Rattle.reading.specs.declared.Outcome.TheVariants.{Base, Experimental}
use Rattle.counting.specs.Results.{base_results, experimental_results, index_in, command_row, column_of}
use Rattle.counting.specs.Counting.{listed, Listed}
use Rattle.counting.specs.Counted.{cell_of}
use Rattle.counting.specs.declared.Entry.{Entry}
use Rattle.std.specs.Prelude.{Ok}

pub row_other : (c : ℕ) → (c ≡ 300 → ⊥) → (c ≡ 301 → ⊥) → (c ≡ 302 → ⊥) → (c ≡ 303 → ⊥) → 4 ≡ command_row c
unfolding command_row
row_other c h i j k = simp ne_eqb

-- a number that is none of them
pub base_none : (n : ℕ) → (n ≡ 2001 → ⊥) → (n ≡ 3001 → ⊥) → (n ≡ 3007 → ⊥) → (n ≡ 3008 → ⊥) → (n ≡ 3009 → ⊥) → (n ≡ 5001 → ⊥) → (n ≡ 5003 → ⊥)
    → (n ≡ 5004 → ⊥) → (n ≡ 5005 → ⊥) → (n ≡ 5009 → ⊥) → (n ≡ 5011 → ⊥) → (n ≡ 5012 → ⊥) → (n ≡ 5014 → ⊥) → 13 ≡ index_in n base_results
unfolding index_in base_results
base_none n a b c d e f g h i j k l m = simp ne_eqb

pub experimental_none : (n : ℕ) → (n ≡ 2001 → ⊥) → (n ≡ 2002 → ⊥) → (n ≡ 2003 → ⊥) → (n ≡ 2004 → ⊥) → (n ≡ 5001 → ⊥) → (n ≡ 5002 → ⊥) → (n ≡ 5003 → ⊥)
    → (n ≡ 5004 → ⊥) → (n ≡ 5005 → ⊥) → (n ≡ 5006 → ⊥) → (n ≡ 5007 → ⊥) → (n ≡ 5011 → ⊥) → 12 ≡ index_in n experimental_results
unfolding index_in experimental_results
experimental_none n a b c d e f g h i j k l = simp ne_eqb

-- a result that is listed has one of the 25 columns
pub listed_column : (o : Outcome) → Listed o → column_of o < 25
unfolding column_of listed base_results experimental_results
listed_column (Base n) h = omega (arith, ltb-true (index_in n base_results) 13 h)
listed_column (Experimental n) h = omega (arith, ltb-true (index_in n experimental_results) 12 h)

module _ (o : Outcome) (n : ℕ) {r : ℕ} where
  pub base_column : o ≡ Base n → r ≡ index_in n base_results → r ≡ column_of o
  unfolding column_of
  base_column e f = f ∙ rw e

  pub base_few : Listed o → o ≡ Base n → r ≡ index_in n base_results → r < 25
  base_few l e f = omega (arith, base_column e f, listed_column o l)

  pub experimental_column : o ≡ Experimental n → r ≡ index_in n experimental_results → 13 + r ≡ column_of o
  unfolding column_of
  experimental_column e f = rw (f, e)

  pub experimental_few : Listed o → o ≡ Experimental n → r ≡ index_in n experimental_results → 13 + r < 25
  experimental_few l e f = omega (arith, experimental_column e f, listed_column o l)

module _ (e : Entry) {r k : ℕ} (f : r ≡ command_row e.command) (g : k ≡ column_of e.result) where
  pub cell_there : 20 + (25 * r + k) ≡ cell_of (Ok e)
  unfolding cell_of
  cell_there = rw (f, g)
