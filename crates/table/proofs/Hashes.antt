-- The turns of the loops that make a number of a name, and that records of one set have the same.
use Rattle.octets.specs.Standard.{ℕ, ◌+◌, ◌-◌, ◌*◌, ◌/◌, ◌%◌, ◌^◌, ◌<◌, ◌≤◌, true, ◌≡◌, refl, List, arith, le_of_lt, lt_of_le_of_lt, mul-le-mul_left}
use Rattle.octets.specs.Standard.{add-one, length, get_or, lt-ltb, le-ltb}
use Rattle.record.specs.Fields.{private_of, set_of}
use Rattle.table.specs.Hash.{term_at, sum_terms, mixed, mix_bytes, hash_name, hash_of}
use Rattle.record.specs.Sets.{same_set}
use Rattle.record.proofs.OneSet.{OneSet, set_says}

-- A product of two halves is a whole.
pub halves_fit : (a b : ℕ) → a < 4294967296 → b < 4294967296 → a * b < 18446744073709551616
halves_fit a b ha hb = lt_of_le_of_lt (mul-le-mul_left a (le_of_lt hb)) (omega arith)

module _ (s : List ℕ) (h : ℕ) where
  pub terms_none : h ≡ sum_terms s h 0
  unfolding sum_terms
  terms_none = refl

  pub terms_more : (i : ℕ) {sum x r : ℕ} → sum ≡ sum_terms s h i → x ≡ term_at s (8 * i) i → r ≡ (sum + x) % 2 ^ 64 → r ≡ sum_terms s h (i + 1)
  unfolding sum_terms
  terms_more i e f g = rw (add-one, ← e, ← f) g

  pub terms_all : (i : ℕ) {sum : ℕ} → sum ≡ sum_terms s h i → i ≤ length s / 8 → length s / 8 ≤ i → sum ≡ sum_terms s h (length s / 8)
  terms_all i e a b = let k : i ≡ length s / 8 = omega arith in cc

  pub bytes_none : h ≡ mix_bytes s h 0
  unfolding mix_bytes
  bytes_none = refl

  pub bytes_more : (i : ℕ) {sum x y : ℕ} → sum ≡ mix_bytes s h i → x ≡ mixed sum → y ≡ get_or s i 0 → x + y ≡ mix_bytes s h (i + 1)
  unfolding mix_bytes
  bytes_more i e f g = rw (add-one, ← e, ← f, ← g)

  pub bytes_all : (i : ℕ) {sum : ℕ} → sum ≡ mix_bytes s h i → i ≤ length s → length s ≤ i → sum ≡ mix_bytes s h (length s)
  bytes_all i e a b = let k : i ≡ length s = omega arith in cc

  pub name_short : {r : ℕ} → length s < 8 → r ≡ mix_bytes s h (length s) → r ≡ hash_name s h
  unfolding hash_name
  name_short l e = rw (lt-ltb _ _ l) e

  pub name_long : {a b r : ℕ} → 8 ≤ length s → a ≡ sum_terms s h (length s / 8) → b ≡ term_at s (length s - 8) (length s) → r ≡ (a + b) % 2 ^ 64
      → r ≡ hash_name s h
  unfolding hash_name
  name_long l e f g = rw (le-ltb _ _ l, ← e, ← f) g

pub hash_block : (b s : List ℕ) (h : ℕ) {x y : ℕ} → s ≡ private_of b → h ≡ set_of b → x ≡ hash_name s h → y ≡ mixed x → y / 65536 ≡ hash_of b
unfolding hash_of
hash_block b s h e f g i = rw (← e, ← f, ← g, ← i)

-- Two records of one set.
pub hash_same : (a b : List ℕ) → same_set a b ≡ true → hash_of a ≡ hash_of b
unfolding hash_of
hash_same a b e = let s : OneSet a b = set_says a b e in rw (s.number, s.private)
