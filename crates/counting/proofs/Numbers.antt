-- The numbers of a report, word by word: of one request more, of two rows of requests, and at most as many as were read.
use Rattle.octets.specs.Standard.{ℕ, zero, suc, ◌+◌, ◌%◌, ◌^◌, ◌≤◌, ◌<◌, max, arith, mod-eq_of_lt, zero-max, Bool, true, false, cond, ◌≡◌, refl, sym}
use Rattle.octets.specs.Standard.{◌∙◌, List, [], ◌∷◌, ◌++◌, length, length-append, ne_eqb}
use Rattle.counting.specs.Counted.{cell_of, is_answered, stands_in, how_many, altered_in, largest_in, number_at, word_at}
use Rattle.counting.specs.Counting.{Fits}
use Rattle.counting.specs.Layout.{read_word, stop_word, altered_word, largest_word, answered_word}
use Rattle.counting.specs.Event.{Event}
use Rattle.std.specs.Prelude.{Ok, Err}
use Rattle.counting.proofs.Cells.{cell_above}
use Rattle.counting.proofs.Word.{in_word, in_other, added_by}

-- What holds of each of the first five words and of every later one holds of every word.
pub each_word : (P : ℕ → Type 0) → P read_word → P stop_word → P altered_word → P largest_word → P answered_word → ((i : ℕ) → 5 ≤ i → P i) → (i : ℕ) → P i
each_word P read stop altered largest answered later zero = read
each_word P read stop altered largest answered later (suc zero) = stop
each_word P read stop altered largest answered later (suc (suc zero)) = altered
each_word P read stop altered largest answered later (suc (suc (suc zero))) = largest
each_word P read stop altered largest answered later (suc (suc (suc (suc zero)))) = answered
each_word P read stop altered largest answered later (suc (suc (suc (suc (suc i))))) = later (suc (suc (suc (suc (suc i))))) (omega arith)

-- from word 5 on, refusals and cells
pub number_cell : (es : List Event) (i : ℕ) → 5 ≤ i → number_at es i ≡ how_many (stands_in i) es
unfolding number_at
number_cell es i h =
    rw (
      ne_eqb i read_word (omega arith),
      ne_eqb i stop_word (omega arith),
      ne_eqb i altered_word (omega arith),
      ne_eqb i largest_word (omega arith),
      ne_eqb i answered_word (omega arith),
    )

-- one request more
cell_past : (e : Event) → Fits e → (j : ℕ) → j < 5 → in_word (cell_of e) 1 j ≡ 0
cell_past e f j h = in_other (cell_of e) 1 j (omega (arith, cell_above e f))

pub number_more : (e : Event) (es : List Event) → Fits e → (j : ℕ) → (j ≡ 3 → ⊥) → number_at (e ∷ es) j ≡ added_by e j + number_at es j
unfolding number_at added_by how_many altered_in
number_more (Ok e) es f =
    each_word (λ (j : ℕ). (j ≡ 3 → ⊥) → number_at (Ok e ∷ es) j ≡ added_by (Ok e) j + number_at es j)
    (λ n. omega (arith, cell_past (Ok e) f 0 (omega arith)))
    (λ n. omega (arith, cell_past (Ok e) f 1 (omega arith)))
    (λ n. omega (arith, cell_past (Ok e) f 2 (omega arith)))
    (λ n. absurd (n refl))
    (λ n. omega (arith, cell_past (Ok e) f 4 (omega arith)))
    (λ j h n.
    rw (number_cell (Ok e ∷ es) j h, number_cell es j h)
    (omega (arith, in_other 0 1 j (omega arith), in_other 2 e.altered j (omega arith), in_other 4 1 j (omega arith))))
number_more (Err k) es f =
    each_word (λ (j : ℕ). (j ≡ 3 → ⊥) → number_at (Err k ∷ es) j ≡ added_by (Err k) j + number_at es j)
    (λ n. omega (arith, cell_past (Err k) f 0 (omega arith)))
    (λ n. omega (arith, cell_past (Err k) f 1 (omega arith)))
    (λ n. omega (arith, cell_past (Err k) f 2 (omega arith)))
    (λ n. absurd (n refl))
    (λ n. omega (arith, cell_past (Err k) f 4 (omega arith)))
    (λ j h n. rw (number_cell (Err k ∷ es) j h, number_cell es j h) (omega (arith, in_other 0 1 j (omega arith))))

-- two rows of requests
many_append : (p : Event → Bool) (es fs : List Event) → how_many p (es ++ fs) ≡ how_many p es + how_many p fs
unfolding how_many
many_append p [] fs = omega arith
many_append p (e ∷ es) fs = omega (arith, many_append p es fs)

altered_append : (es fs : List Event) → altered_in (es ++ fs) ≡ altered_in es + altered_in fs
unfolding altered_in
altered_append [] fs = omega arith
altered_append (e ∷ es) fs = omega (arith, altered_append es fs)

pub number_append : (es fs : List Event) (j : ℕ) → (j ≡ 3 → ⊥) → number_at (es ++ fs) j ≡ number_at es j + number_at fs j
unfolding number_at
number_append es fs =
    each_word (λ (j : ℕ). (j ≡ 3 → ⊥) → number_at (es ++ fs) j ≡ number_at es j + number_at fs j)
    (λ n. length-append es fs)
    (λ n. refl)
    (λ n. altered_append es fs)
    (λ n. absurd (n refl))
    (λ n. many_append is_answered es fs)
    (λ j h n. rw (number_cell (es ++ fs) j h, number_cell es j h, number_cell fs j h) (many_append (stands_in j) es fs))

pub largest_append : (es fs : List Event) → largest_in (es ++ fs) ≡ max (largest_in es) (largest_in fs)
unfolding largest_in
largest_append [] fs = sym (zero-max (largest_in fs))
largest_append (e ∷ es) fs = omega (arith, largest_append es fs)

-- "Counts of 64 bits": no count passes the number of requests read, so that below 2^64 each word but that of the records altered is the number itself
many_few : (p : Event → Bool) (es : List Event) → how_many p es ≤ length es
unfolding how_many
many_few p [] = omega arith
many_few p (e ∷ es) = go (p e) (many_few p es)
  where
    go : (b : Bool) → how_many p es ≤ length es → cond b 1 0 + how_many p es ≤ suc (length es)
    go true h = omega arith
    go false h = omega arith

number_few : (es : List Event) (j : ℕ) → (j ≡ 2 → ⊥) → (j ≡ 3 → ⊥) → number_at es j ≤ length es
unfolding number_at
number_few es =
    each_word (λ (j : ℕ). (j ≡ 2 → ⊥) → (j ≡ 3 → ⊥) → number_at es j ≤ length es)
    (λ m n. omega arith)
    (λ m n. omega arith)
    (λ m n. absurd (m refl))
    (λ m n. absurd (n refl))
    (λ m n. many_few is_answered es)
    (λ j h m n. rw (number_cell es j h) (many_few (stands_in j) es))

pub word_largest : (es : List Event) → word_at es 3 ≡ largest_in es
unfolding word_at
word_largest es = refl

pub word_other : (es : List Event) (j : ℕ) → (j ≡ 3 → ⊥) → word_at es j ≡ number_at es j % 2 ^ 64
unfolding word_at
word_other es j n = rw (ne_eqb j 3 n)

pub exact : (es : List Event) → length es < 2 ^ 64 → (j : ℕ) → (j ≡ 2 → ⊥) → (j ≡ 3 → ⊥) → word_at es j ≡ number_at es j
exact es h j m n = word_other es j n ∙ mod-eq_of_lt (omega (arith, number_few es j m n))
