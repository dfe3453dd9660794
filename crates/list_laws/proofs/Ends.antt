-- Lines that end in CR LF and hold no other CR, laid end to end: a beginning that is cut short of a line's end has none of that line's.
use Rattle.octets.specs.Standard.{ℕ, zero, suc, ◌+◌, ◌-◌, ◌<◌, ◌≤◌, Bool, true, false, ◌&&◌, not, cond, true≢false, ◌≡◌, refl, sym, ◌∙◌, ap, arith}
use Rattle.octets.specs.Standard.{eqb, ltb, ltb-true, ltb-false, List, [], ◌∷◌, ◌++◌, append_assoc, length, length-append, take, get_or, take-append-le, take-nil}
use Rattle.octets.proofs.All.{and_left, and_right}
use Rattle.list_laws.specs.Ends.{line_ends}

-- no CR
unfoldable pub plain : List ℕ → Bool
plain [] = true
plain (x ∷ s) = not (eqb x 13) && plain s

pub plain_append : (a b : List ℕ) → plain a ≡ true → plain b ≡ true → plain (a ++ b) ≡ true
unfolding plain
plain_append [] b e f = f
plain_append (x ∷ a) b e f =
    let n : not (eqb x 13) ≡ true = and_left (not (eqb x 13)) (plain a) e in
    rw n (plain_append a b (and_right (not (eqb x 13)) (plain a) e) f)

-- a line without CR LF at its end
pub record Line (s : List ℕ) : Type 0 where
  pub body : List ℕ
  pub clear : plain body ≡ true
  pub whole : s ≡ body ++ (13 ∷ 10 ∷ [])

not_cr : (x : ℕ) (s : List ℕ) → plain (x ∷ s) ≡ true → eqb x 13 ≡ false
unfolding plain
not_cr x s e = go (eqb x 13) (and_left (not (eqb x 13)) (plain s) e)
  where
    go : (y : Bool) → not y ≡ true → y ≡ false
    go true h = absurd (true≢false (sym h))
    go false h = refl

others : (x : ℕ) (s : List ℕ) → plain (x ∷ s) ≡ true → plain s ≡ true
unfolding plain
others x s e = and_right (not (eqb x 13)) (plain s) e

ends_line_lem : (s rest : List ℕ) → plain s ≡ true → line_ends (s ++ (13 ∷ 10 ∷ rest)) ≡ suc (line_ends rest)
unfolding line_ends
ends_line_lem [] rest e = refl
ends_line_lem (x ∷ s) rest e = rw (not_cr x s e) (ends_line_lem s rest (others x s e))

ends_cut : (s : List ℕ) (i : ℕ) → plain s ≡ true → i < length s + 2 → line_ends (take i (s ++ (13 ∷ 10 ∷ []))) ≡ 0
unfolding line_ends
ends_cut s zero e h = refl
ends_cut [] (suc zero) e h = refl
ends_cut [] (suc (suc i)) e h = absurd (omega arith)
ends_cut (x ∷ s) (suc i) e h = rw (not_cr x s e) (ends_cut s i (others x s e) (omega arith))

pub line_ends_lem : (s rest : List ℕ) → Line s → line_ends (s ++ rest) ≡ suc (line_ends rest)
line_ends_lem s rest l =
    ap (λ (y : List ℕ). line_ends (y ++ rest)) l.whole ∙ ap line_ends (append_assoc l.body (13 ∷ 10 ∷ []) rest) ∙ ends_line_lem l.body rest l.clear

pub line_cut : (s : List ℕ) (i : ℕ) → Line s → i < length s → line_ends (take i s) ≡ 0
line_cut s i l h =
    ap (λ (y : List ℕ). line_ends (take i y)) l.whole
    ∙ ends_cut l.body i l.clear (omega (arith, ap length l.whole, length-append l.body (13 ∷ 10 ∷ [])))

-- Lines laid end to end.
unfoldable pub joined : (ℕ → List ℕ) → ℕ → List ℕ
joined f zero = []
joined f (suc j) = joined f j ++ f j

module _ (f : ℕ → List ℕ) where
  pub joined_ends : (j : ℕ) → ((i : ℕ) → i < j → Line (f i)) → (rest : List ℕ) → line_ends (joined f j ++ rest) ≡ j + line_ends rest
  unfolding joined
  joined_ends zero l rest = omega arith
  joined_ends (suc j) l rest =
      ap line_ends (append_assoc (joined f j) (f j) rest)
      ∙ joined_ends j (λ i h. l i (omega arith)) (f j ++ rest)
      ∙ omega (arith, line_ends_lem (f j) rest (l j (omega arith)))

  pub joined_cut : (j : ℕ) → ((i : ℕ) → i < j → Line (f i)) → (n : ℕ) → n < length (joined f j) → suc (line_ends (take n (joined f j))) ≤ j
  unfolding joined
  joined_cut zero l n h = absurd (omega arith)
  joined_cut (suc j) l n h = go (ltb n (length (joined f j))) refl (joined_cut j (λ i g. l i (omega arith)) n)
    where
      go : (x : Bool) → ltb n (length (joined f j)) ≡ x → (n < length (joined f j) → suc (line_ends (take n (joined f j))) ≤ j)
          → suc (line_ends (take n (joined f j ++ f j))) ≤ suc j
      go true e r =
          let m : n < length (joined f j) = ltb-true _ _ e in
          rw (take-append-le n (joined f j) (f j) (omega arith)) (omega (arith, r m))
      go false e r =
          let m : length (joined f j) ≤ n = ltb-false _ _ e in
          let d : n ≡ length (joined f j) + (n - length (joined f j)) = omega arith in
          let t : take n (joined f j ++ f j) ≡ joined f j ++ take (n - length (joined f j)) (f j) =
          ap (λ (y : ℕ). take y (joined f j ++ f j)) d ∙ take_past (joined f j) (f j) (n - length (joined f j)) in
          rw t
          (omega (
            arith,
            joined_ends j (λ i g. l i (omega arith)) (take (n - length (joined f j)) (f j)),
            line_cut (f j) (n - length (joined f j)) (l j (omega arith)) (omega (arith, length-append (joined f j) (f j))),
          ))
        where
          take_past : (a b : List ℕ) (i : ℕ) → take (length a + i) (a ++ b) ≡ a ++ take i b
          take_past [] b i = let z : 0 + i ≡ i = omega arith in rw z
          take_past (y ∷ a) b i = let z : suc (length a) + i ≡ suc (length a + i) = omega arith in rw z (ap (λ (w : List ℕ). y ∷ w) (take_past a b i))

-- A longer beginning has no fewer.
pub ends_more : (s : List ℕ) (m n : ℕ) → m ≤ n → line_ends (take m s) ≤ line_ends (take n s)
unfolding line_ends
ends_more s zero n h = omega arith
ends_more [] (suc m) n h = rw (take-nil n) (omega arith)
ends_more (x ∷ s) (suc m) zero h = absurd (omega arith)
ends_more (x ∷ s) (suc m) (suc n) h = go (eqb x 13) (first m n (omega arith)) (ends_more s m n (omega arith))
  where
    -- the next byte is one of the longer where it is one of the shorter
    first : (m n : ℕ) → m ≤ n → eqb (get_or (take m s) 0 0) 10 ≡ true → eqb (get_or (take n s) 0 0) 10 ≡ true
    first zero n l e = absurd (true≢false (sym e))
    first (suc m) zero l e = absurd (omega arith)
    first (suc m) (suc n) l e = same s e
      where
        same : (s : List ℕ) → eqb (get_or (take (suc m) s) 0 0) 10 ≡ true → eqb (get_or (take (suc n) s) 0 0) 10 ≡ true
        same [] e = e
        same (y ∷ s) e = e

    go : (y : Bool) → (eqb (get_or (take m s) 0 0) 10 ≡ true → eqb (get_or (take n s) 0 0) 10 ≡ true) → line_ends (take m s) ≤ line_ends (take n s)
        → cond (y && eqb (get_or (take m s) 0 0) 10) (suc (line_ends (take m s))) (line_ends (take m s))
        ≤ cond (y && eqb (get_or (take n s) 0 0) 10) (suc (line_ends (take n s))) (line_ends (take n s))
    go false g r = r
    go true g r = both (eqb (get_or (take m s) 0 0) 10) (eqb (get_or (take n s) 0 0) 10) g
      where
        both : (a b : Bool) → (a ≡ true → b ≡ true)
            → cond a (suc (line_ends (take m s))) (line_ends (take m s)) ≤ cond b (suc (line_ends (take n s))) (line_ends (take n s))
        both true true k = omega arith
        both true false k = absurd (true≢false (sym (k refl)))
        both false true k = omega arith
        both false false k = r
