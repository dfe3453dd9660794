-- A file of requests, and what is left at its end: it is cut into these.
use Rattle.octets.specs.Standard.{ℕ, zero, suc, ◌+◌, ◌*◌, ◌≤◌, ◌<◌, List, [], ◌∷◌, ◌++◌, append-nil, append_assoc, Bool, true, false, cond, ◌||◌}
use Rattle.octets.specs.Standard.{true≢false, ◌≡◌, refl, sym, ap, ◌∙◌, ◌⊎◌, inl, inr, arith, length, take, drop, length-append, length-take}
use Rattle.octets.specs.Standard.{length-drop, take-append-drop, get_or-append, take_at, drop_at, take-append_seam, drop-append_seam, ltb, lt-ltb}
use Rattle.octets.specs.Standard.{le-ltb, ltb-true, ltb-false}
use Rattle.octets.specs.Number.{be24_at}
use Rattle.octets.proofs.Numbers.{be24_alike, be24_take}
use Rattle.diameter.specs.Put.{All}
use Rattle.refusals.proofs.Passing.{neither}
use Rattle.reporting.specs.Pieces.{broken, pieces_in, pieces, total_of, stop_of}
use Rattle.reporting.proofs.Cutting.{pieces_none, pieces_first}
use Rattle.octets.proofs.Parts.{nothing}
use Rattle.report_numbers.specs.File.{OneRequest, end_to_end, BrokenOff}

-- a request stands first
module _ (p : List ℕ) (one : OneRequest p) (rest : List ℕ) where
  length_first : be24_at (p ++ rest) 1 ≡ length p
  length_first =
      be24_alike (p ++ rest) p 1 1 (λ j h. get_or-append p rest 0 (1 + j) (omega (arith, one.least)))
      ∙ one.own

  one_stands : broken (p ++ rest) ≡ false
  unfolding broken
  one_stands =
      let l : length (p ++ rest) ≡ length p + length rest = length-append p rest in
      rw (
        length_first,
        le-ltb (length (p ++ rest)) 4 (omega (arith, l, one.least)),
        le-ltb (length p) 20 one.least,
        le-ltb (length (p ++ rest)) (length p) (omega (arith, l)),
      )

  pub pieces_more : pieces (p ++ rest) ≡ p ∷ pieces rest
  pieces_more = pieces_first (p ++ rest) one_stands ∙ rw (length_first, take-append_seam p rest, drop-append_seam p rest)

pub pieces_joined : (ps : List (List ℕ)) → All OneRequest ps → (rest : List ℕ) → pieces (end_to_end ps ++ rest) ≡ ps ++ pieces rest
unfolding end_to_end
pieces_joined [] a rest = refl
pieces_joined (p ∷ ps) a rest =
    rw (append_assoc p (end_to_end ps) rest) (pieces_more p a.0 (end_to_end ps ++ rest) ∙ ap (λ (qs : List (List ℕ)). p ∷ qs) (pieces_joined ps a.1 rest))

-- no request stands first in what is broken
module _ (s : List ℕ) where
  pub stands_one : broken s ≡ false → OneRequest (take (be24_at s 1) s)
  unfolding broken
  stands_one e =
      let a = (neither (ltb (length s) 4) _ e).1 in
      let b = neither (ltb (be24_at s 1) 20) (ltb (length s) (be24_at s 1)) a in
      let least : 20 ≤ be24_at s 1 = ltb-false (be24_at s 1) 20 b.0 in
      let most : be24_at s 1 ≤ length s = ltb-false (length s) (be24_at s 1) b.1 in
      let l : length (take (be24_at s 1) s) ≡ be24_at s 1 = length-take (be24_at s 1) s ∙ omega arith in
      record { own = be24_take s (be24_at s 1) 1 (omega arith) ∙ sym l; least = omega arith }

  pub broken_by : 1 ≤ length s → broken s ≡ true → BrokenOff s
  unfolding broken
  broken_by some e = record { some = some; by = go (ltb (length s) 4) (ltb (be24_at s 1) 20) (ltb (length s) (be24_at s 1)) refl refl refl e }
    where
      go : (a b c : Bool) → ltb (length s) 4 ≡ a → ltb (be24_at s 1) 20 ≡ b → ltb (length s) (be24_at s 1) ≡ c → (a || (b || c)) ≡ true
          → (length s ≤ 3) ⊎ ((be24_at s 1 < 20) ⊎ (length s < be24_at s 1))
      go true b c f g h z = inl (omega (arith, ltb-true (length s) 4 f))
      go false true c f g h z = inr (inl (ltb-true (be24_at s 1) 20 g))
      go false false true f g h z = inr (inr (ltb-true (length s) (be24_at s 1) h))
      go false false false f g h z = absurd (true≢false (sym z))

  pub breaks_broken : BrokenOff s → broken s ≡ true
  unfolding broken
  breaks_broken b = go b.by
    where
      first : (a c : Bool) → ltb (length s) 4 ≡ a → (a || (true || c)) ≡ true
      first true c e = refl
      first false c e = refl

      second : (a c : Bool) → (a || (c || true)) ≡ true
      second true c = refl
      second false true = refl
      second false false = refl

      go : (length s ≤ 3) ⊎ ((be24_at s 1 < 20) ⊎ (length s < be24_at s 1)) → (ltb (length s) 4 || (ltb (be24_at s 1) 20 || ltb (length s) (be24_at s 1))) ≡ true
      go (inl h) = rw (lt-ltb (length s) 4 (omega arith))
      go (inr (inl h)) = rw (lt-ltb (be24_at s 1) 20 h) (first (ltb (length s) 4) (ltb (length s) (be24_at s 1)) refl)
      go (inr (inr h)) = rw (lt-ltb (length s) (be24_at s 1) h) (second (ltb (length s) 4) (ltb (be24_at s 1) 20))

  pub empty_broken : length s ≤ 0 → broken s ≡ true
  unfolding broken
  empty_broken h = rw (lt-ltb (length s) 4 (omega arith))

-- every file is its pieces and what is left
record Laid (s : List ℕ) (ps : List (List ℕ)) : Type 0 where
  rest : List ℕ
  file : s ≡ end_to_end ps ++ rest
  all : All OneRequest ps
  ends : broken rest ≡ true

none_laid : (s : List ℕ) → broken s ≡ true → Laid s []
unfolding end_to_end
none_laid s e = record { rest = s; file = refl; all = tt; ends = e }

laid_in : (n : ℕ) (s : List ℕ) → length s ≤ n → Laid s (pieces_in n s)
unfolding pieces_in end_to_end
laid_in zero s h = none_laid s (empty_broken s h)
laid_in (suc n) s h = go (broken s) refl (laid_in n (drop (be24_at s 1) s))
  where
    go : (x : Bool) → broken s ≡ x → (length (drop (be24_at s 1) s) ≤ n → Laid (drop (be24_at s 1) s) (pieces_in n (drop (be24_at s 1) s)))
        → Laid s (cond x [] (take (be24_at s 1) s ∷ pieces_in n (drop (be24_at s 1) s)))
    go true e more = none_laid s e
    go false e more =
        let one = stands_one s e in
        let least : 20 ≤ length (take (be24_at s 1) s) = one.least in
        let l : length (take (be24_at s 1) s) ≤ be24_at s 1 = rw length-take (omega arith) in
        let d = more (rw length-drop (omega (arith, least, l))) in
        record {
          rest = d.rest;
          file =
              sym (take-append-drop (be24_at s 1) s)
              ∙ ap (λ (r : List ℕ). take (be24_at s 1) s ++ r) d.file
              ∙ sym (append_assoc (take (be24_at s 1) s) (end_to_end (pieces_in n (drop (be24_at s 1) s))) d.rest);
          all = (one, d.all);
          ends = d.ends;
        }

laid : (s : List ℕ) → Laid s (pieces s)
laid s = laid_in (length s) s (omega arith)

pub total_joined : (ps : List (List ℕ)) → length (end_to_end ps) ≡ total_of ps
unfolding end_to_end total_of
total_joined [] = refl
total_joined (p ∷ ps) = length-append p (end_to_end ps) ∙ ap (λ (n : ℕ). length p + n) (total_joined ps)

module _ (s : List ℕ) where
  pub pieces_one : All OneRequest (pieces s)
  pieces_one = (laid s).all

  pub pieces_end : end_to_end (pieces s) ≡ take (stop_of s) s
  pieces_end = let d = laid s in sym (ap (take (stop_of s)) d.file ∙ take_at (end_to_end (pieces s)) d.rest (stop_of s) (total_joined (pieces s)))

  rest_is : drop (stop_of s) s ≡ (laid s).rest
  rest_is = let d = laid s in ap (drop (stop_of s)) d.file ∙ drop_at (end_to_end (pieces s)) d.rest (stop_of s) (total_joined (pieces s))

  pub stop_broken : broken (drop (stop_of s) s) ≡ true
  stop_broken = ap broken rest_is ∙ (laid s).ends

  pub stop_within : stop_of s ≤ length s
  stop_within =
      let d = laid s in
      let l : length s ≡ length (end_to_end (pieces s)) + length d.rest = ap length d.file ∙ length-append (end_to_end (pieces s)) d.rest in
      omega (arith, l, total_joined (pieces s))

  -- what is left where reading stops
  pub rest_length : stop_of s + length (drop (stop_of s) s) ≡ length s
  rest_length = omega (arith, stop_within, length-drop (stop_of s) s)

-- each has at least 20 bytes
pub few : (ps : List (List ℕ)) → All OneRequest ps → 20 * length ps ≤ total_of ps
unfolding total_of
few [] a = omega arith
few (p ∷ ps) a = omega (arith, a.0.least, few ps a.1)

pub few_pieces : (s : List ℕ) → 20 * length (pieces s) ≤ length s
few_pieces s = omega (arith, few (pieces s) (pieces_one s), stop_within s)

-- requests, and then what is broken
module _ (ps : List (List ℕ)) (all : All OneRequest ps) (rest : List ℕ) (b : broken rest ≡ true) where
  pub cut_pieces : pieces (end_to_end ps ++ rest) ≡ ps
  cut_pieces = pieces_joined ps all rest ∙ ap (λ (qs : List (List ℕ)). ps ++ qs) (pieces_none rest b) ∙ append-nil ps

  pub cut_stop : stop_of (end_to_end ps ++ rest) ≡ length (end_to_end ps)
  cut_stop = ap total_of cut_pieces ∙ sym (total_joined ps)

-- one request
module _ (p : List ℕ) (one : OneRequest p) where
  pub one_piece : pieces p ≡ p ∷ []
  one_piece =
      ap pieces (sym (append-nil p)) ∙ pieces_more p one [] ∙ ap (λ (qs : List (List ℕ)). p ∷ qs) (pieces_none [] (empty_broken [] (omega arith)))

  pub one_stop : stop_of p ≡ length p
  unfolding total_of
  one_stop = ap total_of one_piece ∙ omega arith

-- two files, the first used up
module _ (s more : List ℕ) (whole : stop_of s ≡ length s) where
  used_file : end_to_end (pieces s) ≡ s
  used_file =
      let d = laid s in
      let z : length d.rest ≤ 0 = omega (arith, ap length (rest_is s), rest_length s) in
      sym (d.file ∙ ap (λ (r : List ℕ). end_to_end (pieces s) ++ r) (nothing d.rest z) ∙ append-nil (end_to_end (pieces s)))

  pub two_pieces : pieces (s ++ more) ≡ pieces s ++ pieces more
  two_pieces = ap (λ (r : List ℕ). pieces (r ++ more)) (sym used_file) ∙ pieces_joined (pieces s) (pieces_one s) more

pub total_append : (ps qs : List (List ℕ)) → total_of (ps ++ qs) ≡ total_of ps + total_of qs
unfolding total_of
total_append [] qs = omega arith
total_append (p ∷ ps) qs = omega (arith, total_append ps qs)
