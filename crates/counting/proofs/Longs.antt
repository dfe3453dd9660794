-- The words of a report as bytes: how many they are, and the turns of the loop that writes them.
use Rattle.octets.specs.Standard.{ℕ, suc, ◌+◌, ◌*◌, ◌≤◌, ◌<◌, arith, add-one, ◌≡◌, refl, ◌∙◌, List, [], ◌∷◌, ◌++◌, length, get_or, drop, length-append}
use Rattle.octets.specs.Standard.{drop_of_length-le, drop-cons}
use Rattle.octets.specs.Run.{Wrote, over}
use Rattle.octets.proofs.Writes.{Going, going_none, going_more, going_end, lent, back, named}
use Rattle.counting.specs.Words.{long_bytes, words_bytes}

pub long_length : (n : ℕ) → length (long_bytes n) ≡ 8
unfolding long_bytes
long_length n = refl

pub wrote_long : (n : ℕ) {b ys : List ℕ} → ys ≡ long_bytes n → Wrote (long_bytes n) b (ys ++ drop 8 b) 8
unfolding over long_bytes
wrote_long n e = record { count = refl; bytes = rw e }

pub bytes_length : (ws : List ℕ) → length (words_bytes ws) ≡ 8 * length ws
unfolding words_bytes
bytes_length [] = refl
bytes_length (w ∷ ws) = length-append (long_bytes w) (words_bytes ws) ∙ (omega (arith, long_length w, bytes_length ws))

module _ (b ws : List ℕ) where
  pub words_none : Going b b (8 * 0) (words_bytes (drop 0 ws)) (words_bytes ws)
  words_none = going_none b (words_bytes ws)

  module _ (xs : List ℕ) (i : ℕ) where
    pub words_next : (ys : List ℕ) → i < 145 → length ws ≡ 145 → Going b xs (8 * i) (words_bytes (drop i ws)) (words_bytes ws)
        → Wrote (long_bytes (get_or ws i 0)) (lent (8 * i) xs) ys 8 → Going b (back (8 * i) xs ys) (8 * (i + 1)) (words_bytes (drop (i + 1) ws)) (words_bytes ws)
    unfolding words_bytes
    words_next ys h l g w =
        let q : drop i ws ≡ get_or ws i 0 ∷ drop (suc i) ws = drop-cons ws i 0 (omega arith) in
        let n : 8 * (i + 1) ≡ 8 * i + 8 = omega arith in
        rw (n, add-one i) (going_more {v = long_bytes (get_or ws i 0)} (rw q at g) w)

    pub words_all : 145 ≤ i → i ≤ 145 → length ws ≡ 145 → Going b xs (8 * i) (words_bytes (drop i ws)) (words_bytes ws) → Wrote (words_bytes ws) b xs 1160
    unfolding words_bytes
    words_all h k l g =
        let q : drop i ws ≡ [] = drop_of_length-le ws {i = i} (omega arith) in
        named refl (omega arith) (going_end (rw q at g))
