-- The block that a line says, written piece by piece.
use Rattle.octets.specs.Standard.{ℕ, zero, suc, ◌+◌, ◌-◌, ◌*◌, ◌<◌, ◌≤◌, min, Bool, true, false, ◌≡◌, refl, sym, ◌∙◌, ap, arith, add-one, leb, leb-true}
use Rattle.octets.specs.Standard.{leb-false, List, [], ◌∷◌, ◌++◌, append_assoc, append-nil, length, take, drop, get_or, replicate}
use Rattle.octets.specs.Standard.{sets, drop-cons, drop_of_length-le, length-drop, length-take-le}
use Rattle.octets.specs.Run.{over, Wrote}
use Rattle.octets.proofs.Writes.{Going, going_none, going_more, going_end, over_sets, then, lent, back, named}
use Rattle.blocks.specs.Sealed.{sealed}
use Rattle.quoting.specs.Quoted.{taken}
use Rattle.rows.specs.Block.{padded, half_bytes, word_bytes, words_bytes, front_bytes, names_bytes, rest_bytes, unsealed, block_from}
use Rattle.parsing.specs.Parsed.{Sized, row_taken}
use Rattle.parsing.specs.declared.Names.{Names}
use Rattle.parsing.proofs.Fields.{part_end}

pub taken_length : (n : ℕ) (s : List ℕ) → length (taken n s) ≡ n
unfolding taken
taken_length zero s = refl
taken_length (suc n) s = ap suc (taken_length n _)

pub wrote_front : (k : ℕ) (ns : List ℕ) (p q r : ℕ) (b : List ℕ) → 16 ≤ length b → Wrote (front_bytes k ns p q r) b (sets b 0 (front_bytes k ns p q r)) 16
wrote_front k ns p q r b h = record { count = refl; bytes = over_sets (front_bytes k ns p q r) b h }

-- a place past the end is as good as the end
drop_least : (s : List ℕ) (at p : ℕ) → p ≡ min at (length s) → drop p s ≡ drop at s
drop_least s at p e = go (leb at (length s)) refl
  where
    go : (x : Bool) → leb at (length s) ≡ x → drop p s ≡ drop at s
    go true f = let q : p ≡ at = omega (arith, leb-true at (length s) f) in rw q
    go false f =
        let l : length s < at = leb-false at (length s) f in
        drop_of_length-le s {i = p} (omega arith) ∙ sym (drop_of_length-le s {i = at} (omega arith))

-- A name in its field.
pub wrote_field : (s : List ℕ) (at n field p : ℕ) {b xs ys : List ℕ} → n ≤ field → p ≡ min at (length s)
    → Wrote (taken n (take (length s - p) (drop p s))) b xs n
    → Wrote (replicate (field - n) 0) (lent n xs) ys (field - n) → Wrote (padded field (taken n (drop at s))) b (back n xs ys) field
unfolding padded
wrote_field s at n field p h e v w =
    let q : taken n (take (length s - p) (drop p s)) ≡ taken n (drop at s) = ap (taken n) (part_end s p ∙ drop_least s at p e) in
    named (rw (q, taken_length n (drop at s))) (omega arith) (then v w)

pub wrote_names : (x y z : List ℕ) {b p q r : List ℕ} → Wrote (padded 128 x) b p 128 → Wrote (padded 128 y) (lent 128 p) q 128
    → Wrote (padded 96 z) (lent 256 (back 128 p q)) r 96 → Wrote (names_bytes x y z) b (back 256 (back 128 p q) r) 352
unfolding names_bytes
wrote_names x y z u v w = named (append_assoc (padded 128 x) (padded 128 y) (padded 96 z)) refl (then (then u v) w)

-- The turns of the loop over words.
module _ (b ws : List ℕ) where
  pub words_none : Going b b (4 * 0) (words_bytes (drop 0 ws)) (words_bytes ws)
  words_none = going_none b (words_bytes ws)

  pub words_next : (i : ℕ) {xs ys : List ℕ} → i < length ws → Going b xs (4 * i) (words_bytes (drop i ws)) (words_bytes ws)
      → Wrote (word_bytes (get_or ws i 0)) (lent (4 * i) xs) ys 4 → Going b (back (4 * i) xs ys) (4 * (i + 1)) (words_bytes (drop (i + 1) ws)) (words_bytes ws)
  unfolding words_bytes
  words_next i h g w =
      let q : drop i ws ≡ get_or ws i 0 ∷ drop (suc i) ws = drop-cons ws i 0 h in
      let n : 4 * (i + 1) ≡ 4 * i + 4 = omega arith in
      rw (n, add-one i) (going_more {v = word_bytes (get_or ws i 0)} (rw q at g) w)

  pub words_all : (i : ℕ) {xs : List ℕ} → length ws ≤ i → i ≤ length ws → Going b xs (4 * i) (words_bytes (drop i ws)) (words_bytes ws)
      → Wrote (words_bytes ws) b xs (4 * length ws)
  unfolding words_bytes
  words_all i h k g =
      let q : drop i ws ≡ [] = drop_of_length-le ws {i = i} h in
      named refl (omega arith) (going_end (rw q at g))

pub wrote_rest : (ns : List ℕ) {b p q r : List ℕ} → Sized ns → Wrote (words_bytes (take 4 (drop 6 ns))) b p (4 * length (take 4 (drop 6 ns)))
    → Wrote (words_bytes (take 5 (drop 11 ns))) (lent 16 p) q (4 * length (take 5 (drop 11 ns)))
    → Wrote (half_bytes (get_or ns 16 0) ++ half_bytes (get_or ns 17 0)) (lent 36 (back 16 p q)) r 4
    → Wrote (rest_bytes ns) b (back 36 (back 16 p q) r) 40
unfolding rest_bytes
wrote_rest ns n u v w =
    let e : 4 * length (take 4 (drop 6 ns)) ≡ 16 = omega (arith, n.count, length-take-le 4 (drop 6 ns) (omega (arith, n.count, length-drop 6 ns))) in
    let f : 4 * length (take 5 (drop 11 ns)) ≡ 20 = omega (arith, n.count, length-take-le 5 (drop 11 ns) (omega (arith, n.count, length-drop 11 ns))) in
    named (append_assoc (words_bytes (take 4 (drop 6 ns))) (words_bytes (take 5 (drop 11 ns))) (half_bytes (get_or ns 16 0) ++ half_bytes (get_or ns 17 0))) refl
    (then (named refl (omega arith) (then (named refl e u) (named refl f v))) w)

pub wrote_issue : (issue : ℕ) {b p q : List ℕ} → Wrote (word_bytes issue) b p 4 → Wrote (replicate 100 0) (lent 4 p) q 100
    → Wrote (word_bytes issue ++ replicate 100 0) b (back 4 p q) 104
wrote_issue issue u v = then u v

-- The whole block.
module _ (s : List ℕ) (n : Names) (ns : List ℕ) (k issue : ℕ) where
  pub wrote_unsealed : {b p q r t : List ℕ} → length b ≡ 512 → Wrote (front_bytes k ns n.public n.private n.server) b p 16
      → Wrote (names_bytes (taken n.public (drop 1 s)) (taken n.private (drop (n.second + 2) s)) (taken n.server (drop (n.third + 2) s)))
      (lent 16 p) q 352
      → Wrote (rest_bytes ns) (lent 368 (back 16 p q)) r 40
      → Wrote (word_bytes issue ++ replicate 100 0) (lent 408 (back 368 (back 16 p q) r)) t 104
      → back 408 (back 368 (back 16 p q) r) t ≡ unsealed issue k (row_taken s n ns)
  unfolding unsealed over
  wrote_unsealed {b} {p} {q} {r} {t} h u v w x =
      let a : List ℕ = front_bytes k ns n.public n.private n.server in
      let c : List ℕ = names_bytes (taken n.public (drop 1 s)) (taken n.private (drop (n.second + 2) s)) (taken n.server (drop (n.third + 2) s)) in
      let d : List ℕ = word_bytes issue ++ replicate 100 0 in
      let whole : ((a ++ c) ++ rest_bytes ns) ++ d ≡ unsealed issue k (row_taken s n ns) =
      (rw (taken_length n.public (drop 1 s), taken_length n.private (drop (n.second + 2) s), taken_length n.server (drop (n.third + 2) s))
      (append_assoc (a ++ c) (rest_bytes ns) d ∙ append_assoc a c (rest_bytes ns ++ d))) in
      let all : Wrote (((a ++ c) ++ rest_bytes ns) ++ d) b (back 408 (back 368 (back 16 p q) r) t) 512 = then (then (then u v) w) x in
      let e : drop (length (((a ++ c) ++ rest_bytes ns) ++ d)) b ≡ [] =
      drop_of_length-le b {i = length (((a ++ c) ++ rest_bytes ns) ++ d)} (omega (arith, all.count)) in
      all.bytes ∙ rw e (append-nil (((a ++ c) ++ rest_bytes ns) ++ d)) ∙ whole

  pub wrote_block : {x y : List ℕ} → x ≡ unsealed issue k (row_taken s n ns) → y ≡ sealed x → y ≡ block_from issue k (row_taken s n ns)
  unfolding block_from
  wrote_block e f = f ∙ ap sealed e
