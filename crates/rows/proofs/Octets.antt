-- The block that a row says is of bytes.
use Rattle.octets.specs.Standard.{ℕ, zero, suc, ◌+◌, ◌-◌, ◌/◌, ◌%◌, ◌<◌, ◌≤◌, Bool, true, false, ◌≡◌, refl, arith, leb, ltb, eqb}
use Rattle.octets.specs.Standard.{leb-true, ltb-true, ltb-false, eqb-true, eqb-false, List, [], ◌∷◌, ◌++◌, length, get_or, set, take, drop, replicate}
use Rattle.octets.specs.Standard.{get_or-set_same, get_or-set_other, length-set}
use mir.Syntax.{w8}
use mir.Val.{Fits}
use Rattle.octets.specs.Number.{put_be32}
use Rattle.octets.specs.Sum.{sum_words}
use Rattle.octets.proofs.All.{and_left, and_right}
use Rattle.octets.proofs.Numbers.{Bytes}
use Rattle.octets.proofs.Runs.{past_zero}
use Rattle.blocks.specs.Sealed.{negated, sealed}
use Rattle.quoting.specs.Quoted.{is_listed, listable}
use Rattle.rows.specs.Row.{Row}
use Rattle.rows.specs.RowIn.{limits}
use Rattle.rows.specs.Block.{padded, half_bytes, word_bytes, words_bytes, front_bytes, names_bytes, rest_bytes, unsealed, block_from}
use Rattle.rows.proofs.Lines.{Fitting}
use Rattle.rows.proofs.Blocks.{fits_at_lem}

-- a list of bytes
pub record Octets (s : List ℕ) : Type 0 where
  pub each : Bytes s

none_bytes : Octets []
none_bytes = record { each = λ i. omega arith }

infixr 35 ◌more◌
◌more◌ : {x : ℕ} {s : List ℕ} → x < 256 → Octets s → Octets (x ∷ s)
◌more◌ {x} {s} h b = record { each = go }
  where
    go : (i : ℕ) → Fits w8 (get_or (x ∷ s) i 0)
    go zero = omega arith
    go (suc i) = b.each i

pub append_bytes : (a b : List ℕ) → Octets a → Octets b → Octets (a ++ b)
append_bytes a b p q = record { each = go a p.each }
  where
    go : (a : List ℕ) → Bytes a → (i : ℕ) → Fits w8 (get_or (a ++ b) i 0)
    go [] p i = q.each i
    go (x ∷ a) p zero = p 0
    go (x ∷ a) p (suc i) = go a (λ j. p (suc j)) i

pub zeros_bytes : (n : ℕ) → Octets (replicate n 0)
zeros_bytes n = record { each = go n }
  where
    go : (n i : ℕ) → Fits w8 (get_or (replicate n 0) i 0)
    go zero i = omega arith
    go (suc n) zero = omega arith
    go (suc n) (suc i) = go n i

name_bytes_lem : (s : List ℕ) → listable s ≡ true → Octets s
unfolding listable
name_bytes_lem [] e = none_bytes
name_bytes_lem (x ∷ s) e =
    omega (arith, leb-true x 126 (and_right (leb 32 x) (leb x 126) (and_left (is_listed x) (listable s) e)))
    more name_bytes_lem s (and_right (is_listed x) (listable s) e)

padded_bytes : (n : ℕ) (name : List ℕ) → Octets name → Octets (padded n name)
unfolding padded
padded_bytes n name b = append_bytes name (replicate (n - length name) 0) b (zeros_bytes (n - length name))

rest_of : (n : ℕ) → n % 256 < 256
rest_of n = omega arith

word_bytes_lem : (n : ℕ) → Octets (word_bytes n)
word_bytes_lem n = rest_of (n / 16777216) more rest_of (n / 65536) more rest_of (n / 256) more rest_of n more none_bytes

half_bytes_lem : (n : ℕ) → Octets (half_bytes n)
half_bytes_lem n = rest_of (n / 256) more rest_of n more none_bytes

words_bytes_lem : (ns : List ℕ) → Octets (words_bytes ns)
unfolding words_bytes
words_bytes_lem [] = none_bytes
words_bytes_lem (n ∷ ns) = append_bytes (word_bytes n) (words_bytes ns) (word_bytes_lem n) (words_bytes_lem ns)

set_bytes : (s : List ℕ) (i v : ℕ) → v < 256 → Octets s → Octets (set s i v)
set_bytes s i v h b = record { each = λ j. go j (eqb j i) (ltb i (length s)) refl refl }
  where
    go : (j : ℕ) (x y : Bool) → eqb j i ≡ x → ltb i (length s) ≡ y → Fits w8 (get_or (set s i v) j 0)
    go j false y e f = rw (get_or-set_other s i j v 0 (eqb-false j i e)) (b.each j)
    go j true true e f = let q : j ≡ i = eqb-true j i e in rw (q, get_or-set_same s i v 0 (ltb-true i (length s) f)) (omega arith)
    go j true false e f =
        let q : j ≡ i = eqb-true j i e in
        let l : length (set s i v) ≤ j = simp length-set (omega (arith, ltb-false i (length s) f)) in
        rw (← past_zero (set s i v) j l) (omega arith)

put_bytes : (b : List ℕ) (at w : ℕ) → Octets b → Octets (put_be32 b at w)
unfolding put_be32
put_bytes b at w p =
    let x : List ℕ = set b at (w / 16777216 % 256) in
    let y : List ℕ = set x (at + 1) (w / 65536 % 256) in
    let z : List ℕ = set y (at + 2) (w / 256 % 256) in
    set_bytes z (at + 3) (w % 256) (rest_of w)
    (set_bytes y (at + 2) (w / 256 % 256) (rest_of (w / 256))
    (set_bytes x (at + 1) (w / 65536 % 256) (rest_of (w / 65536)) (set_bytes b at (w / 16777216 % 256) (rest_of (w / 16777216)) p)))

sealed_bytes : (b : List ℕ) → Octets b → Octets (sealed b)
unfolding sealed
sealed_bytes b p = put_bytes b 508 (negated (sum_words b 127)) p

pub said_bytes : (issue k : ℕ) (r : Row) → Fitting r → Octets (block_from issue k r)
unfolding block_from unsealed names_bytes rest_bytes
said_bytes issue k r f = sealed_bytes (unsealed issue k r) whole
  where
    ns : List ℕ
    ns = r.numbers

    least : (i : ℕ) → get_or ns i 0 ≤ get_or limits i 0
    least i = fits_at_lem limits ns f.numbers i

    front : Octets (front_bytes k ns (length r.public) (length r.private) (length r.server))
    front =
        omega arith
        more omega arith
        more omega arith
        more omega arith
        more rest_of (k / 16777216)
        more rest_of (k / 65536)
        more rest_of (k / 256)
        more rest_of k
        more omega (arith, least 0)
        more omega (arith, least 1, least 2, least 3)
        more omega (arith, least 4)
        more omega (arith, least 5)
        more omega (arith, least 10)
        more omega (arith, f.public_size_lem)
        more omega (arith, f.private_size_lem)
        more omega (arith, f.server_size_lem)
        more none_bytes

    names : Octets (names_bytes r.public r.private r.server)
    names =
        append_bytes (padded 128 r.public) (padded 128 r.private ++ padded 96 r.server)
        (padded_bytes 128 r.public (name_bytes_lem r.public f.public))
        (append_bytes (padded 128 r.private) (padded 96 r.server) (padded_bytes 128 r.private (name_bytes_lem r.private f.private))
        (padded_bytes 96 r.server (name_bytes_lem r.server f.server)))

    rest : Octets (rest_bytes ns)
    rest =
        append_bytes (words_bytes (take 4 (drop 6 ns))) (words_bytes (take 5 (drop 11 ns)) ++ (half_bytes (get_or ns 16 0) ++ half_bytes (get_or ns 17 0)))
        (words_bytes_lem (take 4 (drop 6 ns)))
        (append_bytes (words_bytes (take 5 (drop 11 ns))) (half_bytes (get_or ns 16 0) ++ half_bytes (get_or ns 17 0)) (words_bytes_lem (take 5 (drop 11 ns)))
        (append_bytes (half_bytes (get_or ns 16 0)) (half_bytes (get_or ns 17 0)) (half_bytes_lem (get_or ns 16 0)) (half_bytes_lem (get_or ns 17 0))))

    whole : Octets (unsealed issue k r)
    whole =
        append_bytes (front_bytes k ns (length r.public) (length r.private) (length r.server)) _ front
        (append_bytes (names_bytes r.public r.private r.server) (rest_bytes ns ++ (word_bytes issue ++ replicate 100 0)) names
        (append_bytes (rest_bytes ns) (word_bytes issue ++ replicate 100 0) rest
        (append_bytes (word_bytes issue) (replicate 100 0) (word_bytes_lem issue) (zeros_bytes 100))))
