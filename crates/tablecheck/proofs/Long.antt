-- A file that does not fit is judged by what was read of it: no table of more than 4,097 blocks is sound, nor a vector file of more than 4,096, and its
-- first bad block is among the first 4,097.
use Rattle.std.specs.Prelude.{Err}
use Rattle.octets.specs.Standard.{ℕ, zero, suc, ◌+◌, ◌*◌, ◌≤◌, ◌<◌, Bool, true, false, ◌&&◌, cond, true≢false, ◌≡◌, refl, sym, ap, ◌∙◌, List, [], ◌∷◌}
use Rattle.octets.specs.Standard.{arith, leb, eqb, length, take, drop, length-take, eqb-true, eqb-false, le-leb, leb-true, leb-false, length-take-le, take-take}
use Rattle.record.specs.Fields.{count_of}
use Rattle.record.specs.HeaderBlock.{header_of, sound_header}
use Rattle.record.proofs.Sound.{header_count}
use Rattle.blocks.specs.Blocks.{block_of, first_bad}
use Rattle.table.specs.Area.{size_in, table_in, check_area}
use Rattle.table.specs.Check.{check_records, check_table}
use Rattle.table.proofs.Areas.{in_all, read_alike}
use Rattle.vectors.specs.VectorFile.{pieces_of, sound_piece, check_vectors}

pub long_bad : (t : List ℕ) (file : ℕ) → 2097664 < length t → check_table t file ≡ Err 0
unfolding check_table
long_bad t file h = go (leb 512 (length t)) (sound_header (block_of t 0)) (eqb (length t) (512 * ((header_of (block_of t 0)).count + 1))) refl refl
  where
    go : (x y z : Bool) → sound_header (block_of t 0) ≡ y → eqb (length t) (512 * ((header_of (block_of t 0)).count + 1)) ≡ z
        → cond (x && y && z) (check_records t (header_of (block_of t 0)) file) (Err 0) ≡ Err 0
    go true true true e f =
        let n : (header_of (block_of t 0)).count ≤ 4096 = header_count (block_of t 0) (header_of (block_of t 0)) refl refl e in
        absurd (omega (arith, eqb-true (length t) (512 * ((header_of (block_of t 0)).count + 1)) f))
    go true true false e f = refl
    go true false z e f = refl
    go false y z e f = refl

part_front : (n at room : ℕ) (v : List ℕ) → at + n ≤ room → take n (drop at (take room v)) ≡ take n (drop at v)
part_front n zero room v h = take-take n room v (omega arith)
part_front n (suc at) zero v h = absurd (omega arith)
part_front n (suc at) (suc room) [] h = refl
part_front n (suc at) (suc room) (x ∷ v) h = part_front n at room v (omega arith)

front_size : (t : List ℕ) (room : ℕ) → 512 ≤ room → size_in (take room t) ≡ size_in t
unfolding size_in block_of
front_size t room h = ap (λ (b : List ℕ). 512 * (count_of b + 1)) (part_front 512 0 room t h)

long_in : (t : List ℕ) → 2097664 < size_in t → 2097664 < length t → 2097664 < length (table_in t)
unfolding table_in
long_in t a b = simp length-take (omega arith)

-- An area that does not fit, cut to the room that there is for it.
module _ (t : List ℕ) (file room : ℕ) (r : 2097664 < room) (h : room ≤ length t) where
  cut_room : length (take room t) ≡ room
  cut_room = length-take-le room t h

  pub cut_alike : check_area (take room t) file ≡ check_area t file
  unfolding check_area
  cut_alike = go (leb (size_in t) room) refl
    where
      first : size_in (take room t) ≡ size_in t
      first = front_size t room (omega arith)

      go : (b : Bool) → leb (size_in t) room ≡ b → check_table (table_in (take room t)) file ≡ check_table (table_in t) file
      go true e =
          ap (λ (s : List ℕ). check_table s file) (read_alike t (take room t) (take-take (size_in t) room t (leb-true (size_in t) room e)))
      go false e =
          let l : room < size_in t = leb-false (size_in t) room e in
          let a : table_in (take room t) ≡ take room t = in_all (take room t) (omega (arith, first, cut_room)) in
          long_bad (table_in (take room t)) file (rw a (omega (arith, cut_room))) ∙ sym (long_bad (table_in t) file (long_in t (omega arith) (omega arith)))

pieces_many : (v : List ℕ) → 2097664 ≤ length v → 4097 ≤ pieces_of v
unfolding pieces_of
pieces_many v h = omega arith

-- Two rows of blocks with the same tests up to a bad one have the same first bad one.
bad_alike : (good other : ℕ → Bool) (count others n m k j : ℕ) → k ≤ j → j < k + n → j < k + m → good j ≡ false
    → ((i : ℕ) → i ≤ j → other i ≡ good i) → first_bad other others m k ≡ first_bad good count n k
unfolding first_bad
bad_alike good other count others zero m k j a b c e h = absurd (omega arith)
bad_alike good other count others (suc n) zero k j a b c e h = absurd (omega arith)
bad_alike good other count others (suc n) (suc m) k j a b c e h =
    rw (h k a) (go (good k) refl (eqb k j) refl (λ l. bad_alike good other count others n m (suc k) j l (omega arith) (omega arith) e h))
  where
    go : (x : Bool) → good k ≡ x → (y : Bool) → eqb k j ≡ y → (suc k ≤ j → first_bad other others m (suc k) ≡ first_bad good count n (suc k))
        → cond x (first_bad other others m (suc k)) (Err k) ≡ cond x (first_bad good count n (suc k)) (Err k)
    go false f y g r = refl
    go true f true g r = let q : k ≡ j = eqb-true k j g in absurd (true≢false (sym f ∙ rw q e))
    go true f false g r = r (omega (arith, eqb-false k j g))

module _ (v : List ℕ) (room : ℕ) (r : 2097664 ≤ room) (h : room ≤ length v) where
  cut : length (take room v) ≡ room
  cut = length-take-le room v h

  piece_alike : (k : ℕ) → k ≤ 4096 → sound_piece (take room v) k ≡ sound_piece v k
  unfolding sound_piece block_of
  piece_alike k l =
      rw (
        le-leb (512 * k + 512) (length (take room v)) (omega (arith, cut)),
        le-leb (512 * k + 512) (length v) (omega arith),
        part_front 512 (512 * k) room v (omega arith),
      )

  far : sound_piece v 4096 ≡ false
  unfolding sound_piece
  far = refl

  pub vectors_alike : check_vectors (take room v) ≡ check_vectors v
  unfolding check_vectors pieces_of
  vectors_alike =
      bad_alike (sound_piece v) (sound_piece (take room v)) (pieces_of v) (pieces_of (take room v)) (pieces_of v) (pieces_of (take room v)) 0 4096
      (omega arith) (omega (arith, pieces_many v (omega arith))) (omega (arith, pieces_many (take room v) (omega (arith, cut)))) far piece_alike
