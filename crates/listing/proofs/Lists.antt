-- The list of a table, line by line: how long it is, and its turns.
use Rattle.octets.specs.Standard.{ℕ, zero, suc, ◌+◌, ◌-◌, ◌*◌, ◌<◌, ◌≤◌, Bool, true, false, ◌&&◌, ◌≡◌, refl, sym, ◌∙◌, ap, arith, add-one, ltb, ltb-true}
use Rattle.octets.specs.Standard.{ltb-false, List, ◌++◌, append-nil, length, length-append, length-take, length-drop, mid_of, put_mid}
use Rattle.octets.specs.Run.{over, Wrote}
use Rattle.octets.proofs.Writes.{then, lent, back, named}
use Rattle.record.specs.Fields.{count_of, public_of, private_of, server_of}
use Rattle.record.specs.HeaderBlock.{header_of}
use Rattle.record.specs.RecordBlock.{record_of}
use Rattle.record.proofs.Tests.{Limits}
use Rattle.blocks.specs.Blocks.{block_of, first_bad}
use Rattle.table.specs.SoundTable.{SoundTable}
use Rattle.table.proofs.Sound.{sound_tests, sound_limits_lem, sound_few}
use Rattle.quoting.specs.Quoted.{listable}
use Rattle.rows.specs.Row.{row_of, line_of}
use Rattle.rows.proofs.Written.{line_short, former_room, latter_room}
use Rattle.listing.specs.ListOf.{first_line, lines_of, list_of, listable_at, first_unlisted}

pub first_length_lem : length first_line ≡ 121
unfolding first_line
first_length_lem = refl

-- The names of a record.
pub listable_read : (t : List ℕ) (k : ℕ) (b x y z : List ℕ) {p q r : Bool} → b ≡ block_of t k → x ≡ public_of b → y ≡ private_of b → z ≡ server_of b
    → p ≡ listable x → q ≡ listable y → r ≡ listable z → (p && q && r) ≡ listable_at t k
unfolding listable_at
listable_read t k b x y z e ex ey ez ep eq er = rw (ep, eq, er, ex, ey, ez, e)

pub unlisted_all : (t : List ℕ) (count : ℕ) → first_unlisted t count ≡ first_bad (listable_at t) count (count + 1 - 1) 1
unfolding first_unlisted
unlisted_all t count = let e : count + 1 - 1 ≡ count = omega arith in rw e

-- The line of a block that is lent.
module _ (t : List ℕ) (k : ℕ) {b : List ℕ} (e : b ≡ block_of t k) where
  pub line_fits : {m : ℕ} → length (line_of (row_of (block_of t k))) ≤ m → length (line_of (row_of b)) ≤ m
  line_fits h = rw e h

  pub line_at : {o xs : List ℕ} {r : ℕ} → Wrote (line_of (row_of b)) o xs r → Wrote (line_of (row_of (block_of t k))) o xs r
  line_at w = rw (← e) w

-- A line more.
lines_next : (t : List ℕ) (k : ℕ) → lines_of t (k + 1) ≡ lines_of t k ++ line_of (row_of (block_of t (k + 1)))
unfolding lines_of
lines_next t k = rw (add-one k)

lines_le : (t : List ℕ) (k n : ℕ) → k ≤ n → length (lines_of t k) ≤ length (lines_of t n)
unfolding lines_of
lines_le t k zero h = let e : k ≡ 0 = omega arith in rw e (omega arith)
lines_le t k (suc n) h = go (ltb k (suc n)) refl (lines_le t k n)
  where
    go : (x : Bool) → ltb k (suc n) ≡ x → (k ≤ n → length (lines_of t k) ≤ length (lines_of t n)) → length (lines_of t k) ≤ length (lines_of t (suc n))
    go true e r =
        let l : k < suc n = ltb-true k (suc n) e in
        let m : length (lines_of t k) ≤ length (lines_of t n) = r (omega arith) in
        omega (arith, length-append (lines_of t n) (line_of (row_of (block_of t (suc n)))))
    go false e r = let q : k ≡ suc n = omega (arith, ltb-false k (suc n) e) in rw q (omega arith)

pub lines_none : (t o : List ℕ) → Wrote (lines_of t 0) o o 0
unfolding lines_of over
lines_none t o = record { count = refl; bytes = refl }

module _ (t : List ℕ) (count : ℕ) (s : SoundTable t count) where
  pub list_is : list_of t ≡ first_line ++ lines_of t count
  unfolding list_of header_of
  list_is = let e : count_of (block_of t 0) ≡ count = (sound_tests t count s).counted in rw e

  -- no line is longer than its space
  pub short_at : (k : ℕ) → 1 ≤ k → k ≤ count → {b : List ℕ} → b ≡ block_of t k → length (line_of (row_of b)) ≤ 1024
  unfolding record_of
  short_at k a b e =
      let l : Limits (record_of (block_of t k)) = sound_limits_lem t count s k a b in
      rw e (line_short (block_of t k) l.public l.private l.server)

  pub size_short : (k : ℕ) {b : List ℕ} {r : ℕ} → 1 ≤ k → k ≤ count → b ≡ block_of t k → r ≡ length (line_of (row_of b)) → r ≤ 1024
  size_short k a b e f = omega (arith, short_at k a b e)

  pub size_at : (k : ℕ) {b : List ℕ} {r : ℕ} → b ≡ block_of t k → r ≡ length (line_of (row_of b)) → r ≡ length (line_of (row_of (block_of t k)))
  size_at k e f = f ∙ ap (λ (x : List ℕ). length (line_of (row_of x))) e

  -- The turns of the loop that adds up.
  pub size_none : 121 ≡ length (first_line ++ lines_of t 0)
  unfolding lines_of
  size_none = rw (append-nil first_line) (sym first_length_lem)

  pub size_more : (k n r : ℕ) → n ≡ length (first_line ++ lines_of t k) → r ≡ length (line_of (row_of (block_of t (k + 1))))
      → n + r ≡ length (first_line ++ lines_of t (k + 1))
  size_more k n r e f =
      rw (lines_next t k)
      (omega (
        arith,
        length-append first_line (lines_of t k),
        length-append first_line (lines_of t k ++ line_of (row_of (block_of t (k + 1)))),
        length-append (lines_of t k) (line_of (row_of (block_of t (k + 1)))),
      ))

  pub size_all : (k n : ℕ) → k ≤ count → count ≤ k → n ≡ length (first_line ++ lines_of t k) → n ≡ length (list_of t)
  size_all k n a b e = let q : k ≡ count = omega arith in rw (list_is, ← q) e

  pub size_few : (k n : ℕ) → k ≤ count → n ≤ 121 + 1024 * k → n ≤ 4194425
  size_few k n a b = omega (arith, sound_few t count s)

  -- The turns of the loop that writes.
  module _ (o : List ℕ) where
    module _ (k n : ℕ) (xs : List ℕ) (h : k < count) (w : Wrote (lines_of t k) o xs n) where
      pub line_room : length xs ≡ length o → length (lines_of t count) ≤ length o
          → length (line_of (row_of (block_of t (k + 1)))) ≤ length (mid_of n (length xs - n) xs)
      line_room l fits =
          let m : length (lines_of t (k + 1)) ≤ length (lines_of t count) = lines_le t (k + 1) count (omega arith) in
          let d : length (lines_of t (k + 1)) ≡ length (lines_of t k) + length (line_of (row_of (block_of t (k + 1)))) =
          ap length (lines_next t k) ∙ length-append (lines_of t k) (line_of (row_of (block_of t (k + 1)))) in
          simp (length-take, length-drop) (omega (arith, w.count))

      pub line_more : {ys : List ℕ} {r : ℕ} → Wrote (line_of (row_of (block_of t (k + 1)))) (mid_of n (length xs - n) xs) ys r
          → Wrote (lines_of t (k + 1)) o (put_mid n (length xs - n) xs ys) (n + r)
      line_more v = named (sym (lines_next t k)) refl (then w v)

    pub lines_all : (k n : ℕ) {xs : List ℕ} → k ≤ count → count ≤ k → Wrote (lines_of t k) o xs n → Wrote (lines_of t count) o xs n
    lines_all k n a b w = let q : k ≡ count = omega arith in named (rw q) refl w

    -- the first line, and the others behind it
    pub first_room : length (list_of t) ≤ length o → length first_line ≤ length o
    first_room h = former_room first_line (lines_of t count) o (rw list_is at h)

    pub lines_room : {xs : List ℕ} {n : ℕ} → length (list_of t) ≤ length o → Wrote first_line o xs n → length xs ≡ length o
        → length (lines_of t count) ≤ length (mid_of n (length xs - n) xs)
    lines_room h w l = latter_room first_line (lines_of t count) o (rw list_is at h) w l

    pub wrote_list : {xs ys : List ℕ} {n r : ℕ} → Wrote first_line o xs n → Wrote (lines_of t count) (lent n xs) ys r
        → Wrote (list_of t) o (back n xs ys) (length (list_of t))
    wrote_list w v = let all : Wrote (first_line ++ lines_of t count) o _ _ = then w v in named (sym list_is) (all.count ∙ ap length (sym list_is)) all
