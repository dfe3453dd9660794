-- The turns of the loop that writes: after each the area is one that a cut at this moment would leave.
use Rattle.octets.specs.Standard.{ℕ, suc, ◌+◌, ◌-◌, ◌*◌, ◌<◌, ◌≤◌, ◌≡◌, refl, sym, ◌∙◌, ap, List, [], ◌++◌, append_assoc, append-nil, arith, length}
use Rattle.octets.specs.Standard.{take, drop, length-take, length-drop, drop_of_length-le, take-append-drop, take_all, take_at, drop-drop}
use Rattle.octets.specs.Standard.{length-take-le, mid_of, put_mid}
use Rattle.octets.specs.Run.{over, Wrote}
use Rattle.blocks.specs.Blocks.{block_of, table_of}
use Rattle.blocks.proofs.Blocks.{block_length, table_front, front_length}
use Rattle.blocks.proofs.Changed.{block_put, next_changed}
use Rattle.taking.specs.Written.{Begun, with_block, cut_after}

-- A block of the area, lent and come back.
pub block_written : (area fresh : List ℕ) (k : ℕ) {b y : List ℕ} {r : ℕ} → 512 * k + 512 ≤ length area → b ≡ block_of fresh k → length b ≡ 512
    → Wrote b (mid_of (512 * k) (512 * k + 512 - 512 * k) area) y r → put_mid (512 * k) (512 * k + 512 - 512 * k) area y ≡ with_block area fresh k
unfolding with_block over
block_written area fresh k {b} {y} h e whole w =
    let l : length (mid_of (512 * k) (512 * k + 512 - 512 * k) area) ≤ length b = simp (length-take, length-drop) (omega arith) in
    let z : drop (length b) (mid_of (512 * k) (512 * k + 512 - 512 * k) area) ≡ [] = drop_of_length-le _ l in
    let q : y ≡ block_of fresh k = w.bytes ∙ rw z (append-nil b) ∙ e in
    block_put (λ (c : List ℕ). block_of fresh k) area k q

-- The first k blocks of the new table, of so many.
pub cut_none : (area fresh : List ℕ) → area ≡ cut_after area fresh 0
unfolding cut_after
cut_none area fresh = refl

module _ (area fresh : List ℕ) (blocks k : ℕ) (size : length fresh ≡ 512 * blocks) where
  module _ {x y : List ℕ} (room : length fresh ≤ length area) (below : k < blocks) (e : x ≡ cut_after area fresh k) (f : y ≡ with_block x fresh k) where
    abbrev rest : List ℕ
    rest = drop (512 * k + 512) area

    -- block k as it was is the first behind them, and as it is to be the last of them
    one_old : cut_after area fresh k ≡ table_of (block_of fresh) k ++ (block_of area k ++ rest)
    unfolding cut_after block_of
    one_old =
        ap (λ (s : List ℕ). s ++ drop (512 * k) area) (table_front fresh k)
        ∙ ap (λ (s : List ℕ). table_of (block_of fresh) k ++ s)
        (sym (take-append-drop 512 (drop (512 * k) area)) ∙ ap (λ (s : List ℕ). block_of area k ++ s) (drop-drop 512 (512 * k) area))

    one_new : table_of (block_of fresh) k ++ (block_of fresh k ++ rest) ≡ cut_after area fresh (k + 1)
    unfolding cut_after table_of
    one_new =
        let m : 512 * suc k ≡ 512 * (k + 1) = omega arith in
        let n : 512 * k + 512 ≡ 512 * (k + 1) = omega arith in
        sym (append_assoc (table_of (block_of fresh) k) (block_of fresh k) rest)
        ∙ ap (λ (s : List ℕ). s ++ rest) (sym (table_front fresh (suc k)) ∙ ap (λ (i : ℕ). take i fresh) m)
        ∙ ap (λ (i : ℕ). take (512 * (k + 1)) fresh ++ drop i area) n

    pub cut_next : y ≡ cut_after area fresh (k + 1)
    unfolding with_block
    cut_next =
        f ∙ ap (λ (s : List ℕ). with_block s fresh k) (e ∙ one_old)
        ∙ next_changed (λ (c : List ℕ). block_of fresh k) (block_of fresh) k (block_of area k) rest (λ j l. block_length fresh j (omega arith))
        (block_length area k (omega arith))
        ∙ one_new

    pub cut_kept : length y ≡ length area
    unfolding cut_after
    cut_kept =
        ap length cut_next ∙ front_length (take (512 * (k + 1)) fresh) (k + 1) area (length-take-le (512 * (k + 1)) fresh (omega arith)) (omega arith)

  pub cut_begun : {x : List ℕ} → k < blocks → x ≡ cut_after area fresh k → Begun x fresh k
  unfolding cut_after
  cut_begun below e =
      ap (take (512 * k)) e ∙ take_at (take (512 * k) fresh) (drop (512 * k) area) (512 * k) (length-take-le (512 * k) fresh (omega arith))

  pub cut_end : {x : List ℕ} → k ≤ blocks → blocks ≤ k → x ≡ cut_after area fresh k → x ≡ over fresh area
  unfolding cut_after over
  cut_end a b e =
      let q : 512 * k ≡ length fresh = omega arith in
      e ∙ rw (q, take_all (length fresh) fresh (omega arith))
