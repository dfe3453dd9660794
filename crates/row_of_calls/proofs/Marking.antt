-- A call marks vectors, so that the vector file has other bytes, where it is a MAR that succeeds, and nowhere else.
use Rattle.octets.specs.Standard.{ℕ, ◌/◌, ◌<◌, List, [], ◌∷◌, Bool, true, false, not, ◌&&◌, ◌≡◌, refl, sym, ap, ◌∙◌, arith, length, get_or}
use Rattle.octets.specs.Standard.{eqb, eq-eqb, eqb-true}
use Rattle.octets.specs.Name.{same}
use Rattle.octets.proofs.All.{and_left}
use Rattle.octets.proofs.Names.{same_eq, same_refl}
use Rattle.blocks.specs.Blocks.{block_of}
use Rattle.blocks.specs.Changed.{is_one}
use Rattle.blocks.proofs.Blocks.{block_length}
use Rattle.vectors.specs.Chosen.{unused_here, unused_at, unused_of, sent_of}
use Rattle.vectors.specs.Marked.{marked_used, spent}
use Rattle.vectors.specs.VectorBlock.{vector_of, card_of}
use Rattle.vectors.specs.VectorFile.{SoundVectors}
use Rattle.vectors.proofs.Marks.{marked_used_lem}
use Rattle.vectors.proofs.Sound.{whole_blocks, block_fits}
use Rattle.vectors.proofs.Spent.{spent_marked}
use Rattle.vectors.proofs.Unused.{ones_hold}
use Rattle.reading.specs.declared.Outcome.{Outcome}
use Rattle.reading.specs.declared.Outcome.TheVariants.{Base, Experimental}
use Rattle.diameter.specs.Message.{command_of}
use Rattle.calling.specs.Lent.{Lent, dialect_in}
use Rattle.refusals.specs.Early.{check_value}
use Rattle.calling.specs.Serve.{check_of, decided, result_of}
use Rattle.row_of_calls.specs.Leaves.{marks_from}
use Rattle.row_of_calls.proofs.Cases.{Cases, other, success, decide_cases}

-- a file with blocks marked that were unused, and with one such block at least, is another file
module _ (v : List ℕ) (sound : SoundVectors v) (name : List ℕ) (most : ℕ) where
  one_marked : (ks : List ℕ) (k : ℕ) → ks ≡ unused_of v name most → is_one ks k ≡ true → v ≡ spent v ks → ⊥
  unfolding unused_of unused_at unused_here vector_of
  one_marked ks k e f g =
      let h = ones_hold (unused_at v name) (length v / 512) 0 most k (rw e at f) in
      let l : k < length v / 512 = omega (arith, h.1) in
      let was : get_or (block_of v k) 1 0 ≡ 0 = eqb-true (get_or (block_of v k) 1 0) 0 (and_left _ (same (card_of (block_of v k)) name) h.2) in
      let b : block_of v k ≡ marked_used (block_of v k) = ap (λ (s : List ℕ). block_of s k) g ∙ spent_marked v (whole_blocks v sound) ks k l f in
      let is : get_or (block_of v k) 1 0 ≡ 1 =
      ap (λ (s : List ℕ). get_or s 1 0) b ∙ marked_used_lem (block_of v k) (block_length v k (block_fits v k l)) in
      omega (arith, was, is)

  pub some_marked : (ks : List ℕ) → ks ≡ unused_of v name most → 0 < length ks → not (same v (spent v ks)) ≡ true
  unfolding is_one
  some_marked [] e h = absurd (omega (arith, h))
  some_marked (k ∷ ks) e h = go (same v (spent v (k ∷ ks))) refl
    where
      go : (b : Bool) → same v (spent v (k ∷ ks)) ≡ b → not b ≡ true
      go false f = refl
      go true f = absurd (one_marked (k ∷ ks) k e (rw (eq-eqb k k refl)) (same_eq v (spent v (k ∷ ks)) f))

unmarked : (v after : List ℕ) → after ≡ v → not (same v after) ≡ false
unmarked v after e = rw (e, same_refl v)

no_success : (command : ℕ) (r : Outcome) → (command ≡ 303 → r ≡ Base 2001 → ⊥) → marks_from command r ≡ false
no_success command (Experimental n) h = refl
no_success command (Base n) h = go (eqb command 303) (eqb n 2001) refl refl
  where
    go : (a b : Bool) → eqb command 303 ≡ a → eqb n 2001 ≡ b → (a && b) ≡ false
    go true true e f = absurd (h (eqb-true command 303 e) (ap Base (eqb-true n 2001 f)))
    go true false e f = refl
    go false b e f = refl

-- where no refusal is given
pub decided_marks : (x : Lent) → SoundVectors x.vectors
    → marks_from (command_of x.request) (result_of x) ≡ not (same x.vectors (decided x).vectors)
decided_marks x sound = go (decide_cases (dialect_in x) x.request x.table (check_value (check_of x)) x.vectors)
  where
    go : Cases (dialect_in x) x.request x.table (check_value (check_of x)) x.vectors (decided x)
        → marks_from (command_of x.request) (result_of x) ≡ not (same x.vectors (decided x).vectors)
    go (other o) =
        no_success (command_of x.request) (result_of x) o.apart ∙ sym (unmarked x.vectors (decided x).vectors o.still.kept)
    go (success s) =
        let yes : marks_from (command_of x.request) (result_of x) ≡ true = rw (s.sends.result, s.command) in
        yes ∙ sym (rw s.sends.marks (some_marked x.vectors sound _ _ (sent_of (decided x).given.sent) s.sends.sent s.sends.some))
