-- Vectors marked: a block with its mark, and the file with those that are sent marked, one after the other.
use Rattle.octets.specs.Standard.{ℕ, suc, ◌+◌, ◌*◌, ◌/◌, ◌%◌, ◌<◌, ◌≤◌, Bool, true, false, cond, ◌||◌, or-true, or-false, ◌≡◌, refl, sym, ◌∙◌}
use Rattle.octets.specs.Standard.{ap, ◌≢◌, List, [], ◌∷◌, ◌++◌, arith, add-one, length, get_or, set, take, length-set, take-suc, get_or-set_same}
use Rattle.octets.specs.Standard.{get_or-set_other, get_or-take, length-take-le, take_all, eqb, eqb-true, eqb-false, eq-eqb, ne_eqb, drop, drop-drop}
use Rattle.blocks.specs.Blocks.{block_of}
use Rattle.blocks.proofs.Blocks.{block_length}
use Rattle.blocks.specs.Sealed.{sealed}
use Rattle.blocks.specs.Changed.{changed_at, changed_in, is_one}
use Rattle.blocks.proofs.Sealed.{sealed_length, seal_before, seal_alike}
use Rattle.blocks.proofs.Changed.{Whole, all_none, all_length, all_block, one_more, one_append}
use Rattle.vectors.specs.Chosen.{sent_of}
use Rattle.vectors.specs.Sendable.{Sendable}
use Rattle.vectors.specs.Marked.{marked_used, spent}
use Rattle.vectors.specs.declared.choice.Sent.{Sent}

-- A marked block: byte 1 is 1, and what is not byte 1 or the check word stays.
pub marked_length : (b : List ℕ) → length (marked_used b) ≡ length b
unfolding marked_used
marked_length b = sealed_length (set b 1 1) ∙ length-set b 1 1

pub marked_other : (b : List ℕ) (i : ℕ) → i ≢ 1 → i < 508 → get_or (marked_used b) i 0 ≡ get_or b i 0
unfolding marked_used
marked_other b i n h = seal_before (set b 1 1) i h ∙ get_or-set_other b 1 i 1 0 n

pub marked_used_lem : (b : List ℕ) → length b ≡ 512 → get_or (marked_used b) 1 0 ≡ 1
unfolding marked_used
marked_used_lem b h = seal_before (set b 1 1) 1 (omega arith) ∙ get_or-set_same b 1 1 0 (omega arith)

pub marked_whole : Whole marked_used
marked_whole b h = marked_length b ∙ h

-- marked twice is marked once
marked_twice : (b : List ℕ) → length b ≡ 512 → marked_used (marked_used b) ≡ marked_used b
unfolding marked_used
marked_twice b h =
    seal_alike (set (sealed (set b 1 1)) 1 1) (set b 1 1) (length-set (sealed (set b 1 1)) 1 1 ∙ marked_whole b h) (length-set b 1 1 ∙ h)
    (λ i l. go i l (eqb i 1) refl)
  where
    go : (i : ℕ) → i < 508 → (x : Bool) → eqb i 1 ≡ x → get_or (set (sealed (set b 1 1)) 1 1) i 0 ≡ get_or (set b 1 1) i 0
    go i l true e =
        rw (eqb-true i 1 e) (get_or-set_same (sealed (set b 1 1)) 1 1 0 (omega (arith, marked_whole b h)) ∙ sym (get_or-set_same b 1 1 0 (omega arith)))
    go i l false e = get_or-set_other (sealed (set b 1 1)) 1 i 1 0 (eqb-false i 1 e) ∙ seal_before (set b 1 1) i l

-- what the functions leave
pub mark_put : (b : List ℕ) {y : List ℕ} → y ≡ sealed (set b 1 1) → y ≡ marked_used b
unfolding marked_used
mark_put b e = e

pub mark_lent : (v : List ℕ) (k : ℕ) {a r x y : List ℕ} → a ≡ take (512 * k) v → r ≡ drop (512 * k) v → x ≡ take 512 r → y ≡ marked_used x
    → a ++ (y ++ drop 512 r) ≡ changed_in v k marked_used
unfolding changed_in block_of
mark_lent v k ea er ex ey = rw (ey, ex, er, ea, drop-drop 512 (512 * k) v)

-- One number more among those sent.
sent_more : (ks : List ℕ) (k j : ℕ) → is_one (ks ++ (k ∷ [])) j ≡ (is_one ks j || eqb j k)
unfolding is_one
sent_more ks k j = one_append ks (k ∷ []) j ∙ ap (λ (x : Bool). is_one ks j || x) (or-false (eqb j k))

module _ (v : List ℕ) (whole : length v % 512 ≡ 0) where
  size : length v ≡ 512 * (length v / 512)
  size = omega arith

  pub spent_length : (ks : List ℕ) → length (spent v ks) ≡ length v
  unfolding spent
  spent_length ks = all_length v (length v / 512) (is_one ks) marked_used size marked_whole

  pub spent_block : (ks : List ℕ) (k : ℕ) → k < length v / 512 → block_of (spent v ks) k ≡ cond (is_one ks k) (marked_used (block_of v k)) (block_of v k)
  unfolding spent changed_at
  spent_block ks k h = all_block v (length v / 512) (is_one ks) marked_used size marked_whole k h

  pub spent_none : v ≡ spent v []
  unfolding spent is_one
  spent_none = all_none v (length v / 512) (is_one []) marked_used size (λ k h. refl)

  spent_one : (ks : List ℕ) (k : ℕ) → 512 * k + 512 ≤ length v → changed_in (spent v ks) k marked_used ≡ spent v (ks ++ (k ∷ []))
  unfolding spent changed_at
  spent_one ks k fits =
      one_more v (length v / 512) (is_one ks) marked_used size marked_whole (is_one (ks ++ (k ∷ []))) k (omega arith) (again (is_one ks k))
      (rw (sent_more ks k k, eq-eqb k k refl) (or-true (is_one ks k))) (λ j d. rw (sent_more ks k j, ne_eqb j k d, or-false (is_one ks j)))
    where
      again : (x : Bool) → marked_used (cond x (marked_used (block_of v k)) (block_of v k)) ≡ marked_used (block_of v k)
      again true = marked_twice (block_of v k) (block_length v k fits)
      again false = refl

-- The turns of the loop: the first i of those sent are marked.
pub record Spending (v x : List ℕ) (ks : List ℕ) (i : ℕ) : Type 0 where
  pub is : x ≡ spent v (take i ks)
  pub size : length x ≡ length v

module _ (v : List ℕ) (s : Sent) (sendable : Sendable v s) (whole : length v % 512 ≡ 0) where
  pub spend_all : Spending v v (sent_of s) 0
  spend_all = record { is = spent_none v whole; size = refl }

  few : length (sent_of s) ≡ s.count
  few = length-take-le s.count s.blocks (omega (arith, sendable.few, sendable.room))

  fits : (i : ℕ) → i < length (sent_of s) → 512 * get_or (sent_of s) i 0 + 512 ≤ length v
  fits i h = let l : i < s.count = omega (arith, few) in rw (get_or-take s.count s.blocks i 0 l) (sendable.within i l)

  module _ (x : List ℕ) (i : ℕ) (so : Spending v x (sent_of s) i) where
    pub spend_fits : i < length (sent_of s) → 512 * get_or (sent_of s) i 0 + 512 ≤ length x
    spend_fits h = rw so.size (fits i h)

    pub spend_next : {y : List ℕ} → i < length (sent_of s) → y ≡ changed_in x (get_or (sent_of s) i 0) marked_used → Spending v y (sent_of s) (i + 1)
    spend_next {y} h e =
        let ks = sent_of s in
        let k = get_or ks i 0 in
        let q : y ≡ spent v (take (suc i) ks) =
        e ∙ ap (λ (z : List ℕ). changed_in z k marked_used) so.is ∙ spent_one v whole (take i ks) k (fits i h)
        ∙ ap (spent v) (sym (take-suc ks i 0 h)) in
        record { is = rw (add-one i) q; size = ap length q ∙ spent_length v whole (take (suc i) ks) }

    pub spend_end : length (sent_of s) ≤ i → x ≡ spent v (sent_of s)
    spend_end h = so.is ∙ ap (spent v) (take_all i (sent_of s) h)
