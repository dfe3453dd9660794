-- An item is written by the writers of its parts.
use Rattle.octets.specs.Standard.{ℕ, zero, suc, ◌+◌, ◌*◌, ◌≤◌, ◌<◌, Bool, true, false, ◌≡◌, refl, List, ◌++◌, arith, add-one, length, get_or, take}
use Rattle.octets.specs.Standard.{drop, length-take, length-drop, length-append, length-take-le, lit≤, get_or-take, ltb, ltb-true, ltb-false}
use Rattle.octets.specs.Run.{over, Wrote}
use Rattle.octets.proofs.Writes.{lent, back, then, named, then_front}
use Rattle.pen.specs.Bytes.{vendor_head, vendor_bytes, vendor_number, vendor_group}
use Rattle.pen.proofs.Sizes.{there_length, there_room, vendor_length, vendor_group_length}
use Rattle.pen.proofs.Writers.{wrote_there, wrote_none}
use Rattle.blocks.specs.Blocks.{block_of}
use Rattle.blocks.proofs.Blocks.{block_length}
use Rattle.vectors.specs.Chosen.{sent_of}
use Rattle.vectors.specs.Scheme.{scheme}
use Rattle.vectors.specs.VectorBlock.{vector_of, rand_autn_of, xres_of, confidentiality_of, integrity_of}
use Rattle.vectors.specs.Sendable.{Sendable}
use Rattle.vectors.specs.declared.choice.Sent.{Sent}
use Rattle.items.specs.Items.{challenge_bytes, key_bytes, key_size, item_bytes, item_size, items_bytes, numbered_bytes, sent_bytes}

module _ (b : List ℕ) where
  pub wrote_challenge : (i : ℕ) {d o xs ys zs : List ℕ} {n r t : ℕ} → d ≡ rand_autn_of b → Wrote (vendor_number 613 i) o xs n
      → Wrote (vendor_bytes 608 scheme) (lent n xs) ys r → Wrote (vendor_bytes 609 d) (lent (n + r) (back n xs ys)) zs t
      → Wrote (challenge_bytes i b) o (back (n + r) (back n xs ys) zs) (n + r + t)
  unfolding challenge_bytes
  wrote_challenge i e p q u = named (rw e refl) refl (then (then p q) u)

  pub wrote_keys : {x c k o xs ys zs : List ℕ} {n r t : ℕ} → x ≡ xres_of b → c ≡ confidentiality_of b → k ≡ integrity_of b → Wrote (vendor_bytes 610 x) o xs n
      → Wrote (vendor_bytes 625 c) (lent n xs) ys r → Wrote (vendor_bytes 626 k) (lent (n + r) (back n xs ys)) zs t
      → Wrote (key_bytes b) o (back (n + r) (back n xs ys) zs) (n + r + t)
  unfolding key_bytes
  wrote_keys e f g p q u = named (rw (e, f, g) refl) refl (then (then p q) u)

  pub wrote_item : (i : ℕ) {o ys zs : List ℕ} {r : ℕ} → item_size b ≤ length o → Wrote (challenge_bytes i b ++ key_bytes b) (lent 12 o) ys r
      → Wrote (vendor_head 612 (12 + r)) (back 12 o ys) zs 12 → Wrote (item_bytes i b) o zs (12 + r)
  unfolding item_bytes vendor_group
  wrote_item i room p q = named (rw p.count) refl (then_front (omega arith) p q)

-- How long an item is.
part_long : (b : List ℕ) (at n : ℕ) → length b ≡ 512 → at + n ≤ 512 → length (take n (drop at b)) ≡ n
part_long b at n e h = length-take-le n (drop at b) (omega (arith, length-drop at b))

module _ (b : List ℕ) (e : length b ≡ 512) (h : (vector_of b).xres ≤ 16) where
  rand_long : length (rand_autn_of b) ≡ 32
  unfolding rand_autn_of
  rand_long = part_long b 132 32 e (lit≤ tt)

  xres_long : length (xres_of b) ≡ (vector_of b).xres
  unfolding xres_of vector_of
  xres_long = part_long b 164 (get_or b 2 0) e (omega arith)

  confidentiality_long : length (confidentiality_of b) ≡ 16
  unfolding confidentiality_of
  confidentiality_long = part_long b 180 16 e (lit≤ tt)

  integrity_long : length (integrity_of b) ≡ 16
  unfolding integrity_of
  integrity_long = part_long b 196 16 e (lit≤ tt)

  challenge_long : (i : ℕ) → length (challenge_bytes i b) ≡ 88
  unfolding challenge_bytes vendor_number vendor_head
  challenge_long i = simp (length-append, vendor_length, rand_long)

  key_long : length (key_bytes b) ≡ key_size b
  unfolding key_bytes
  key_long = simp (length-append, vendor_length, xres_long, confidentiality_long, integrity_long) (omega arith)

  pub item_long : (i : ℕ) → length (item_bytes i b) ≡ item_size b
  unfolding item_bytes
  item_long i =
      omega (
        arith,
        vendor_group_length 612 (challenge_bytes i b ++ key_bytes b),
        length-append (challenge_bytes i b) (key_bytes b),
        challenge_long i,
        key_long,
      )

-- The turns of the loop over the blocks.
module _ (v blocks : List ℕ) where
  pub items_none : (o : List ℕ) → Wrote (items_bytes v blocks 0) o o 0
  unfolding items_bytes over
  items_none o = record { count = refl; bytes = refl }

  -- what is written up to one block, with it, is no longer than all
  pub items_room : (n i : ℕ) → i < n
      → length (items_bytes v blocks i) + length (item_bytes (suc i) (block_of v (get_or blocks i 0))) ≤ length (items_bytes v blocks n)
  unfolding items_bytes
  items_room zero i h = absurd (omega arith)
  items_room (suc n) i h = go (ltb i n) refl (λ l. items_room n i l)
    where
      more : length (items_bytes v blocks n ++ item_bytes (suc n) (block_of v (get_or blocks n 0)))
          ≡ length (items_bytes v blocks n) + length (item_bytes (suc n) (block_of v (get_or blocks n 0)))
      more = length-append (items_bytes v blocks n) (item_bytes (suc n) (block_of v (get_or blocks n 0)))

      go : (x : Bool) → ltb i n ≡ x
          → (i < n → length (items_bytes v blocks i) + length (item_bytes (suc i) (block_of v (get_or blocks i 0))) ≤ length (items_bytes v blocks n))
          → length (items_bytes v blocks i) + length (item_bytes (suc i) (block_of v (get_or blocks i 0)))
          ≤ length (items_bytes v blocks n ++ item_bytes (suc n) (block_of v (get_or blocks n 0)))
      go true e r = omega (arith, more, r (ltb-true _ _ e))
      go false e r = let q : i ≡ n = omega (arith, ltb-false i n e) in rw q (omega (arith, more))

  pub items_next : (i : ℕ) {o xs ys : List ℕ} {at r : ℕ} (b : List ℕ) → b ≡ block_of v (get_or blocks i 0) → Wrote (items_bytes v blocks i) o xs at
      → Wrote (item_bytes (i + 1) b) (lent at xs) ys r → Wrote (items_bytes v blocks (i + 1)) o (back at xs ys) (at + r)
  unfolding items_bytes
  items_next i b e p q = rw (add-one i, ← e) (then p (rw (add-one i) at q))

-- The number and the items.
numbered_long : (v : List ℕ) (s : Sent) → length (numbered_bytes v s) ≡ 16 + length (items_bytes v s.blocks s.count)
unfolding numbered_bytes vendor_number vendor_head
numbered_long v s = length-append (vendor_number 607 s.count) (items_bytes v s.blocks s.count)

-- Blocks that can be sent: each is one of the file, and all of them take at most 16 times 184 bytes.
module _ (v : List ℕ) (s : Sent) (good : Sendable v s) where
  all_sent : length (sent_of s) ≡ s.count
  all_sent = length-take-le s.count s.blocks (omega (arith, good.few, good.room))

  pub items_all : (i : ℕ) {o xs : List ℕ} {at : ℕ} → i ≡ length (sent_of s) → Wrote (items_bytes v s.blocks i) o xs at
      → Wrote (items_bytes v s.blocks s.count) o xs at
  items_all i e p = rw (e, all_sent) at p

  module _ (i : ℕ) (sent : i < length (sent_of s)) where
    h : i < s.count
    h = omega (arith, all_sent)

    -- block i of those that are sent
    pub item_is : get_or (sent_of s) i 0 ≡ get_or s.blocks i 0
    item_is = get_or-take s.count s.blocks i 0 h

    pub items_within : 512 * get_or (sent_of s) i 0 + 512 ≤ length v
    items_within = rw item_is (good.within i h)

    pub items_short : (b : List ℕ) → b ≡ block_of v (get_or s.blocks i 0) → (vector_of b).xres ≤ 16
    items_short b e = rw e (good.short i h)

    pub items_fit : {o xs : List ℕ} {at : ℕ} (b : List ℕ) → b ≡ block_of v (get_or s.blocks i 0) → length (items_bytes v s.blocks s.count) ≤ length o
        → length xs ≡ length o → Wrote (items_bytes v s.blocks i) o xs at → item_size b ≤ length (lent at xs)
    items_fit {o} {xs} {at} b e m k p =
        let r = rw (← e) at (items_room v s.blocks s.count i h) in
        let l : length b ≡ 512 = rw e (block_length v (get_or s.blocks i 0) (good.within i h)) in
        simp (length-take, length-drop) (omega (arith, p.count, r, item_long b l (items_short b e) (suc i)))

  items_most : (n : ℕ) → n ≤ s.count → length (items_bytes v s.blocks n) ≤ 184 * n
  unfolding items_bytes
  items_most zero h = omega arith
  items_most (suc n) h =
      let b = block_of v (get_or s.blocks n 0) in
      let l = item_long b (block_length v (get_or s.blocks n 0) (good.within n (omega arith))) (good.short n (omega arith)) (suc n) in
      simp length-append (omega (arith, l, good.short n (omega arith), items_most n (omega arith)))

  pub sent_most : length (sent_bytes v s) ≤ 2960
  unfolding sent_bytes
  sent_most = omega (arith, there_length (ltb 0 s.count) (numbered_bytes v s), numbered_long v s, items_most s.count (omega arith), good.few)

-- Nothing is sent: there is nothing to write.
module _ (v : List ℕ) (s : Sent) where
  pub sent_room : {m : ℕ} → 0 < s.count → length (sent_bytes v s) ≤ m → 16 + length (items_bytes v s.blocks s.count) ≤ m
  unfolding sent_bytes
  sent_room h r = omega (arith, there_room s.count (numbered_bytes v s) h r, numbered_long v s)

  pub sent_within : {o xs : List ℕ} {m r : ℕ} → 0 < s.count → Wrote (numbered_bytes v s) o xs r → length (sent_bytes v s) ≤ m → r ≤ m
  unfolding sent_bytes
  sent_within h p r = omega (arith, p.count, there_room s.count (numbered_bytes v s) h r)

  pub wrote_numbered : {o xs ys : List ℕ} {a r : ℕ} → Wrote (vendor_number 607 s.count) o xs a
      → Wrote (items_bytes v s.blocks s.count) (lent a xs) ys r → Wrote (numbered_bytes v s) o (back a xs ys) (a + r)
  unfolding numbered_bytes
  wrote_numbered p q = then p q

  pub wrote_sent : {o xs : List ℕ} {r : ℕ} → 0 < s.count → Wrote (numbered_bytes v s) o xs r → Wrote (sent_bytes v s) o xs r
  unfolding sent_bytes
  wrote_sent h p = wrote_there s.count (numbered_bytes v s) h p

  pub wrote_nothing : (o : List ℕ) → s.count ≤ 0 → Wrote (sent_bytes v s) o o 0
  unfolding sent_bytes
  wrote_nothing o h = wrote_none s.count (numbered_bytes v s) o h
