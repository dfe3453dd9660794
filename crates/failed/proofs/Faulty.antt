-- The faulty AVP of a request: its own bytes, or its header alone.
use Rattle.octets.specs.Standard.{ℕ, ◌+◌, ◌-◌, ◌*◌, ◌/◌, ◌%◌, ◌≤◌, ◌<◌, min, ◌≡◌, refl, sym, ap, ◌∙◌, Bool, true, false, cond, List, [], ◌∷◌, arith}
use Rattle.octets.specs.Standard.{add-sub_cancel_left, leb, length, get_or, take, drop, set, length-take, length-drop, length-set, drop_of_length-le}
use Rattle.octets.specs.Standard.{take-nil, get_or-drop, le-leb, lt-leb, eq-eqb, ne_eqb}
use Rattle.octets.specs.Number.{be24_at, put_be24}
use Rattle.octets.specs.Run.{over, Wrote}
use Rattle.octets.proofs.Writes.{named, over_length}
use Rattle.octets.proofs.Parts.{part_cut}
use Rattle.diameter.specs.Avp.{head_of, avp_head, avp_len}
use Rattle.pen.specs.Bytes.{copied, group}
use Rattle.pen.specs.Groups.{failed, failed_size}
use Rattle.pen.proofs.Groups.{failed_length}
use Rattle.failed.specs.Failing.{head_part, alone, failed_of}

-- The length in a header, byte by byte.
pub length_read : (s : List ℕ) (at x y z a b c : ℕ) → x ≡ get_or s (at + 5) 0 → a ≡ x → y ≡ get_or s (at + 6) 0 → b ≡ y → z ≡ get_or s (at + 7) 0 → c ≡ z
    → a * 65536 + b * 256 + c ≡ avp_len (drop at s)
unfolding be24_at
length_read s at x y z a b c ex ea ey eb ez ec = simp (get_or-drop) (rw (ea, ex, eb, ey, ec, ez))

pub whole_past : (s : List ℕ) (at n : ℕ) → length s ≤ at → [] ≡ take n (drop at s)
whole_past s at n h = rw (drop_of_length-le s h) (sym (take-nil n))

pub whole_there : (s : List ℕ) (at n to : ℕ) → at < length s → n ≡ avp_len (drop at s) → to ≡ min (at + n) (length s)
    → take (to - at) (drop at s) ≡ take (avp_len (drop at s)) (drop at s)
whole_there s at n to h en et = part_cut s at n to (length s) refl (omega arith) et ∙ ap (λ (m : ℕ). take m (drop at s)) en

-- The header, whole or cut off.
pub head_past : (s : List ℕ) (at : ℕ) → length s ≤ at → head_part (drop at s) ≡ []
unfolding head_part head_of
head_past s at h = rw (drop_of_length-le s h)

module _ (s : List ℕ) (at head flags : ℕ) (ef : flags ≡ get_or s (at + 4) 0) (eh : head ≡ head_of flags) where
  head_is : avp_head (drop at s) ≡ head
  head_is = rw (get_or-drop at s 4 0, ← ef, ← eh)

  pub head_cut : at < length s → length s - at < head → head_part (drop at s) ≡ []
  unfolding head_part
  head_cut a h = rw (head_is, length-drop at s, lt-leb head (length s - at) h)

  pub head_there : head ≤ length s - at → take (at + head - at) (drop at s) ≡ head_part (drop at s)
  unfolding head_part
  head_there h = rw (head_is, length-drop at s, le-leb head (length s - at) h, add-sub_cancel_left at head)

pub head_short : (s : List ℕ) (at head flags : ℕ) → head ≡ head_of flags → head ≤ length s - at
    → (8 ≤ length (take (at + head - at) (drop at s))) × (length (take (at + head - at) (drop at s)) ≤ 12)
unfolding head_of
head_short s at head flags e h = go (leb 128 flags) e
  where
    go : (v : Bool) → head ≡ cond v 12 8 → (8 ≤ length (take (at + head - at) (drop at s))) × (length (take (at + head - at) (drop at s)) ≤ 12)
    go true q = rw (add-sub_cancel_left at head, length-take, length-drop at s) (omega arith, omega arith)
    go false q = rw (add-sub_cancel_left at head, length-take, length-drop at s) (omega arith, omega arith)

alone_length : (h : List ℕ) → length (alone h) ≡ length h
unfolding alone
alone_length h = simp length-set

-- The length in a header that was copied into Failed-AVP.
stored : (h b : List ℕ) → 8 ≤ length h → set (set (set (over (failed h) b) 13 0) 14 0) 15 (length h) ≡ over (failed (alone h)) b
unfolding over failed group copied alone
stored (_ ∷ _ ∷ _ ∷ _ ∷ _ ∷ _ ∷ _ ∷ _ ∷ r) b k = refl
stored [] b k = absurd (omega arith)
stored (_ ∷ []) b k = absurd (omega arith)
stored (_ ∷ _ ∷ []) b k = absurd (omega arith)
stored (_ ∷ _ ∷ _ ∷ []) b k = absurd (omega arith)
stored (_ ∷ _ ∷ _ ∷ _ ∷ []) b k = absurd (omega arith)
stored (_ ∷ _ ∷ _ ∷ _ ∷ _ ∷ []) b k = absurd (omega arith)
stored (_ ∷ _ ∷ _ ∷ _ ∷ _ ∷ _ ∷ []) b k = absurd (omega arith)
stored (_ ∷ _ ∷ _ ∷ _ ∷ _ ∷ _ ∷ _ ∷ []) b k = absurd (omega arith)

pub copy_room : (t : List ℕ) {h : List ℕ} {m : ℕ} → h ≡ head_part t → failed_size (length (head_part t)) ≤ m → failed_size (length h) ≤ m
copy_room t e r = rw e r

module _ (t h : List ℕ) (eh : h ≡ head_part t) (whole : 8 ≤ length h) {b x : List ℕ} {r : ℕ} (p : Wrote (failed h) b x r) where
  pub store_room : failed_size (length (head_part t)) ≤ length b → 13 + 3 ≤ length x
  store_room room =
      let l : length x ≡ length b = rw p.bytes (over_length (failed h) b (rw (failed_length h, eh) room)) in
      rw l (omega (arith, rw (← eh) at room))

  pub wrote_alone : {y : List ℕ} → length h ≤ 12 → y ≡ put_be24 x 13 (length h) → Wrote (failed (alone (head_part t))) b y r
  unfolding put_be24
  wrote_alone short put =
      let a : length h / 65536 % 256 ≡ 0 = omega arith in
      let b : length h / 256 % 256 ≡ 0 = omega arith in
      let c : length h % 256 ≡ length h = omega arith in
      rw (← eh)
      (record {
        count = p.count ∙ (failed_length h ∙ (ap failed_size (sym (alone_length h)) ∙ sym (failed_length (alone h))));
        bytes = rw (put, p.bytes, a, b, c) (stored h _ whole);
      })

pub wrote_none : (t : List ℕ) {b x : List ℕ} {r : ℕ} → head_part t ≡ [] → Wrote (failed []) b x r → Wrote (failed (alone (head_part t))) b x r
unfolding alone
wrote_none t e p = rw e p

-- For B5014 the header alone; else the AVP.
module _ (n : ℕ) (t : List ℕ) (is : n ≡ 5014) where
  faulty_head : failed_of n t ≡ alone (head_part t)
  unfolding failed_of
  faulty_head = rw (eq-eqb n 5014 is)

  pub head_room : {m : ℕ} → length (failed (failed_of n t)) ≤ m → failed_size (length (head_part t)) ≤ m
  head_room r =
      let e : length (failed (failed_of n t)) ≡ failed_size (length (head_part t)) = failed_length (failed_of n t) ∙ rw (faulty_head, alone_length (head_part t)) in
      rw e at r

  pub wrote_head : {b xs : List ℕ} {r : ℕ} → Wrote (failed (alone (head_part t))) b xs r → Wrote (failed (failed_of n t)) b xs r
  wrote_head w = named (ap failed (sym faulty_head)) refl w

module _ (n : ℕ) (t a : List ℕ) (other : n ≡ 5014 → ⊥) (ea : a ≡ take (avp_len t) t) where
  faulty_whole : failed_of n t ≡ a
  unfolding failed_of
  faulty_whole = rw (ne_eqb n 5014 other) (sym ea)

  pub whole_room : {m : ℕ} → length (failed (failed_of n t)) ≤ m → failed_size (length a) ≤ m
  whole_room r = let e : length (failed (failed_of n t)) ≡ failed_size (length a) = failed_length (failed_of n t) ∙ rw faulty_whole in rw e at r

  pub wrote_whole : {b xs : List ℕ} {r : ℕ} → Wrote (failed a) b xs r → Wrote (failed (failed_of n t)) b xs r
  wrote_whole w = named (ap failed (sym faulty_whole)) refl w
