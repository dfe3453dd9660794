-- What is read out of an AVP at a place: its code, vendor and number, its own bytes, its data, and the members of a group.
use Rattle.std.specs.Prelude.{Result, Ok, Err, is_ok}
use Rattle.octets.specs.Standard.{ℕ, zero, suc, ◌+◌, ◌-◌, ◌≤◌, ◌<◌, min, add-zero, zero-add, suc-add, add-sub_cancel_left, ◌≡◌, refl, sym, ap, ◌∙◌}
use Rattle.octets.specs.Standard.{List, [], ◌∷◌, Bool, true, false, cond, arith, length, take, drop, length-take, length-drop, drop-drop, drop-nil}
use Rattle.octets.specs.Standard.{take-nil, take-take, take-length, get_or-drop, get_or-take, length-take-le, leb, eq-eqb, ne_eqb}
use Rattle.octets.specs.Number.{be32_at}
use Rattle.octets.proofs.Numbers.{be32_drop, be32_take}
use Rattle.diameter.specs.Avp.{padded, head_of, avp_code, avp_flags, vendor_of, data_of, value_of}
use Rattle.diameter.specs.Reader.{between, read_of, own_of, Here, Spans}
use Rattle.diameter.specs.AvpAt.{part_at, present, data_at}
use Rattle.diameter.specs.Walk.{ended, faulty, avp, walk}
use Rattle.diameter.specs.declared.Avp.{Avp}
use Rattle.diameter.specs.declared.Span.{Span}
use Rattle.diameter.proofs.Reading.{Says, own_avp_head, own_code, own_vendor, read_says, read_fault_says, read_none, walk_past}

drop-take : (k m : ℕ) (l : List ℕ) → drop k (take (k + m) l) ≡ take m (drop k l)
drop-take zero m l = simp zero-add
drop-take (suc k) m [] = simp (take-nil, drop-nil)
drop-take (suc k) m (x ∷ l) = rw suc-add (drop-take k m l)

module _ (s : List ℕ) (a : Avp) (h : Here s a) where
  pub counted : length (own_of s a) ≡ a.len
  counted = simp (length-take, length-drop) (omega (arith, h.room))

  pub code_there : (r : ℕ) → r ≡ be32_at s a.at → r ≡ avp_code (own_of s a)
  code_there r d = rw (own_code s a h, be32_drop s a.at 0, add-zero a.at) d

  -- a header of 12 bytes is one with V
  pub vendor_there : (r : ℕ) → a.head ≡ 12 → r ≡ be32_at s (a.at + 8) → r ≡ vendor_of (own_of s a)
  unfolding vendor_of head_of
  vendor_there r e d = d ∙ sym (own_vendor s a h ∙ go (leb 128 (avp_flags (drop a.at s))) h.headed)
    where
      go : (b : Bool) → a.head ≡ cond b 12 8 → cond b (be32_at (drop a.at s) 8) 0 ≡ be32_at s (a.at + 8)
      go true w = be32_drop s a.at 8
      go false w = absurd (omega arith)

  pub vendor_none : (a.head ≡ 12 → ⊥) → 0 ≡ vendor_of (own_of s a)
  unfolding vendor_of head_of
  vendor_none e = sym (own_vendor s a h ∙ go (leb 128 (avp_flags (drop a.at s))) h.headed)
    where
      go : (b : Bool) → a.head ≡ cond b 12 8 → ◌≡◌ {A = ℕ} (cond b (be32_at (drop a.at s) 8) 0) 0
      go true w = absurd (e w)
      go false w = refl

  pub value_there : (r : ℕ) → a.len ≡ a.head + 4 → r ≡ be32_at s (a.at + a.head) → r ≡ value_of (own_of s a)
  unfolding value_of
  value_there r e d =
      rw (counted, own_avp_head s a h, eq-eqb _ _ e, be32_take (drop a.at s) a.len a.head (omega arith), be32_drop s a.at a.head) d

  pub value_none : (a.len ≡ a.head + 4 → ⊥) → 0 ≡ value_of (own_of s a)
  unfolding value_of
  value_none e = rw (counted, own_avp_head s a h, ne_eqb _ _ e)

  pub avp_there : (take (a.at + a.len - a.at) (drop a.at s) ≡ own_of s a) × (length (take (a.at + a.len - a.at) (drop a.at s)) ≤ length s)
  avp_there = rw (add-sub_cancel_left a.at a.len) (refl, rw counted (omega (arith, h.room)))

  pub data_length : length (data_of (own_of s a)) ≡ a.len - a.head
  data_length = rw (own_avp_head s a h, length-drop, counted)

-- the place of the next AVP, by the bytes of this one
pub says_next : (s : List ℕ) (at : ℕ) (a : Avp) → Says s at a → at + padded (length (own_of s a)) ≡ a.next
says_next s at a says = rw (counted s a says.here) (sym says.stepped)

-- What stands before an end stands in the message.
module _ (s : List ℕ) (end : ℕ) (a : Avp) (i : Here (take end s) a) where
  room_before : a.at + a.len ≤ min end (length s)
  room_before = rw length-take at i.room

  own_before : own_of (take end s) a ≡ own_of s a
  own_before =
      let n = end - a.at in
      let m : end ≡ a.at + n = omega (arith, room_before) in
      rw (m, drop-take a.at n s, take-take a.len n (drop a.at s) (omega (arith, room_before)))

  flags_before : avp_flags (drop a.at (take end s)) ≡ avp_flags (drop a.at s)
  flags_before =
      let h : a.at + 4 < end = omega (arith, room_before, i.eight, i.least) in
      rw (get_or-drop a.at (take end s) 4 0, get_or-take end s (a.at + 4) 0 h, get_or-drop a.at s 4 0)

  here_before : Here s a
  here_before = record {
    headed = rw flags_before at i.headed;
    flagged = rw flags_before at i.flagged;
    eight = i.eight;
    twelve = i.twelve;
    least = i.least;
    room = omega (arith, room_before);
  }

-- An AVP's data are the bytes between its header and its end.
pub data_between : (s : List ℕ) (a : Avp) → Here s a → between s (a.at + a.head) (a.at + a.len) ≡ data_of (own_of s a)
unfolding between
data_between s a h =
    let m : a.head + (a.len - a.head) ≡ a.len = omega (arith, h.least) in
    let n : a.at + a.len ≡ a.at + a.head + (a.len - a.head) = omega (arith, h.least) in
    rw (own_avp_head s a h, n, drop-take (a.at + a.head) (a.len - a.head) s)
    (rw (← drop-drop a.head a.at s, ← drop-take a.head (a.len - a.head) (drop a.at s), m))

pub spans_data : (s : List ℕ) (a : Avp) → Here s a → Spans s (data_of (own_of s a)) (record { from = a.at + a.head; end = a.at + a.len })
spans_data s a h = record { ordered = omega (arith, h.least); inside = h.room; holds = data_between s a h }

-- the bytes there
pub part_is : (s : List ℕ) (from end : ℕ) → from ≤ end → take (end - from) (drop from s) ≡ between s from end
unfolding between
part_is s from end o =
    let n : end ≡ from + (end - from) = omega arith in
    sym (ap (λ (k : ℕ). drop from (take k s)) n ∙ drop-take from (end - from) s)

-- A member that is read before its group's end stands in the message.
module _ (s : List ℕ) (at end : ℕ) (r : Result Avp ℕ) (e : r ≡ read_of at (between s at end)) where
  module _ (a : Avp) (d : r ≡ Ok a) where
    pub member_says : Says (take end s) at a
    unfolding between
    member_says = read_says (take end s) at r e a d

    pub member_here : Here s a
    member_here = here_before s end a member_says.here

    pub member_walked : walk (between s at end) ≡ avp (own_of s a) (walk (between s a.next end))
    unfolding between
    member_walked = rw (← own_before s end a member_says.here) member_says.walked

  pub member_fault : {p : ℕ} → r ≡ Err p → at < end → end ≤ length s → walk (between s at end) ≡ faulty (between s at end)
  unfolding between
  member_fault d l fits = read_fault_says (take end s) at r e d (rw (length-take-le end s fits) l)

pub member_past : (s : List ℕ) (at end : ℕ) → end ≤ at → walk (between s at end) ≡ ended
unfolding between
member_past s at end l = walk_past (take end s) at (rw length-take (omega arith))

-- the reader's answer, and what is then at the place
module _ (s : List ℕ) (at : ℕ) (r : Result Avp ℕ) (e : r ≡ read_of at (drop at s)) where
  pub present_is : {x : Bool} → x ≡ is_ok r → x ≡ present (part_at s at)
  present_is g = g ∙ go r refl
    where
      go : (q : Result Avp ℕ) → r ≡ q → is_ok q ≡ present (part_at s at)
      go (Ok a) d = rw (read_says s at r e a d).part
      go (Err p) d = rw (read_none s at r e d)

module _ (s : List ℕ) (at end : ℕ) (r : Result Avp ℕ) (e : r ≡ read_of at (between s at end)) where
  pub span_none : {p : ℕ} → r ≡ Err p → Spans s (data_at (between s at end) 0) (record { from = 0; end = 0 })
  unfolding between
  span_none d = record {
    ordered = omega arith;
    inside = omega arith;
    holds = rw (read_none (take end s) at r e d) (sym (drop-nil (head_of 0)));
  }

  pub span_there : (a : Avp) (p : Span) → r ≡ Ok a → Spans s (data_of (own_of s a)) p → Spans s (data_at (between s at end) 0) p
  unfolding between
  span_there a p d h =
      let says = member_says s at end r e a d in
      rw (says.part, own_before s end a says.here) h

-- of a whole message
pub data_there : (s : List ℕ) (at : ℕ) (p : Span) (b : List ℕ) → Spans s (data_at (between s at (length s)) 0) p → b ≡ between s p.from p.end
    → b ≡ data_at s at
unfolding between
data_there s at p b h e = e ∙ h.holds ∙ rw (take-length s)
