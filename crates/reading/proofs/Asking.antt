-- One Supported-Features: its bits, its members' numbers, and what it asks for.
use Rattle.std.specs.Prelude.{Result, Ok, Err}
use Rattle.octets.specs.Standard.{ℕ, ◌+◌, ◌/◌, ◌%◌, ◌^◌, ◌≤◌, ◌<◌, ◌≡◌, refl, sym, ap, ◌∙◌, List, Bool, true, false, not, ◌&&◌, ◌||◌, length}
use Rattle.octets.specs.Standard.{eqb, ne_eqb}
use Rattle.octets.specs.All.{all_below}
use Rattle.octets.proofs.All.{all_end}
use Rattle.reading.proofs.Below.{all_fails, all_on}
use Rattle.diameter.specs.Avp.{data_of, value_of}
use Rattle.diameter.specs.Reader.{between, read_of, own_of, Here, Spans}
use Rattle.diameter.specs.Walk.{Walk, walk}
use Rattle.diameter.specs.declared.Avp.{Avp}
use Rattle.diameter.specs.declared.Span.{Span}
use Rattle.diameter.proofs.Parts.{member_walked, member_fault, member_past}
use Rattle.diameter.proofs.Reading.{own_flags}
use Rattle.reading.specs.Features.{clear_or_in, bit_outside, member_value, asks_other, asks, passes}
use Rattle.reading.specs.Groups.{feature_members, members_of, is_of, gathers}
use Rattle.reading.specs.declared.Dialect.{Dialect}
use Rattle.reading.specs.declared.group.Group.TheVariants.{SupportedFeatures}

-- the loop over the bits
outside : (x y : Bool) → (not x || y) ≡ not (x && not y)
outside true true = refl
outside true false = refl
outside false y = refl

module _ (wanted set k : ℕ) where
  pub bits_out : k < 32 → (eqb (wanted / 2 ^ k % 2) 1 && not (eqb (set / 2 ^ k % 2) 1)) ≡ true → true ≡ bit_outside wanted set
  unfolding bit_outside clear_or_in
  bits_out h t =
      let some : false ≡ all_below (clear_or_in wanted set) 32 =
      all_fails (clear_or_in wanted set) 32 k h (outside (eqb (wanted / 2 ^ k % 2) 1) (eqb (set / 2 ^ k % 2) 1) ∙ rw t) in
      rw (← some)

  pub bits_more : true ≡ all_below (clear_or_in wanted set) k → (eqb (wanted / 2 ^ k % 2) 1 && not (eqb (set / 2 ^ k % 2) 1)) ≡ false
      → true ≡ all_below (clear_or_in wanted set) (k + 1)
  unfolding clear_or_in
  bits_more e f = all_on (clear_or_in wanted set) k e (outside (eqb (wanted / 2 ^ k % 2) 1) (eqb (set / 2 ^ k % 2) 1) ∙ rw f)

  pub bits_all : true ≡ all_below (clear_or_in wanted set) k → k ≤ 32 → 32 ≤ k → false ≡ bit_outside wanted set
  unfolding bit_outside
  bits_all e a b = let all = all_end (clear_or_in wanted set) k 32 e a b in rw (← all)

-- the loop over the members
module _ (s : List ℕ) (at end : ℕ) (code vendor whole : ℕ) (left : member_value code vendor (walk (between s at end)) ≡ whole) where
  pub value_past : end ≤ at → 0 ≡ whole
  unfolding member_value
  value_past h = rw (member_past s at end h) at left

  module _ (r : Result Avp ℕ) (e : r ≡ read_of at (between s at end)) where
    pub value_cut : {p : ℕ} → at < end → end ≤ length s → r ≡ Err p → 0 ≡ whole
    unfolding member_value
    value_cut h fits d = rw (member_fault s at end r e d h fits) at left

    module _ (a : Avp) (d : r ≡ Ok a) (x : Bool) (ex : x ≡ is_of code vendor (own_of s a)) where
      pub value_is : (n : ℕ) → x ≡ true → n ≡ value_of (own_of s a) → n ≡ whole
      unfolding member_value
      value_is n t en = en ∙ (rw (member_walked s at end r e a d, ← ex, t) at left)

      pub value_more : x ≡ false → member_value code vendor (walk (between s a.next end)) ≡ whole
      unfolding member_value
      value_more t = rw (member_walked s at end r e a d, ← ex, t) at left

pub other_asked : (set : ℕ) (w : Walk) (v l b : ℕ) {x : Bool} → v ≡ member_value 266 0 w → l ≡ member_value 629 10415 w → b ≡ member_value 630 10415 w
    → x ≡ bit_outside b set → (not (eqb v 10415) || not (eqb l 1) || x) ≡ asks_other set w
unfolding asks_other
other_asked set w v l b ev el eb ex = rw (ex, ev, el, eb)

-- the flags, and the whole
module _ (s : List ℕ) (a : Avp) (h : Here s a) where
  pub asks_marked : (set : ℕ) (p : Span) {x : Bool} → Spans s (data_of (own_of s a)) p → a.flags / 64 % 2 ≡ 1
      → x ≡ asks_other set (walk (between s p.from p.end)) → x ≡ asks set (own_of s a)
  unfolding asks
  asks_marked set p i m ex = ex ∙ rw (i.holds, own_flags s a h, m)

  pub asks_plain : (set : ℕ) → (a.flags / 64 % 2 ≡ 1 → ⊥) → false ≡ asks set (own_of s a)
  unfolding asks
  asks_plain set m = rw (own_flags s a h, ne_eqb _ _ m)

  pub passes_there : (d : Dialect) {x : Bool} → x ≡ gathers (members_of d SupportedFeatures) (walk (data_of (own_of s a)))
      → (eqb (a.flags % 32) 0 && x) ≡ passes (own_of s a)
  unfolding passes members_of
  passes_there d ex =
      ap (λ (y : Bool). eqb (a.flags % 32) 0 && y) ex
      ∙ ap (λ (n : ℕ). eqb (n % 32) 0 && gathers feature_members (walk (data_of (own_of s a)))) (sym (own_flags s a h))
