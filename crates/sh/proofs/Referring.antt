-- The Data-References of a request: the turns of the walk over its AVPs.
use Rattle.std.specs.Prelude.{Result, Ok, Err}
use Rattle.octets.specs.Standard.{ℕ, ◌≤◌, ◌≡◌, refl, sym, ◌∙◌, List, Bool, false, not, ◌&&◌, ◌||◌, or_assoc, or-false, length, drop, eqb}
use Rattle.diameter.specs.Avp.{value_of}
use Rattle.diameter.specs.Message.{body_of}
use Rattle.diameter.specs.Reader.{read_of, own_of}
use Rattle.diameter.specs.Walk.{walk, some_avp}
use Rattle.diameter.specs.declared.Avp.{Avp}
use Rattle.diameter.proofs.Reading.{read_says, read_unsound, walk_past}
use Rattle.reading.specs.Kinds.{kind_of, data_reference}
use Rattle.requests.proofs.Requests.{at_fault}
use Rattle.sh.specs.Referring.{refers, refers_other, references_of}

end_of : (x : Bool) {y whole : Bool} → y ≡ false → (x || y) ≡ whole → x ≡ whole
end_of x e h = sym (or-false x) ∙ rw e at h

-- Whether some AVP passes a test: what is found so far, or in what is left from here.
module _ (p : List ℕ → Bool) (s : List ℕ) (at : ℕ) (x whole : Bool) (left : (x || some_avp p (walk (drop at s))) ≡ whole) where
  some_end : length s ≤ at → x ≡ whole
  unfolding some_avp
  some_end h = end_of x (rw (walk_past s at h)) left

  module _ (r : Result Avp ℕ) (e : r ≡ read_of at (drop at s)) where
    some_cut : {q : ℕ} → r ≡ Err q → x ≡ whole
    unfolding some_avp
    some_cut d = end_of x (sym (at_fault (some_avp p) false (drop at s) (read_unsound s at r e d) refl refl)) left

    some_step : (a : Avp) → r ≡ Ok a → ((x || p (own_of s a)) || some_avp p (walk (drop a.next s))) ≡ whole
    unfolding some_avp
    some_step a d = or_assoc x (p (own_of s a)) (some_avp p (walk (drop a.next s))) ∙ (rw (read_says s at r e a d).walked at left)

-- one AVP more
module _ (s : List ℕ) (at : ℕ) (r : Result Avp ℕ) (e : r ≡ read_of at (drop at s)) (a : Avp) (d : r ≡ Ok a) (k n : ℕ) (ek : k ≡ kind_of (own_of s a))
    (en : n ≡ value_of (own_of s a)) where
  pub refer_more : (m : ℕ) (x whole : Bool) → (x || some_avp (refers m) (walk (drop at s))) ≡ whole
      → ((x || (eqb k data_reference && eqb n m)) || some_avp (refers m) (walk (drop a.next s))) ≡ whole
  unfolding refers
  refer_more m x whole l = rw (ek, en) (some_step (refers m) s at x whole l r e a d)

  pub other_more : (x whole : Bool) → (x || some_avp refers_other (walk (drop at s))) ≡ whole
      → ((x || (eqb k data_reference && (not (eqb n 11) && not (eqb n 12)))) || some_avp refers_other (walk (drop a.next s))) ≡ whole
  unfolding refers_other
  other_more x whole l = rw (ek, en) (some_step refers_other s at x whole l r e a d)

-- all of them
whole_of : (s : List ℕ) {x y z : Bool} → x ≡ some_avp (refers 11) (body_of s) → y ≡ some_avp (refers 12) (body_of s) → z ≡ some_avp refers_other (body_of s)
    → record { state = x; name = y; other = z } ≡ references_of (body_of s)
unfolding references_of
whole_of s e f g = rw (e, f, g)

module _ (s : List ℕ) (at : ℕ) (x y z : Bool) (lx : (x || some_avp (refers 11) (walk (drop at s))) ≡ some_avp (refers 11) (body_of s))
    (ly : (y || some_avp (refers 12) (walk (drop at s))) ≡ some_avp (refers 12) (body_of s))
    (lz : (z || some_avp refers_other (walk (drop at s))) ≡ some_avp refers_other (body_of s)) where
  pub refs_end : length s ≤ at → record { state = x; name = y; other = z } ≡ references_of (body_of s)
  refs_end h = whole_of s (some_end (refers 11) s at x _ lx h) (some_end (refers 12) s at y _ ly h) (some_end refers_other s at z _ lz h)

  pub refs_cut : (r : Result Avp ℕ) → r ≡ read_of at (drop at s) → {q : ℕ} → r ≡ Err q → record { state = x; name = y; other = z } ≡ references_of (body_of s)
  refs_cut r e d =
      whole_of s (some_cut (refers 11) s at x _ lx r e d) (some_cut (refers 12) s at y _ ly r e d) (some_cut refers_other s at z _ lz r e d)
