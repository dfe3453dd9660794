-- One turn of the walk over a message: to judge the rest from what is found so far is to judge the whole from nothing.
use Rattle.std.specs.Prelude.{Result, Ok, Err}
use Rattle.octets.specs.Standard.{ℕ, zero, suc, ◌≤◌, ◌<◌, ◌≡◌, refl, ap, ◌∙◌, List, [], ◌∷◌, map, arith, length, drop, set, replicate}
use Rattle.diameter.specs.Walk.{walk}
use Rattle.diameter.specs.Reader.{read_of, begins_at, own_of}
use Rattle.diameter.specs.AvpAt.{part_at}
use Rattle.diameter.specs.declared.Avp.{Avp}
use Rattle.diameter.proofs.Reading.{Says, read_begins, read_says, read_fault_says, walk_past, none_past}
use Rattle.diameter.proofs.Parts.{says_next}
use Rattle.reading.specs.declared.Ruled.{Ruled}
use Rattle.reading.specs.declared.Dialect.{Dialect}
use Rattle.reading.specs.declared.Verdict.{Verdict}
use Rattle.reading.specs.Kinds.{kinds, kind_of}
use Rattle.reading.specs.Rules.{rule}
use Rattle.reading.specs.Verdicts.{fault_at}
use Rattle.requests.specs.Judged.{nothing, Judged, on_rule, judge}
use Rattle.reading.specs.Places.{seen_of}
use Rattle.requests.specs.Found.{judged_of}
use Rattle.reading.specs.declared.Ruled.TheVariants as ruled

map-set : {X Y : Type 0} (f : X → Y) (l : List X) (i : ℕ) (x : X) → map f (set l i x) ≡ set (map f l) i (f x)
map-set f [] i x = refl
map-set f (y ∷ l) zero x = refl
map-set f (y ∷ l) (suc i) x = ap (f y ∷◌) (map-set f l i x)

-- at first no kind has a place
pub nothing_seen : (s : List ℕ) (dialect : Dialect) (at : ℕ)
    → judge dialect at (walk (drop at s)) (seen_of s (replicate kinds (length s))) ≡ judge dialect at (walk (drop at s)) nothing
unfolding nothing
nothing_seen s dialect at = rw (none_past s (length s) (omega arith))

module _ (s places : List ℕ) (dialect : Dialect) (at : ℕ) (whole : Judged) (left : judge dialect at (walk (drop at s)) (seen_of s places) ≡ whole) where
  pub turn_end : length s ≤ at → judged_of s places (Ok tt) ≡ whole
  unfolding judge judged_of
  turn_end h = rw (walk_past s at h) at left

  module _ (r : Result Avp ℕ) (e : r ≡ read_of at (drop at s)) where
    module _ (place : ℕ) (ep : place ≡ begins_at r) where
      abbrev placed : place ≡ at
      placed = ep ∙ read_begins at (drop at s) r e

      -- a fault says nothing of the places that were lent
      pub turn_cut : (v : Verdict) (held : List ℕ) {p : ℕ} → at < length s → r ≡ Err p → v ≡ fault_at 5014 place
          → judged_of s held (Err v) ≡ whole
      unfolding judge judged_of
      turn_cut v held h d f = rw (f, placed) (rw (read_fault_says s at r e d h) at left)

      module _ (a : Avp) (x : Ruled) (d : r ≡ Ok a) (ex : x ≡ rule dialect (seen_of s places) (own_of s a)) where
        abbrev says : Says s at a
        says = read_says s at r e a d

        turned : on_rule x (seen_of s places) (own_of s a) at (judge dialect a.next (walk (drop a.next s))) ≡ whole
        unfolding judge
        turned = rw (says.walked, says_next s at a says, ← ex) at left

        pub turn_bad : (n : ℕ) (v : Verdict) (held : List ℕ) → x ≡ ruled.Fault n → v ≡ fault_at n place → judged_of s held (Err v) ≡ whole
        unfolding judged_of
        turn_bad n v held z f = rw (f, placed) (rw z at turned)

        pub turn_taken : (k : ℕ) → k ≡ kind_of (own_of s a) → x ≡ ruled.Taken
            → judge dialect a.next (walk (drop a.next s)) (seen_of s (set places k place)) ≡ whole
        turn_taken k ek z = rw (placed, map-set (part_at s) places k at, says.part, ek) (rw z at turned)

        pub turn_skipped : x ≡ ruled.Skipped → judge dialect a.next (walk (drop a.next s)) (seen_of s places) ≡ whole
        turn_skipped z = rw z at turned
