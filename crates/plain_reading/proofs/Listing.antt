-- The list of places: at each stands the walk's AVP; there are at most 2,046.
use Rattle.std.specs.Prelude.{Ok}
use Rattle.octets.specs.Standard.{ℕ, zero, suc, ◌+◌, ◌-◌, ◌*◌, ◌≤◌, ◌<◌, ◌≡◌, refl, List, [], ◌∷◌, map, none, some, Bool, true, false, arith}
use Rattle.octets.specs.Standard.{length, drop, ltb, ltb-true, ltb-false}
use Rattle.diameter.specs.Avp.{padded, sound}
use Rattle.diameter.specs.AvpAt.{avp_of, part_at}
use Rattle.diameter.specs.Reader.{avp_here, read_of, own_of}
use Rattle.diameter.specs.Walk.{Walk, ended, faulty, avp, walk}
use Rattle.diameter.specs.declared.Avp.{Avp}
use Rattle.diameter.proofs.Parts.{says_next}
use Rattle.diameter.proofs.Reading.{Says, read_says, walk_past}
use Rattle.diameter.proofs.Walks.{walk_faulty}
use Rattle.octets.specs.Standard.{length-drop}
use Rattle.reading.specs.Rules.{Seen}
use Rattle.plain_reading.specs.Listed.{places_in, places_of, most}

-- the AVPs of a walk, none for the one whose length is faulty
unfoldable pub listed : Walk → Seen
listed ended = []
listed (faulty t) = none ∷ []
listed (avp a w) = some a ∷ listed w

-- What stands at a place: a whole AVP, a faulty one, or the end.
pub data Standing (s : List ℕ) (at : ℕ) : Type 0 where
  whole : (a : Avp) → Says s at a → at < length s → Standing s at
  cut : at < length s → walk (drop at s) ≡ faulty (drop at s) → part_at s at ≡ none → Standing s at
  past : length s ≤ at → walk (drop at s) ≡ ended → Standing s at

pub standing : (s : List ℕ) (at : ℕ) → Standing s at
unfolding read_of avp_of
standing s at = go (ltb at (length s)) refl (sound (drop at s)) refl
  where
    go : (x : Bool) → ltb at (length s) ≡ x → (y : Bool) → sound (drop at s) ≡ y → Standing s at
    go true e true f =
        whole (avp_here at (drop at s)) (read_says s at (Ok (avp_here at (drop at s))) (rw f) (avp_here at (drop at s)) refl) (ltb-true at (length s) e)
    go true e false f =
        let h : at < length s = ltb-true at (length s) e in
        cut h (walk_faulty (drop at s) f (rw length-drop (omega arith))) (rw f)
    go false e y f = past (ltb-false at (length s) e) (walk_past s at (ltb-false at (length s) e))

-- one AVP more
module _ (s : List ℕ) (at : ℕ) (a : Avp) (says : Says s at a) where
  pub places_avp : places_in at (walk (drop at s)) ≡ at ∷ places_in a.next (walk (drop a.next s))
  unfolding places_in
  places_avp = rw (says.walked, says_next s at a says)

  listed_avp : listed (walk (drop at s)) ≡ some (own_of s a) ∷ listed (walk (drop a.next s))
  unfolding listed
  listed_avp = rw says.walked

at_listed : (s : List ℕ) (n at : ℕ) → length s ≤ at + n → map (part_at s) (places_in at (walk (drop at s))) ≡ listed (walk (drop at s))
unfolding places_in listed
at_listed s zero at h = rw (walk_past s at (omega arith))
at_listed s (suc n) at h = go (standing s at) (at_listed s n)
  where
    go : Standing s at
        → ((next : ℕ) → length s ≤ next + n → map (part_at s) (places_in next (walk (drop next s))) ≡ listed (walk (drop next s)))
        → map (part_at s) (places_in at (walk (drop at s))) ≡ listed (walk (drop at s))
    go (whole a says l) more = rw (places_avp s at a says, listed_avp s at a says, says.part, more a.next (omega (arith, says.later)))
    go (cut l e f) more = rw (e, f)
    go (past l e) more = rw e

pub listed_at : (s : List ℕ) (at : ℕ) → map (part_at s) (places_in at (walk (drop at s))) ≡ listed (walk (drop at s))
listed_at s at = at_listed s (length s) at (omega arith)

-- No AVP is shorter than its header's 8 bytes.
pub next_far : (s : List ℕ) (at : ℕ) (a : Avp) → Says s at a → at + 8 ≤ a.next
unfolding padded
next_far s at a says = omega (arith, says.stepped, says.here.eight, says.here.least)

few_listed : (s : List ℕ) (n at : ℕ) → length s ≤ at + n → 8 * length (places_in at (walk (drop at s))) ≤ length s + 7 - at
unfolding places_in
few_listed s zero at h = rw (walk_past s at (omega arith)) (omega arith)
few_listed s (suc n) at h = go (standing s at) (few_listed s n)
  where
    go : Standing s at → ((next : ℕ) → length s ≤ next + n → 8 * length (places_in next (walk (drop next s))) ≤ length s + 7 - next)
        → 8 * length (places_in at (walk (drop at s))) ≤ length s + 7 - at
    go (whole a says l) more =
        rw (places_avp s at a says) (omega (arith, next_far s at a says, more a.next (omega (arith, says.later))))
    go (cut l e f) more = rw e (omega arith)
    go (past l e) more = rw e (omega arith)

-- "Its list holds at most 2,046 places."
pub places_most : (req : List ℕ) → length req ≤ 16384 → length (places_of req) ≤ most
unfolding places_of
places_most req h = omega (arith, few_listed req (length req) 20 (omega arith))
