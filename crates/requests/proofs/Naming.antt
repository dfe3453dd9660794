-- The Public-Identities of a walk, one after the other.
use Rattle.std.specs.Prelude.{Option, Some, None, Result, Ok, Err}
use Rattle.octets.specs.Standard.{ℕ, zero, suc, ◌+◌, ◌-◌, ◌≤◌, ◌<◌, ◌≡◌, refl, sym, ◌∙◌, List, [], ◌∷◌, map, Bool, true, false, cond, arith, length}
use Rattle.octets.specs.Standard.{drop, eqb, ne_eqb}
use Rattle.diameter.specs.Avp.{padded, sound}
use Rattle.diameter.specs.Walk.{Walk, walk}
use Rattle.diameter.specs.Put.{All}
use Rattle.diameter.specs.Reader.{avp_here, read_of, own_of}
use Rattle.diameter.specs.AvpAt.{avp_at}
use Rattle.diameter.specs.declared.Avp.{Avp}
use Rattle.diameter.proofs.Reading.{Says, read_says, read_unsound, walk_past}
use Rattle.diameter.proofs.Parts.{counted}
use Rattle.reading.specs.Kinds.{kind_of, public_identity}
use Rattle.requests.specs.Request.{identities}
use Rattle.requests.specs.Identity.{places_from}
use Rattle.requests.specs.NextIdentity.{places_by, Stands, Named}
use Rattle.requests.specs.declared.identities.Identity.{Identity}
use Rattle.requests.proofs.Requests.{at_fault}

-- the walk goes on at the next place
module _ (s : List ℕ) (at : ℕ) (a : Avp) (says : Says s at a) where
  follows : at + padded (length (own_of s a)) ≡ a.next
  follows = rw (counted s a says.here) (sym says.stepped)

  places_walked : places_from at (walk (drop at s))
      ≡ cond (eqb (kind_of (own_of s a)) public_identity) (at ∷ places_from a.next (walk (drop a.next s))) (places_from a.next (walk (drop a.next s)))
  unfolding places_from
  places_walked = rw (says.walked, follows)

-- the turns of the loop that looks for the next
module _ (s : List ℕ) (from at : ℕ) (reached : from ≤ at) (left : places_from at (walk (drop at s)) ≡ places_from from (walk (drop from s))) where
  pub named_end : length s ≤ at → Named s from None
  unfolding places_from places_by
  named_end h = record { rest = sym left ∙ rw (walk_past s at h); stands = tt }

  module _ (r : Result Avp ℕ) (e : r ≡ read_of at (drop at s)) where
    pub named_cut : {p : ℕ} → r ≡ Err p → Named s from None
    unfolding places_from places_by
    named_cut d = record { rest = sym left ∙ sym (at_fault (places_from at) [] (drop at s) (read_unsound s at r e d) refl refl); stands = tt }

    module _ (a : Avp) (k : ℕ) (d : r ≡ Ok a) (ek : k ≡ kind_of (own_of s a)) where
      pub named_at : at < length s → k ≡ public_identity → Named s from (Some (record { place = a.at; past = a.next }))
      unfolding places_by
      named_at h z =
          let says = read_says s at r e a d in
          rw says.placed (record {
            rest = sym left ∙ places_walked s at a says ∙ rw (← ek, z);
            stands = record { sounds = says.sounds; reached = reached; inside = h; later = says.later };
          })

      pub named_more : (k ≡ public_identity → ⊥) → places_from a.next (walk (drop a.next s)) ≡ places_from from (walk (drop from s))
      named_more z = rw (places_walked s at a (read_says s at r e a d), ← ek, ne_eqb _ _ z) at left

-- The AVPs at the places are the identities.
module _ (s : List ℕ) (at : ℕ) where
  -- a whole AVP: one more, or none more
  at_avp : (a : Avp) → Says s at a → map (avp_at s) (places_from a.next (walk (drop a.next s))) ≡ identities (walk (drop a.next s))
      → map (avp_at s) (places_from at (walk (drop at s))) ≡ identities (walk (drop at s))
  unfolding identities
  at_avp a says e = rw (places_walked s at a says, says.walked) (go (eqb (kind_of (own_of s a)) public_identity))
    where
      go : (y : Bool) → map (avp_at s) (cond y (at ∷ places_from a.next (walk (drop a.next s))) (places_from a.next (walk (drop a.next s))))
          ≡ cond y (own_of s a ∷ identities (walk (drop a.next s))) (identities (walk (drop a.next s)))
      go true = rw (e, says.part)
      go false = e

  at_none : sound (drop at s) ≡ false → map (avp_at s) (places_from at (walk (drop at s))) ≡ identities (walk (drop at s))
  unfolding identities places_from
  at_none e =
      sym (at_fault (λ (w : Walk). map (avp_at s) (places_from at w)) [] (drop at s) e refl refl)
      ∙ at_fault identities [] (drop at s) e refl refl

  whole_says : sound (drop at s) ≡ true → Says s at (avp_here at (drop at s))
  unfolding read_of
  whole_says e = read_says s at (Ok (avp_here at (drop at s))) (rw e) (avp_here at (drop at s)) refl

at_places : (s : List ℕ) (n at : ℕ) → length s ≤ at + n → map (avp_at s) (places_from at (walk (drop at s))) ≡ identities (walk (drop at s))
unfolding identities places_from
at_places s zero at h = rw (walk_past s at (omega arith))
at_places s (suc n) at h = go (sound (drop at s)) refl (at_places s n (avp_here at (drop at s)).next)
  where
    go : (x : Bool) → sound (drop at s) ≡ x
        → (length s ≤ (avp_here at (drop at s)).next + n
        → map (avp_at s) (places_from (avp_here at (drop at s)).next (walk (drop (avp_here at (drop at s)).next s)))
        ≡ identities (walk (drop (avp_here at (drop at s)).next s)))
        → map (avp_at s) (places_from at (walk (drop at s))) ≡ identities (walk (drop at s))
    go true e later = let says = whole_says s at e in at_avp s at (avp_here at (drop at s)) says (later (omega (arith, says.later)))
    go false e later = at_none s at e

pub identities_at : (s : List ℕ) (at : ℕ) → map (avp_at s) (places_from at (walk (drop at s))) ≡ identities (walk (drop at s))
identities_at s at = at_places s (length s) at (omega arith)

-- A whole AVP stands at each place.
pub record Stood (s : List ℕ) (from place : ℕ) : Type 0 where
  pub reached : from ≤ place
  pub sounds : sound (drop place s) ≡ true

stood_later : (s : List ℕ) (from next : ℕ) → from ≤ next → (ps : List ℕ) → All (Stood s next) ps → All (Stood s from) ps
stood_later s from next h [] a = tt
stood_later s from next h (p ∷ ps) a = (record { reached = omega (arith, a.0.reached); sounds = a.0.sounds }, stood_later s from next h ps a.1)

all_stood : (s : List ℕ) (n at : ℕ) → length s ≤ at + n → All (Stood s at) (places_from at (walk (drop at s)))
unfolding places_from
all_stood s zero at h = rw (walk_past s at (omega arith)) tt
all_stood s (suc n) at h = go (sound (drop at s)) refl (all_stood s n (avp_here at (drop at s)).next)
  where
    kinds : (a : Avp) → Says s at a → (x : Bool) (ps : List ℕ) → All (Stood s a.next) ps → All (Stood s at) (cond x (at ∷ ps) ps)
    kinds a says true ps r = (record { reached = omega arith; sounds = says.sounds }, stood_later s at a.next (omega (arith, says.later)) ps r)
    kinds a says false ps r = stood_later s at a.next (omega (arith, says.later)) ps r

    go : (x : Bool) → sound (drop at s) ≡ x
        → (length s ≤ (avp_here at (drop at s)).next + n
        → All (Stood s (avp_here at (drop at s)).next) (places_from (avp_here at (drop at s)).next (walk (drop (avp_here at (drop at s)).next s))))
        → All (Stood s at) (places_from at (walk (drop at s)))
    go true e later =
        let says = whole_says s at e in
        rw (places_walked s at (avp_here at (drop at s)) says)
        (kinds (avp_here at (drop at s)) says (eqb (kind_of (own_of s (avp_here at (drop at s)))) public_identity) _ (later (omega (arith, says.later))))
    go false e later = rw (sym (at_fault (places_from at) [] (drop at s) e refl refl)) tt

pub places_stand : (s : List ℕ) (at : ℕ) → All (Stood s at) (places_from at (walk (drop at s)))
places_stand s at = all_stood s (length s) at (omega arith)

-- What a caller may use of the answer: the first identity and the rest, or none; a loop over them ends.
module _ (s : List ℕ) (from : ℕ) (r : Option Identity) (n : Named s from r) where
  pub no_place : r ≡ None → places_from from (walk (drop from s)) ≡ []
  unfolding places_by
  no_place d = n.rest ∙ rw d

  pub named_none : r ≡ None → identities (walk (drop from s)) ≡ []
  named_none d = sym (identities_at s from) ∙ rw (no_place d)

  module _ (i : Identity) (d : r ≡ Some i) where
    pub first_place : places_from from (walk (drop from s)) ≡ i.place ∷ places_from i.past (walk (drop i.past s))
    unfolding places_by
    first_place = n.rest ∙ rw d

    pub named_first : identities (walk (drop from s)) ≡ avp_at s i.place ∷ identities (walk (drop i.past s))
    named_first = sym (identities_at s from) ∙ rw (first_place, identities_at s i.past)

    pub named_stands : Stands s from i.place i.past
    named_stands = rw d at n.stands

    pub named_less : length s - i.past < length s - from
    named_less = let h = named_stands in omega (arith, h.reached, h.inside, h.later)
