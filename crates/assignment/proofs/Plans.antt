-- What the plan of a SAR is, by whom it means.
use Rattle.std.specs.Prelude.{Option, Some, None, Ok, Err}
use Rattle.octets.specs.Standard.{ℕ, ◌+◌, ◌*◌, ◌≤◌, List, [], ◌∷◌, map, Bool, true, false, cond, ◌&&◌, ◌≡◌, refl, sym, ap, ◌∙◌, arith, length}
use Rattle.table.specs.SoundTable.{SoundTable}
use Rattle.table.proofs.Sound.{sound_block}
use Rattle.lookup.specs.Find.{find_public, block_found}
use Rattle.diameter.specs.AvpAt.{avp_at, data_at}
use Rattle.reading.specs.Kinds.{public_identity}
use Rattle.reading.specs.Verdicts.{fault_at, lack_of}
use Rattle.diameter.specs.Message.{body_of}
use Rattle.requests.specs.Request.{identities}
use Rattle.requests.specs.Identity.{places_from}
use Rattle.requests.proofs.Naming.{identities_at}
use Rattle.choices.specs.Types.{is_removal}
use Rattle.choices.specs.Plans.{Finding, finding_of, plan_of}
use Rattle.choices.specs.declared.plan.Sar.{Sar}
use Rattle.choices.specs.declared.plan.Survey.{Survey}
use Rattle.choices.specs.declared.plan.Plan.{Plan}
use Rattle.lookup.proofs.Among.{public_among}
use Rattle.assignment.specs.Assignment.{meant_by, find_all, first_of, survey_of, user_known, owner_by, named_survey}
use Rattle.assignment.specs.Assignment.{assign_meant}
use Rattle.assignment.specs.Survey.{sar_of, also_known, found_survey}
use Rattle.assignment.specs.declared.Meant.TheVariants.{Owned, Listed}

-- Where the first record that was found stands.
pub first_room : (t : List ℕ) (count first : ℕ) → SoundTable t count → first ≤ count → 512 * first + 512 ≤ length t
first_room t count first sound h = sound_block t count sound first h

pub found_first : (t : List ℕ) (count : ℕ) (name : List ℕ) (f : Option ℕ) {k : ℕ} → f ≡ find_public t count name → k ≡ block_found f → k ≤ count
found_first t count name f {k} e d = go f refl
  where
    go : (g : Option ℕ) → f ≡ g → k ≤ count
    go (Some j) h = let q : k ≡ j = rw h at d in omega (arith, q, (public_among t count name e).to j h)
    go None h = let q : k ≡ 0 = rw h at d in omega (arith, q)

-- The place of the first identity is that of the first of the AVPs.
record Begins (place : ℕ) (ps : List ℕ) : Type 0 where
  others : List ℕ
  rest : ps ≡ place ∷ others

begins : (removal named : Bool) (ps : List ℕ) (place : ℕ) → Ok (Listed place) ≡ meant_by removal named ps → Begins place ps
unfolding meant_by
begins removal named [] place e = absurd (go (removal && named) e)
  where
    go : (x : Bool) → Ok (Listed place) ≡ cond x (Ok Owned) (Err (lack_of public_identity)) → ⊥
    go true f = let z : ◌≡◌ {A = ℕ} 0 1 = cc in omega arith
    go false f = let z : ◌≡◌ {A = ℕ} 0 1 = cc in omega arith
begins removal named (p ∷ []) place e = let q : place ≡ p = cc in record { others = []; rest = rw q }
begins removal named (p ∷ (q ∷ others)) place e = go removal e
  where
    go : (x : Bool) → Ok (Listed place) ≡ cond x (Ok (Listed p)) (Err (fault_at 5009 q)) → Begins place (p ∷ (q ∷ others))
    go true f = let h : place ≡ p = cc in record { others = q ∷ others; rest = rw h }
    go false f = absurd (let z : ◌≡◌ {A = ℕ} 0 1 = cc in omega arith)

module _ (t : List ℕ) (count : ℕ) (req : List ℕ) where
  first_at : (place : ℕ) → Begins place (places_from 20 (body_of req))
      → first_of (find_all t count (identities (body_of req))) ≡ block_found (find_public t count (data_at req place))
  unfolding find_all
  first_at place b =
      let i : identities (body_of req) ≡ avp_at req place ∷ map (avp_at req) b.others = sym (identities_at req 20) ∙ ap (map (avp_at req)) b.rest in
      rw i

  first_is : (removal named : Bool) (place : ℕ) → Ok (Listed place) ≡ meant_by removal named (places_from 20 (body_of req))
      → first_of (find_all t count (identities (body_of req))) ≡ block_found (find_public t count (data_at req place))
  first_is removal named place e = first_at place (begins removal named (places_from 20 (body_of req)) place e)

  module _ (s : Sar) (server user : List ℕ) where
    -- the premises go from the plan back to the request
    pub named_plan : (place : ℕ) {name : List ℕ} {f : Option ℕ} {first : ℕ} {v w : Survey} {u : Bool} {x : Finding} {p : Plan} → p ≡ plan_of x s first false
        → x ≡ finding_of w s.kind
        → w ≡ also_known v u → u ≡ user_known t count s.named user
        → v ≡ found_survey t (owner_by t first s.named user) server s.kind (find_all t count (identities (body_of req)))
        → first ≡ block_found f → f ≡ find_public t count name → name ≡ data_at req place
        → Ok (Listed place) ≡ meant_by (is_removal s.kind) s.named (places_from 20 (body_of req))
        → p ≡ assign_meant t count (sar_of req s server user) (Ok (Listed place))
    unfolding assign_meant named_survey also_known survey_of
    named_plan place {name} {f} {first} ep ex ew eu ev ek ef en e =
        let q : first_of (find_all t count (identities (body_of req))) ≡ first = first_is (is_removal s.kind) s.named place e ∙ rw (← en, ← ef) (sym ek) in
        ep ∙ rw (ex, ew, ev, eu, q)
