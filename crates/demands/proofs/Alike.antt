-- Demand 3: two requests that say the same are decided alike. The places of their AVPs may differ, and Failed-AVP holds the same all the same.
use Rattle.std.specs.Prelude.{Ok, Err}
use Rattle.octets.specs.Standard.{ℕ, List, [], ◌∷◌, map, Bool, true, false, cond, ◌&&◌, ◌≡◌, refl, sym, ap, ◌∙◌, ◌⊎◌, inl, inr, arith, length, get_or}
use Rattle.octets.specs.Standard.{eqb, eqb-true, eqb-false}
use Rattle.diameter.specs.Put.{All}
use Rattle.diameter.specs.AvpAt.{avp_at}
use Rattle.reading.specs.Kinds.{public_identity}
use Rattle.reading.specs.Rules.{Seen}
use Rattle.reading.specs.declared.Dialect.{Dialect}
use Rattle.reading.specs.Verdicts.{fault_at, lack_of}
use Rattle.diameter.specs.Message.{body_of}
use Rattle.requests.specs.Judged.{fine}
use Rattle.requests.specs.Request.{read_in, identities}
use Rattle.reading.specs.declared.Verdict.{Verdict}
use Rattle.requests.specs.Identity.{places_from}
use Rattle.requests.proofs.Naming.{Stood, identities_at, places_stand}
use Rattle.failed.specs.Failing.{failed_by}
use Rattle.failed.proofs.Fronts.{failed_at}
use Rattle.choices.specs.Types.{is_removal}
use Rattle.choices.specs.Given.{given_fault}
use Rattle.choices.specs.Plans.{finding_of}
use Rattle.choices.specs.declared.Given.{Given}
use Rattle.choices.specs.declared.plan.Deed.{Deed}
use Rattle.choices.specs.declared.plan.Deed.TheVariants.{Leave, Settle, Challenge}
use Rattle.choices.specs.declared.plan.Plan.{Plan}
use Rattle.assignment.specs.Assignment.{Assignment, Means, meant_by, found, first_of, named_survey, owned_survey, assign_meant, assign, planned_records}
use Rattle.assignment.specs.declared.Meant.TheVariants.{Owned, Listed}
use Rattle.deciding.specs.Plans.{assignment_of, sar_plan, plan_read}
use Rattle.deciding.specs.Rules.{in_force}
use Rattle.deciding.specs.Decide.{Decision, performed_by}
use Rattle.deciding.specs.Deeds.{carried_out, spent_by}
use Rattle.deciding.proofs.Cases.{Blameless, Comes, tells, settles, challenges}
use Rattle.deciding.proofs.Comes.{plan_blameless, comes}
use Rattle.demands.proofs.Moved.{failed_there}

-- of what is given the same is answered
pub record SameGiven (long short : List ℕ) (g h : Given) : Type 0 where
  pub result : g.verdict.result ≡ h.verdict.result
  pub failed : failed_by long g.verdict ≡ failed_by short h.verdict
  pub user : g.user ≡ h.user
  pub public : g.public ≡ h.public
  pub server : g.server ≡ h.server
  pub capable : g.capable ≡ h.capable
  pub profile : g.profile ≡ h.profile
  pub sent : g.sent ≡ h.sent

pub record SameDecision (long short : List ℕ) (d e : Decision) : Type 0 where
  pub given : SameGiven long short d.given e.given
  pub table : d.table ≡ e.table
  pub vectors : d.vectors ≡ e.vectors

module _ (long short : List ℕ) where
  -- no AVP is at fault
  pub blameless_same : (g : Given) → Blameless g → SameGiven long short g g
  unfolding failed_by
  blameless_same g b =
      record { result = refl; failed = rw (b.0, b.1); user = refl; public = refl; server = refl; capable = refl; profile = refl; sent = refl }

  -- a verdict alone
  pub fault_same : (v w : Verdict) → v.result ≡ w.result → failed_by long v ≡ failed_by short w → SameGiven long short (given_fault v) (given_fault w)
  fault_same v w e f = record { result = e; failed = f; user = refl; public = refl; server = refl; capable = refl; profile = refl; sent = refl }

  -- whom a SAR means, by the places of its identities
  pub data SameMeant : Means → Means → Type 0 where
    fault : (v w : Verdict) → v.result ≡ w.result → failed_by long v ≡ failed_by short w → SameMeant (Err v) (Err w)
    owned : SameMeant (Ok Owned) (Ok Owned)
    named : (p q : ℕ) → SameMeant (Ok (Listed p)) (Ok (Listed q))

  lacking_same : failed_by long (lack_of public_identity) ≡ failed_by short (lack_of public_identity)
  unfolding failed_by
  lacking_same = refl

  second_same : (p q : ℕ) → Stood long 20 p → Stood short 20 q → avp_at long p ≡ avp_at short q → SameMeant (Err (fault_at 5009 p)) (Err (fault_at 5009 q))
  second_same p q a b e =
      fault (fault_at 5009 p) (fault_at 5009 q) refl
      (failed_there long 5009 p (omega (arith, a.reached))
      ∙ rw (failed_at long p 5009 a.sounds (λ z. omega arith), e, ← failed_at short q 5009 b.sounds (λ z. omega arith))
      (sym (failed_there short 5009 q (omega (arith, b.reached)))))

  places_same : (removal given : Bool) (ps qs : List ℕ) → map (avp_at long) ps ≡ map (avp_at short) qs → All (Stood long 20) ps → All (Stood short 20) qs
      → SameMeant (meant_by removal given ps) (meant_by removal given qs)
  unfolding meant_by
  places_same removal given [] [] e a b = go (removal && given)
    where
      go : (x : Bool) → SameMeant (cond x (Ok Owned) (Err (lack_of public_identity))) (cond x (Ok Owned) (Err (lack_of public_identity)))
      go true = owned
      go false = fault (lack_of public_identity) (lack_of public_identity) refl lacking_same
  places_same removal given [] (q ∷ qs) e a b = absurd (omega (arith, ap length e))
  places_same removal given (p ∷ ps) [] e a b = absurd (omega (arith, ap length e))
  places_same removal given (p ∷ []) (q ∷ []) e a b = named p q
  places_same removal given (p ∷ []) (q ∷ (r ∷ qs)) e a b = absurd (omega (arith, ap length e))
  places_same removal given (p ∷ (o ∷ ps)) (q ∷ []) e a b = absurd (omega (arith, ap length e))
  places_same removal given (p ∷ (o ∷ ps)) (q ∷ (r ∷ qs)) e a b = go removal
    where
      go : (x : Bool) → SameMeant (cond x (Ok (Listed p)) (Err (fault_at 5009 o))) (cond x (Ok (Listed q)) (Err (fault_at 5009 r)))
      go true = named p q
      go false = second_same o r a.1.0 b.1.0 (ap (λ (l : List (List ℕ)). get_or l 1 []) e)

  module _ (t : List ℕ) (count : ℕ) (v : List ℕ) where
    meant_same : (req : List ℕ) (seen : Seen) (s : Assignment) (m n : Means) → SameMeant m n
        → SameDecision long short (performed_by in_force req t count v seen (assign_meant t count s m))
        (performed_by in_force req t count v seen (assign_meant t count s n))
    unfolding assign_meant performed_by carried_out spent_by
    meant_same req seen s m n (fault x y e f) = record { given = fault_same x y e f; table = refl; vectors = refl }
    meant_same req seen s m n owned =
        record {
          given = blameless_same _ (plan_blameless (finding_of (owned_survey t count s) s.numbers.kind) s.numbers 0 true);
          table = refl;
          vectors = refl;
        }
    meant_same req seen s m n (named p q) =
        record {
          given = blameless_same _ (plan_blameless (finding_of (named_survey t count s) s.numbers.kind) s.numbers (first_of (found t count s)) false);
          table = refl;
          vectors = refl;
        }

    module _ (seen : Seen) (named-same : identities (body_of long) ≡ identities (body_of short)) where
      abbrev longer : Assignment
      longer = assignment_of long t seen

      abbrev shorter : Assignment
      shorter = assignment_of short t seen

      abbrev Same : Plan → Plan → Type 0
      Same p q = SameDecision long short (performed_by in_force long t count v seen p) (performed_by in_force short t count v seen q)

      -- a plan is carried out alike
      carried_alike : (d : Deed) → carried_out long t count seen d ≡ carried_out short t count seen d
      unfolding carried_out planned_records assignment_of
      carried_alike Leave = refl
      carried_alike (Settle w) = rw named-same
      carried_alike (Challenge k) = refl

      performed_alike : (p : Plan) → performed_by in_force long t count v seen p ≡ performed_by in_force short t count v seen p
      unfolding performed_by
      performed_alike p = rw (carried_alike p.deed)

      plan_alike : (p : Plan) → Blameless p.given → Same p p
      unfolding performed_by
      plan_alike p b = rw (← performed_alike p) (record { given = blameless_same p.given b; table = refl; vectors = refl })

      -- the same SAR but for the places
      meant_alike : (m : Means) → assign_meant t count longer m ≡ assign_meant t count shorter m
      unfolding assignment_of assign_meant owned_survey named_survey
      meant_alike (Err f) = refl
      meant_alike (Ok Owned) = refl
      meant_alike (Ok (Listed place)) = rw named-same

      places_alike : SameMeant (meant_by (is_removal longer.numbers.kind) longer.numbers.named longer.places)
          (meant_by (is_removal shorter.numbers.kind) shorter.numbers.named shorter.places)
      unfolding assignment_of
      places_alike =
          places_same _ _ (places_from 20 (body_of long)) (places_from 20 (body_of short)) (identities_at long 20 ∙ named-same ∙ sym (identities_at short 20))
          (places_stand long 20)
          (places_stand short 20)

      sar_same : Same (sar_plan long t count seen) (sar_plan short t count seen)
      unfolding sar_plan assign
      sar_same = rw (performed_alike _, meant_alike _) (meant_same short seen shorter _ _ places_alike)

      -- but for a SAR's identities a decision blames no AVP, and but for a SAR the plans are one
      blames : (d : Dialect) (p : Plan) → Comes d short t count v seen p → (d.command ≡ 301) ⊎ Blameless p.given
      blames d p (tells g x) = x.blames
      blames d p (settles g w x) = inl x.command
      blames d p (challenges k x) = inr (refl, refl)

      pub plan_same : (d : Dialect) → read_in d short ≡ fine seen → Same (plan_read d long t count v seen) (plan_read d short t count v seen)
      unfolding plan_read
      plan_same d read = go (eqb d.command 301) refl (blames d _ (comes d short t count v seen read))
        where
          go : (x : Bool) → eqb d.command 301 ≡ x → (d.command ≡ 301) ⊎ Blameless (plan_read d short t count v seen).given
              → Same (plan_read d long t count v seen) (plan_read d short t count v seen)
          go true f b = rw (eqb-true d.command 301 f) sar_same
          go false f (inl n) = absurd (eqb-false d.command 301 f n)
          go false f (inr b) =
              let one : plan_read d long t count v seen ≡ plan_read d short t count v seen = rw f in
              rw one (plan_alike (plan_read d short t count v seen) b)
