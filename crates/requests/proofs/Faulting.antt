-- Where an AVP at fault stands: within the message, behind its header.
use Rattle.octets.specs.Standard.{ℕ, zero, suc, pred, ◌+◌, ◌-◌, ◌<◌, ◌≤◌, List, [], ◌∷◌, Bool, true, false, cond, ◌≡◌, refl, arith, length, take}
use Rattle.octets.specs.Standard.{drop, length-drop, length-take-le, eqb}
use Rattle.diameter.specs.Avp.{avp_len, padded, sound}
use Rattle.diameter.specs.Walk.{on_sound, walk_from, walk}
use Rattle.diameter.specs.Message.{body_of}
use Rattle.diameter.proofs.Walks.{Sound, sound_says, padded_least}
use Rattle.reading.specs.Kinds.{session_id}
use Rattle.reading.specs.Rules.{Seen, rule}
use Rattle.reading.specs.Verdicts.{fault_at, fault_of, lack_of}
use Rattle.reading.specs.declared.Dialect.{Dialect}
use Rattle.reading.specs.declared.Ruled.{Ruled}
use Rattle.reading.specs.declared.Ruled.TheVariants.{Taken, Skipped, Fault}
use Rattle.reading.specs.declared.Verdict.{Verdict}
use Rattle.requests.specs.Judged.{Judged, bad, fine, nothing, on_rule, judge}
use Rattle.requests.specs.Request.{first_other, missing, complete, header_fault, read_walk, read_in, read_by, read_sh, header_fault_sh}

fine_bad : {A : Type 0} (seen : Seen) (v : Verdict) → fine seen ≡ bad v → A
fine_bad seen v e = let z : ◌≡◌ {A = ℕ} 0 1 = cc in absurd (omega arith)

-- the walk over the bytes t, which begin at a place, k of them passed over
record Within (from : ℕ) (t : List ℕ) (v : Verdict) : Type 0 where
  least : from ≤ v.place
  most : v.place < from + length t

module _ (d : Dialect) where
  judge_within : (t : List ℕ) (k at : ℕ) (seen : Seen) (v : Verdict) → judge d (at + k) (walk_from k t) seen ≡ bad v → Within at t v
  unfolding walk_from judge
  judge_within [] k at seen v e = fine_bad seen v e
  judge_within (x ∷ t) (suc k) at seen v e =
      let n : at + suc k ≡ suc at + k = omega arith in
      let w = judge_within t k (suc at) seen v (rw (← n) e) in
      record { least = omega (arith, w.least); most = omega (arith, w.most) }
  judge_within (x ∷ t) zero at seen v e =
      go (sound (x ∷ t)) refl e (λ seen'. judge_within t (pred (padded (avp_len (x ∷ t)))) (suc at) seen' v)
    where
      here : (n : ℕ) → bad (fault_at n (at + 0)) ≡ bad v → Within at (x ∷ t) v
      here n f = let q : v.place ≡ at + 0 = cc in record { least = omega arith; most = omega arith }

      go : (s : Bool) → sound (x ∷ t) ≡ s → judge d (at + 0) (on_sound s (x ∷ t) (walk_from (pred (padded (avp_len (x ∷ t)))) t)) seen ≡ bad v
          → ((seen' : Seen) → judge d (suc at + pred (padded (avp_len (x ∷ t)))) (walk_from (pred (padded (avp_len (x ∷ t)))) t) seen' ≡ bad v
          → Within (suc at) t v) → Within at (x ∷ t) v
      go false es f rest = here 5014 f
      go true es f rest = ruled (rule d seen (take (avp_len (x ∷ t)) (x ∷ t))) f
        where
          p : Sound (x ∷ t)
          p = sound_says (x ∷ t) es

          more : (seen' : Seen)
              → judge d (at + 0 + padded (length (take (avp_len (x ∷ t)) (x ∷ t)))) (walk_from (pred (padded (avp_len (x ∷ t)))) t) seen' ≡ bad v
              → Within at (x ∷ t) v
          more seen' g =
              let l : length (take (avp_len (x ∷ t)) (x ∷ t)) ≡ avp_len (x ∷ t) = length-take-le (avp_len (x ∷ t)) (x ∷ t) p.within in
              let n : at + 0 + padded (length (take (avp_len (x ∷ t)) (x ∷ t))) ≡ suc at + pred (padded (avp_len (x ∷ t))) =
              rw l (omega (arith, p.eight, p.least, padded_least (avp_len (x ∷ t)))) in
              let w = rest seen' (rw (← n) g) in
              record { least = omega (arith, w.least); most = omega (arith, w.most) }

          ruled : (r : Ruled) → on_rule r seen (take (avp_len (x ∷ t)) (x ∷ t)) (at + 0)
              (judge d (at + 0 + padded (length (take (avp_len (x ∷ t)) (x ∷ t)))) (walk_from (pred (padded (avp_len (x ∷ t)))) t)) ≡ bad v
              → Within at (x ∷ t) v
          ruled Taken g = more _ g
          ruled Skipped g = more seen g
          ruled (Fault n) g = here n g

-- of a request that was read: no AVP is at fault, or the place lies behind the header and within the request
pub record Placed (req : List ℕ) (v : Verdict) : Type 0 where
  pub within : v.place ≤ length req
  pub reached : 0 < v.place → (20 ≤ v.place) × (v.place < length req)

unplaced : (req : List ℕ) (v w : Verdict) → w.place ≡ 0 → bad w ≡ bad v → Placed req v
unplaced req v w z e = let q : v.place ≡ w.place = cc in record { within = omega arith; reached = λ h. absurd (omega arith) }

complete_placed : (d : Dialect) (req : List ℕ) (v : Verdict) (j : Judged) → ((w : Verdict) → j ≡ bad w → Placed req w) → complete d j ≡ bad v → Placed req v
unfolding complete
complete_placed d req v (bad w) h e = h v e
complete_placed d req v (fine seen) h e = go (eqb (missing d seen) 0) e
  where
    go : (x : Bool) → cond x (fine seen) (bad (lack_of (missing d seen))) ≡ bad v → Placed req v
    go true f = fine_bad seen v f
    go false f = unplaced req v (lack_of (missing d seen)) refl f

by_placed : (fault : ℕ) (d : Dialect) (req : List ℕ) (v : Verdict) → 20 ≤ length req → read_by fault d req ≡ bad v → Placed req v
unfolding read_walk walk
by_placed fault d req v h e = go (eqb fault 0) e
  where
    walked : (w : Verdict) → judge d 20 (walk_from 0 (drop 20 req)) nothing ≡ bad w → Placed req w
    walked w f =
        let p = judge_within d (drop 20 req) 0 20 nothing w f in
        let l : length (drop 20 req) ≡ length req - 20 = length-drop 20 req in
        record { within = omega (arith, p.most, l); reached = λ z. (p.least, omega (arith, p.most, l)) }

    first : (x : Bool) → cond x (bad (lack_of session_id)) (complete d (judge d 20 (walk_from 0 (drop 20 req)) nothing)) ≡ bad v → Placed req v
    first true f = unplaced req v (lack_of session_id) refl f
    first false f = complete_placed d req v _ walked f

    go : (x : Bool) → cond x (cond (first_other (body_of req)) (bad (lack_of session_id)) (complete d (judge d 20 (body_of req) nothing)))
        (bad (fault_of fault)) ≡ bad v → Placed req v
    go true f = first (first_other (body_of req)) f
    go false f = unplaced req v (fault_of fault) refl f

module _ (d : Dialect) (req : List ℕ) (v : Verdict) (h : 20 ≤ length req) where
  pub read_placed : read_in d req ≡ bad v → Placed req v
  unfolding read_in
  read_placed e = by_placed (header_fault d req) d req v h e

  pub sh_placed : read_sh d req ≡ bad v → Placed req v
  unfolding read_sh
  sh_placed e = by_placed (header_fault_sh d req) d req v h e
