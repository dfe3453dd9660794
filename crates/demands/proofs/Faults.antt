-- The AVP at fault: what reading comes to is what specs/Place tells, and what a decision makes of it.
use Rattle.octets.specs.Standard.{ℕ, zero, suc, ◌+◌, ◌%◌, ◌≤◌, ◌<◌, List, [], ◌∷◌, none, some, Bool, true, false, not, cond, ◌&&◌, true≢false, ◌≡◌}
use Rattle.octets.specs.Standard.{refl, sym, ap, ◌∙◌, ◌⊎◌, inl, inr, ◌≢◌, arith, length, get_or, take, drop, set, length-drop, drop-drop}
use Rattle.octets.specs.Standard.{length-take-le, eqb, leb, eqb-true, eqb-false}
use Rattle.diameter.specs.Avp.{padded, avp_head, avp_flags, avp_len, data_of, value_of, reserved, marked, sound}
use Rattle.diameter.specs.Walk.{Walk, ended, faulty, avp, walk}
use Rattle.diameter.specs.AvpAt.{present, avp_of, avp_at}
use Rattle.diameter.specs.Message.{body_of}
use Rattle.diameter.proofs.Walks.{sound_says, padded_least, walk_nil, walk_sound, walk_faulty}
use Rattle.reading.specs.Contents.{fault_unless, number_fault, plain_fault}
use Rattle.reading.specs.Groups.{members_of, gathers, too_often, group_fault}
use Rattle.reading.specs.Kinds.{session_id, kind_of, row_of, use_of}
use Rattle.reading.specs.Rules.{Seen, content_fault, of_once, of_use, rule_by, rule}
use Rattle.reading.specs.Verdicts.{number_of, fault_at, fault_of, lack_of}
use Rattle.reading.specs.declared.Content.{Content}
use Rattle.reading.specs.declared.Content.TheVariants.{Free, Number, Sized, Members}
use Rattle.reading.specs.declared.Dialect.{Dialect}
use Rattle.reading.specs.declared.Outcome.TheVariants.{Base}
use Rattle.reading.specs.declared.Ruled.{Ruled}
use Rattle.reading.specs.declared.Ruled.TheVariants.{Taken, Skipped, Fault}
use Rattle.reading.specs.declared.Use.{Use}
use Rattle.reading.specs.declared.Use.TheVariants.{Unknown, Unnamed, Needed, Optional, Repeated, Several}
use Rattle.reading.specs.declared.Verdict.{Verdict}
use Rattle.requests.specs.Features.{beyond_set}
use Rattle.requests.specs.Judged.{Judged, bad, fine, nothing, on_rule, judge}
use Rattle.requests.specs.Request.{header_fault, first_other, missing, complete, read_walk, read_by, read_in}
use Rattle.requests.proofs.Faulting.{read_placed}
use Rattle.deciding.specs.Rules.{in_force}
use Rattle.deciding.specs.Decide.{Decision, performed_by, judged_by, decide_by, decide}
use Rattle.deciding.proofs.Tests.{either}
use Rattle.demands.specs.Frame.{succeeds}
use Rattle.demands.specs.Place.{behind_at, ReadingReaches, first, past_taken, past_skipped, Breaks, length_fault, rule_fault, OfRules, AtFaultBy, AtFault}

pub fine_bad : {A : Type 0} (seen : Seen) (v : Verdict) → fine seen ≡ bad v → A
fine_bad seen v e = let z : ◌≡◌ {A = ℕ} 0 1 = cc in absurd (omega arith)

-- An AVP that passes (a) at a place, and the walk behind it.
module _ (req : List ℕ) (at : ℕ) (s : sound (drop at req) ≡ true) where
  pub avp_own : avp_at req at ≡ take (avp_len (drop at req)) (drop at req)
  unfolding avp_of
  avp_own = rw s

  avp_length : length (avp_at req at) ≡ avp_len (drop at req)
  avp_length = rw avp_own (length-take-le (avp_len (drop at req)) (drop at req) (sound_says (drop at req) s).within)

  avp_walked : walk (drop at req) ≡ avp (avp_at req at) (walk (drop (behind_at req at) req))
  avp_walked =
      let t = drop at req in
      let e : drop (padded (avp_len t)) t ≡ drop (behind_at req at) req =
      drop-drop (padded (avp_len t)) at req ∙ ap (λ (n : ℕ). drop (at + padded n) req) (sym avp_length) in
      walk_sound t s ∙ ap (λ (r : List ℕ). avp (take (avp_len t) t) (walk r)) e ∙ ap (λ (a : List ℕ). avp a (walk (drop (behind_at req at) req))) (sym avp_own)

  pub avp_least : at + 8 ≤ behind_at req at
  avp_least =
      let h = sound_says (drop at req) s in
      omega (arith, avp_length, h.eight, h.least, padded_least (length (avp_at req at)))

  pub avp_within : at + 8 ≤ length req
  avp_within = let h = sound_says (drop at req) s in omega (arith, h.eight, h.least, h.within, length-drop at req)

-- So does `judge`, from the first place that is reached to any other, and at an AVP that is at fault.
module _ (d : Dialect) (req : List ℕ) where
  abbrev judge_at : ℕ → Seen → Judged
  judge_at at seen = judge d at (walk (drop at req)) seen

  pub judge_taken : (at : ℕ) (seen : Seen) → sound (drop at req) ≡ true → rule d seen (avp_at req at) ≡ Taken
      → judge_at at seen ≡ judge_at (behind_at req at) (set seen (kind_of (avp_at req at)) (some (avp_at req at)))
  unfolding judge
  judge_taken at seen s e = rw (avp_walked req at s, e)

  pub judge_skipped : (at : ℕ) (seen : Seen) → sound (drop at req) ≡ true → rule d seen (avp_at req at) ≡ Skipped
      → judge_at at seen ≡ judge_at (behind_at req at) seen
  unfolding judge
  judge_skipped at seen s e = rw (avp_walked req at s, e)

  pub judge_breaks : (at : ℕ) (seen : Seen) (n : ℕ) → Breaks d req seen at n → judge_at at seen ≡ bad (fault_at n at)
  unfolding judge
  judge_breaks at seen n (length_fault h s) = rw (walk_faulty (drop at req) s (rw length-drop (omega arith)))
  judge_breaks at seen n (rule_fault m s e) = rw (avp_walked req at s, e)

  pub judge_reaches : {at : ℕ} {seen : Seen} → ReadingReaches d req at seen → judge_at 20 nothing ≡ judge_at at seen
  judge_reaches first = refl
  judge_reaches (past_taken at seen r s e) = judge_reaches r ∙ judge_taken at seen s e
  judge_reaches (past_skipped at seen r s e) = judge_reaches r ∙ judge_skipped at seen s e

  -- A fault that is found from a place on stands there or behind it, and so an AVP that reading has passed is not at fault.
  judge_from : (at : ℕ) (w : Walk) (seen : Seen) (v : Verdict) → judge d at w seen ≡ bad v → at ≤ v.place
  unfolding judge
  judge_from at ended seen v e = fine_bad seen v e
  judge_from at (faulty t) seen v e = let q : v.place ≡ at = cc in omega arith
  judge_from at (avp a w) seen v e = go (rule d seen a) e (λ s. judge_from (at + padded (length a)) w s v)
    where
      go : (r : Ruled) → on_rule r seen a at (judge d (at + padded (length a)) w) ≡ bad v
          → ((s : Seen) → judge d (at + padded (length a)) w s ≡ bad v → at + padded (length a) ≤ v.place) → at ≤ v.place
      go Taken f rest = omega (arith, rest _ f)
      go Skipped f rest = omega (arith, rest seen f)
      go (Fault n) f rest = let q : v.place ≡ at = cc in omega arith

  pub taken_passes : (at : ℕ) (seen : Seen) → ReadingReaches d req at seen → sound (drop at req) ≡ true → rule d seen (avp_at req at) ≡ Taken
      → {fault : ℕ} (n place : ℕ) → AtFaultBy fault d req n place → place ≢ at
  taken_passes at seen r s e n place f h =
      let j : judge_at (behind_at req at) (set seen (kind_of (avp_at req at)) (some (avp_at req at))) ≡ bad (fault_at n place)
      = sym (judge_reaches r ∙ judge_taken at seen s e) ∙ judge_reaches f.reached ∙ judge_breaks place f.seen n f.breaks in
      omega (arith, judge_from (behind_at req at) _ _ _ j, avp_least req at s)

  -- A fault that `judge` finds is such an AVP's.
  pub record Finds (v : Verdict) : Type 0 where
    pub number : ℕ
    pub place : ℕ
    pub seen : Seen
    pub reached : ReadingReaches d req place seen
    pub breaks : Breaks d req seen place number
    pub is : v ≡ fault_at number place

  found_here : (at : ℕ) (seen : Seen) → ReadingReaches d req at seen → (n : ℕ) → Breaks d req seen at n → (v : Verdict) → judge_at at seen ≡ bad v → Finds v
  found_here at seen r n b v e =
      let q : bad (fault_at n at) ≡ bad v = sym (judge_breaks at seen n b) ∙ e in
      record { number = n; place = at; seen = seen; reached = r; breaks = b; is = cc }

  abbrev FindsWithin : ℕ → Type 0
  FindsWithin k = (at : ℕ) (seen : Seen) → length (drop at req) ≤ k → ReadingReaches d req at seen → (v : Verdict) → judge_at at seen ≡ bad v → Finds v

  found_none : (at : ℕ) (seen : Seen) → length (drop at req) ≡ 0 → (v : Verdict) → judge_at at seen ≡ bad v → Finds v
  unfolding judge
  found_none at seen l v e = go (drop at req) l e
    where
      go : (t : List ℕ) → length t ≡ 0 → judge d at (walk t) seen ≡ bad v → Finds v
      go [] h f = fine_bad seen v (sym (ap (λ (w : Walk). judge d at w seen) walk_nil) ∙ f)
      go (x ∷ t) h f = absurd (omega arith)

  found_step : (k : ℕ) → FindsWithin k → FindsWithin (suc k)
  found_step k next at seen l r v e = go (sound (drop at req)) refl
    where
      shorter : sound (drop at req) ≡ true → length (drop (behind_at req at) req) ≤ k
      shorter s = rw length-drop (omega (arith, length-drop at req, avp_least req at s, avp_within req at s))

      by : sound (drop at req) ≡ true → (x : Ruled) → rule d seen (avp_at req at) ≡ x → Finds v
      by s Taken q = next (behind_at req at) _ (shorter s) (past_taken at seen r s q) v (sym (judge_taken at seen s q) ∙ e)
      by s Skipped q = next (behind_at req at) seen (shorter s) (past_skipped at seen r s q) v (sym (judge_skipped at seen s q) ∙ e)
      by s (Fault n) q = found_here at seen r n (rule_fault n s q) v e

      go : (x : Bool) → sound (drop at req) ≡ x → Finds v
      go true s = by s (rule d seen (avp_at req at)) refl
      go false s = left (eqb (length (drop at req)) 0) refl
        where
          left : (x : Bool) → eqb (length (drop at req)) 0 ≡ x → Finds v
          left true z = found_none at seen (eqb-true _ _ z) v e
          left false z = found_here at seen r 5014 (length_fault (omega (arith, length-drop at req, eqb-false (length (drop at req)) 0 z)) s) v e

  found_within : (k : ℕ) → FindsWithin k
  found_within zero at seen l r v e = found_none at seen (omega arith) v e
  found_within (suc k) at seen l r v e = found_step k (found_within k) at seen l r v e

  judge_finds : (v : Verdict) → judge_at 20 nothing ≡ bad v → Finds v
  judge_finds v e = found_within (length (drop 20 req)) 20 nothing (omega arith) first v e

-- A request: the AVP at fault is what reading it comes to, and a verdict with a place is such an AVP's.
pub fault_read_by : {fault : ℕ} (d : Dialect) (req : List ℕ) (n place : ℕ) → AtFaultBy fault d req n place → read_by fault d req ≡ bad (fault_at n place)
unfolding read_walk complete
fault_read_by d req n place f =
    let j : judge d 20 (body_of req) nothing ≡ bad (fault_at n place) = judge_reaches d req f.reached ∙ judge_breaks d req place f.seen n f.breaks in
    rw (f.header, f.session, j)

pub fault_read : (d : Dialect) (req : List ℕ) (n place : ℕ) → AtFault d req n place → read_in d req ≡ bad (fault_at n place)
unfolding read_in
fault_read d req n place f = fault_read_by d req n place f

pub record Faulty (fault : ℕ) (d : Dialect) (req : List ℕ) (v : Verdict) : Type 0 where
  pub number : ℕ
  pub at : AtFaultBy fault d req number v.place
  pub is : v ≡ fault_at number v.place

pub same_place : {fault : ℕ} (d : Dialect) (req : List ℕ) (n : ℕ) {p q : ℕ} → p ≡ q → AtFaultBy fault d req n p → AtFaultBy fault d req n q
same_place d req n e f = rw (← e) f

module _ (fault : ℕ) (d : Dialect) (req : List ℕ) (v : Verdict) where
  nowhere : (w : Verdict) → w.place ≡ 0 → v.place ≢ 0 → bad w ≡ bad v → Faulty fault d req v
  nowhere w z n e = let q : v.place ≡ w.place = cc in absurd (n (q ∙ z))

  complete_found : (j : Judged) → v.place ≢ 0 → (j ≡ bad v → Faulty fault d req v) → complete d j ≡ bad v → Faulty fault d req v
  unfolding complete
  complete_found (bad w) n h e = h e
  complete_found (fine seen) n h e = go (eqb (missing d seen) 0) e
    where
      go : (x : Bool) → cond x (fine seen) (bad (lack_of (missing d seen))) ≡ bad v → Faulty fault d req v
      go true f = fine_bad seen v f
      go false f = nowhere (lack_of (missing d seen)) refl n f

  pub read_fault_by : v.place ≢ 0 → read_by fault d req ≡ bad v → Faulty fault d req v
  unfolding read_walk
  read_fault_by n e = go (eqb fault 0) refl e
    where
      walked : fault ≡ 0 → first_other (body_of req) ≡ false → judge d 20 (body_of req) nothing ≡ bad v → Faulty fault d req v
      walked h b f =
          let w = judge_finds d req v f in
          let p : w.place ≡ v.place = sym (ap (λ (u : Verdict). u.place) w.is) in
          let a : AtFaultBy fault d req w.number w.place =
          record { header = h; session = b; seen = w.seen; reached = w.reached; breaks = w.breaks } in
          record { number = w.number; at = same_place d req w.number p a; is = w.is ∙ ap (fault_at w.number) p }

      begun : fault ≡ 0 → (x : Bool) → first_other (body_of req) ≡ x
          → cond x (bad (lack_of session_id)) (complete d (judge d 20 (body_of req) nothing)) ≡ bad v → Faulty fault d req v
      begun h true b f = nowhere (lack_of session_id) refl n f
      begun h false b f = complete_found (judge d 20 (body_of req) nothing) n (walked h b) f

      go : (x : Bool) → eqb fault 0 ≡ x
          → cond x (cond (first_other (body_of req)) (bad (lack_of session_id)) (complete d (judge d 20 (body_of req) nothing))) (bad (fault_of fault)) ≡ bad v
          → Faulty fault d req v
      go true h f = begun (eqb-true _ _ h) (first_other (body_of req)) refl f
      go false h f = nowhere (fault_of fault) refl n f

pub read_fault : (d : Dialect) (req : List ℕ) (v : Verdict) → v.place ≢ 0 → read_in d req ≡ bad v → Faulty (header_fault d req) d req v
unfolding read_in
read_fault d req v n e = read_fault_by (header_fault d req) d req v n e

-- Where it stands: behind the header, within the request, at a multiple of 4.
pub reaches_least : (d : Dialect) (req : List ℕ) {at : ℕ} {seen : Seen} → ReadingReaches d req at seen → (20 ≤ at) × (at % 4 ≡ 0)
unfolding padded
reaches_least d req first = (omega arith, refl)
reaches_least d req (past_taken at seen r s e) = let h = reaches_least d req r in (omega (arith, h.0), omega (arith, h.1))
reaches_least d req (past_skipped at seen r s e) = let h = reaches_least d req r in (omega (arith, h.0), omega (arith, h.1))

breaks_within : (d : Dialect) (req : List ℕ) (seen : Seen) (at n : ℕ) → Breaks d req seen at n → at < length req
breaks_within d req seen at n (length_fault h s) = h
breaks_within d req seen at n (rule_fault m s e) = omega (arith, avp_within req at s)

module _ {fault : ℕ} (d : Dialect) (req : List ℕ) (n place : ℕ) (f : AtFaultBy fault d req n place) where
  pub fault_least : 20 ≤ place
  fault_least = (reaches_least d req f.reached).0

  pub fault_fours : place % 4 ≡ 0
  fault_fours = (reaches_least d req f.reached).1

  pub fault_within : place < length req
  fault_within = breaks_within d req f.seen place n f.breaks

-- Its result.
abbrev OfContent : ℕ → Type 0
OfContent n = (n ≡ 0) ⊎ (n ≡ 5014) ⊎ (n ≡ 5009) ⊎ (n ≡ 5004)

unless_content : (x : Bool) → OfContent (fault_unless x 5004)
unless_content true = inl refl
unless_content false = inr (inr (inr refl))

content_number : (d : Dialect) (c : Content) (a : List ℕ) → OfContent (content_fault d c a)
unfolding content_fault group_fault plain_fault number_fault
content_number d Free a = inl refl
content_number d (Number least most) a = go (eqb (length a) (avp_head a + 4))
  where
    go : (x : Bool) → OfContent (cond (not x) 5014 (fault_unless (leb least (value_of a) && leb (value_of a) most) 5004))
    go true = unless_content (leb least (value_of a) && leb (value_of a) most)
    go false = inr (inl refl)
content_number d (Sized least most) a = unless_content (leb least (length (data_of a)) && leb (length (data_of a)) most)
content_number d (Members g) a = go (gathers (members_of d g) (walk (data_of a))) (too_often d g (walk (data_of a)))
  where
    go : (x y : Bool) → OfContent (cond x (cond y 5009 0) 5004)
    go true true = inr (inr (inl refl))
    go true false = inl refl
    go false y = inr (inr (inr refl))

rules_fault : (m n : ℕ) → OfRules m → Fault m ≡ Fault n → OfRules n
rules_fault m n h e = let q : m ≡ n = cc in rw (← q) h

not_fault : {A : Type 0} (x : Bool) (n : ℕ) → cond x Taken Skipped ≡ Fault n → A
not_fault true n e = let z : ◌≡◌ {A = ℕ} 0 1 = cc in absurd (omega arith)
not_fault false n e = let z : ◌≡◌ {A = ℕ} 0 1 = cc in absurd (omega arith)

rule_number : (d : Dialect) (seen : Seen) (a : List ℕ) (n : ℕ) → rule d seen a ≡ Fault n → OfRules n
unfolding rule rule_by
rule_number d seen a n e =
    flags (eqb (reserved (avp_flags a)) 0) e
  where
    c : ℕ
    c = content_fault d (row_of (kind_of a)).content a

    holds : OfContent c → (x : Bool) → eqb c 0 ≡ x → cond x Taken (Fault c) ≡ Fault n → OfRules n
    holds h true z f = not_fault true n f
    holds (inl h) false z f = absurd (eqb-false c 0 z h)
    holds (inr (inl h)) false z f = rules_fault c n (inl h) f
    holds (inr (inr (inl h))) false z f = rules_fault c n (inr (inr (inr (inl h)))) f
    holds (inr (inr (inr h))) false z f = rules_fault c n (inr (inr (inr (inr h)))) f

    once : (x : Bool) → of_once x c ≡ Fault n → OfRules n
    once true f = rules_fault 5009 n (inr (inr (inr (inl refl)))) f
    once false f = holds (content_number d (row_of (kind_of a)).content a) (eqb c 0) refl f

    mark : (x : Bool) → cond x (Fault 5001) Skipped ≡ Fault n → OfRules n
    mark true f = rules_fault 5001 n (inr (inr (inl refl))) f
    mark false f = not_fault false n f

    used : (u : Use) (x : Bool) → of_use u x (avp_flags a) c ≡ Fault n → OfRules n
    used Unknown x f = mark (marked (avp_flags a)) f
    used Unnamed x f = not_fault false n f
    used Needed x f = once x f
    used Optional x f = once x f
    used Repeated x f = holds (content_number d (row_of (kind_of a)).content a) (eqb c 0) refl f
    used Several x f = holds (content_number d (row_of (kind_of a)).content a) (eqb c 0) refl f

    flags : (x : Bool) → cond (not x) (Fault 3009) (of_use (use_of d a) (present (get_or seen (kind_of a) none)) (avp_flags a) c) ≡ Fault n → OfRules n
    flags true f = used (use_of d a) (present (get_or seen (kind_of a) none)) f
    flags false f = rules_fault 3009 n (inr (inl refl)) f

breaks_number : (d : Dialect) (req : List ℕ) (seen : Seen) (at n : ℕ) → Breaks d req seen at n → OfRules n
breaks_number d req seen at n (length_fault h s) = inl refl
breaks_number d req seen at n (rule_fault m s e) = rule_number d seen (avp_at req at) n e

pub fault_number : {fault : ℕ} (d : Dialect) (req : List ℕ) (n place : ℕ) → AtFaultBy fault d req n place → OfRules n
fault_number d req n place f = breaks_number d req f.seen place n f.breaks

-- none of them is B5005, nor a success
pub rules_lack : (n : ℕ) → OfRules n → n ≡ 5005 → ⊥
rules_lack n (inl h) e = omega arith
rules_lack n (inr (inl h)) e = omega arith
rules_lack n (inr (inr (inl h))) e = omega arith
rules_lack n (inr (inr (inr (inl h)))) e = omega arith
rules_lack n (inr (inr (inr (inr h)))) e = omega arith

pub rules_fail : (n : ℕ) → OfRules n → succeeds (Base n) ≡ true → ⊥
unfolding number_of
rules_fail n (inl h) e = true≢false (sym e ∙ rw h)
rules_fail n (inr (inl h)) e = true≢false (sym e ∙ rw h)
rules_fail n (inr (inr (inl h))) e = true≢false (sym e ∙ rw h)
rules_fail n (inr (inr (inr (inl h)))) e = true≢false (sym e ∙ rw h)
rules_fail n (inr (inr (inr (inr h)))) e = true≢false (sym e ∙ rw h)

-- a decision's place is within the request
pub decide_within : (dialect : Dialect) (req t : List ℕ) (count : ℕ) (v : List ℕ) → 20 ≤ length req → (decide dialect req t count v).place ≤ length req
unfolding decide_by judged_by performed_by
decide_within dialect req t count v h = go (read_in dialect req) refl
  where
    go : (j : Judged) → read_in dialect req ≡ j → (judged_by in_force dialect req t count v j).place ≤ length req
    go (bad f) e = (read_placed dialect req f h e).within
    go (fine seen) e = either (λ (d : Decision). d.place ≤ length req) (beyond_set dialect.terms req) (omega arith) (omega arith)
