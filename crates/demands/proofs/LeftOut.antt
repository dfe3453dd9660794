-- A SAR and the same SAR without one of its Public-Identities: how each is read.
use Rattle.octets.specs.Standard.{ℕ, ◌+◌, List, [], ◌∷◌, ◌++◌, Option, none, some, Bool, true, false, cond, not, ◌≡◌, refl, sym, ap, ◌∙◌, ◌≢◌, arith}
use Rattle.octets.specs.Standard.{length, get_or, set, get_or-set_other, set-set, set_comm, eqb, eqb-true, eqb-false}
use Rattle.diameter.specs.Avp.{padded}
use Rattle.diameter.specs.Walk.{Walk, ended, faulty, avp}
use Rattle.diameter.specs.Put.{glue}
use Rattle.pen.specs.Bytes.{if_there}
use Rattle.reading.specs.Kinds.{known, row_of, kind_of, use_in, use_of, cx, session_id, public_identity}
use Rattle.reading.specs.Rules.{Seen, rule_by, rule}
use Rattle.reading.specs.Verdicts.{fault_at, lack_of, fault_of}
use Rattle.reading.specs.declared.Dialect.{Dialect}
use Rattle.reading.specs.declared.Ruled.{Ruled}
use Rattle.reading.specs.declared.Ruled.TheVariants.{Taken, Skipped, Fault}
use Rattle.reading.specs.declared.Use.TheVariants.{Repeated}
use Rattle.reading.specs.declared.Verdict.{Verdict}
use Rattle.requests.specs.Judged.{Judged, bad, fine, nothing, on_rule, judge}
use Rattle.requests.specs.Request.{header_fault, missing_from, missing, complete, read_walk, identities}
use Rattle.envelope.specs.End.{proxy, proxies}
use Rattle.demands.proofs.Messages.{read_body_by, read_body}

fine_bad : {A : Type 0} (seen : Seen) (v : Verdict) → bad v ≡ fine seen → A
fine_bad seen v e = let z : ◌≡◌ {A = ℕ} 0 1 = cc in absurd (omega arith)

same_fine : (s r : Seen) → fine s ≡ fine r → s ≡ r
same_fine s r e = cc

-- Two states of the walk that are the same but for the last Public-Identity.
abbrev pub Beside : Seen → Seen → Type 0
Beside s r = set s public_identity none ≡ set r public_identity none

pub beside_at : (s r : Seen) → Beside s r → (k : ℕ) → k ≢ public_identity → get_or s k none ≡ get_or r k none
beside_at s r b k n =
    sym (get_or-set_other s public_identity k none none n) ∙ ap (λ (l : Seen). get_or l k none) b ∙ get_or-set_other r public_identity k none none n

beside_set : (s r : Seen) → Beside s r → (k : ℕ) (v : Option (List ℕ)) → Beside (set s k v) (set r k v)
beside_set s r b k v = go (eqb k public_identity) refl
  where
    go : (x : Bool) → eqb k public_identity ≡ x → Beside (set s k v) (set r k v)
    go true e =
        rw (eqb-true k public_identity e) (set-set s public_identity v none ∙ b ∙ sym (set-set r public_identity v none))
    go false e =
        let n : k ≢ public_identity = eqb-false k public_identity e in
        set_comm s k public_identity v none n ∙ ap (λ (l : Seen). set l k v) b ∙ sym (set_comm r k public_identity v none n)

-- Reading goes on without a fault, and comes to such a state.
pub record Follows (j : Judged) (u : Seen) : Type 0 where
  pub seen : Seen
  pub is : j ≡ fine seen
  pub beside : Beside u seen

module _ (d : Dialect) (on : d.terms.application ≡ cx) (sar : d.command ≡ 301) where
  repeated : use_in d (row_of public_identity) ≡ Repeated
  unfolding use_in row_of known
  repeated = rw (on, sar)

  rule_beside : (s r : Seen) → Beside s r → (a : List ℕ) → rule d s a ≡ rule d r a
  unfolding rule rule_by
  rule_beside s r b a = go (eqb (kind_of a) public_identity) refl
    where
      go : (x : Bool) → eqb (kind_of a) public_identity ≡ x → rule d s a ≡ rule d r a
      go true e = let u : use_of d a ≡ Repeated = ap (λ (n : ℕ). use_in d (row_of n)) (eqb-true (kind_of a) public_identity e) ∙ repeated in rw u
      go false e = rw (beside_at s r b (kind_of a) (eqb-false (kind_of a) public_identity e))

  -- one AVP in both
  step : (a : List ℕ) (at to : ℕ) (s r u : Seen) (f g : Seen → Judged) → Beside s r → ((v w : Seen) → Beside v w → f v ≡ fine u → Follows (g w) u)
      → on_rule (rule d s a) s a at f ≡ fine u → Follows (on_rule (rule d r a) r a to g) u
  step a at to s r u f g b next = rw (rule_beside s r b a) (go (rule d r a))
    where
      go : (x : Ruled) → on_rule x s a at f ≡ fine u → Follows (on_rule x r a to g) u
      go Taken e = next (set s (kind_of a) (some a)) (set r (kind_of a) (some a)) (beside_set s r b (kind_of a) (some a)) e
      go Skipped e = next s r b e
      go (Fault n) e = fine_bad u (fault_at n at) e

  judge_beside : (w : Walk) (at to : ℕ) (s r u : Seen) → Beside s r → judge d at w s ≡ fine u → Follows (judge d to w r) u
  unfolding judge
  judge_beside ended at to s r u b e = record { seen = r; is = refl; beside = rw (← same_fine s u e) b }
  judge_beside (faulty t) at to s r u b e = fine_bad u (fault_at 5014 at) e
  judge_beside (avp a w) at to s r u b e =
      step a at to s r u _ _ b (λ v y c f. judge_beside w (at + padded (length a)) (to + padded (length a)) v y u c f) e

  -- one AVP in the first alone, a Public-Identity
  module _ (one : List ℕ) (identity : kind_of one ≡ public_identity) (w : Walk) where
    judge_left : (qs : List (List ℕ)) (at to : ℕ) (s r u : Seen) → Beside s r → judge d at (glue qs (avp one w)) s ≡ fine u
        → Follows (judge d to (glue qs w) r) u
    unfolding judge glue
    judge_left [] at to s r u b = go (rule d s one)
      where
        go : (x : Ruled) → on_rule x s one at (judge d (at + padded (length one)) w) ≡ fine u → Follows (judge d to w r) u
        go Taken e =
            judge_beside w (at + padded (length one)) to (set s (kind_of one) (some one)) r u (rw identity (set-set s public_identity (some one) none ∙ b)) e
        go Skipped e = judge_beside w (at + padded (length one)) to s r u b e
        go (Fault n) e = fine_bad u (fault_at n at) e
    judge_left (q ∷ qs) at to s r u b =
        step q at to s r u _ _ b (λ v y c f. judge_left qs (at + padded (length q)) (to + padded (length q)) v y u c f)

  -- a SAR needs no Public-Identity
  missing_beside : (s r : Seen) → Beside s r → missing d s ≡ missing d r
  unfolding missing missing_from known use_in
  missing_beside s r b =
      rw (
        on,
        sar,
        beside_at s r b 1 (omega arith),
        beside_at s r b 2 (omega arith),
        beside_at s r b 3 (omega arith),
        beside_at s r b 4 (omega arith),
        beside_at s r b 5 (omega arith),
        beside_at s r b 6 (omega arith),
        beside_at s r b 12 (omega arith),
        beside_at s r b 13 (omega arith),
        beside_at s r b 14 (omega arith),
      )

  complete_beside : (j k : Judged) (u : Seen) → ((v : Seen) → j ≡ fine v → Follows k v) → complete d j ≡ fine u → Follows (complete d k) u
  unfolding complete
  complete_beside (bad v) k u h e = fine_bad u v e
  complete_beside (fine s) k u h e = go (eqb (missing d s) 0) refl e
    where
      go : (x : Bool) → eqb (missing d s) 0 ≡ x → cond x (fine s) (bad (lack_of (missing d s))) ≡ fine u → Follows (complete d k) u
      go true m e =
          let f : Follows k s = h s refl in
          record {
            seen = f.seen;
            is = rw (f.is, ← missing_beside s f.seen f.beside, m);
            beside = rw (← same_fine s u e) f.beside;
          }
      go false m e = fine_bad u (lack_of (missing d s)) e

-- The body of a request, and the same without one of its Public-Identities: the first is of another kind, by (b).
module _ (d : Dialect) (on : d.terms.application ≡ cx) (sar : d.command ≡ 301) (head one : List ℕ) (identity : kind_of one ≡ public_identity) (w : Walk) where
  pub read_left : (q : List ℕ) (qs : List (List ℕ)) (u : Seen) → read_body d head (glue (q ∷ qs) (avp one w)) ≡ fine u
      → Follows (read_body d head (glue (q ∷ qs) w)) u
  unfolding read_body read_body_by read_walk glue
  read_left q qs u = go (eqb (header_fault d head) 0) (not (eqb (kind_of q) session_id))
    where
      go : (x y : Bool)
          → cond x (cond y (bad (lack_of session_id)) (complete d (judge d 20 (avp q (glue qs (avp one w))) nothing))) (bad (fault_of (header_fault d head)))
          ≡ fine u
          → Follows (cond x (cond y (bad (lack_of session_id)) (complete d (judge d 20 (avp q (glue qs w)) nothing))) (bad (fault_of (header_fault d head)))) u
      go false y e = fine_bad u (fault_of (header_fault d head)) e
      go true true e = fine_bad u (lack_of session_id) e
      go true false e =
          complete_beside d on sar _ _ u (λ v f. judge_left d on sar one identity w (q ∷ qs) 20 20 nothing nothing v refl f) e

  pub read_first : (u : Seen) → read_body d head (avp one w) ≡ fine u → ⊥
  unfolding read_body read_body_by read_walk
  read_first u e = go (eqb (header_fault d head) 0) (rw identity at e)
    where
      go : (x : Bool) → cond x (bad (lack_of session_id)) (bad (fault_of (header_fault d head))) ≡ fine u → ⊥
      go true f = fine_bad u (lack_of session_id) f
      go false f = fine_bad u (fault_of (header_fault d head)) f

-- What the answer copies, and whom the request names.
module _ (one : List ℕ) (identity : kind_of one ≡ public_identity) (w : Walk) where
  pub copies_left : (qs : List (List ℕ)) → proxies (glue qs (avp one w)) ≡ proxies (glue qs w)
  unfolding proxies proxy if_there glue
  copies_left [] = rw identity
  copies_left (q ∷ qs) = rw (copies_left qs)

  pub identities_left : (qs : List (List ℕ)) → identities (glue qs (avp one w)) ≡ identities (glue qs ended) ++ (one ∷ identities w)
  unfolding identities glue
  identities_left [] = rw identity
  identities_left (q ∷ qs) = rw (identities_left qs) (go (eqb (kind_of q) public_identity))
    where
      go : (x : Bool) → cond x (q ∷ (identities (glue qs ended) ++ (one ∷ identities w))) (identities (glue qs ended) ++ (one ∷ identities w))
          ≡ cond x (q ∷ identities (glue qs ended)) (identities (glue qs ended)) ++ (one ∷ identities w)
      go true = refl
      go false = refl

pub identities_glue : (qs : List (List ℕ)) (w : Walk) → identities (glue qs w) ≡ identities (glue qs ended) ++ identities w
unfolding identities glue
identities_glue [] w = refl
identities_glue (q ∷ qs) w = rw (identities_glue qs w) (go (eqb (kind_of q) public_identity))
  where
    go : (x : Bool) → cond x (q ∷ (identities (glue qs ended) ++ identities w)) (identities (glue qs ended) ++ identities w)
        ≡ cond x (q ∷ identities (glue qs ended)) (identities (glue qs ended)) ++ identities w
    go true = refl
    go false = refl
