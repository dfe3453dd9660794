-- "Server-Assignment-Type 614 (0 to 11)": of a request that was read the number is one of these, and so its type is the asking one exactly for 0.
use Rattle.octets.specs.Standard.{ℕ, zero, suc, ◌+◌, ◌≤◌, List, none, some, Bool, true, false, cond, not, ◌&&◌}
use Rattle.octets.specs.Standard.{true≢false, ◌≡◌, refl, sym, arith, length, get_or, set, get_or-set_other, get_or-set_same, get_or-eq_default}
use Rattle.octets.specs.Standard.{length-set, eqb, leb, ltb, eqb-true, eqb-false, leb-true, ltb-true, ltb-false}
use Rattle.diameter.specs.Avp.{padded, avp_head, avp_flags, value_of, reserved, marked}
use Rattle.diameter.specs.Message.{body_of}
use Rattle.diameter.specs.AvpAt.{present}
use Rattle.diameter.specs.Walk.{Walk, ended, faulty, avp}
use Rattle.reading.specs.Contents.{number_fault, plain_fault}
use Rattle.reading.specs.Kinds.{known, kind_of, row_of, use_of, assignment_type}
use Rattle.reading.specs.Rules.{Seen, content_fault, of_content, of_use, rule_by, rule}
use Rattle.reading.specs.declared.Dialect.{Dialect}
use Rattle.reading.specs.declared.Ruled.{Ruled}
use Rattle.reading.specs.declared.Ruled.TheVariants.{Taken, Skipped, Fault}
use Rattle.reading.specs.declared.Use.{Use}
use Rattle.reading.specs.declared.Use.TheVariants.{Unknown, Unnamed, Needed, Optional, Repeated, Several}
use Rattle.requests.specs.Judged.{Judged, bad, fine, nothing, on_rule, judge}
use Rattle.requests.specs.Request.{header_fault, first_other, missing, complete, read_walk, read_in, value_seen}
use Rattle.choices.specs.Types.{type_of, asks_only}
use Rattle.deciding.proofs.Tests.{either}

-- what the walk has taken so far has such a number
abbrev Right : Seen → Type 0
Right seen = value_seen seen assignment_type ≤ 11

-- An AVP that is taken has no fault in what it holds.
abbrev Faultless : ℕ → Ruled → Type 0
Faultless n Taken = n ≡ 0
Faultless n Skipped = Unit
Faultless n (Fault m) = Unit

content_faultless : (n : ℕ) → Faultless n (of_content n)
content_faultless n = go (eqb n 0) refl
  where
    go : (y : Bool) → eqb n 0 ≡ y → Faultless n (cond y Taken (Fault n))
    go true e = eqb-true n 0 e
    go false e = tt

use_faultless : (u : Use) (earlier : Bool) (flags n : ℕ) → Faultless n (of_use u earlier flags n)
use_faultless Unknown earlier flags n = either (Faultless n) (marked flags) tt tt
use_faultless Unnamed earlier flags n = tt
use_faultless Needed earlier flags n = either (Faultless n) earlier tt (content_faultless n)
use_faultless Optional earlier flags n = either (Faultless n) earlier tt (content_faultless n)
use_faultless Repeated earlier flags n = content_faultless n
use_faultless Several earlier flags n = content_faultless n

rule_faultless : (d : Dialect) (seen : Seen) (a : List ℕ) → Faultless (content_fault d (row_of (kind_of a)).content a) (rule d seen a)
unfolding rule rule_by
rule_faultless d seen a =
    either (Faultless (content_fault d (row_of (kind_of a)).content a)) (not (eqb (reserved (avp_flags a)) 0)) tt
    (use_faultless (use_of d a) (present (get_or seen (kind_of a) none)) (avp_flags a) _)

number_right : (a : List ℕ) → number_fault 0 11 a ≡ 0 → value_of a ≤ 11
unfolding number_fault
number_right a = go (eqb (length a) (avp_head a + 4)) (leb 0 (value_of a)) (leb (value_of a) 11) refl
  where
    go : (x z y : Bool) → leb (value_of a) 11 ≡ y → ◌≡◌ {A = ℕ} (cond (not x) 5014 (cond (z && y) 0 5004)) 0 → value_of a ≤ 11
    go false z y f e = absurd (omega arith)
    go true z true f e = leb-true _ _ f
    go true true false f e = absurd (omega arith)
    go true false false f e = absurd (omega arith)

-- one more is taken
taken_right : (d : Dialect) (seen : Seen) (a : List ℕ) → Right seen → content_fault d (row_of (kind_of a)).content a ≡ 0 → Right (set seen (kind_of a) (some a))
unfolding content_fault plain_fault row_of known
taken_right d seen a r e = go (eqb (kind_of a) assignment_type) (ltb assignment_type (length seen)) refl refl
  where
    go : (x y : Bool) → eqb (kind_of a) assignment_type ≡ x → ltb assignment_type (length seen) ≡ y → Right (set seen (kind_of a) (some a))
    go false y f g = rw (get_or-set_other seen (kind_of a) assignment_type (some a) none (λ q. eqb-false _ _ f (sym q))) r
    go true true f g =
        let k : kind_of a ≡ assignment_type = eqb-true _ _ f in
        rw (k, get_or-set_same seen assignment_type (some a) none (ltb-true _ _ g)) (number_right a (rw k at e))
    go true false f g =
        let h : length (set seen (kind_of a) (some a)) ≤ assignment_type =
        omega (arith, length-set seen (kind_of a) (some a), ltb-false assignment_type (length seen) g) in
        rw (get_or-eq_default (set seen (kind_of a) (some a)) none h) (omega arith)

abbrev Rightly : Judged → Type 0
Rightly (bad v) = Unit
Rightly (fine seen) = Right seen

on_right : (d : Dialect) (r : Ruled) (seen : Seen) (a : List ℕ) (at : ℕ) (next : Seen → Judged) → Right seen
    → Faultless (content_fault d (row_of (kind_of a)).content a) r → ((s : Seen) → Right s → Rightly (next s)) → Rightly (on_rule r seen a at next)
on_right d Taken seen a at next r f h = h _ (taken_right d seen a r f)
on_right d Skipped seen a at next r f h = h seen r
on_right d (Fault n) seen a at next r f h = tt

judge_right : (d : Dialect) (at : ℕ) (w : Walk) (seen : Seen) → Right seen → Rightly (judge d at w seen)
unfolding judge
judge_right d at ended seen r = r
judge_right d at (faulty t) seen r = tt
judge_right d at (avp a w) seen r =
    on_right d (rule d seen a) seen a at (judge d (at + padded (length a)) w) r (rule_faultless d seen a)
    (λ s. judge_right d (at + padded (length a)) w s)

complete_right : (d : Dialect) (j : Judged) → Rightly j → Rightly (complete d j)
unfolding complete
complete_right d (bad v) r = tt
complete_right d (fine seen) r = either Rightly (eqb (missing d seen) 0) r tt

nothing_right : Right nothing
unfolding nothing
nothing_right = omega arith

judged_right : (d : Dialect) (req : List ℕ) → Rightly (read_in d req)
unfolding read_in read_walk
judged_right d req =
    either Rightly (eqb (header_fault d req) 0)
    (either Rightly (first_other (body_of req)) tt
    (complete_right d (judge d 20 (body_of req) nothing) (judge_right d 20 (body_of req) nothing nothing_right))) tt

pub type_read : (d : Dialect) (req : List ℕ) (seen : Seen) → read_in d req ≡ fine seen → value_seen seen assignment_type ≤ 11
type_read d req seen e = rw e at (judged_right d req)

-- of these numbers 0 alone asks only
pub asks_zero : (n : ℕ) → n ≤ 11 → asks_only (type_of n) ≡ true → n ≡ 0
unfolding type_of
asks_zero zero h e = refl
asks_zero (suc zero) h e = absurd (true≢false (sym e))
asks_zero (suc (suc zero)) h e = absurd (true≢false (sym e))
asks_zero (suc (suc (suc zero))) h e = absurd (true≢false (sym e))
asks_zero (suc (suc (suc (suc zero)))) h e = absurd (true≢false (sym e))
asks_zero (suc (suc (suc (suc (suc zero))))) h e = absurd (true≢false (sym e))
asks_zero (suc (suc (suc (suc (suc (suc zero)))))) h e = absurd (true≢false (sym e))
asks_zero (suc (suc (suc (suc (suc (suc (suc zero))))))) h e = absurd (true≢false (sym e))
asks_zero (suc (suc (suc (suc (suc (suc (suc (suc zero)))))))) h e = absurd (true≢false (sym e))
asks_zero (suc (suc (suc (suc (suc (suc (suc (suc (suc zero))))))))) h e = absurd (true≢false (sym e))
asks_zero (suc (suc (suc (suc (suc (suc (suc (suc (suc (suc zero)))))))))) h e = absurd (true≢false (sym e))
asks_zero (suc (suc (suc (suc (suc (suc (suc (suc (suc (suc (suc zero))))))))))) h e = absurd (true≢false (sym e))
asks_zero (suc (suc (suc (suc (suc (suc (suc (suc (suc (suc (suc (suc n)))))))))))) h e = absurd (omega arith)
