-- What reading comes to: every result that it blames has a column of the report and is no success; and no other command than the four is let pass.
use Rattle.octets.specs.Standard.{ℕ, ◌+◌, ◌/◌, ◌%◌, ◌≤◌, List, none, Bool, true, false, cond, not, ◌&&◌, ◌≡◌, refl, ◌⊎◌, inl, inr}
use Rattle.octets.specs.Standard.{length, get_or, eqb, leb, eqb-false, leb-true}
use Rattle.octets.proofs.All.{and_left, and_right}
use Rattle.diameter.specs.Avp.{padded, avp_head, avp_flags, data_of, value_of, reserved, marked}
use Rattle.diameter.specs.Message.{version_of, message_flags, application_of, body_of}
use Rattle.diameter.specs.AvpAt.{present}
use Rattle.diameter.specs.Walk.{Walk, ended, faulty, avp, walk}
use Rattle.reading.specs.Contents.{number_fault, plain_fault}
use Rattle.reading.specs.Groups.{members_of, gathers, too_often, group_fault}
use Rattle.reading.specs.Kinds.{kind_of, row_of, use_of}
use Rattle.reading.specs.Rules.{Seen, content_fault, of_content, of_use, rule_by, rule}
use Rattle.reading.specs.Verdicts.{number_of}
use Rattle.reading.specs.declared.Content.{Content}
use Rattle.reading.specs.declared.Content.TheVariants.{Free, Number, Sized, Members}
use Rattle.reading.specs.declared.Dialect.{Dialect}
use Rattle.reading.specs.declared.Outcome.{Outcome}
use Rattle.reading.specs.declared.Outcome.TheVariants.{Base}
use Rattle.reading.specs.declared.Ruled.{Ruled}
use Rattle.reading.specs.declared.Ruled.TheVariants.{Taken, Skipped, Fault}
use Rattle.reading.specs.declared.Use.{Use}
use Rattle.reading.specs.declared.Use.TheVariants.{Unknown, Unnamed, Needed, Optional, Repeated, Several}
use Rattle.reading.specs.declared.Verdict.{Verdict}
use Rattle.counting.specs.Results.{base_results, index_in}
use Rattle.counting.specs.Counting.{listed, Listed}
use Rattle.requests.specs.Judged.{Judged, bad, fine, nothing, on_rule, judge}
use Rattle.requests.specs.Request.{spoken, header_fault, first_other, missing, complete, read_walk, read_in}
use Rattle.deciding.proofs.Tests.{either}

-- a result that has a column and is no success
abbrev pub Fails : Outcome → Type 0
Fails r = (listed r && leb 3000 (number_of r)) ≡ true

pub fails_listed : (r : Outcome) → Fails r → Listed r
fails_listed r f = and_left (listed r) _ f

pub fails_most : (r : Outcome) → Fails r → 3000 ≤ number_of r
fails_most r f = leb-true 3000 (number_of r) (and_right (listed r) _ f)

-- a fault's number, 0 where there is none
abbrev Blames : ℕ → Type 0
Blames n = (n ≡ 0) ⊎ Fails (Base n)

content_blames : (d : Dialect) (c : Content) (a : List ℕ) → Blames (content_fault d c a)
unfolding content_fault group_fault plain_fault number_fault listed index_in base_results number_of
content_blames d Free a = inl refl
content_blames d (Number least most) a =
    either Blames (not (eqb (length a) (avp_head a + 4))) (inr refl) (either Blames (leb least (value_of a) && leb (value_of a) most) (inl refl) (inr refl))
content_blames d (Sized least most) a = either Blames (leb least (length (data_of a)) && leb (length (data_of a)) most) (inl refl) (inr refl)
content_blames d (Members g) a =
    either Blames (gathers (members_of d g) (walk (data_of a))) (either Blames (too_often d g (walk (data_of a))) (inr refl) (inl refl)) (inr refl)

-- what a number other than 0 blames
blamed : {X : Type 0} (P : X → Type 0) (n : ℕ) {a b : X} → Blames n → P a → (Fails (Base n) → P b) → P (cond (eqb n 0) a b)
blamed {X} P n {a} {b} l p q = go (eqb n 0) refl l
  where
    go : (y : Bool) → eqb n 0 ≡ y → Blames n → P (cond y a b)
    go true e l = p
    go false e (inl z) = absurd (eqb-false n 0 e z)
    go false e (inr h) = q h

-- Rules (c) to (h)
abbrev RuleFails : Ruled → Type 0
RuleFails Taken = Unit
RuleFails Skipped = Unit
RuleFails (Fault n) = Fails (Base n)

content_fails : (n : ℕ) → Blames n → RuleFails (of_content n)
content_fails n l = blamed RuleFails n l tt (λ h. h)

use_fails : (u : Use) (earlier : Bool) (flags n : ℕ) → Blames n → RuleFails (of_use u earlier flags n)
unfolding listed index_in base_results number_of
use_fails Unknown earlier flags n l = either RuleFails (marked flags) refl tt
use_fails Unnamed earlier flags n l = tt
use_fails Needed earlier flags n l = either RuleFails earlier refl (content_fails n l)
use_fails Optional earlier flags n l = either RuleFails earlier refl (content_fails n l)
use_fails Repeated earlier flags n l = content_fails n l
use_fails Several earlier flags n l = content_fails n l

rule_fails : (d : Dialect) (seen : Seen) (a : List ℕ) → RuleFails (rule d seen a)
unfolding rule rule_by listed index_in base_results number_of
rule_fails d seen a =
    either RuleFails (not (eqb (reserved (avp_flags a)) 0)) refl
    (use_fails (use_of d a) (present (get_or seen (kind_of a) none)) (avp_flags a) _ (content_blames d (row_of (kind_of a)).content a))

-- The walk, what is missing, and the header
abbrev JudgedFails : Judged → Type 0
JudgedFails (bad v) = Fails v.result
JudgedFails (fine seen) = Unit

on_fails : (r : Ruled) (seen : Seen) (a : List ℕ) (at : ℕ) (next : Seen → Judged) → RuleFails r → ((s : Seen) → JudgedFails (next s))
    → JudgedFails (on_rule r seen a at next)
on_fails Taken seen a at next l h = h _
on_fails Skipped seen a at next l h = h seen
on_fails (Fault n) seen a at next l h = l

judge_fails : (d : Dialect) (at : ℕ) (w : Walk) (seen : Seen) → JudgedFails (judge d at w seen)
unfolding judge listed index_in base_results number_of
judge_fails d at ended seen = tt
judge_fails d at (faulty t) seen = refl
judge_fails d at (avp a w) seen =
    on_fails (rule d seen a) seen a at (judge d (at + padded (length a)) w) (rule_fails d seen a)
    (λ s. judge_fails d (at + padded (length a)) w s)

complete_fails : (d : Dialect) (j : Judged) → JudgedFails j → JudgedFails (complete d j)
unfolding complete listed index_in base_results number_of
complete_fails d (bad v) l = l
complete_fails d (fine seen) l = either JudgedFails (eqb (missing d seen) 0) tt refl

header_blames : (d : Dialect) (req : List ℕ) → Blames (header_fault d req)
unfolding header_fault listed index_in base_results number_of
header_blames d req =
    either Blames (not (eqb (version_of req) 1)) (inr refl)
    (either Blames (eqb (message_flags req / 32 % 2) 1) (inr refl)
    (either Blames (not (spoken d)) (inr refl)
    (either Blames (not (eqb (application_of req) d.terms.application)) (inr refl)
    (inl refl))))

judged_fails : (d : Dialect) (req : List ℕ) → JudgedFails (read_in d req)
unfolding read_in read_walk listed index_in base_results number_of
judged_fails d req =
    blamed JudgedFails (header_fault d req) (header_blames d req)
    (either JudgedFails (first_other (body_of req)) refl (complete_fails d (judge d 20 (body_of req) nothing) (judge_fails d 20 (body_of req) nothing)))
    (λ h. h)

pub read_fails : (d : Dialect) (req : List ℕ) (f : Verdict) → read_in d req ≡ bad f → Fails f.result
read_fails d req f e = rw e at (judged_fails d req)
