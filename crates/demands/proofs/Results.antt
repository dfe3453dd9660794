-- Which results can be: reading blames one of ten, and no other; and what the choices of a UAR and a LIR never come to.
use Rattle.std.specs.Prelude.{Option, Some, None}
use Rattle.octets.specs.Standard.{ℕ, ◌+◌, ◌/◌, ◌%◌, List, [], ◌∷◌, none, Bool, true, false, cond, not, ◌&&◌, true≢false, ◌≡◌, refl, sym, ap, ◌∙◌, ◌⊎◌}
use Rattle.octets.specs.Standard.{inl, inr, ◌≢◌, arith, length, get_or, eqb, leb, eqb-false}
use Rattle.blocks.specs.Changed.{is_one}
use Rattle.diameter.specs.Avp.{padded, avp_head, avp_flags, data_of, value_of, reserved, marked}
use Rattle.diameter.specs.Message.{version_of, message_flags, application_of, body_of}
use Rattle.diameter.specs.AvpAt.{present}
use Rattle.diameter.specs.Walk.{Walk, ended, faulty, avp, walk}
use Rattle.reading.specs.Contents.{number_fault, plain_fault}
use Rattle.reading.specs.Groups.{members_of, gathers, too_often, group_fault}
use Rattle.reading.specs.Kinds.{kind_of, row_of, use_of}
use Rattle.reading.specs.Rules.{Seen, content_fault, of_content, of_use, rule_by, rule}
use Rattle.reading.specs.declared.Content.{Content}
use Rattle.reading.specs.declared.Content.TheVariants.{Free, Number, Sized, Members}
use Rattle.reading.specs.declared.Dialect.{Dialect}
use Rattle.reading.specs.declared.Outcome.{Outcome}
use Rattle.reading.specs.declared.Outcome.TheVariants.{Base, Experimental}
use Rattle.reading.specs.declared.Ruled.{Ruled}
use Rattle.reading.specs.declared.Ruled.TheVariants.{Taken, Skipped, Fault}
use Rattle.reading.specs.declared.Use.{Use}
use Rattle.reading.specs.declared.Use.TheVariants.{Unknown, Unnamed, Needed, Optional, Repeated, Several}
use Rattle.reading.specs.declared.Verdict.{Verdict}
use Rattle.requests.specs.Features.{beyond_set}
use Rattle.requests.specs.Judged.{Judged, bad, fine, nothing, on_rule, judge}
use Rattle.requests.specs.Request.{spoken, header_fault, first_other, missing, complete, read_walk, read_in}
use Rattle.lookup.specs.Find.{find_server}
use Rattle.choices.specs.Choices.{authorization, location}
use Rattle.choices.specs.declared.choice.Asked.{Asked}
use Rattle.choices.specs.declared.choice.Choice.{Choice}
use Rattle.choices.specs.declared.choice.Choice.TheVariants.{Alone, Server, Capabilities, First}
use Rattle.choices.specs.declared.choice.Sought.{Sought}
use Rattle.questions.specs.Carried.{served_by, carried}
use Rattle.deciding.specs.Decide.{judged_by, decide_by, decide}
use Rattle.deciding.proofs.Tests.{either}
use Rattle.demands.specs.Call.{Decides}

-- the header's four, (b) and what is missing, and those of (a) and (c) to (h)
abbrev reading_results : List ℕ
reading_results = 5011 ∷ 3008 ∷ 3001 ∷ 3007 ∷ 5005 ∷ 5014 ∷ 3009 ∷ 5001 ∷ 5009 ∷ 5004 ∷ []

abbrev pub of_reading : Outcome → Bool
of_reading (Base n) = is_one reading_results n
of_reading (Experimental n) = false

-- a fault's number, 0 where there is none
abbrev Blames : ℕ → Type 0
Blames n = (n ≡ 0) ⊎ (of_reading (Base n) ≡ true)

content_blames : (d : Dialect) (c : Content) (a : List ℕ) → Blames (content_fault d c a)
unfolding content_fault group_fault plain_fault number_fault is_one
content_blames d Free a = inl refl
content_blames d (Number least most) a =
    either Blames (not (eqb (length a) (avp_head a + 4))) (inr refl) (either Blames (leb least (value_of a) && leb (value_of a) most) (inl refl) (inr refl))
content_blames d (Sized least most) a = either Blames (leb least (length (data_of a)) && leb (length (data_of a)) most) (inl refl) (inr refl)
content_blames d (Members g) a =
    either Blames (gathers (members_of d g) (walk (data_of a))) (either Blames (too_often d g (walk (data_of a))) (inr refl) (inl refl)) (inr refl)

-- what a number other than 0 blames
blamed : {X : Type 0} (P : X → Type 0) (n : ℕ) {a b : X} → Blames n → P a → (of_reading (Base n) ≡ true → P b) → P (cond (eqb n 0) a b)
blamed {X} P n {a} {b} l p q = go (eqb n 0) refl l
  where
    go : (y : Bool) → eqb n 0 ≡ y → Blames n → P (cond y a b)
    go true e l = p
    go false e (inl z) = absurd (eqb-false n 0 e z)
    go false e (inr h) = q h

-- Rules (c) to (h)
abbrev Ruling : Ruled → Type 0
Ruling Taken = Unit
Ruling Skipped = Unit
Ruling (Fault n) = of_reading (Base n) ≡ true

content_ruling : (n : ℕ) → Blames n → Ruling (of_content n)
content_ruling n l = blamed Ruling n l tt (λ h. h)

use_ruling : (u : Use) (earlier : Bool) (flags n : ℕ) → Blames n → Ruling (of_use u earlier flags n)
unfolding is_one
use_ruling Unknown earlier flags n l = either Ruling (marked flags) refl tt
use_ruling Unnamed earlier flags n l = tt
use_ruling Needed earlier flags n l = either Ruling earlier refl (content_ruling n l)
use_ruling Optional earlier flags n l = either Ruling earlier refl (content_ruling n l)
use_ruling Repeated earlier flags n l = content_ruling n l
use_ruling Several earlier flags n l = content_ruling n l

rule_ruling : (d : Dialect) (seen : Seen) (a : List ℕ) → Ruling (rule d seen a)
unfolding rule rule_by is_one
rule_ruling d seen a =
    either Ruling (not (eqb (reserved (avp_flags a)) 0)) refl
    (use_ruling (use_of d a) (present (get_or seen (kind_of a) none)) (avp_flags a) _ (content_blames d (row_of (kind_of a)).content a))

-- The walk, what is missing, and the header
abbrev Judging : Judged → Type 0
Judging (bad v) = of_reading v.result ≡ true
Judging (fine seen) = Unit

on_judging : (r : Ruled) (seen : Seen) (a : List ℕ) (at : ℕ) (next : Seen → Judged) → Ruling r → ((s : Seen) → Judging (next s))
    → Judging (on_rule r seen a at next)
on_judging Taken seen a at next l h = h _
on_judging Skipped seen a at next l h = h seen
on_judging (Fault n) seen a at next l h = l

judge_judging : (d : Dialect) (at : ℕ) (w : Walk) (seen : Seen) → Judging (judge d at w seen)
unfolding judge is_one
judge_judging d at ended seen = tt
judge_judging d at (faulty t) seen = refl
judge_judging d at (avp a w) seen =
    on_judging (rule d seen a) seen a at (judge d (at + padded (length a)) w) (rule_ruling d seen a)
    (λ s. judge_judging d (at + padded (length a)) w s)

complete_judging : (d : Dialect) (j : Judged) → Judging j → Judging (complete d j)
unfolding complete is_one
complete_judging d (bad v) l = l
complete_judging d (fine seen) l = either Judging (eqb (missing d seen) 0) tt refl

header_blames : (d : Dialect) (req : List ℕ) → Blames (header_fault d req)
unfolding header_fault is_one
header_blames d req =
    either Blames (not (eqb (version_of req) 1)) (inr refl)
    (either Blames (eqb (message_flags req / 32 % 2) 1) (inr refl)
    (either Blames (not (spoken d)) (inr refl)
    (either Blames (not (eqb (application_of req) d.terms.application)) (inr refl)
    (inl refl))))

read_judging : (d : Dialect) (req : List ℕ) → Judging (read_in d req)
unfolding read_in read_walk is_one
read_judging d req =
    blamed Judging (header_fault d req) (header_blames d req)
    (either Judging (first_other (body_of req)) refl (complete_judging d (judge d 20 (body_of req) nothing) (judge_judging d 20 (body_of req) nothing)))
    (λ h. h)

pub read_blames : (d : Dialect) (req : List ℕ) (v : Verdict) → read_in d req ≡ bad v → of_reading v.result ≡ true
read_blames d req v e = go (read_in d req) (read_judging d req) e
  where
    go : (j : Judged) → Judging j → j ≡ bad v → of_reading v.result ≡ true
    go j l e = rw e at l

-- no other result is
pub read_other : (d : Dialect) (req : List ℕ) (v : Verdict) (r : Outcome) → of_reading r ≡ false → read_in d req ≡ bad v → v.result ≢ r
read_other d req v r n e f = true≢false (sym (rw f at (read_blames d req v e)) ∙ n)

-- A B result that reading never gives is that of a request that is decided upon.
pub record Upon (d : Dialect) (req : List ℕ) : Type 0 where
  pub seen : Seen
  pub decides : Decides d req seen

pub decided_upon : (d : Dialect) (req t : List ℕ) (count : ℕ) (v : List ℕ) (n : ℕ) → of_reading (Base n) ≡ false
    → (decide d req t count v).given.verdict.result ≡ Base n → Upon d req
unfolding decide_by judged_by
decided_upon d req t count v n other e = go (read_in d req) refl
  where
    on : (seen : Seen) → read_in d req ≡ fine seen → (x : Bool) → beyond_set d.terms req ≡ x → Upon d req
    on seen r true b = let f = rw (r, b) at e in let z : ◌≡◌ {A = ℕ} 0 1 = cc in absurd (omega arith)
    on seen r false b = record { seen = seen; decides = record { read = r; inside = b } }

    go : (j : Judged) → read_in d req ≡ j → Upon d req
    go (bad f) r = absurd (read_other d req f (Base n) other r (rw r at e))
    go (fine seen) r = on seen r (beyond_set d.terms req) refl

-- a result of B, by its number
abbrev pub is_base : ℕ → Outcome → Bool
is_base n (Base m) = eqb m n
is_base n (Experimental m) = false

-- A choice that comes to no such result, and what it gives.
abbrev pub Without : ℕ → Choice → Type 0
Without n (Alone r) = is_base n r ≡ false
Without n (Server r) = is_base n r ≡ false
Without n (Capabilities r) = is_base n r ≡ false
Without n (First r other) = (is_base n r ≡ false) × (is_base n other ≡ false)

pub carried_without : (n : ℕ) (t : List ℕ) (count : ℕ) (user : List ℕ) (k : ℕ) (c : Choice) → Without n c
    → is_base n (carried t count user k c).verdict.result ≡ false
unfolding carried
carried_without n t count user k (Alone r) h = h
carried_without n t count user k (Server r) h = h
carried_without n t count user k (Capabilities r) h = h
carried_without n t count user k (First r other) h = go (find_server t count user)
  where
    go : (f : Option ℕ) → is_base n (served_by f r other k).verdict.result ≡ false
    go (Some j) = h.0
    go None = h.1

-- 02 [7]: the B5012 of UAR and LIR is no longer there.
pub authorization_without : (a : Asked) (kind : ℕ) → Without 5012 (authorization a kind)
unfolding authorization
authorization_without a kind =
    either (Without 5012) (not a.known) refl
    (either (Without 5012) (not a.together) refl
    (either (Without 5012) a.barred refl
    (either (Without 5012) (not (eqb kind 1) && not a.roams) refl
    (either (Without 5012) (eqb kind 2) refl
    (either (Without 5012) a.present (either (λ (r : Outcome). is_base 5012 r ≡ false) (eqb kind 0) refl refl)
    (either (Without 5012) (eqb kind 1) refl
    (refl, refl)))))))

pub location_without : (a : Sought) → Without 5012 (location a)
unfolding location
location_without a =
    either (Without 5012) (not a.known) refl
    (either (Without 5012) a.present refl
    (either (Without 5012) (not a.services) refl
    (refl, refl)))

-- 02 [6]: a LIR's result is never B5003.
pub location_free : (a : Sought) → Without 5003 (location a)
unfolding location
location_free a =
    either (Without 5003) (not a.known) refl
    (either (Without 5003) a.present refl
    (either (Without 5003) (not a.services) refl
    (refl, refl)))

-- a UAR's B5003: both identities are known and stand together in one record, which is barred.
module _ (a : Asked) (kind : ℕ) where
  abbrev later : Choice
  later =
      cond (not (eqb kind 1) && not a.roams) (Alone (Experimental 5004))
      (cond (eqb kind 2) (Capabilities (Base 2001))
      (cond a.present (Server (cond (eqb kind 0) (Experimental 2002) (Base 2001)))
      (cond (eqb kind 1) (Alone (Experimental 5003))
      (First (Experimental 2002) (Experimental 2001)))))

  later_without : Without 5003 later
  later_without =
      either (Without 5003) (not (eqb kind 1) && not a.roams) refl
      (either (Without 5003) (eqb kind 2) refl
      (either (Without 5003) a.present (either (λ (r : Outcome). is_base 5003 r ≡ false) (eqb kind 0) refl refl)
      (either (Without 5003) (eqb kind 1) refl
      (refl, refl))))

  module _ (t : List ℕ) (count : ℕ) (user : List ℕ) (k : ℕ) where
    abbrev comes : Choice → Outcome
    comes c = (carried t count user k c).verdict.result

    other : {A : Type 0} (c : Choice) → Without 5003 c → comes c ≡ Base 5003 → A
    other c h e = absurd (true≢false (sym (ap (is_base 5003) e) ∙ carried_without 5003 t count user k c h))

    pub barred_asked : comes (authorization a kind) ≡ Base 5003 → (a.known ≡ true) × (a.together ≡ true) × (a.barred ≡ true)
    unfolding authorization
    barred_asked = go a.known a.together a.barred
      where
        go : (x y z : Bool)
            → comes (cond (not x) (Alone (Experimental 5001)) (cond (not y) (Alone (Experimental 5002)) (cond z (Alone (Base 5003)) later))) ≡ Base 5003
            → (x ≡ true) × (y ≡ true) × (z ≡ true)
        go false y z e = other (Alone (Experimental 5001)) refl e
        go true false z e = other (Alone (Experimental 5002)) refl e
        go true true false e = other later later_without e
        go true true true e = (refl, refl, refl)

    -- and the three steps in their order
    pub asked_unknown : a.known ≡ false → comes (authorization a kind) ≡ Experimental 5001
    unfolding authorization carried
    asked_unknown e = rw e

    pub asked_apart : a.known ≡ true → a.together ≡ false → comes (authorization a kind) ≡ Experimental 5002
    unfolding authorization carried
    asked_apart e f = rw (e, f)

    pub asked_barred : a.known ≡ true → a.together ≡ true → a.barred ≡ true → comes (authorization a kind) ≡ Base 5003
    unfolding authorization carried
    asked_barred e f g = rw (e, f, g)
