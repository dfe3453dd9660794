-- Reading under the two editions of the base standard: the same, or the newer one blames a 260 for its second Vendor-Id.
use Rattle.octets.specs.Standard.{ℕ, zero, suc, ◌+◌, ◌≤◌, ◌<◌, List, [], ◌∷◌, none, Bool, true, false, cond, not, ◌&&◌, ◌||◌, true≢false, ◌≡◌, refl, sym}
use Rattle.octets.specs.Standard.{ap, ◌∙◌, ◌⊎◌, inl, inr, ◌≢◌, arith, length, get_or, drop, length-drop, eqb, leb, ltb, eqb-true, eqb-false, leb-true}
use Rattle.octets.specs.Standard.{ltb-true, lt-ltb}
use Rattle.octets.proofs.All.{and_left, and_right}
use Rattle.diameter.specs.Avp.{padded, avp_flags, data_of, reserved, sound}
use Rattle.diameter.specs.AvpAt.{present, avp_at}
use Rattle.diameter.specs.Message.{body_of}
use Rattle.diameter.specs.Put.{All}
use Rattle.diameter.specs.Walk.{Walk, ended, faulty, avp, walk}
use Rattle.diameter.proofs.Walks.{walk_nil}
use Rattle.reading.specs.Contents.{fault_unless}
use Rattle.reading.specs.Groups.{vendor_id, application_members, members_of, is_of, fits, members_fitting, gathers, rfc3588, rfc6733, too_often, group_fault}
use Rattle.reading.specs.Kinds.{known, unknown, application, kind_of, row_of, use_in, use_of}
use Rattle.reading.specs.Rules.{Seen, content_fault, rule_by, rule}
use Rattle.reading.specs.declared.Content.{Content}
use Rattle.reading.specs.declared.Content.TheVariants.{Free, Number, Sized, Members}
use Rattle.reading.specs.declared.Dialect.{Dialect}
use Rattle.reading.specs.declared.Kind.{Kind}
use Rattle.reading.specs.declared.Ruled.{Ruled}
use Rattle.reading.specs.declared.Ruled.TheVariants.{Taken, Skipped, Fault}
use Rattle.reading.specs.declared.Use.{Use}
use Rattle.reading.specs.declared.Use.TheVariants.{Needed}
use Rattle.reading.specs.declared.group.Group.{Group}
use Rattle.reading.specs.declared.group.Group.TheVariants.{Application, AuthDataItem, SupportedFeatures, UserIdentity}
use Rattle.reading.proofs.Columns.{use_any}
use Rattle.requests.specs.Features.{beyond_set}
use Rattle.requests.specs.Judged.{Judged, bad, fine, nothing, on_rule, judge}
use Rattle.requests.specs.Request.{header_fault, first_other, read_walk, read_in}
use Rattle.deciding.specs.Decide.{judged_by, decide_by, decide}
use Rattle.deciding.specs.Plans.{plan_read}
use Rattle.deciding.specs.Rules.{in_force}
use Rattle.demands.specs.Place.{behind_at, ReadingReaches, first, past_taken, past_skipped, length_fault, rule_fault, AtFaultBy}
use Rattle.demands.specs.Peers.{vendor_ids, OneVendor, Second, ComesTo}
use Rattle.older_rules.proofs.Features.{on_same}
use Rattle.demands.proofs.Dialects.{spoken}
use Rattle.demands.proofs.Dialects as dialects
use Rattle.demands.proofs.Faults.{avp_least, avp_within, judge_taken, judge_skipped, judge_breaks, taken_passes}

-- The kinds that are no 260 hold no such group.
abbrev is_application : Content → Bool
is_application Free = false
is_application (Number least most) = false
is_application (Sized least most) = false
is_application (Members Application) = true
is_application (Members AuthDataItem) = false
is_application (Members SupportedFeatures) = false
is_application (Members UserIdentity) = false

others : (l : List Kind) → All (λ (k : Kind). is_application k.content ≡ false) l → (i : ℕ) → is_application (get_or l i unknown).content ≡ false
others [] h i = refl
others (k ∷ l) h zero = h.0
others (k ∷ l) h (suc i) = others l h.1 i

row_other : (k : ℕ) → k ≢ application → is_application (row_of k).content ≡ false
unfolding row_of known
row_other zero n = refl
row_other (suc zero) n = refl
row_other (suc (suc zero)) n = absurd (n refl)
row_other (suc (suc (suc k))) n =
    others (drop 2 known)
    (refl, (refl, (refl, (refl, (refl, (refl, (refl, (refl, (refl, (refl, (refl, (refl, (refl, (refl, (refl, (refl, (refl, (refl, (refl, tt))))))))))))))))))) k

-- Vendor-Ids that fit are Vendor-Ids.
vendors_fit : (w : Walk) → members_fitting vendor_id w ≤ vendor_ids w
unfolding members_fitting vendor_ids fits
vendors_fit ended = omega arith
vendors_fit (faulty t) = omega arith
vendors_fit (avp a w) = go (fits vendor_id a) (is_of 266 0 a) refl refl (vendors_fit w)
  where
    is : fits vendor_id a ≡ true → is_of 266 0 a ≡ true
    is e = and_right (eqb (reserved (avp_flags a)) 0) _ (and_left (eqb (reserved (avp_flags a)) 0 && is_of 266 0 a) _ e)

    go : (x y : Bool) → fits vendor_id a ≡ x → is_of 266 0 a ≡ y → members_fitting vendor_id w ≤ vendor_ids w
        → cond x (suc (members_fitting vendor_id w)) (members_fitting vendor_id w) ≤ cond y (suc (vendor_ids w)) (vendor_ids w)
    go true true e f h = omega arith
    go true false e f h = absurd (true≢false (sym (is e) ∙ f))
    go false true e f h = omega arith
    go false false e f h = h

-- "A message with just one", by computing.
unfoldable pub one_vendor : Walk → Bool
one_vendor ended = true
one_vendor (faulty t) = true
one_vendor (avp a w) = (not (eqb (kind_of a) application) || leb (vendor_ids (walk (data_of a))) 1) && one_vendor w

pub one_says : (w : Walk) → one_vendor w ≡ true → OneVendor w
unfolding one_vendor
one_says ended e = tt
one_says (faulty t) e = tt
one_says (avp a w) e = (go (eqb (kind_of a) application) refl (and_left few (one_vendor w) e), one_says w (and_right few (one_vendor w) e))
  where
    few : Bool
    few = not (eqb (kind_of a) application) || leb (vendor_ids (walk (data_of a))) 1

    go : (x : Bool) → eqb (kind_of a) application ≡ x → (not x || leb (vendor_ids (walk (data_of a))) 1) ≡ true
        → kind_of a ≡ application → vendor_ids (walk (data_of a)) ≤ 1
    go true f g k = leb-true _ _ g
    go false f g k = absurd (eqb-false _ _ f k)

module _ (command app features : ℕ) where
  abbrev pub older : Dialect
  older = spoken command app rfc3588 features

  abbrev pub newer : Dialect
  newer = spoken command app rfc6733 features

  -- WHAT AN AVP HOLDS
  content_same : (c : Content) (a : List ℕ) → is_application c ≡ false → content_fault newer c a ≡ content_fault older c a
  unfolding content_fault group_fault too_often members_of
  content_same Free a e = refl
  content_same (Number least most) a e = refl
  content_same (Sized least most) a e = refl
  content_same (Members Application) a e = absurd (true≢false e)
  content_same (Members AuthDataItem) a e = refl
  content_same (Members SupportedFeatures) a e = refl
  content_same (Members UserIdentity) a e = refl

  -- Under RFC 3588 a group is judged as it was when there was one edition only.
  pub older_group : (g : Group) (w : Walk) → group_fault older g w ≡ fault_unless (gathers (members_of older g) w) 5004
  unfolding group_fault too_often
  older_group Application w = refl
  older_group AuthDataItem w = refl
  older_group SupportedFeatures w = refl
  older_group UserIdentity w = refl

  abbrev fault : Dialect → List ℕ → ℕ
  fault d a = content_fault d (row_of (kind_of a)).content a

  content_cases : (a : List ℕ) → (fault newer a ≡ fault older a) ⊎ Second app a
  unfolding content_fault group_fault too_often members_of row_of known
  content_cases a = go (eqb (kind_of a) application) refl
    where
      w : Walk
      w = walk (data_of a)

      here : kind_of a ≡ application → (x y : Bool) → gathers (application_members app) w ≡ x → ltb 1 (members_fitting vendor_id w) ≡ y
          → (fault newer a ≡ fault older a) ⊎ Second app a
      here k false y e f = inl (rw (k, e))
      here k true false e f = inl (rw (k, e, f))
      here k true true e f = inr (record { kind = k; right = e; two = omega (arith, ltb-true 1 (members_fitting vendor_id w) f) })

      go : (x : Bool) → eqb (kind_of a) application ≡ x → (fault newer a ≡ fault older a) ⊎ Second app a
      go true e = here (eqb-true _ _ e) (gathers (application_members app) w) (ltb 1 (members_fitting vendor_id w)) refl refl
      go false e = inl (content_same (row_of (kind_of a)).content a (row_other (kind_of a) (eqb-false _ _ e)))

  -- RULES (c) TO (h)
  rule_same : (seen : Seen) (a : List ℕ) → fault newer a ≡ fault older a → rule newer seen a ≡ rule older seen a
  unfolding rule use_in
  rule_same seen a e = rw e

  needed : (peer : ℕ) (a : List ℕ) → kind_of a ≡ application
      → use_of (record { command = command; terms = record { application = app; peer = peer; features = features } }) a ≡ Needed
  unfolding row_of known
  needed peer a k = rw k (use_any (λ (u : Use). u ≡ Needed) _ (row_of application) (λ e. refl) refl refl refl refl)

  -- Such a 260, if no other rule blames it, is at fault by the newer edition and not by the older one.
  newer_fault : (a : List ℕ) → Second app a → fault newer a ≡ 5009
  unfolding content_fault group_fault too_often members_of row_of known
  newer_fault a s = rw (s.kind, s.right, lt-ltb 1 (members_fitting vendor_id (walk (data_of a))) (omega (arith, s.two)))

  older_fault : (a : List ℕ) → Second app a → fault older a ≡ 0
  unfolding content_fault group_fault too_often members_of row_of known
  older_fault a s = rw (s.kind, s.right)

  -- (c) and (f) let it pass
  record Unblamed (seen : Seen) (a : List ℕ) : Type 0 where
    flags : eqb (reserved (avp_flags a)) 0 ≡ true
    before : present (get_or seen (kind_of a) none) ≡ false
    second : Second app a

  newer_rule : (seen : Seen) (a : List ℕ) → Unblamed seen a → rule newer seen a ≡ Fault 5009
  unfolding rule rule_by
  newer_rule seen a u = rw (u.flags, needed rfc6733 a u.second.kind, u.before, newer_fault a u.second)

  older_rule : (seen : Seen) (a : List ℕ) → Unblamed seen a → rule older seen a ≡ Taken
  unfolding rule rule_by
  older_rule seen a u = rw (u.flags, needed rfc3588 a u.second.kind, u.before, older_fault a u.second)

  too_often_lem : (seen : Seen) (a : List ℕ) → Second app a → (rule newer seen a ≡ rule older seen a) ⊎ Unblamed seen a
  unfolding rule rule_by
  too_often_lem seen a s = go (eqb (reserved (avp_flags a)) 0) (present (get_or seen (kind_of a) none)) refl refl
    where
      go : (x y : Bool) → eqb (reserved (avp_flags a)) 0 ≡ x → present (get_or seen (kind_of a) none) ≡ y
          → (rule newer seen a ≡ rule older seen a) ⊎ Unblamed seen a
      go false y f g = inl (rw f)
      go true true f g = inl (rw (f, needed rfc6733 a s.kind, needed rfc3588 a s.kind, g))
      go true false f g = inr (record { flags = f; before = g; second = s })

  rule_cases : (seen : Seen) (a : List ℕ) → (rule newer seen a ≡ rule older seen a) ⊎ Unblamed seen a
  rule_cases seen a = go (content_cases a)
    where
      go : (fault newer a ≡ fault older a) ⊎ Second app a → (rule newer seen a ≡ rule older seen a) ⊎ Unblamed seen a
      go (inl e) = inl (rule_same seen a e)
      go (inr s) = too_often_lem seen a s

  -- A WALK on which no 260 has two
  pub walk_same : (at : ℕ) (w : Walk) (seen : Seen) → OneVendor w → judge newer at w seen ≡ judge older at w seen
  unfolding judge
  walk_same at ended seen o = refl
  walk_same at (faulty t) seen o = refl
  walk_same at (avp a w) seen o =
      go (rule_cases seen a) (on_same (rule older seen a) seen a at _ _ (λ s. walk_same (at + padded (length a)) w s o.1))
    where
      go : (rule newer seen a ≡ rule older seen a) ⊎ Unblamed seen a
          → on_rule (rule older seen a) seen a at (judge newer (at + padded (length a)) w)
          ≡ on_rule (rule older seen a) seen a at (judge older (at + padded (length a)) w)
          → on_rule (rule newer seen a) seen a at (judge newer (at + padded (length a)) w)
          ≡ on_rule (rule older seen a) seen a at (judge older (at + padded (length a)) w)
      go (inl e) rest = rw e rest
      go (inr s) rest = absurd (omega (arith, s.second.two, vendors_fit (walk (data_of a)), o.0 s.second.kind))

  -- THE HEADER, and the whole of reading
  header_same : (req : List ℕ) → header_fault newer req ≡ header_fault older req
  header_same = dialects.header_same command app rfc6733 rfc3588 features features

  module _ (req : List ℕ) where
    pub read_same : judge newer 20 (body_of req) nothing ≡ judge older 20 (body_of req) nothing → read_in newer req ≡ read_in older req
    read_same = dialects.read_same command app rfc6733 rfc3588 features features req

    -- ANY REQUEST, from place to place: reading comes to the same places in both, up to such a 260
    pub record Apart : Type 0 where
      pub place : ℕ
      pub newly : ComesTo newer req place
      pub before : ComesTo older req place

    abbrev at_place : Dialect → ℕ → Seen → Judged
    at_place d at seen = judge d at (walk (drop at req)) seen

    abbrev Cases : ℕ → Type 0
    Cases k =
        (at : ℕ) (seen : Seen) → length (drop at req) ≤ k → ReadingReaches newer req at seen → ReadingReaches older req at seen
        → (at_place newer at seen ≡ at_place older at seen) ⊎ Apart

    none_left : (at : ℕ) (seen : Seen) → length (drop at req) ≡ 0 → at_place newer at seen ≡ at_place older at seen
    unfolding judge
    none_left at seen l = go (drop at req) l
      where
        go : (t : List ℕ) → length t ≡ 0 → judge newer at (walk t) seen ≡ judge older at (walk t) seen
        go [] h = rw walk_nil
        go (x ∷ t) h = absurd (omega arith)

    step : (k : ℕ) → Cases k → Cases (suc k)
    step k next at seen l r q = go (sound (drop at req)) refl
      where
        shorter : sound (drop at req) ≡ true → length (drop (behind_at req at) req) ≤ k
        shorter s = rw length-drop (omega (arith, length-drop at req, avp_least req at s, avp_within req at s))

        joined : {x y u v : Judged} → x ≡ u → y ≡ v → (u ≡ v) ⊎ Apart → (x ≡ y) ⊎ Apart
        joined e f (inl g) = inl (e ∙ g ∙ sym f)
        joined e f (inr b) = inr b

        by : (s : sound (drop at req) ≡ true) → rule newer seen (avp_at req at) ≡ rule older seen (avp_at req at)
            → (x : Ruled) → rule older seen (avp_at req at) ≡ x → (at_place newer at seen ≡ at_place older at seen) ⊎ Apart
        by s e Taken f =
            joined (judge_taken newer req at seen s (e ∙ f)) (judge_taken older req at seen s f)
            (next (behind_at req at) _ (shorter s) (past_taken at seen r s (e ∙ f)) (past_taken at seen q s f))
        by s e Skipped f =
            joined (judge_skipped newer req at seen s (e ∙ f)) (judge_skipped older req at seen s f)
            (next (behind_at req at) seen (shorter s) (past_skipped at seen r s (e ∙ f)) (past_skipped at seen q s f))
        by s e (Fault n) f =
            inl (judge_breaks newer req at seen n (rule_fault n s (e ∙ f)) ∙ sym (judge_breaks older req at seen n (rule_fault n s f)))

        ruled : (s : sound (drop at req) ≡ true) → (rule newer seen (avp_at req at) ≡ rule older seen (avp_at req at)) ⊎ Unblamed seen (avp_at req at)
            → (at_place newer at seen ≡ at_place older at seen) ⊎ Apart
        ruled s (inl e) = by s e (rule older seen (avp_at req at)) refl
        ruled s (inr u) =
            let f : reserved (avp_flags (avp_at req at)) ≡ 0 = eqb-true _ _ u.flags in
            inr (record {
              place = at;
              newly = record { seen = seen; reached = r; whole = s; flags = f; before = u.before; second = u.second };
              before = record { seen = seen; reached = q; whole = s; flags = f; before = u.before; second = u.second };
            })

        go : (x : Bool) → sound (drop at req) ≡ x → (at_place newer at seen ≡ at_place older at seen) ⊎ Apart
        go true s = ruled s (rule_cases seen (avp_at req at))
        go false s = left (eqb (length (drop at req)) 0) refl
          where
            left : (x : Bool) → eqb (length (drop at req)) 0 ≡ x → (at_place newer at seen ≡ at_place older at seen) ⊎ Apart
            left true z = inl (none_left at seen (eqb-true _ _ z))
            left false z =
                let h : at < length req = omega (arith, length-drop at req, eqb-false (length (drop at req)) 0 z) in
                inl (judge_breaks newer req at seen 5014 (length_fault h s) ∙ sym (judge_breaks older req at seen 5014 (length_fault h s)))

    within : (k : ℕ) → Cases k
    within zero at seen l r q = inl (none_left at seen (omega arith))
    within (suc k) at seen l r q = step k (within k) at seen l r q

    -- what is found at such a 260, in each of them
    unblamed : (d : Dialect) (place : ℕ) (c : ComesTo d req place) → d.terms.application ≡ app → Unblamed c.seen (avp_at req place)
    unblamed d place c e = record { flags = rw c.flags; before = c.before; second = rw (← e) c.second }

    pub newer_breaks : {header : ℕ} (place : ℕ) → ComesTo newer req place → header ≡ 0 → first_other (body_of req) ≡ false
        → AtFaultBy header newer req 5009 place
    newer_breaks place c h f =
        let b = rule_fault 5009 c.whole (newer_rule c.seen (avp_at req place) (unblamed newer place c refl)) in
        record { header = h; session = f; seen = c.seen; reached = c.reached; breaks = b }

    pub older_passes : {header : ℕ} (place : ℕ) → ComesTo older req place → (n at : ℕ) → AtFaultBy header older req n at → at ≢ place
    older_passes place c n at f =
        taken_passes older req place c.seen c.reached c.whole (older_rule c.seen (avp_at req place) (unblamed older place c refl)) n at f

    -- the two come to the same, or the header and (b) have no fault and reading comes to such a 260
    pub record Told : Type 0 where
      pub header : header_fault newer req ≡ 0
      pub session : first_other (body_of req) ≡ false
      pub apart : Apart

    pub read_cases : (read_in newer req ≡ read_in older req) ⊎ Told
    unfolding read_in read_walk
    read_cases = go (within (length (drop 20 req)) 20 nothing (omega arith) first first)
      where
        told : Apart → (x y : Bool) → eqb (header_fault newer req) 0 ≡ x → first_other (body_of req) ≡ y → (read_in newer req ≡ read_in older req) ⊎ Told
        told b false y e f = inl (rw (← header_same req, e))
        told b true true e f = inl (rw (← header_same req, e, f))
        told b true false e f = inr (record { header = eqb-true _ _ e; session = f; apart = b })

        go : (judge newer 20 (body_of req) nothing ≡ judge older 20 (body_of req) nothing) ⊎ Apart → (read_in newer req ≡ read_in older req) ⊎ Told
        go (inl e) = inl (read_same e)
        go (inr b) = told b (eqb (header_fault newer req) 0) (first_other (body_of req)) refl refl

  -- THE DECISION
  judged_same : (req t : List ℕ) (count : ℕ) (v : List ℕ) (j : Judged) → judged_by in_force newer req t count v j ≡ judged_by in_force older req t count v j
  unfolding judged_by plan_read beyond_set
  judged_same req t count v (bad f) = refl
  judged_same req t count v (fine seen) = refl

  pub decide_same : (req t : List ℕ) (count : ℕ) (v : List ℕ) → read_in newer req ≡ read_in older req → decide newer req t count v ≡ decide older req t count v
  unfolding decide_by
  decide_same req t count v e = ap (judged_by in_force newer req t count v) e ∙ judged_same req t count v (read_in older req)
