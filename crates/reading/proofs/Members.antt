-- The members of a group: one AVP beside the table, and the turns of the loops over the AVPs.
use Rattle.std.specs.Prelude.{Result, Ok, Err, is_ok}
use Rattle.octets.specs.Standard.{inl, inr, ◌⊎◌, refl}
use Rattle.octets.specs.Standard.{ℕ, ◌+◌, ◌%◌, ◌≤◌, ◌<◌, zero-add, add-zero, arith, ◌≡◌, sym, ap, ◌∙◌, List, Bool, true, false, not, ◌&&◌, and_assoc}
use Rattle.octets.specs.Standard.{length, get_or, get_or-eq_default, eqb, leb, ltb, lt-leb, le-leb}
use Rattle.octets.specs.All.{all_below}
use Rattle.diameter.specs.Avp.{avp_code, vendor_of}
use Rattle.diameter.specs.Reader.{between, read_of, own_of, Here, Spans}
use Rattle.diameter.specs.Walk.{Walk, walk}
use Rattle.diameter.specs.declared.Avp.{Avp}
use Rattle.diameter.specs.declared.Span.{Span}
use Rattle.diameter.proofs.Reading.{own_flags, read_later}
use Rattle.diameter.proofs.Parts.{member_walked, member_fault, member_past}
use Rattle.reading.specs.declared.Content.TheVariants.{Free, Number}
use Rattle.reading.specs.declared.Dialect.{Dialect}
use Rattle.reading.specs.declared.Member.{Member}
use Rattle.reading.specs.declared.group.Group.{Group}
use Rattle.reading.specs.declared.group.Group.TheVariants.{Application, AuthDataItem, SupportedFeatures, UserIdentity}
use Rattle.reading.specs.Contents.{plain_fault}
use Rattle.reading.specs.Verdicts.{Faulted}
use Rattle.reading.proofs.Below.{all_fails, all_on}
use Rattle.reading.proofs.Judging.{faulted, faulted_not}
use Rattle.reading.specs.Groups.{member, nobody, any_number, vendor_id, application_members, sole_member, item_members, identity_members, feature_members}
use Rattle.reading.specs.Groups.{members_of}
use Rattle.reading.specs.Groups.{is_of, fits, unlike, is_other, only_of}
use Rattle.reading.specs.Groups.{members_fitting, enough, enough_at, gathers, rfc6733, too_often, group_fault}

-- the table by the group
module _ (d : Dialect) (g : Group) where
  pub size_application : g ≡ Application → 2 ≡ length (members_of d g)
  unfolding members_of application_members
  size_application e = rw e

  pub size_sole : (g ≡ AuthDataItem) ⊎ (g ≡ UserIdentity) → 1 ≡ length (members_of d g)
  unfolding members_of item_members identity_members
  size_sole (inl e) = rw e
  size_sole (inr e) = rw e

  pub size_feature : g ≡ SupportedFeatures → 3 ≡ length (members_of d g)
  unfolding members_of feature_members
  size_feature e = rw e

  -- a number below the group's size is one below that of its table
  pub low_application : (k : ℕ) → g ≡ Application → k < length (members_of d g) → k < 2
  low_application k e h = omega (arith, size_application e)

  pub low_feature : (k : ℕ) → g ≡ SupportedFeatures → k < length (members_of d g) → k < 3
  low_feature k e h = omega (arith, size_feature e)

  module _ (k : ℕ) (r : Member) where
    pub member_application : g ≡ Application → r ≡ get_or (application_members d.terms.application) k nobody → r ≡ get_or (members_of d g) k nobody
    unfolding members_of
    member_application e m = m ∙ rw e

    pub member_item : g ≡ AuthDataItem → k < length (members_of d g) → r ≡ get_or (sole_member 608) 0 nobody → r ≡ get_or (members_of d g) k nobody
    unfolding members_of item_members
    member_item e h m = let z : k ≡ 0 = omega (arith, size_sole (inl e)) in m ∙ rw (e, z)

    pub member_identity : g ≡ UserIdentity → k < length (members_of d g) → r ≡ get_or (sole_member 601) 0 nobody → r ≡ get_or (members_of d g) k nobody
    unfolding members_of identity_members
    member_identity e h m = let z : k ≡ 0 = omega (arith, size_sole (inr e)) in m ∙ rw (e, z)

    pub member_feature : g ≡ SupportedFeatures → r ≡ get_or feature_members k nobody → r ≡ get_or (members_of d g) k nobody
    unfolding members_of
    member_feature e m = m ∙ rw e

-- 260's
module _ (application k : ℕ) {r : Member} where
  pub first_member : k ≡ 0 → r ≡ vendor_id → r ≡ get_or (application_members application) k nobody
  unfolding application_members
  first_member e m = m ∙ rw e

  pub second_member : k < 2 → (k ≡ 0 → ⊥) → r ≡ member 258 0 (Number application application) false → r ≡ get_or (application_members application) k nobody
  unfolding application_members
  second_member h f m = let e : k ≡ 1 = omega arith in m ∙ rw e

  pub no_member : (k ≡ 0 → ⊥) → (k ≡ 1 → ⊥) → r ≡ nobody → r ≡ get_or (application_members application) k nobody
  unfolding application_members
  no_member e f m = let past : 2 ≤ k = omega arith in m ∙ sym (get_or-eq_default (application_members application) nobody past)

-- 612's and 700's
module _ (code k : ℕ) {r : Member} where
  pub only_member : k ≡ 0 → r ≡ member code 10415 Free false → r ≡ get_or (sole_member code) k nobody
  only_member e m = m ∙ rw e

  pub no_second : (k ≡ 0 → ⊥) → r ≡ nobody → r ≡ get_or (sole_member code) k nobody
  no_second e m = let past : 1 ≤ k = omega arith in m ∙ sym (get_or-eq_default (sole_member code) nobody past)

-- 628's
module _ (k : ℕ) {r : Member} where
  pub vendor_member : k ≡ 0 → r ≡ member 266 0 any_number false → r ≡ get_or feature_members k nobody
  unfolding feature_members
  vendor_member e m = m ∙ rw e

  pub list_member : k ≡ 1 → r ≡ member 629 10415 any_number false → r ≡ get_or feature_members k nobody
  unfolding feature_members
  list_member e m = m ∙ rw e

  pub bits_member : k < 3 → (k ≡ 0 → ⊥) → (k ≡ 1 → ⊥) → r ≡ member 630 10415 any_number false → r ≡ get_or feature_members k nobody
  unfolding feature_members
  bits_member h f g m = let e : k ≡ 2 = omega arith in m ∙ rw e

  pub no_fourth : (k ≡ 0 → ⊥) → (k ≡ 1 → ⊥) → (k ≡ 2 → ⊥) → r ≡ nobody → r ≡ get_or feature_members k nobody
  unfolding feature_members
  no_fourth e f g m = let past : 3 ≤ k = omega arith in m ∙ sym (get_or-eq_default feature_members nobody past)

not_true : (x : Bool) → not x ≡ true → x ≡ false
not_true true e = sym e
not_true false e = refl

not_false : (x : Bool) → not x ≡ false → x ≡ true
not_false true e = refl
not_false false e = sym e

-- the loops over the table
module _ (ms : List Member) (k n : ℕ) (en : n ≡ length ms) where
  module _ (low : k < n) (m : Member) (em : m ≡ get_or ms k nobody) where
    module _ (b : List ℕ) (x : Bool) (ex : x ≡ fits m b) where
      pub other_not : x ≡ true → false ≡ is_other ms b
      unfolding unlike
      other_not t = all_fails (unlike ms b) (length ms) k (omega arith) (rw (← em, ← ex, t))

      pub other_more : true ≡ all_below (unlike ms b) k → x ≡ false → true ≡ all_below (unlike ms b) (k + 1)
      unfolding unlike
      other_more e f = all_on (unlike ms b) k e (rw (← em, ← ex, f))

    module _ (s : List ℕ) (p : Span) (x : Bool) (ex : x ≡ enough m (walk (between s p.from p.end))) where
      pub gathers_not : (t : List ℕ) → Spans s t p → not x ≡ true → false ≡ gathers ms (walk t)
      unfolding gathers enough_at
      gathers_not t i f =
          let z : x ≡ false = not_true x f in
          let short : false ≡ all_below (enough_at ms (walk t)) (length ms) =
          all_fails (enough_at ms (walk t)) (length ms) k (omega arith) (rw (← em, ← i.holds, ← ex, z)) in
          rw (← short)

      pub all_enough : true ≡ all_below (enough_at ms (walk (between s p.from p.end))) k → not x ≡ false
          → true ≡ all_below (enough_at ms (walk (between s p.from p.end))) (k + 1)
      unfolding enough_at
      all_enough e f = let z : x ≡ true = not_false x f in all_on (enough_at ms (walk (between s p.from p.end))) k e (rw (← em, ← ex, z))

  module _ (most : n ≤ k) (least : k ≤ n) where
    pub other_end : (b : List ℕ) → true ≡ all_below (unlike ms b) k → true ≡ is_other ms b
    other_end b e = let f : k ≡ length ms = omega arith in rw f at e

    pub gathers_end : (s t : List ℕ) (p : Span) {x : Bool} → Spans s t p → true ≡ all_below (enough_at ms (walk (between s p.from p.end))) k
        → x ≡ only_of ms (walk (between s p.from p.end)) → x ≡ gathers ms (walk t)
    unfolding gathers
    gathers_end s t p i e ex = let f : k ≡ length ms = omega arith in ex ∙ rw (← i.holds, ← f, ← e)

-- an AVP of a code and vendor, without V and with it
module _ (s : List ℕ) (a : Avp) (h : Here s a) (code vendor c : ℕ) (ec : c ≡ avp_code (own_of s a)) where
  pub of_base : a.flags < 128 → (eqb c code && eqb vendor 0) ≡ is_of code vendor (own_of s a)
  unfolding is_of
  of_base l = rw (own_flags s a h, lt-leb _ _ l, ← ec)

  pub of_vendor : (v : ℕ) → 128 ≤ a.flags → v ≡ vendor_of (own_of s a) → (eqb c code && ltb 0 vendor && eqb v vendor) ≡ is_of code vendor (own_of s a)
  unfolding is_of
  of_vendor v l ev = rw (own_flags s a h, le-leb _ _ l, ← ec, ← ev) (and_assoc (eqb c code) (ltb 0 vendor) (eqb v vendor))

pub fits_there : (s : List ℕ) (a : Avp) → Here s a → (m : Member) (x y : Bool) (r : Result (Unit {0}) ℕ) → x ≡ is_of m.code m.vendor (own_of s a)
    → Faulted r (plain_fault m.content (own_of s a)) → y ≡ is_ok r
    → (eqb (a.flags % 32) 0 && x && y) ≡ fits m (own_of s a)
unfolding fits
fits_there s a h m x y r ex f ey = rw (own_flags s a h, ex, ey, faulted_not r (plain_fault m.content (own_of s a)) f)

-- the AVPs from a place on up to the group's end are looked at as the whole group is
module _ (s : List ℕ) (at end : ℕ) (r : Result Avp ℕ) (e : r ≡ read_of at (between s at end)) where
  module _ (ms : List Member) (whole : Bool) (left : only_of ms (walk (between s at end)) ≡ whole) where
    pub only_cut : {p : ℕ} → at < end → end ≤ length s → r ≡ Err p → false ≡ whole
    unfolding only_of
    only_cut h fits d = rw (member_fault s at end r e d h fits) at left

    module _ (a : Avp) (d : r ≡ Ok a) (x : Bool) (ex : x ≡ is_other ms (own_of s a)) where
      pub only_other : x ≡ true → false ≡ whole
      unfolding only_of
      only_other t = rw (member_walked s at end r e a d, ← ex, t) at left

      pub only_more : x ≡ false → only_of ms (walk (between s a.next end)) ≡ whole
      unfolding only_of
      only_more t = rw (member_walked s at end r e a d, ← ex, t) at left

  module _ (m : Member) (n whole : ℕ) (left : n + members_fitting m (walk (between s at end)) ≡ whole) where
    pub count_cut : {p : ℕ} → at < end → end ≤ length s → r ≡ Err p → n ≡ whole
    unfolding members_fitting
    count_cut h fits d = rw (member_fault s at end r e d h fits, add-zero) at left

    module _ (a : Avp) (d : r ≡ Ok a) (x : Bool) (ex : x ≡ fits m (own_of s a)) where
      pub count_one : x ≡ true → n + 1 + members_fitting m (walk (between s a.next end)) ≡ whole
      unfolding members_fitting
      count_one t = omega (arith, rw (member_walked s at end r e a d, ← ex, t) at left)

      pub count_other : x ≡ false → n + members_fitting m (walk (between s a.next end)) ≡ whole
      unfolding members_fitting
      count_other t = rw (member_walked s at end r e a d, ← ex, t) at left

pub only_end : (s : List ℕ) (at end : ℕ) (ms : List Member) (whole : Bool) → only_of ms (walk (between s at end)) ≡ whole → end ≤ at → true ≡ whole
unfolding only_of
only_end s at end ms whole left h = rw (member_past s at end h) at left

pub count_end : (s : List ℕ) (at end : ℕ) (m : Member) (n whole : ℕ) → n + members_fitting m (walk (between s at end)) ≡ whole → end ≤ at → n ≡ whole
unfolding members_fitting
count_end s at end m n whole left h = rw (member_past s at end h, add-zero) at left

pub count_room : (at : ℕ) (t : List ℕ) (r : Result Avp ℕ) → r ≡ read_of at t → (a : Avp) → r ≡ Ok a → (n : ℕ) → n ≤ at → n + 1 ≤ a.next
count_room at t r e a d n h = omega (arith, read_later at t r e a d)

pub count_start : (s : List ℕ) (from end : ℕ) (m : Member) → 0 + members_fitting m (walk (between s from end)) ≡ members_fitting m (walk (between s from end))
count_start s from end m = zero-add (members_fitting m (walk (between s from end)))

-- "one", or "one or more"
module _ (m : Member) (w : Walk) (n : ℕ) (en : n ≡ members_fitting m w) where
  pub enough_many : m.many ≡ true → leb 1 n ≡ enough m w
  unfolding enough
  enough_many t = ap (λ (k : ℕ). leb 1 k) en ∙ rw t

  pub enough_one : m.many ≡ false → eqb n 1 ≡ enough m w
  unfolding enough
  enough_one t = ap (λ (k : ℕ). eqb k 1) en ∙ rw t

-- too often for the peer's edition, and the fault of a group
module _ (d : Dialect) (g : Group) where
  pub often_application : (s t : List ℕ) (p : Span) (m : Member) (n : ℕ) → Spans s t p → g ≡ Application → m ≡ vendor_id
      → n ≡ members_fitting m (walk (between s p.from p.end)) → (eqb d.terms.peer rfc6733 && ltb 1 n) ≡ too_often d g (walk t)
  unfolding too_often
  often_application s t p m n i e em en = rw (en, em, e, i.holds)

  pub often_other : (w : Walk) → (g ≡ AuthDataItem) ⊎ ((g ≡ SupportedFeatures) ⊎ (g ≡ UserIdentity)) → false ≡ too_often d g w
  unfolding too_often
  often_other w (inl e) = rw e
  often_other w (inr (inl e)) = rw e
  often_other w (inr (inr e)) = rw e

  module _ (w : Walk) (x : Bool) (ex : x ≡ gathers (members_of d g) w) where
    pub group_bad : not x ≡ true → Faulted (Err 5004) (group_fault d g w)
    unfolding group_fault
    group_bad e = let z : x ≡ false = not_true x e in faulted 5004 (group_fault d g w) (omega arith) (rw (← ex, z))

    pub group_often : (y : Bool) → not x ≡ false → y ≡ too_often d g w → y ≡ true → Faulted (Err 5009) (group_fault d g w)
    unfolding group_fault
    group_often y e ey f = let z : x ≡ true = not_false x e in faulted 5009 (group_fault d g w) (omega arith) (rw (← ex, z, ← ey, f))

    pub group_good : (y : Bool) → not x ≡ false → y ≡ too_often d g w → y ≡ false → group_fault d g w ≡ 0
    unfolding group_fault
    group_good y e ey f = let z : x ≡ true = not_false x e in rw (← ex, z, ← ey, f)
