-- A Supported-Features by the rules: it is taken or blamed, never passed over; and so a request that was read and of which none was taken has none.
use Rattle.octets.specs.Standard.{ℕ, ◌+◌, ◌<◌, List, Option, Bool, true, false, cond, not, ◌&&◌, ◌||◌, and-false, true≢false, ◌≡◌, refl, sym, ap, ◌∙◌, none}
use Rattle.octets.specs.Standard.{some, arith, length, get_or, set, length-set, length-replicate, get_or-set_same, get_or-set_other, eqb, eqb-true, eqb-false}
use Rattle.octets.proofs.All.{and_left, and_right}
use Rattle.diameter.specs.Avp.{padded, avp_flags, data_of, reserved}
use Rattle.diameter.specs.AvpAt.{present}
use Rattle.diameter.specs.Message.{body_of}
use Rattle.diameter.specs.Walk.{Walk, ended, faulty, avp, walk, some_avp, behind_first}
use Rattle.reading.specs.Features.{is_features, asks_beyond, passes, calls_list}
use Rattle.reading.specs.Groups.{feature_members, members_of, gathers, too_often, group_fault}
use Rattle.reading.specs.Kinds.{kinds, known, kind_of, row_of, use_of, sh, supported_features}
use Rattle.reading.specs.Rules.{Seen, content_fault, of_content, rule_by, rule}
use Rattle.reading.specs.declared.Dialect.{Dialect}
use Rattle.reading.specs.declared.Ruled.{Ruled}
use Rattle.reading.specs.declared.Ruled.TheVariants.{Taken, Skipped, Fault}
use Rattle.reading.specs.declared.Terms.{Terms}
use Rattle.reading.specs.declared.Use.{Use}
use Rattle.reading.specs.declared.Use.TheVariants.{Repeated}
use Rattle.reading.proofs.Columns.{use_any}
use Rattle.requests.specs.Features.{beyond_set, called_in, list_called, wanted_of}
use Rattle.requests.specs.Judged.{fine, nothing, on_rule, judge}
use Rattle.requests.specs.Request.{dialect_of, header_fault, read_in, given}
use Rattle.requests.proofs.Kept.{bad_fine, request_fine, read_spoken}

-- it is named and may come again in every command of Cx, so that (c) and (h) alone decide
module _ (d : Dialect) (a : List ℕ) (k : kind_of a ≡ supported_features) (other : d.terms.application ≡ sh → ⊥) where
  repeated : use_of d a ≡ Repeated
  unfolding row_of known
  repeated = rw k (use_any (λ (u : Use). u ≡ Repeated) d (row_of supported_features) (λ e. absurd (other e)) refl refl refl refl)

  content_is : content_fault d (row_of (kind_of a)).content a ≡ cond (gathers feature_members (walk (data_of a))) 0 5004
  unfolding content_fault group_fault too_often members_of row_of known
  content_is = rw k

  pub rule_is : (seen : Seen) → rule d seen a
      ≡ cond (not (eqb (reserved (avp_flags a)) 0)) (Fault 3009) (cond (gathers feature_members (walk (data_of a))) Taken (Fault 5004))
  unfolding rule rule_by
  rule_is seen =
      ap (λ (n : ℕ). rule_by (use_of d a) (present (get_or seen (kind_of a) none)) (avp_flags a) n) content_is
      ∙ ap (λ (u : Use). rule_by u (present (get_or seen (kind_of a) none)) (avp_flags a) (cond (gathers feature_members (walk (data_of a))) 0 5004)) repeated
      ∙ go (eqb (reserved (avp_flags a)) 0) (gathers feature_members (walk (data_of a)))
    where
      go : (x y : Bool) → cond (not x) (Fault 3009) (of_content (cond y 0 5004)) ≡ cond (not x) (Fault 3009) (cond y Taken (Fault 5004))
      go false y = refl
      go true true = refl
      go true false = refl

  pub passes_taken : passes a ≡ true → (seen : Seen) → rule d seen a ≡ Taken
  unfolding passes
  passes_taken e seen =
      rule_is seen ∙ rw (and_left (eqb (reserved (avp_flags a)) 0) _ e, and_right (eqb (reserved (avp_flags a)) 0) (gathers feature_members (walk (data_of a))) e)

  pub taken_passes : (seen : Seen) → rule d seen a ≡ Taken → passes a ≡ true
  unfolding passes
  taken_passes seen e = go (eqb (reserved (avp_flags a)) 0) (gathers feature_members (walk (data_of a))) (sym (rule_is seen) ∙ e)
    where
      go : (x y : Bool) → cond (not x) (Fault 3009) (cond y Taken (Fault 5004)) ≡ Taken → (x && y) ≡ true
      go true true f = refl
      go true false f = let z : ◌≡◌ {A = ℕ} 0 1 = cc in absurd (omega arith)
      go false y f = let z : ◌≡◌ {A = ℕ} 0 1 = cc in absurd (omega arith)

  never_skipped : (seen : Seen) → rule d seen a ≡ Skipped → ⊥
  never_skipped seen e = go (eqb (reserved (avp_flags a)) 0) (gathers feature_members (walk (data_of a))) (sym (rule_is seen) ∙ e)
    where
      go : (x y : Bool) → cond (not x) (Fault 3009) (cond y Taken (Fault 5004)) ≡ Skipped → ⊥
      go true true f = let z : ◌≡◌ {A = ℕ} 0 1 = cc in omega arith
      go true false f = let z : ◌≡◌ {A = ℕ} 0 1 = cc in omega arith
      go false y f = let z : ◌≡◌ {A = ℕ} 0 1 = cc in omega arith

-- What is taken stays.
module _ (d : Dialect) (other : d.terms.application ≡ sh → ⊥) where
  abbrev Untaken : Seen → Type 0
  Untaken seen = present (get_or seen supported_features none) ≡ false

  taken_other : (seen : Seen) (a : List ℕ) → supported_features < length seen → Untaken (set seen (kind_of a) (some a)) → (is_features a ≡ false) × Untaken seen
  taken_other seen a room u = go (eqb (kind_of a) supported_features) refl
    where
      go : (x : Bool) → eqb (kind_of a) supported_features ≡ x → (is_features a ≡ false) × Untaken seen
      go true e =
          let k : kind_of a ≡ supported_features = eqb-true _ _ e in
          let v = rw (k, get_or-set_same seen supported_features (some a) none room) at u in
          absurd (true≢false v)
      go false e = (e, rw (get_or-set_other seen (kind_of a) supported_features (some a) none (λ z. eqb-false _ _ e (sym z))) at u)

  judge_none : (at : ℕ) (w : Walk) (seen out : Seen) → supported_features < length seen → judge d at w seen ≡ fine out → Untaken out
      → (some_avp is_features w ≡ false) × Untaken seen
  unfolding judge some_avp
  judge_none at ended seen out room e u = let q : seen ≡ out = cc in (refl, rw q u)
  judge_none at (faulty t) seen out room e u = bad_fine _ _ e
  judge_none at (avp a w) seen out room e u = go (rule d seen a) refl e (judge_none (at + padded (length a)) w)
    where
      skips : rule d seen a ≡ Skipped → is_features a ≡ false
      skips r = by (eqb (kind_of a) supported_features) refl
        where
          by : (x : Bool) → eqb (kind_of a) supported_features ≡ x → x ≡ false
          by true k = absurd (never_skipped d a (eqb-true _ _ k) other seen r)
          by false k = refl

      go : (x : Ruled) → rule d seen a ≡ x → on_rule x seen a at (judge d (at + padded (length a)) w) ≡ fine out
          → ((σ τ : Seen) → supported_features < length σ → judge d (at + padded (length a)) w σ ≡ fine τ → Untaken τ
          → (some_avp is_features w ≡ false) × Untaken σ)
          → (some_avp is_features (avp a w) ≡ false) × Untaken seen
      go Taken r f next =
          let n = next (set seen (kind_of a) (some a)) out (rw length-set room) f u in
          let o = taken_other seen a room n.1 in
          (rw (o.0, n.0), o.1)
      go Skipped r f next = let n = next seen out room f u in (rw (skips r, n.0), n.1)
      go (Fault n) r f next = bad_fine _ _ f

pub none_taken : (d : Dialect) (req : List ℕ) (seen : Seen) → read_in d req ≡ fine seen → given seen supported_features ≡ false
    → some_avp is_features (body_of req) ≡ false
unfolding nothing
none_taken d req seen e u =
    (judge_none d (λ s. omega (arith, s, (read_spoken d req seen e).0)) 20 (body_of req) nothing seen
    (rw (length-replicate {A = Option (List ℕ)} kinds none) (omega arith)) (request_fine d req seen e).0 u).0

-- where no AVP passes a test, none passes a test that asks more, nor behind the first
some_less : (p q : List ℕ → Bool) → ((a : List ℕ) → p a ≡ false → q a ≡ false) → (w : Walk) → some_avp p w ≡ false → some_avp q w ≡ false
unfolding some_avp
some_less p q h ended e = refl
some_less p q h (faulty t) e = refl
some_less p q h (avp a w) e = go (p a) refl e (some_less p q h w)
  where
    go : (x : Bool) → p a ≡ x → (x || some_avp p w) ≡ false → (some_avp p w ≡ false → some_avp q w ≡ false) → (q a || some_avp q w) ≡ false
    go true f g next = absurd (true≢false g)
    go false f g next = rw (h a f, next g)

some_behind : (p : List ℕ → Bool) (w : Walk) → some_avp p w ≡ false → some_avp p (behind_first w) ≡ false
unfolding some_avp
some_behind p ended e = refl
some_behind p (faulty t) e = refl
some_behind p (avp a w) e = go (p a) e
  where
    go : (x : Bool) → (x || some_avp p w) ≡ false → some_avp p w ≡ false
    go true f = absurd (true≢false f)
    go false f = f

module _ (req : List ℕ) (free : some_avp is_features (body_of req) ≡ false) where
  pub none_beyond : (terms : Terms) → beyond_set terms req ≡ false
  unfolding beyond_set asks_beyond
  none_beyond terms = some_less is_features (asks_beyond terms.features) (λ a e. rw e) (body_of req) free

  pub none_called : called_in (body_of req) ≡ false
  unfolding calls_list
  none_called = some_behind calls_list (body_of req) (some_less is_features calls_list (λ a e. rw e) (body_of req) free)

-- what such a request wants
pub wanted_none : (d : Dialect) (req : List ℕ) (seen : Seen) (x : Bool) → read_in d req ≡ fine seen → x ≡ given seen supported_features → x ≡ false
    → record { listed = false; beyond = false } ≡ wanted_of d.terms req
unfolding list_called
wanted_none d req seen x e ex f =
    let free = none_taken d req seen e (sym ex ∙ f) in
    rw (none_beyond req free d.terms, none_called req free, and-false (eqb (header_fault (dialect_of d.terms req) req) 0))
