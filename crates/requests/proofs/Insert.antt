-- Demand 3 over walks: an unknown kind without M is passed over; one with M is B5001, unless an AVP in front of it is at fault.
use Rattle.octets.specs.Standard.{ℕ, ◌+◌, ◌≡◌, refl, sym, ap, ◌∙◌, fun_ext, List, [], ◌∷◌, Bool, true, false, true≢false, length, eqb, eqb-true}
use Rattle.diameter.specs.Avp.{padded, avp_flags, reserved, marked}
use Rattle.diameter.specs.Walk.{Walk, ended, avp}
use Rattle.diameter.specs.Put.{glue}
use Rattle.reading.specs.declared.Dialect.{Dialect}
use Rattle.reading.specs.declared.Kind.{Kind}
use Rattle.reading.specs.declared.Ruled.{Ruled}
use Rattle.reading.specs.declared.Ruled.TheVariants.{Taken, Skipped, Fault}
use Rattle.reading.specs.declared.Use.{Use}
use Rattle.reading.specs.declared.Use.TheVariants.{Unknown}
use Rattle.reading.specs.Kinds.{known, kind_of, row_of, use_in, use_of, is_unknown, sh, public_identity, proxy_info, supported_features}
use Rattle.reading.specs.Rules.{rule_by, rule, Seen}
use Rattle.reading.specs.Verdicts.{fault_at}
use Rattle.reading.proofs.Columns.{use_any}
use Rattle.requests.specs.Judged.{Judged, bad, fine, on_rule, judge}

-- an AVP of a kind that the dialect does not know is none of a kind that it knows
pub stranger_kind : (dialect : Dialect) (u : List ℕ) (k : ℕ) → use_of dialect u ≡ Unknown → is_unknown (use_in dialect (row_of k)) ≡ false
    → eqb (kind_of u) k ≡ false
stranger_kind dialect u k e f = go (eqb (kind_of u) k) refl
  where
    go : (x : Bool) → eqb (kind_of u) k ≡ x → eqb (kind_of u) k ≡ false
    go true d = absurd (true≢false (sym (ap is_unknown e) ∙ rw (eqb-true (kind_of u) k d) f))
    go false d = d

-- Proxy-Info and Supported-Features are known on every application, Public-Identity on all but Sh
known_in : (dialect : Dialect) (k : Kind) → is_unknown k.uses.uar ≡ false → is_unknown k.uses.sar ≡ false → is_unknown k.uses.lir ≡ false
    → is_unknown k.uses.mar ≡ false → (dialect.terms.application ≡ sh → is_unknown k.uses.udr ≡ false) → is_unknown (use_in dialect k) ≡ false
known_in dialect k uar sar lir mar udr = use_any (λ (u : Use). is_unknown u ≡ false) dialect k udr uar sar lir mar

pub identity_known : (dialect : Dialect) → (dialect.terms.application ≡ sh → ⊥) → is_unknown (use_in dialect (row_of public_identity)) ≡ false
unfolding row_of known
identity_known dialect other = known_in dialect (row_of public_identity) refl refl refl refl (λ e. absurd (other e))

pub proxy_known : (dialect : Dialect) → is_unknown (use_in dialect (row_of proxy_info)) ≡ false
unfolding row_of known
proxy_known dialect = known_in dialect (row_of proxy_info) refl refl refl refl (λ e. refl)

pub features_known : (dialect : Dialect) → is_unknown (use_in dialect (row_of supported_features)) ≡ false
unfolding row_of known
features_known dialect = known_in dialect (row_of supported_features) refl refl refl refl (λ e. refl)

-- an AVP of a kind that the dialect does not know, without a reserved flag
module _ (dialect : Dialect) (at : ℕ) (u : List ℕ) (w : Walk) (seen : Seen) (plain : reserved (avp_flags u) ≡ 0) (stranger : use_of dialect u ≡ Unknown) where
  pub judge_unmarked : marked (avp_flags u) ≡ false → judge dialect at (avp u w) seen ≡ judge dialect (at + padded (length u)) w seen
  unfolding judge rule rule_by
  judge_unmarked m = rw (plain, stranger, m)

  pub judge_marked : marked (avp_flags u) ≡ true → judge dialect at (avp u w) seen ≡ bad (fault_at 5001 at)
  unfolding judge rule rule_by
  judge_marked m = rw (plain, stranger, m)

-- a row of AVPs is judged, and then what is behind it, if the row has no fault
unfoldable pub and_then : Judged → (Seen → Judged) → Judged
and_then (bad v) next = bad v
and_then (fine seen) next = next seen

rule_then : (x : Ruled) (seen : Seen) (a : List ℕ) (at : ℕ) (k l : Seen → Judged) → on_rule x seen a at (λ τ. and_then (k τ) l) ≡ and_then (on_rule x seen a at k) l
unfolding and_then
rule_then Taken seen a at k l = refl
rule_then Skipped seen a at k l = refl
rule_then (Fault n) seen a at k l = refl

-- the place behind a row of AVPs
unfoldable pub past : ℕ → List (List ℕ) → ℕ
past at [] = at
past at (a ∷ avs) = past (at + padded (length a)) avs

pub judge_glue : (dialect : Dialect) (at : ℕ) (avs : List (List ℕ)) (w : Walk) (seen : Seen)
    → judge dialect at (glue avs w) seen ≡ and_then (judge dialect at (glue avs ended) seen) (judge dialect (past at avs) w)
unfolding judge glue and_then past
judge_glue dialect at [] w seen = refl
judge_glue dialect at (a ∷ avs) w seen =
    let n = at + padded (length a) in
    ap (on_rule (rule dialect seen a) seen a at) (fun_ext (λ τ. judge_glue dialect n avs w τ))
    ∙ rule_then (rule dialect seen a) seen a at (judge dialect n (glue avs ended)) (judge dialect (past n avs) w)
