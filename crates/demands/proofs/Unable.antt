-- B5012: no UAR and no LIR comes to it, under the rules in force or, over a sound table, under those that had the branch; so it is a SAR's or a MAR's. B5003 is
-- a UAR's.
use Rattle.std.specs.Prelude.{Ok}
use Rattle.octets.specs.Standard.{ℕ, List, Bool, true, false, cond, true≢false, ◌≡◌, refl, sym, ap, ◌∙◌, ◌⊎◌, inl, inr, ◌≢◌, arith, eqb, eqb-true}
use Rattle.octets.specs.Standard.{eqb-false}
use Rattle.blocks.specs.Changed.{is_one}
use Rattle.diameter.specs.Message.{command_of}
use Rattle.reading.specs.Rules.{Seen}
use Rattle.reading.specs.declared.Outcome.TheVariants.{Base}
use Rattle.requests.specs.Judged.{fine}
use Rattle.requests.specs.Request.{read_in}
use Rattle.choices.specs.declared.plan.Plan.{Plan}
use Rattle.questions.specs.Authorization.{authorize_found, authorize}
use Rattle.questions.specs.Location.{locate_found, locate}
use Rattle.deciding.specs.Plans.{uar_plan, sar_plan, lir_plan, mar_plan, plan_read}
use Rattle.deciding.specs.Decide.{Decision, performed_by, judged_by, decide_by, decide}
use Rattle.requests.proofs.Kept.{read_command}
use Rattle.reading.specs.declared.Dialect.{Dialect}
use Rattle.calling.specs.Lent.{Lent, dialect_in}
use Rattle.calling.specs.Serve.{check_of, decision_by}
use Rattle.older_rules.specs.WithBranch.{with_branch}
use Rattle.older_rules.proofs.Unreachable.{decided_alike}
use Rattle.demands.proofs.Results.{Upon, decided_upon, is_base, carried_without, authorization_without, location_without, location_free}
use Rattle.demands.proofs.UnableMar.{mar_free}
use Rattle.demands.proofs.UnableSar.{sar_free}

-- a UAR's and a LIR's plan
module _ (t : List ℕ) (count : ℕ) (seen : Seen) where
  uar_without : is_base 5012 (uar_plan t count seen).given.verdict.result ≡ false
  unfolding uar_plan authorize authorize_found
  uar_without = carried_without 5012 t count _ _ _ (authorization_without _ _)

  lir_without : is_base 5012 (lir_plan t count seen).given.verdict.result ≡ false
  unfolding lir_plan locate locate_found
  lir_without = carried_without 5012 t count _ _ _ (location_without _)

  lir_free : is_base 5003 (lir_plan t count seen).given.verdict.result ≡ false
  unfolding lir_plan locate locate_found
  lir_free = carried_without 5003 t count _ _ _ (location_free _)

-- what a request comes to with B5012: it was read, and it is a SAR or a MAR
module _ (d : Dialect) (req t : List ℕ) (count : ℕ) (v : List ℕ) where
  abbrev Comes : Type 0
  Comes = (decide d req t count v).given.verdict.result ≡ Base 5012

  without : {A : Type 0} (p : Plan) → is_base 5012 p.given.verdict.result ≡ false → p.given.verdict.result ≡ Base 5012 → A
  without p n e = absurd (true≢false (sym (ap (is_base 5012) e) ∙ n))

  pub unable_whose : Comes → (d.command ≡ 301) ⊎ (d.command ≡ 303)
  unfolding decide_by judged_by performed_by plan_read is_one
  unable_whose e = go upon.seen upon.decides.read (rw (upon.decides.read, upon.decides.inside) at e)
    where
      upon : Upon d req
      upon = decided_upon d req t count v 5012 refl e

      go : (seen : Seen) → read_in d req ≡ fine seen → (plan_read d req t count v seen).given.verdict.result ≡ Base 5012
          → (d.command ≡ 301) ⊎ (d.command ≡ 303)
      go seen r e = by (eqb d.command 300) (eqb d.command 301) (eqb d.command 302) refl refl refl e
        where
          by : (x y z : Bool) → eqb d.command 300 ≡ x → eqb d.command 301 ≡ y → eqb d.command 302 ≡ z
              → (cond x (uar_plan t count seen) (cond y (sar_plan req t count seen) (cond z (lir_plan t count seen) (mar_plan t count v seen)))
              ).given.verdict.result ≡ Base 5012
              → (d.command ≡ 301) ⊎ (d.command ≡ 303)
          by true y z a b c e = without (uar_plan t count seen) (uar_without t count seen) e
          by false true z a b c e = inl (eqb-true _ _ b)
          by false false true a b c e = without (lir_plan t count seen) (lir_without t count seen) e
          by false false false a b c e = let n = read_command d req seen r in inr
              (omega (arith, eqb-false d.command 300 a, eqb-false d.command 301 b, eqb-false d.command 302 c, n.0, n.1))

  pub unable_never : (d.command ≡ 300) ⊎ (d.command ≡ 302) → Comes → ⊥
  unable_never c e = go c (unable_whose e)
    where
      go : (d.command ≡ 300) ⊎ (d.command ≡ 302) → (d.command ≡ 301) ⊎ (d.command ≡ 303) → ⊥
      go (inl a) (inl b) = omega arith
      go (inl a) (inr b) = omega arith
      go (inr a) (inl b) = omega arith
      go (inr a) (inr b) = omega arith

  -- B5003, likewise
  pub barred_whose : (decide d req t count v).given.verdict.result ≡ Base 5003 → d.command ≡ 300
  unfolding decide_by judged_by performed_by plan_read is_one
  barred_whose e = go upon.seen (rw (upon.decides.read, upon.decides.inside) at e)
    where
      upon : Upon d req
      upon = decided_upon d req t count v 5003 refl e

      free : {A : Type 0} (p : Plan) → is_base 5003 p.given.verdict.result ≡ false → p.given.verdict.result ≡ Base 5003 → A
      free p n e = absurd (true≢false (sym (ap (is_base 5003) e) ∙ n))

      go : (seen : Seen) → (plan_read d req t count v seen).given.verdict.result ≡ Base 5003 → d.command ≡ 300
      go seen e = by (eqb d.command 300) (eqb d.command 301) (eqb d.command 302) refl e
        where
          by : (x y z : Bool) → eqb d.command 300 ≡ x
              → (cond x (uar_plan t count seen) (cond y (sar_plan req t count seen) (cond z (lir_plan t count seen) (mar_plan t count v seen)))
              ).given.verdict.result ≡ Base 5003
              → d.command ≡ 300
          by true y z a e = eqb-true _ _ a
          by false true z a e = free (sar_plan req t count seen) (sar_free req t count seen) e
          by false false true a e = free (lir_plan t count seen) (lir_free t count seen) e
          by false false false a e = free (mar_plan t count v seen) (mar_free t count v seen) e

-- with the branch, over a sound table
pub branch_never : (x : Lent) (count : ℕ) → check_of x ≡ Ok count → (command_of x.request ≡ 300) ⊎ (command_of x.request ≡ 302)
    → (decision_by with_branch x count).given.verdict.result ≢ Base 5012
branch_never x count sound c e =
    unable_never (dialect_in x) x.request x.table count x.vectors c
    (ap (λ (d : Decision). d.given.verdict.result) (sym (decided_alike x count sound)) ∙ e)
