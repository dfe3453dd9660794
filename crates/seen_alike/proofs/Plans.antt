-- Plans, and decisions but for the tables afterwards, are alike over tables of which a request sees the same. A MAR reads the vectors besides.
use Rattle.octets.specs.Standard.{ℕ, Bool, true, false, cond, ◌≡◌, refl, ◌≢◌, List, arith, eqb, eqb-true, eqb-false}
use Rattle.diameter.specs.Avp.{data_of}
use Rattle.diameter.specs.Message.{body_of}
use Rattle.diameter.specs.Put.{All}
use Rattle.reading.specs.Kinds.{row_of, known, use_in, user_name, public_identity, visited_network, authorization_type, number_auth_items}
use Rattle.reading.specs.Rules.{Seen}
use Rattle.reading.specs.declared.Dialect.{Dialect}
use Rattle.requests.specs.Features.{beyond_set}
use Rattle.requests.specs.Judged.{Judged, bad, fine}
use Rattle.requests.specs.Request.{read_in, given, data_seen, value_seen, scheme_of, identities}
use Rattle.requests.proofs.Kept.{read_needed, read_spoken, read_command}
use Rattle.deciding.specs.Plans.{assignment_of, uar_plan, sar_plan, lir_plan, mar_plan, plan_read}
use Rattle.deciding.specs.Rules.{in_force}
use Rattle.deciding.specs.Decide.{Decision, feature_unsupported, performed_by, judged_by, decide_by, decide}
use Rattle.deciding.proofs.Tests.{each}
use Rattle.seen_alike.specs.Shown.{SameSight}
use Rattle.seen_alike.proofs.Decisions.{GivenAlike, PlanAlike, fault_alike, only_alike, authorize_alike, locate_alike, authenticate_alike}
use Rattle.seen_alike.proofs.Assignments.{assign_alike}

-- The identities that a request asks for, once it is read: of a SAR all its Public-Identities, of the others the one; and the User-Name if given.
pub record Asks (dialect : Dialect) (req : List ℕ) (seen : Seen) (Public Private : List ℕ → Type 0) : Type 0 where
  pub one : dialect.command ≢ 301 → Public (data_seen seen public_identity)
  pub all : dialect.command ≡ 301 → All (λ (a : List ℕ). Public (data_of a)) (identities (body_of req))
  pub user : given seen user_name ≡ true → Private (data_seen seen user_name)

-- a UAR and a MAR have a User-Name
module _ (dialect : Dialect) (req : List ℕ) (seen : Seen) (read : read_in dialect req ≡ fine seen) where
  asked_user : dialect.command ≡ 300 → given seen user_name ≡ true
  unfolding row_of known use_in
  asked_user c = read_needed dialect req seen user_name read (omega arith) (rw ((read_spoken dialect req seen read).0, c))

  proved_user : dialect.command ≡ 303 → given seen user_name ≡ true
  unfolding row_of known use_in
  proved_user c = read_needed dialect req seen user_name read (omega arith) (rw ((read_spoken dialect req seen read).0, c))

module _ {file other t u : List ℕ} {count many : ℕ} {Like : ℕ → ℕ → Type 0} {Public Private : List ℕ → Type 0}
    (sight : SameSight file other t u count many Like Public Private) (dialect : Dialect) (req v w : List ℕ) (same : dialect.command ≡ 303 → v ≡ w) where
  -- of the table a SAR's numbers have the header's keep
  pub assignment_same : (seen : Seen) → assignment_of req t seen ≡ assignment_of req u seen
  unfolding assignment_of
  assignment_same seen = rw sight.header.keep

  module _ (seen : Seen) (asks : Asks dialect req seen Public Private) where
    uar_alike : dialect.command ≡ 300 → given seen user_name ≡ true → PlanAlike Like (uar_plan t count seen) (uar_plan u many seen)
    unfolding uar_plan
    uar_alike c n =
        only_alike Like _ _
        (authorize_alike sight (data_seen seen user_name) (data_seen seen public_identity) (data_seen seen visited_network) (value_seen seen authorization_type)
        (asks.one (λ e. omega arith)) (asks.user n))

    sar_alike : dialect.command ≡ 301 → PlanAlike Like (sar_plan req t count seen) (sar_plan req u many seen)
    unfolding sar_plan assignment_of
    sar_alike c = rw (← assignment_same seen) (assign_alike sight (assignment_of req t seen) (asks.all c) asks.user)

    lir_alike : dialect.command ≡ 302 → PlanAlike Like (lir_plan t count seen) (lir_plan u many seen)
    unfolding lir_plan
    lir_alike c = only_alike Like _ _ (locate_alike sight (data_seen seen public_identity) (asks.one (λ e. omega arith)))

    mar_alike : dialect.command ≡ 303 → given seen user_name ≡ true → PlanAlike Like (mar_plan t count v seen) (mar_plan u many w seen)
    unfolding mar_plan
    mar_alike c n =
        rw (← same c)
        (authenticate_alike sight v (data_seen seen user_name) (data_seen seen public_identity) (scheme_of seen) (value_seen seen number_auth_items)
        (asks.one (λ e. omega arith)) (asks.user n))

    pub plan_alike : read_in dialect req ≡ fine seen → PlanAlike Like (plan_read dialect req t count v seen) (plan_read dialect req u many w seen)
    unfolding plan_read
    plan_alike read = go (eqb dialect.command 300) (eqb dialect.command 301) (eqb dialect.command 302) refl refl refl
      where
        n : ℕ
        n = dialect.command

        go : (x y z : Bool) → eqb n 300 ≡ x → eqb n 301 ≡ y → eqb n 302 ≡ z
            → PlanAlike Like (cond x (uar_plan t count seen) (cond y (sar_plan req t count seen) (cond z (lir_plan t count seen) (mar_plan t count v seen))))
            (cond x (uar_plan u many seen) (cond y (sar_plan req u many seen) (cond z (lir_plan u many seen) (mar_plan u many w seen))))
        go true y z a b c = uar_alike (eqb-true n 300 a) (asked_user dialect req seen read (eqb-true n 300 a))
        go false true z a b c = sar_alike (eqb-true n 301 b)
        go false false true a b c = lir_alike (eqb-true n 302 c)
        go false false false a b c =
            let r = read_command dialect req seen read in
            let e : n ≡ 303 = omega (arith, eqb-false n 300 a, eqb-false n 301 b, eqb-false n 302 c, r.0, r.1) in
            mar_alike e (proved_user dialect req seen read e)

  -- the decision
  pub given_alike : ((seen : Seen) → read_in dialect req ≡ fine seen → Asks dialect req seen Public Private)
      → GivenAlike Like (decide dialect req t count v).given (decide dialect req u many w).given
  unfolding decide_by judged_by performed_by
  given_alike asks = go (read_in dialect req) refl
    where
      go : (j : Judged) → read_in dialect req ≡ j
          → GivenAlike Like (judged_by in_force dialect req t count v j).given (judged_by in_force dialect req u many w j).given
      go (bad f) e = fault_alike Like f
      go (fine seen) e =
          each (λ (d b : Decision). GivenAlike Like d.given b.given) (beyond_set dialect.terms req) (fault_alike Like feature_unsupported)
          (plan_alike seen (asks seen e) e).given

-- the place is reading's alone
pub place_same : (t u : List ℕ) (count many : ℕ) (dialect : Dialect) (req v w : List ℕ)
    → (decide dialect req t count v).place ≡ (decide dialect req u many w).place
unfolding decide_by judged_by performed_by
place_same t u count many dialect req v w = go (read_in dialect req)
  where
    go : (j : Judged) → (judged_by in_force dialect req t count v j).place ≡ (judged_by in_force dialect req u many w j).place
    go (bad f) = refl
    go (fine seen) = each (λ (d b : Decision). d.place ≡ b.place) (beyond_set dialect.terms req) refl refl
