-- What is written and what is left, by what reading the request found.
use Rattle.std.specs.Prelude.{Err}
use Rattle.octets.specs.Standard.{ℕ, ◌≤◌, List, true, false, ◌≡◌, refl, sym, ap, ◌∙◌, inl, arith, length, ne_eqb}
use Rattle.octets.specs.Run.{Wrote}
use Rattle.table.specs.SoundTable.{SoundTable}
use Rattle.vectors.specs.Sendable.{Sendable}
use Rattle.vectors.specs.VectorFile.{SoundVectors}
use Rattle.vectors.proofs.Sendable.{none_sendable}
use Rattle.rewrite.specs.Change.{altered_up_to}
use Rattle.rewrite.proofs.Counts.{altered_none}
use Rattle.reading.specs.Rules.{Seen}
use Rattle.requests.specs.Features.{beyond_set, wanted_of}
use Rattle.requests.specs.Judged.{fine}
use Rattle.requests.specs.Request.{read_in}
use Rattle.requests.specs.Found.{judged_of, Walked}
use Rattle.requests.specs.declared.features.Wanted.{Wanted}
use Rattle.requests.proofs.Faulting.{read_placed}
use Rattle.requests.proofs.Requests.{judged_bad}
use Rattle.reading.specs.declared.Dialect.{Dialect}
use Rattle.reading.specs.declared.Terms.{Terms}
use Rattle.reading.specs.declared.Verdict.{Verdict}
use Rattle.choices.specs.Given.{given_fault}
use Rattle.choices.specs.declared.Given.{Given}
use Rattle.choices.specs.declared.plan.Plan.{Plan}
use Rattle.answering.specs.Answer.{answer_bytes}
use Rattle.deciding.specs.Plans.{uar_plan, sar_plan, lir_plan, mar_plan, plan_read}
use Rattle.deciding.specs.Decide.{faulted, feature_unsupported, performed_by, judged_by, decide_by, decide}
use Rattle.deciding.specs.Deeds.{carried_out, spent_by}
use Rattle.deciding.proofs.Deeds.{plan_fits, plan_light, plan_sendable}
use Rattle.deciding.proofs.Room.{given_most}
use Rattle.refusals.specs.Passed.{Passed}
use Rattle.deciding.specs.Answers.{Planned, Tells}

-- Where a decision is a fault: what reading found, or a feature that is not supported.
module _ (dialect : Dialect) (req t : List ℕ) (count : ℕ) (v : List ℕ) where
  pub fault_decided : (places : List ℕ) (w : Walked) (f : Verdict) → judged_of req places w ≡ read_in dialect req → w ≡ Err f
      → decide dialect req t count v ≡ faulted t v f
  unfolding decide_by judged_by
  fault_decided places w f e is = rw (judged_bad req places w (read_in dialect req) e f is)

  pub beyond_decided : (wanted : Wanted) (seen : Seen) → wanted ≡ wanted_of dialect.terms req → read_in dialect req ≡ fine seen
      → wanted.beyond ≡ true → decide dialect req t count v ≡ faulted t v feature_unsupported
  unfolding decide_by judged_by
  beyond_decided wanted seen e is b = rw is (rw (sym (ap (λ (x : Wanted). x.beyond) e) ∙ b))

-- nothing is asked for beyond the set
pub beyond_none : (terms : Terms) (req : List ℕ) (wanted : Wanted) → wanted ≡ wanted_of terms req → wanted.beyond ≡ false → beyond_set terms req ≡ false
beyond_none terms req wanted e b = sym (ap (λ (x : Wanted). x.beyond) e) ∙ b

-- A fault: its verdict is given, and table and vectors stay.
module _ (dialect : Dialect) (req t : List ℕ) (count : ℕ) (v : List ℕ) (f : Verdict) (is : decide dialect req t count v ≡ faulted t v f) where
  fault_given : (g : Given) → g ≡ given_fault f → g ≡ (decide dialect req t count v).given
  fault_given g e = e ∙ rw is

  pub fault_tells : (file before after : List ℕ) (g : Given) (n : ℕ) → g ≡ given_fault f → Wrote (answer_bytes dialect.terms req t file v g) before after n
      → Tells dialect req t count file v before after (record { length = n; place = f.place; command = dialect.command; result = f.result; altered = 0 })
  fault_tells file before after g n e w =
      record {
        answers = rw (fault_given g e) at w;
        place_is = rw is;
        command_is = refl;
        result_is = rw is;
        altered_is = rw is (sym (altered_none t count));
      }

  pub fault_table : t ≡ (decide dialect req t count v).table
  fault_table = rw is

  pub fault_vectors : v ≡ (decide dialect req t count v).vectors
  fault_vectors = rw is

-- its place lies in the request
pub fault_near : (dialect : Dialect) (req places o : List ℕ) (w : Walked) (f : Verdict) → judged_of req places w ≡ read_in dialect req → w ≡ Err f
    → Passed req o → f.place ≤ 16384
fault_near dialect req places o w f e is p = omega (
  arith,
  p.most,
  (read_placed dialect req f p.least
      (judged_bad req places w (read_in dialect req) e f is)).within,
)

-- Its answer fits, and so does that of a plan.
module _ (v : List ℕ) (f : Verdict) (g : Given) (e : g ≡ given_fault f) where
  pub fault_sendable : Sendable v g.sent
  fault_sendable = rw e (none_sendable v)

  pub fault_room : (req t file o : List ℕ) (count : ℕ) (terms : Terms) → Passed req o → SoundTable t count → length (answer_bytes terms req t file v g) ≤ 36864
  fault_room req t file o count terms p s =
      rw e (given_most t file count s v req p.least p.most p.fours terms (given_fault f) (none_sendable v) (inl refl))

-- By the dialect's command, what is planned is so.
module _ (dialect : Dialect) (req t : List ℕ) (count : ℕ) (v : List ℕ) (seen : Seen) (p : Plan) where
  module _ (is : read_in dialect req ≡ fine seen) (sound : SoundTable t count) (vectors : SoundVectors v) where
    planned : p ≡ plan_read dialect req t count v seen → Planned dialect req t count v seen p
    planned e =
        record {
          plan_is = e;
          fits = rw e (plan_fits dialect req t count v seen is);
          sendable = rw e (plan_sendable dialect req t count v vectors seen is);
        }

    pub planned_uar : dialect.command ≡ 300 → p ≡ uar_plan t count seen → Planned dialect req t count v seen p
    unfolding plan_read
    planned_uar a q = planned (rw a q)

    pub planned_sar : dialect.command ≡ 301 → p ≡ sar_plan req t count seen → Planned dialect req t count v seen p
    unfolding plan_read
    planned_sar a q = planned (rw a q)

    pub planned_lir : dialect.command ≡ 302 → p ≡ lir_plan t count seen → Planned dialect req t count v seen p
    unfolding plan_read
    planned_lir a q = planned (rw a q)

    pub planned_mar : (dialect.command ≡ 300 → ⊥) → (dialect.command ≡ 301 → ⊥) → (dialect.command ≡ 302 → ⊥) → p ≡ mar_plan t count v seen
        → Planned dialect req t count v seen p
    unfolding plan_read
    planned_mar a b d q = planned (rw (ne_eqb dialect.command 300 a, ne_eqb dialect.command 301 b, ne_eqb dialect.command 302 d) q)

  pub plan_room : (file o : List ℕ) (terms : Terms) → Planned dialect req t count v seen p → read_in dialect req ≡ fine seen → Passed req o → SoundTable t count
      → length (answer_bytes terms req t file v p.given) ≤ 36864
  plan_room file o terms plans is q s =
      given_most t file count s v req q.least q.most q.fours terms p.given plans.sendable
      (rw plans.plan_is (plan_light dialect req t count v seen is))

-- No fault: what is given, the table and the vectors are the plan's.
module _ (dialect : Dialect) (req t : List ℕ) (count : ℕ) (v : List ℕ) (seen : Seen) (is : read_in dialect req ≡ fine seen) (p : Plan)
    (plans : Planned dialect req t count v seen p) (inside : beyond_set dialect.terms req ≡ false) where
  plan_given : p.given ≡ (decide dialect req t count v).given
  unfolding decide_by judged_by performed_by
  plan_given = rw (plans.plan_is, is, inside)

  pub plan_table : {y : List ℕ} → y ≡ carried_out req t count seen p.deed → y ≡ (decide dialect req t count v).table
  unfolding decide_by judged_by performed_by
  plan_table e = e ∙ rw (plans.plan_is, is, inside)

  pub plan_vectors : {y : List ℕ} → y ≡ spent_by v p.given.sent p.deed → y ≡ (decide dialect req t count v).vectors
  unfolding decide_by judged_by performed_by
  plan_vectors e = e ∙ rw (plans.plan_is, is, inside)

  pub plan_tells : (file before after : List ℕ) (n altered : ℕ) {y : List ℕ} → Wrote (answer_bytes dialect.terms req t file v p.given) before after n
      → y ≡ carried_out req t count seen p.deed → altered ≡ altered_up_to t y count
      → Tells dialect req t count file v before after
      (record { length = n; place = 0; command = dialect.command; result = p.given.verdict.result; altered = altered })
  unfolding decide_by judged_by performed_by
  plan_tells file before after n altered w e a =
      record {
        answers = rw plan_given at w;
        place_is = rw (is, inside);
        command_is = refl;
        result_is = rw plan_given;
        altered_is = a ∙ rw (plan_table e);
      }
