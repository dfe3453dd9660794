-- Without sets each rule is what it was: the check, the barring rule, the effects.
use Rattle.std.specs.Prelude.{Option, Some, None}
use Rattle.octets.specs.Standard.{ℕ, suc, zero, ◌+◌, ◌<◌, ◌≤◌, Bool, true, false, true≢false, and-true, ◌≡◌, refl, sym, ◌∙◌, List, [], ◌∷◌, arith}
use Rattle.record.specs.Fields.{set_of, bits_of, barred}
use Rattle.record.specs.HeaderBlock.{header_of}
use Rattle.record.specs.Sets.{same_set}
use Rattle.record.specs.declared.header.Header.{Header}
use Rattle.blocks.specs.Blocks.{block_of, first_bad}
use Rattle.table.specs.Check.{stands_at, agrees_at, sound_at, check_records, check_table}
use Rattle.table.proofs.Agreement.{agrees_holds}
use Rattle.lookup.specs.Find.{barred_alone, find_public}
use Rattle.lookup.proofs.Scans.{free_none}
use Rattle.blocks.specs.Changed.{is_one}
use Rattle.rewrite.specs.Change.{after_of, reaches}
use Rattle.rewrite.proofs.Reaching.{reaches_named}
use Rattle.rewrite.proofs.Tables.{after_choice}
use Rattle.reading.specs.Rules.{Seen}
use Rattle.reading.specs.declared.Dialect.{Dialect}
use Rattle.choices.specs.declared.plan.Deed.{Deed}
use Rattle.choices.specs.declared.plan.Deed.TheVariants.{Leave, Settle, Challenge}
use Rattle.questions.specs.Authorization.{asked_of, authorize_found, authorize}
use Rattle.assignment.specs.Assignment.{planned_records}
use Rattle.deciding.specs.Plans.{assignment_of, uar_plan, plan_read}
use Rattle.deciding.specs.Deeds.{carried_out}
use Rattle.older_rules.specs.WithoutSets.{NoSets, check_before, asked_before, authorize_before, carried_out_before, plan_before}

-- Where the test is the same of each number, the first bad one is.
first_alike : (p q : ℕ → Bool) (count n k : ℕ) → ((j : ℕ) → k ≤ j → j < k + n → p j ≡ q j) → first_bad p count n k ≡ first_bad q count n k
unfolding first_bad
first_alike p q count zero k h = refl
first_alike p q count (suc n) k h =
    rw (h k (omega arith) (omega arith), first_alike p q count n (suc k) (λ j a b. h j (omega arith) (omega arith)))

no_set_lem : (a b : List ℕ) → set_of a ≡ 0 → same_set a b ≡ false
unfolding same_set
no_set_lem a b e = rw e

module _ (t : List ℕ) (none : NoSets t) where
  agrees : (k : ℕ) → agrees_at t k ≡ true
  agrees k = agrees_holds t k (λ j a b e. let z : false ≡ true = sym (no_set_lem (block_of t j) (block_of t k) (none j)) ∙ e in absurd (distinct z))
    where
      distinct : false ≡ true → ⊥
      distinct z = true≢false (sym z)

  sound_is : (h : Header) (file k : ℕ) → stands_at t h file k ≡ sound_at t h file k
  unfolding sound_at
  sound_is h file k = rw (agrees k) (sym (and-true (stands_at t h file k)))

  pub check_is : (file : ℕ) → check_before t file ≡ check_table t file
  unfolding check_before check_table check_records
  check_is file =
      rw (first_alike (stands_at t (header_of (block_of t 0)) file) (sound_at t (header_of (block_of t 0)) file) (header_of (block_of t 0)).count
      (header_of (block_of t 0)).count 1 (λ j a b. sound_is (header_of (block_of t 0)) file j))

  module _ (count : ℕ) where
    alone_is : (k : ℕ) → barred (bits_of (block_of t k)) ≡ barred_alone t count (block_of t k)
    unfolding barred_alone
    alone_is k = rw (← free_none t count (block_of t k) refl (none k)) (sym (and-true (barred (bits_of (block_of t k)))))

    asked_is : (user network : List ℕ) (f : Option ℕ) → asked_before t count user network f ≡ asked_of t count user network f
    unfolding asked_before asked_of
    asked_is user network (Some k) = rw (alone_is k)
    asked_is user network None = refl

    authorize_is : (user public network : List ℕ) (kind : ℕ) → authorize_before t count user public network kind ≡ authorize t count user public network kind
    unfolding authorize_before authorize authorize_found
    authorize_is user public network kind = rw (asked_is user network (find_public t count public))

    reached : (ks : List ℕ) (change : List ℕ → List ℕ) → after_of t count (is_one ks) change ≡ after_of t count (reaches t ks) change
    reached ks change = sym (after_choice t count (reaches t ks) (is_one ks) change (λ k h. reaches_named t none ks k))

    pub carried_is : (req : List ℕ) (seen : Seen) (d : Deed) → carried_out_before req t count seen d ≡ carried_out req t count seen d
    unfolding carried_out_before carried_out
    carried_is req seen Leave = refl
    carried_is req seen (Settle w) = reached (planned_records t count (assignment_of req t seen) w.owned) _
    carried_is req seen (Challenge k) = reached (k ∷ []) _

    pub plan_is : (d : Dialect) (req v : List ℕ) (seen : Seen) → plan_before d req t count v seen ≡ plan_read d req t count v seen
    unfolding plan_before plan_read uar_plan
    plan_is d req v seen = rw (authorize_is _ _ _ _)
