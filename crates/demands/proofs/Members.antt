-- A removal that names one member of a set more is decided as one that does not name it, wherever it stands among the others.
use Rattle.std.specs.Prelude.{Option, Some, None, Ok, Err}
use Rattle.octets.specs.Standard.{ℕ, ◌≤◌, List, [], ◌∷◌, ◌++◌, Bool, true, false, cond, ◌&&◌, ◌||◌, and_assoc, true≢false, ◌≡◌, refl, sym, ap, ◌∙◌}
use Rattle.octets.specs.Standard.{eqb, length, eqb-true, eq-eqb}
use Rattle.octets.proofs.All.{and_left, and_right}
use Rattle.octets.proofs.Names.{same_eq}
use Rattle.record.specs.Sets.{same_set}
use Rattle.record.proofs.OneSet.{OneSet, set_says}
use Rattle.blocks.specs.Blocks.{block_of}
use Rattle.blocks.specs.Changed.{is_one}
use Rattle.table.specs.Named.{private_at}
use Rattle.table.specs.SoundTable.{SoundTable}
use Rattle.lookup.specs.Find.{is_at, find_public}
use Rattle.rewrite.specs.Change.{after_of, reaches}
use Rattle.rewrite.specs.Renew.{settled}
use Rattle.rewrite.proofs.Reaching.{both_ways, reaches_named_one, reaches_closed, reaches_append}
use Rattle.rewrite.proofs.Tables.{after_choice}
use Rattle.diameter.specs.Avp.{data_of}
use Rattle.choices.specs.Types.{is_removal, carries_user}
use Rattle.choices.specs.Plans.{Finding, finding_of, grant, plan_of}
use Rattle.choices.specs.declared.types.AssignmentType.{AssignmentType}
use Rattle.choices.specs.declared.types.AssignmentType.TheVariants.{NoAssignment, Registration, ReRegistration, UnregisteredUser, Removal}
use Rattle.choices.specs.declared.types.AssignmentType.TheVariants.{StoringRemoval, Failure}
use Rattle.choices.specs.declared.plan.Sar.{Sar}
use Rattle.choices.specs.declared.plan.Survey.{Survey}
use Rattle.choices.specs.declared.plan.Deed.{Deed}
use Rattle.choices.specs.declared.plan.Deed.TheVariants.{Leave, Settle, Challenge}
use Rattle.assignment.specs.Assignment.{Assignment, meant_by, every, is_empty, find_all, numbers_of, first_of, owned_up_to, own_at, stores_at, fits_at, right_at}
use Rattle.assignment.specs.Assignment.{survey_of, user_known, owner_by, named_survey, assign_meant, assign, stored_name, planned_records}
use Rattle.assignment.specs.declared.Meant.TheVariants.{Listed}
use Rattle.deciding.specs.Plans.{assignment_of}
use Rattle.deciding.specs.Rules.{in_force}
use Rattle.deciding.specs.Decide.{performed_by}
use Rattle.deciding.specs.Deeds.{settled_by, carried_out}
use Rattle.choices.specs.declared.plan.Settling.{Settling}
use Rattle.reading.specs.Kinds.{server_name}
use Rattle.reading.specs.Rules.{Seen}
use Rattle.requests.specs.Request.{data_seen}
use Rattle.deciding.proofs.Comes.{one_holds}
use Rattle.older_rules.proofs.Sets.{stores_same, fits_same, right_same}

-- Two lists, one behind the other.
every_append : {X : Type 0} (p : X → Bool) (xs ys : List X) → every p (xs ++ ys) ≡ (every p xs && every p ys)
unfolding every
every_append p [] ys = refl
every_append p (x ∷ xs) ys = rw (every_append p xs ys) (sym (and_assoc (p x) (every p xs) (every p ys)))

numbers_append : (fs gs : List (Option ℕ)) → numbers_of (fs ++ gs) ≡ numbers_of fs ++ numbers_of gs
unfolding numbers_of
numbers_append [] gs = refl
numbers_append (Some k ∷ fs) gs = ap (λ (l : List ℕ). k ∷ l) (numbers_append fs gs)
numbers_append (None ∷ fs) gs = numbers_append fs gs

one_amid : (ks ls : List ℕ) (k : ℕ) → is_one (ks ++ (k ∷ ls)) k ≡ true
unfolding is_one
one_amid [] ls k = rw (eq-eqb k k refl)
one_amid (j ∷ ks) ls k = rw (one_amid ks ls k) (go (eqb k j))
  where
    go : (x : Bool) → (x || true) ≡ true
    go true = refl
    go false = refl

-- Blocks, and one more of the set of one that is there.
module _ (t ks ls : List ℕ) (k j : ℕ) (one : same_set (block_of t k) (block_of t j) ≡ true) (there : is_one (ks ++ ls) k ≡ true) where
  every_more : (p : ℕ → Bool) → p j ≡ p k → every p (ks ++ (j ∷ ls)) ≡ every p (ks ++ ls)
  unfolding every
  every_more p e = both_ways _ _ fewer more
    where
      fewer : every p (ks ++ (j ∷ ls)) ≡ true → every p (ks ++ ls) ≡ true
      fewer h =
          let two : (every p ks && (p j && every p ls)) ≡ true = sym (every_append p ks (j ∷ ls)) ∙ h in
          every_append p ks ls ∙ rw (and_left (every p ks) _ two, and_right (p j) _ (and_right (every p ks) _ two))

      more : every p (ks ++ ls) ≡ true → every p (ks ++ (j ∷ ls)) ≡ true
      more h =
          let two : (every p ks && every p ls) ≡ true = sym (every_append p ks ls) ∙ h in
          every_append p ks (j ∷ ls)
          ∙ rw (and_left (every p ks) _ two, e, one_holds p (ks ++ ls) k h there, and_right (every p ks) _ two)

  -- what the one more reaches is reached
  covered : (i : ℕ) → (eqb i j || same_set (block_of t j) (block_of t i)) ≡ true → reaches t (ks ++ ls) i ≡ true
  covered i e = go (eqb i j) refl e
    where
      at_j : reaches t (ks ++ ls) j ≡ true
      at_j = sym (reaches_closed t (ks ++ ls) k j one) ∙ reaches_named_one t (ks ++ ls) k there

      go : (x : Bool) → eqb i j ≡ x → (x || same_set (block_of t j) (block_of t i)) ≡ true → reaches t (ks ++ ls) i ≡ true
      go true q f = rw (eqb-true i j q) at_j
      go false q f = sym (reaches_closed t (ks ++ ls) j i f) ∙ at_j

  reaches_more : (i : ℕ) → reaches t (ks ++ (j ∷ ls)) i ≡ reaches t (ks ++ ls) i
  unfolding reaches
  reaches_more i =
      reaches_append t ks (j ∷ ls) i
      ∙ go (reaches t ks i) (eqb i j || same_set (block_of t j) (block_of t i)) (reaches t ls i) (λ e. sym (reaches_append t ks ls i) ∙ covered i e)
      ∙ sym (reaches_append t ks ls i)
    where
      go : (x y z : Bool) → (y ≡ true → (x || z) ≡ true) → (x || (y || z)) ≡ (x || z)
      go true y z h = refl
      go false true z h = sym (h refl)
      go false false z h = refl

  some_more : is_empty (ks ++ (j ∷ ls)) ≡ is_empty (ks ++ ls)
  unfolding is_one
  some_more = go ks ls there
    where
      go : (xs ys : List ℕ) → is_one (xs ++ ys) k ≡ true → is_empty (xs ++ (j ∷ ys)) ≡ is_empty (xs ++ ys)
      go [] [] h = absurd (true≢false (sym h))
      go [] (y ∷ ys) h = refl
      go (x ∷ xs) ys h = refl

-- a removal's answer carries nothing of its first record, and its type is no question
removal_plain : (s : Sar) (first : ℕ) → is_removal s.kind ≡ true → (f : Finding) (other : ℕ) → plan_of f s first false ≡ plan_of f s other false
unfolding plan_of grant
removal_plain s first e (Err r) other = refl
removal_plain s first e (Ok done) other = rw (go s.kind e)
  where
    go : (kind : AssignmentType) → is_removal kind ≡ true → carries_user kind ≡ false
    go NoAssignment f = absurd (true≢false (sym f))
    go Registration f = absurd (true≢false (sym f))
    go ReRegistration f = absurd (true≢false (sym f))
    go UnregisteredUser f = absurd (true≢false (sym f))
    go Removal f = refl
    go StoringRemoval f = refl
    go Failure f = absurd (true≢false (sym f))

-- Identities before and after the one more, which is in block j; one of them is in block k.
module _ (t : List ℕ) (count : ℕ) (sound : SoundTable t count) (k j : ℕ) (a : 1 ≤ k) (b : k ≤ count) (c : 1 ≤ j) (d : j ≤ count)
    (one : same_set (block_of t k) (block_of t j) ≡ true) (fs gs : List (Option ℕ)) (there : is_one (numbers_of fs ++ numbers_of gs) k ≡ true) where
  abbrev more : List (Option ℕ)
  more = fs ++ (Some j ∷ gs)

  abbrev fewer : List (Option ℕ)
  fewer = fs ++ gs

  all_more : every is_at more ≡ every is_at fewer
  unfolding every
  all_more = every_append is_at fs (Some j ∷ gs) ∙ sym (every_append is_at fs gs)

  more_numbers : numbers_of more ≡ numbers_of fs ++ (j ∷ numbers_of gs)
  unfolding numbers_of
  more_numbers = numbers_append fs (Some j ∷ gs)

  fewer_numbers : numbers_of fewer ≡ numbers_of fs ++ numbers_of gs
  fewer_numbers = numbers_append fs gs

  each_same : (p : ℕ → Bool) → p j ≡ p k → every p (numbers_of more) ≡ every p (numbers_of fewer)
  each_same p e = rw (more_numbers, fewer_numbers) (every_more t (numbers_of fs) (numbers_of gs) k j one there p e)

  private_same : private_at t j ≡ private_at t k
  unfolding private_at
  private_same = let s : OneSet (block_of t k) (block_of t j) = set_says _ _ one in sym s.private

  own_same : (owner : List ℕ) → own_at t owner j ≡ own_at t owner k
  unfolding own_at
  own_same owner = rw private_same

  -- "All in one subscription": where all are known it does not matter whose name they are compared with
  one_owner : (u v : List ℕ) (i : ℕ) (ks : List ℕ) → is_one ks i ≡ true → private_at t i ≡ v → every (own_at t u) ks ≡ true → every (own_at t v) ks ≡ true
  unfolding own_at
  one_owner u v i ks h e f = let q : v ≡ u = sym e ∙ same_eq _ _ (one_holds (own_at t u) ks i f h) in rw q f

  there_fewer : is_one (numbers_of fewer) k ≡ true
  there_fewer = rw fewer_numbers there

  own_first : (named : Bool) (user : List ℕ) → every is_at fewer ≡ true
      → every (own_at t (owner_by t (first_of more) named user)) (numbers_of more) ≡ every (own_at t (owner_by t (first_of fewer) named user)) (numbers_of fewer)
  unfolding owner_by every numbers_of is_one
  own_first true user known = each_same (own_at t user) (own_same user)
  own_first false user known = go fs gs refl refl
    where
      go : (xs ys : List (Option ℕ)) → fs ≡ xs → gs ≡ ys
          → every (own_at t (private_at t (first_of more))) (numbers_of more) ≡ every (own_at t (private_at t (first_of fewer))) (numbers_of fewer)
      go (x ∷ xs) ys e f =
          let q : first_of more ≡ first_of fewer = rw e in
          rw q (each_same (own_at t (private_at t (first_of fewer))) (own_same (private_at t (first_of fewer))))
      go [] [] e f = absurd (true≢false (sym (rw (e, f) at there)))
      go [] (None ∷ ys) e f = absurd (true≢false (sym (rw (e, f) at known)))
      go [] (Some i ∷ ys) e f =
          let m : first_of more ≡ j = rw e in
          let n : first_of fewer ≡ i = rw (e, f) in
          let h : is_one (numbers_of fewer) i ≡ true = rw (e, f, eq-eqb i i refl) in
          rw (m, n)
          (each_same (own_at t (private_at t j)) (own_same (private_at t j))
          ∙ both_ways _ _ (one_owner (private_at t j) (private_at t i) i (numbers_of fewer) h refl)
          (one_owner (private_at t i) (private_at t j) k (numbers_of fewer) there_fewer (sym private_same)))

  -- what is seen of the records comes to the same
  abbrev seen_of : Bool → Sar → List ℕ → List ℕ → List (Option ℕ) → Survey
  seen_of user_known_lem numbers server user hs =
      survey_of t (owner_by t (first_of hs) numbers.named user) server numbers.kind (every is_at hs && user_known_lem) (numbers_of hs)

  finding_same : (user_known_lem : Bool) (numbers : Sar) (server user : List ℕ)
      → finding_of (seen_of user_known_lem numbers server user more) numbers.kind ≡ finding_of (seen_of user_known_lem numbers server user fewer) numbers.kind
  unfolding finding_of survey_of
  finding_same user_known_lem numbers server user = go (every is_at fewer) refl
    where
      go : (x : Bool) → every is_at fewer ≡ x
          → finding_of (seen_of user_known_lem numbers server user more) numbers.kind ≡ finding_of (seen_of user_known_lem numbers server user fewer) numbers.kind
      go false e = rw (all_more, e)
      go true e =
          rw (
            all_more,
            own_first numbers.named user e,
            each_same (stores_at t server) (sym (stores_same t count sound k j a b c d one server)),
            each_same (fits_at t server) (sym (fits_same t count sound k j a b c d one server)),
            each_same (right_at t numbers.kind) (sym (right_same t count sound k j a b c d one numbers.kind)),
            some_same,
          )
        where
          some_same : is_empty (numbers_of more) ≡ is_empty (numbers_of fewer)
          some_same = rw (more_numbers, fewer_numbers) (some_more t (numbers_of fs) (numbers_of gs) k j one there)

  -- and so does what is written
  written_same : (change : List ℕ → List ℕ) → after_of t count (reaches t (numbers_of more)) change ≡ after_of t count (reaches t (numbers_of fewer)) change
  written_same change =
      rw (more_numbers, fewer_numbers) (after_choice t count _ _ change (λ i h. reaches_more t (numbers_of fs) (numbers_of gs) k j one there i))

-- The plan of a removal that names someone.
listed : (named : Bool) (ps : List ℕ) → (length ps ≡ 0 → ⊥) → (p : ℕ) × (meant_by true named ps ≡ Ok (Listed p))
unfolding meant_by
listed named [] n = absurd (n refl)
listed named (p ∷ []) n = (p, refl)
listed named (p ∷ (q ∷ ps)) n = (p, refl)

pub assign_is : (t : List ℕ) (count : ℕ) (s : Assignment) → is_removal s.numbers.kind ≡ true → (length s.places ≡ 0 → ⊥)
    → assign t count s ≡ plan_of (finding_of (named_survey t count s) s.numbers.kind) s.numbers (first_of (find_all t count s.identities)) false
unfolding assign assign_meant
assign_is t count s e n = rw (e, (listed s.numbers.named s.places n).1)

find_append : (t : List ℕ) (count : ℕ) (xs ys : List (List ℕ)) → find_all t count (xs ++ ys) ≡ find_all t count xs ++ find_all t count ys
unfolding find_all
find_append t count [] ys = refl
find_append t count (x ∷ xs) ys = ap (λ (l : List (Option ℕ)). find_public t count (data_of x) ∷ l) (find_append t count xs ys)

-- A removal of some identities, of which `other` is one, and the same with `more` among them.
module _ (t : List ℕ) (count : ℕ) (sound : SoundTable t count) (k j : ℕ) (a : 1 ≤ k) (b : k ≤ count) (c : 1 ≤ j) (d : j ≤ count)
    (one : same_set (block_of t k) (block_of t j) ≡ true) (numbers : Sar) (removal : is_removal numbers.kind ≡ true) (server user : List ℕ)
    (before after front back : List (List ℕ)) (more other : List ℕ) (still : before ++ after ≡ front ++ (other ∷ back))
    (at_more : find_public t count (data_of more) ≡ Some j) (at_other : find_public t count (data_of other) ≡ Some k)
    (ps qs : List ℕ) (some : length ps ≡ 0 → ⊥) (still-some : length qs ≡ 0 → ⊥) where
  abbrev naming : Assignment
  naming = record { numbers = numbers; server = server; user = user; identities = before ++ (more ∷ after); places = ps }

  abbrev leaving : Assignment
  leaving = record { numbers = numbers; server = server; user = user; identities = before ++ after; places = qs }

  abbrev fs : List (Option ℕ)
  fs = find_all t count before

  abbrev gs : List (Option ℕ)
  gs = find_all t count after

  naming_found : find_all t count (before ++ (more ∷ after)) ≡ fs ++ (Some j ∷ gs)
  unfolding find_all
  naming_found = find_append t count before (more ∷ after) ∙ rw at_more

  leaving_found : find_all t count (before ++ after) ≡ fs ++ gs
  leaving_found = find_append t count before after

  there : is_one (numbers_of fs ++ numbers_of gs) k ≡ true
  unfolding find_all numbers_of
  there =
      let e : fs ++ gs ≡ find_all t count front ++ (Some k ∷ find_all t count back) =
      sym leaving_found ∙ ap (find_all t count) still ∙ find_append t count front (other ∷ back) ∙ rw at_other in
      rw (← numbers_append fs gs, e, numbers_append (find_all t count front) (Some k ∷ find_all t count back))
      (one_amid (numbers_of (find_all t count front)) (numbers_of (find_all t count back)) k)

  assigned_same : assign t count naming ≡ assign t count leaving
  unfolding named_survey
  assigned_same =
      assign_is t count naming removal some
      ∙ rw (naming_found, leaving_found, finding_same t count sound k j a b c d one fs gs there (user_known t count numbers.named user) numbers server user)
      (removal_plain numbers _ removal _ _)
      ∙ sym (assign_is t count leaving removal still-some)

  settled_same : (w : Settling) → settled_by t count naming w ≡ settled_by t count leaving w
  unfolding planned_records
  settled_same w = rw (naming_found, leaving_found) (go w.owned)
    where
      change : List ℕ → List ℕ
      change = settled w.state (stored_name w.named server)

      go : (x : Bool) → after_of t count (reaches t (cond x (owned_up_to t user count) (numbers_of (fs ++ (Some j ∷ gs))))) change
          ≡ after_of t count (reaches t (cond x (owned_up_to t user count) (numbers_of (fs ++ gs)))) change
      go true = refl
      go false = written_same t count sound k j a b c d one fs gs there change

  -- of two requests that say so
  module _ (long short : List ℕ) (fuller fewer : Seen) (says-naming : assignment_of long t fuller ≡ naming)
      (says-leaving : assignment_of short t fewer ≡ leaving) where
    same_server : data_seen fuller server_name ≡ data_seen fewer server_name
    unfolding assignment_of
    same_server = ap (λ (s : Assignment). s.server) says-naming ∙ sym (ap (λ (s : Assignment). s.server) says-leaving)

    carried_same : (e : Deed) → carried_out long t count fuller e ≡ carried_out short t count fewer e
    unfolding carried_out
    carried_same Leave = refl
    carried_same (Settle w) = rw (says-naming, says-leaving) (settled_same w)
    carried_same (Challenge i) = rw same_server

    pub named_twice : (v : List ℕ)
        → performed_by in_force long t count v fuller (assign t count naming) ≡ performed_by in_force short t count v fewer (assign t count leaving)
    unfolding performed_by
    named_twice v = rw (assigned_same, carried_same (assign t count leaving).deed)
