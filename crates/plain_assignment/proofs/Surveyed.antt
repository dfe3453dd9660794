-- The passes together say what a survey says; and the plan that is made of it.
use Rattle.std.specs.Prelude.{Option, Some, None, Ok}
use Rattle.octets.specs.Standard.{ℕ, Bool, true, false, ◌&&◌, ◌||◌, not, ◌≡◌, refl, ◌∙◌, List, [], ◌∷◌}
use Rattle.octets.specs.Standard.{eqb}
use Rattle.octets.specs.Name.{same}
use Rattle.record.specs.Fields.{private_of, server_of, server_size, state_of}
use Rattle.table.specs.Named.{private_at}
use Rattle.lookup.specs.Find.{is_at, find_public, find_private, block_found}
use Rattle.diameter.specs.AvpAt.{data_at}
use Rattle.diameter.specs.Message.{body_of}
use Rattle.requests.specs.Request.{identities}
use Rattle.requests.specs.Identity.{places_from}
use Rattle.choices.specs.Types.{is_removal, allowed}
use Rattle.choices.specs.Plans.{Finding, finding_of, plan_of}
use Rattle.choices.specs.declared.types.AssignmentType.{AssignmentType}
use Rattle.choices.specs.declared.plan.Sar.{Sar}
use Rattle.choices.specs.declared.plan.Survey.{Survey}
use Rattle.choices.specs.declared.plan.Plan.{Plan}
use Rattle.assignment.specs.Assignment.{every, is_empty, numbers_of, owned_up_to, own_at, stores_at, fits_at, right_at, survey_of}
use Rattle.assignment.specs.Assignment.{meant_by, find_all, user_known, owner_by, assign_meant}
use Rattle.assignment.specs.Survey.{sar_of, also_known, found_survey}
use Rattle.assignment.specs.declared.Meant.TheVariants.{Listed}
use Rattle.assignment.proofs.Plans as plans
use Rattle.plain_assignment.specs.Rules.{kept_at, kept_by}

-- A rule of found records that one not found passes is that of their blocks.
every_found : (p : Option ℕ → Bool) (q : ℕ → Bool) → p None ≡ true → ((k : ℕ) → p (Some k) ≡ q k) → (fs : List (Option ℕ)) → every p fs ≡ every q (numbers_of fs)
unfolding every numbers_of
every_found p q e h [] = refl
every_found p q e h (Some k ∷ fs) = rw (h k, every_found p q e h fs)
every_found p q e h (None ∷ fs) = rw e (every_found p q e h fs)

every_same : {X : Type 0} (p q : X → Bool) → ((x : X) → p x ≡ q x) → (xs : List X) → every p xs ≡ every q xs
unfolding every
every_same p q h [] = refl
every_same p q h (x ∷ xs) = rw (h x, every_same p q h xs)

none_there : (p : ℕ → Bool) → ((k : ℕ) → p k ≡ false) → (ks : List ℕ) → every p ks ≡ is_empty ks
unfolding every
none_there p h [] = refl
none_there p h (k ∷ ks) = rw (h k)

-- What is asked of a block: whether it is the owner's, whether it stores the server name, whether it stores no other, whether its state is right.
abbrev pub is_own : List ℕ → List ℕ → Bool
is_own owner b = same (private_of b) owner

abbrev pub is_stored : List ℕ → List ℕ → Bool
is_stored server b = same (server_of b) server

abbrev pub is_fit : List ℕ → List ℕ → Bool
is_fit server b = eqb (server_size b) 0 || same (server_of b) server

abbrev pub is_right : AssignmentType → List ℕ → Bool
is_right kind b = allowed kind (state_of b)

-- The six passes over the named identities.
module _ (t owner server : List ℕ) (kind : AssignmentType) (fs : List (Option ℕ)) (count : ℕ) (named : Bool) (user : List ℕ) {a b c d e g u : Bool}
    (ea : a ≡ every (kept_by t (λ b. true) false) fs) (eu : u ≡ user_known t count named user) (eb : b ≡ every (kept_by t (λ b. false) true) fs)
    (ec : c ≡ every (kept_by t (is_own owner) true) fs) (ed : d ≡ every (kept_by t (is_stored server) true) fs)
    (ee : e ≡ every (kept_by t (is_fit server) true) fs) (eg : g ≡ every (kept_by t (is_right kind) true) fs) where
  abbrev ks : List ℕ
  ks = numbers_of fs

  known_is : a ≡ every is_at fs
  unfolding kept_by
  known_is = ea ∙ every_same (kept_by t (λ b. true) false) is_at one fs
    where
      one : (f : Option ℕ) → kept_by t (λ b. true) false f ≡ is_at f
      one (Some k) = refl
      one None = refl

  some_is : b ≡ is_empty ks
  unfolding kept_by
  some_is = eb ∙ every_found (kept_by t (λ b. false) true) (λ (k : ℕ). false) refl (λ k. refl) fs ∙ none_there (λ (k : ℕ). false) (λ k. refl) ks

  own_is : c ≡ every (own_at t owner) ks
  unfolding kept_by own_at private_at
  own_is = ec ∙ every_found (kept_by t (is_own owner) true) (own_at t owner) refl (λ k. refl) fs

  stores_is : d ≡ every (stores_at t server) ks
  unfolding kept_by stores_at
  stores_is = ed ∙ every_found (kept_by t (is_stored server) true) (stores_at t server) refl (λ k. refl) fs

  fits_is : e ≡ every (fits_at t server) ks
  unfolding kept_by fits_at
  fits_is = ee ∙ every_found (kept_by t (is_fit server) true) (fits_at t server) refl (λ k. refl) fs

  right_is : g ≡ every (right_at t kind) ks
  unfolding kept_by right_at
  right_is = eg ∙ every_found (kept_by t (is_right kind) true) (right_at t kind) refl (λ k. refl) fs

  pub named_says : record { known = a && u; some = not b; own = c; stores = d; fits = e; right = g }
      ≡ also_known (found_survey t owner server kind fs) (user_known t count named user)
  unfolding also_known survey_of
  named_says = rw (known_is, some_is, own_is, stores_is, fits_is, right_is, eu)

-- Those over the User-Name's records.
module _ (t server : List ℕ) (kind : AssignmentType) (count : ℕ) (named : Bool) (user : List ℕ) {b c d e g u : Bool} (eu : u ≡ user_known t count named user)
    (eb : b ≡ every (kept_at t (λ b. false)) (owned_up_to t user count)) (ec : c ≡ every (kept_at t (is_own user)) (owned_up_to t user count))
    (ed : d ≡ every (kept_at t (is_stored server)) (owned_up_to t user count)) (ee : e ≡ every (kept_at t (is_fit server)) (owned_up_to t user count))
    (eg : g ≡ every (kept_at t (is_right kind)) (owned_up_to t user count)) where
  some_owned : b ≡ is_empty (owned_up_to t user count)
  unfolding kept_at
  some_owned = eb ∙ none_there (kept_at t (λ b. false)) (λ k. refl) (owned_up_to t user count)

  own_owned : c ≡ every (own_at t user) (owned_up_to t user count)
  unfolding kept_at own_at private_at
  own_owned = ec ∙ every_same (kept_at t (is_own user)) (own_at t user) (λ k. refl) (owned_up_to t user count)

  stores_owned : d ≡ every (stores_at t server) (owned_up_to t user count)
  unfolding kept_at stores_at
  stores_owned = ed ∙ every_same (kept_at t (is_stored server)) (stores_at t server) (λ k. refl) (owned_up_to t user count)

  fits_owned : e ≡ every (fits_at t server) (owned_up_to t user count)
  unfolding kept_at fits_at
  fits_owned = ee ∙ every_same (kept_at t (is_fit server)) (fits_at t server) (λ k. refl) (owned_up_to t user count)

  right_owned : g ≡ every (right_at t kind) (owned_up_to t user count)
  unfolding kept_at right_at
  right_owned = eg ∙ every_same (kept_at t (is_right kind)) (right_at t kind) (λ k. refl) (owned_up_to t user count)

  pub owned_says : record { known = u; some = not b; own = c; stores = d; fits = e; right = g }
      ≡ also_known (survey_of t user server kind true (owned_up_to t user count)) (user_known t count named user)
  unfolding also_known survey_of
  owned_says = rw (some_owned, own_owned, stores_owned, fits_owned, right_owned, eu)

-- The User-Name.
pub user_known_lem : (t : List ℕ) (count : ℕ) (named : Bool) (user : List ℕ) {x : Bool} → x ≡ is_at (find_private t count user)
    → (not named || x) ≡ user_known t count named user
unfolding user_known
user_known_lem t count named user e = rw e

-- The plan, as `assignment/Plans` has it; the premises go from the plan back to the request.
module _ (t : List ℕ) (count : ℕ) (req : List ℕ) (s : Sar) (server user : List ℕ) where
  pub named_plan : (place : ℕ) {m : List ℕ} {f : Option ℕ} {first : ℕ} {w : Survey} {x : Finding} {p : Plan} → p ≡ plan_of x s first false
      → x ≡ finding_of w s.kind
      → w ≡ also_known (found_survey t (owner_by t first s.named user) server s.kind (find_all t count (identities (body_of req))))
      (user_known t count s.named user)
      → first ≡ block_found f → f ≡ find_public t count m → m ≡ data_at req place
      → Ok (Listed place) ≡ meant_by (is_removal s.kind) s.named (places_from 20 (body_of req)) → p ≡ assign_meant t count (sar_of req s server user) (Ok (Listed place))
  named_plan place ep ex ew ek ef em e = plans.named_plan t count req s server user place ep ex ew refl refl ek ef em e
