-- Laws of what is seen of a SAR's records: one identity more, one block more.
use Rattle.std.specs.Prelude.{Option, Some, None}
use Rattle.octets.specs.Standard.{ℕ, suc, List, [], ◌∷◌, ◌++◌, append-nil, Bool, true, false, not, ◌&&◌, ◌||◌, and_assoc, and-true, or_assoc}
use Rattle.octets.specs.Standard.{or-false, ◌≡◌, refl, sym}
use Rattle.blocks.specs.Blocks.{block_of}
use Rattle.table.specs.Named.{private_at}
use Rattle.choices.specs.declared.types.AssignmentType.{AssignmentType}
use Rattle.choices.specs.declared.plan.Survey.{Survey}
use Rattle.assignment.specs.Assignment.{every, is_empty, numbers_of, owned_here, owned_up_to, own_at, stores_at, fits_at, right_at, survey_of}
use Rattle.assignment.specs.Survey.{both, look_at, look_found, glimpsed, found_survey}

pub both_assoc : (a b c : Survey) → both (both a b) c ≡ both a (both b c)
both_assoc a b c =
    rw (
      and_assoc a.known b.known c.known,
      or_assoc a.some b.some c.some,
      and_assoc a.own b.own c.own,
      and_assoc a.stores b.stores c.stores,
      and_assoc a.fits b.fits c.fits,
      and_assoc a.right b.right c.right,
    )

every_append : {X : Type 0} (p : X → Bool) (xs ys : List X) → every p (xs ++ ys) ≡ (every p xs && every p ys)
unfolding every
every_append p [] ys = refl
every_append p (x ∷ xs) ys = rw (every_append p xs ys) (sym (and_assoc (p x) (every p xs) (every p ys)))

some_append : {X : Type 0} (xs ys : List X) → not (is_empty (xs ++ ys)) ≡ (not (is_empty xs) || not (is_empty ys))
some_append [] ys = refl
some_append (x ∷ xs) ys = refl

module _ (t owner server : List ℕ) (kind : AssignmentType) where
  -- One identity more.
  pub survey_cons : (f : Option ℕ) (fs : List (Option ℕ))
      → found_survey t owner server kind (f ∷ fs) ≡ both (look_found t f owner server kind) (found_survey t owner server kind fs)
  unfolding survey_of look_found look_at every numbers_of own_at stores_at fits_at right_at private_at
  survey_cons (Some k) fs = refl
  survey_cons None fs = refl

  -- None left.
  pub both_clean : (a : Survey) → both a (found_survey t owner server kind []) ≡ a
  unfolding survey_of every numbers_of
  both_clean a = rw (and-true a.known, or-false a.some, and-true a.own, and-true a.stores, and-true a.fits, and-true a.right)

-- One block more.
module _ (t user server : List ℕ) (kind : AssignmentType) where
  survey_one : (k : ℕ) → survey_of t user server kind true (k ∷ []) ≡ look_at (block_of t k) user server kind
  unfolding survey_of look_at every own_at stores_at fits_at right_at private_at
  survey_one k = simp and-true

  survey_append : (ks ls : List ℕ)
      → survey_of t user server kind true (ks ++ ls) ≡ both (survey_of t user server kind true ks) (survey_of t user server kind true ls)
  unfolding survey_of
  survey_append ks ls =
      rw (
        some_append ks ls,
        every_append (own_at t user) ks ls,
        every_append (stores_at t server) ks ls,
        every_append (fits_at t server) ks ls,
        every_append (right_at t kind) ks ls,
      )

  pub survey_more : (n : ℕ)
      → glimpsed (survey_of t user server kind true (owned_up_to t user n)) (block_of t (suc n)) user server kind
      ≡ survey_of t user server kind true (owned_up_to t user (suc n))
  unfolding glimpsed owned_up_to
  survey_more n = go (owned_here (block_of t (suc n)) user) refl
    where
      go : (x : Bool) → owned_here (block_of t (suc n)) user ≡ x
          → glimpsed (survey_of t user server kind true (owned_up_to t user n)) (block_of t (suc n)) user server kind
          ≡ survey_of t user server kind true (owned_up_to t user (suc n))
      go true h = rw (h, survey_append (owned_up_to t user n) (suc n ∷ []), survey_one (suc n))
      go false h = rw (h, append-nil (owned_up_to t user n))
