-- One rule of a SAR: of a record, and the turns of a pass over the records that are meant.
use Rattle.std.specs.Prelude.{Option, Some, None}
use Rattle.octets.specs.Standard.{ℕ, suc, ◌+◌, ◌≤◌, Bool, true, false, ◌&&◌, ◌||◌, not, cond, and_assoc, and-true, ◌≡◌, refl, sym, ◌∙◌, ap, List, [], ◌∷◌, ◌++◌}
use Rattle.octets.specs.Standard.{arith, add-one}
use Rattle.blocks.specs.Blocks.{block_of}
use Rattle.lookup.specs.Find.{find_public}
use Rattle.diameter.specs.AvpAt.{data_at}
use Rattle.diameter.specs.Message.{body_of}
use Rattle.requests.specs.Request.{identities}
use Rattle.requests.specs.declared.identities.Identity.{Identity}
use Rattle.requests.specs.NextIdentity as identity
use Rattle.requests.proofs.Naming.{named_none, named_first}
use Rattle.assignment.specs.Assignment.{every, find_all, owned_here, owned_up_to}
use Rattle.assignment.proofs.NameTurns.{rest_of}
use Rattle.plain_assignment.specs.Rules.{kept_at, kept_by}

-- The turns of a pass over the named identities: what is left, joined to what was seen, is the answer of all.
module _ (t : List ℕ) (p : List ℕ → Bool) (unknown : Bool) (count : ℕ) (s : List ℕ) where
  abbrev q : Option ℕ → Bool
  q = kept_by t p unknown

  pub named_start : (true && every q (find_all t count (rest_of s 20))) ≡ every q (find_all t count (identities (body_of s)))
  unfolding rest_of
  named_start = refl

  module _ (at : ℕ) (good whole : Bool) (left : (good && every q (find_all t count (rest_of s at))) ≡ whole) (r : Option Identity) (n : identity.Named s at r) where
    pub named_stop : r ≡ None → good ≡ whole
    unfolding find_all rest_of every
    named_stop d = sym (and-true good) ∙ rw (named_none s at r n d) at left

    pub named_turn : (i : Identity) {m : List ℕ} {f : Option ℕ} {x : Bool} → r ≡ Some i → m ≡ data_at s i.place → f ≡ find_public t count m
        → x ≡ kept_by t p unknown f → ((good && x) && every q (find_all t count (rest_of s i.past))) ≡ whole
    unfolding find_all rest_of every
    named_turn i {m} {f} {x} d em ef ex =
        rw (ex, ef, em)
        (and_assoc good (q (find_public t count (data_at s i.place))) (every q (find_all t count (rest_of s i.past)))
        ∙ (rw (named_first s at r n i d) at left))

module _ (t : List ℕ) (p : List ℕ → Bool) (unknown : Bool) {f : Option ℕ} {x : Bool} where
  pub kept_found : (k : ℕ) {b : List ℕ} → f ≡ Some k → b ≡ block_of t k → x ≡ p b → x ≡ kept_by t p unknown f
  unfolding kept_by
  kept_found k e g h = rw (e, ← g) h

  pub kept_unknown : f ≡ None → x ≡ unknown → x ≡ kept_by t p unknown f
  unfolding kept_by
  kept_unknown e h = rw e h

-- A pass over the User-Name's records.
every_append : (p : ℕ → Bool) (xs ys : List ℕ) → every p (xs ++ ys) ≡ (every p xs && every p ys)
unfolding every
every_append p [] ys = refl
every_append p (x ∷ xs) ys = rw (every_append p xs ys) (sym (and_assoc (p x) (every p xs) (every p ys)))

module _ (t : List ℕ) (p : List ℕ → Bool) (user : List ℕ) where
  pub owned_start : true ≡ every (kept_at t p) (owned_up_to t user 0)
  unfolding owned_up_to every
  owned_start = refl

  pub owned_turn : (k : ℕ) {good o x : Bool} {b : List ℕ} → good ≡ every (kept_at t p) (owned_up_to t user k) → b ≡ block_of t (k + 1)
      → o ≡ owned_here b user → x ≡ p b → (good && (not o || x)) ≡ every (kept_at t p) (owned_up_to t user (k + 1))
  unfolding owned_up_to kept_at every
  owned_turn k {good} {o} {x} {b} eg eb eo ex =
      rw (add-one k, every_append (kept_at t p) (owned_up_to t user k) (cond (owned_here (block_of t (suc k)) user) (suc k ∷ []) []), eg)
      (ap (λ (y : Bool). every (kept_at t p) (owned_up_to t user k) && y) last)
    where
      one : (u : Bool) → (not u || p (block_of t (suc k))) ≡ every (kept_at t p) (cond u (suc k ∷ []) [])
      one true = sym (and-true (p (block_of t (suc k))))
      one false = refl

      last : (not o || x) ≡ every (kept_at t p) (cond (owned_here (block_of t (suc k)) user) (suc k ∷ []) [])
      last = let q : b ≡ block_of t (suc k) = rw (← add-one k) eb in rw (eo, ex, q) (one (owned_here (block_of t (suc k)) user))

  pub owned_end : (k n : ℕ) {good : Bool} → good ≡ every (kept_at t p) (owned_up_to t user k) → k ≤ n → n ≤ k
      → good ≡ every (kept_at t p) (owned_up_to t user n)
  owned_end k n e a b = let q : k ≡ n = omega arith in cc
