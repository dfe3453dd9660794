-- "and the authentication request's": a MAR's B5012 is given exactly where no vector can be sent to the two identities of a record, in the scheme that is
-- served; after X5001, X5002 and X5006; and a MAR never comes to B5003.
use Rattle.std.specs.Prelude.{Ok, Option, Some, None, Err}
use Rattle.octets.specs.Standard.{ℕ, zero, suc, ◌+◌, ◌/◌, ◌<◌, ◌≤◌, min, List, Bool, true, false, cond, not, ◌&&◌, true≢false, ◌≡◌, refl, sym, ap, ◌∙◌}
use Rattle.octets.specs.Standard.{◌⊎◌, inl, inr, ◌≢◌, arith, length, eqb, ltb, eqb-true, eqb-false, eq-eqb, ltb-false, le-ltb}
use Rattle.octets.specs.Name.{same}
use Rattle.octets.proofs.Names.{same_eq, same_yes, same_no}
use Rattle.blocks.specs.Blocks.{block_of}
use Rattle.blocks.specs.Changed.{is_one}
use Rattle.table.specs.Named.{private_at}
use Rattle.vectors.specs.Chosen.{unused_here, unused_at, unused_of, packed}
use Rattle.vectors.specs.Scheme.{scheme}
use Rattle.vectors.specs.Sendable.{count_from}
use Rattle.vectors.specs.VectorBlock.{vector_of, card_of}
use Rattle.vectors.specs.declared.choice.Sent.{Sent}
use Rattle.vectors.proofs.Unused.{ones_many}
use Rattle.lookup.specs.Find.{is_at, block_found, find_public, find_private}
use Rattle.lookup.proofs.Halves.{Only, found_only, no_found}
use Rattle.diameter.specs.Message.{command_of}
use Rattle.reading.specs.Kinds.{user_name, public_identity, number_auth_items}
use Rattle.reading.specs.Rules.{Seen}
use Rattle.reading.specs.declared.Outcome.{Outcome}
use Rattle.reading.specs.declared.Outcome.TheVariants.{Base, Experimental}
use Rattle.requests.specs.Request.{data_seen, value_seen, scheme_of}
use Rattle.choices.specs.Challenges.{claim_of, challenge_of}
use Rattle.choices.specs.Plans.{Finding}
use Rattle.choices.specs.declared.challenge.Claimed.{Claimed}
use Rattle.questions.specs.Authentication.{claimed_at, claimed_of, to_send, authenticate_found, authenticate}
use Rattle.deciding.specs.Plans.{mar_plan, plan_read}
use Rattle.deciding.specs.Decide.{performed_by, judged_by, decide_by}
use Rattle.deciding.proofs.Tests.{either}
use Rattle.calling.specs.Lent.{Lent, dialect_in}
use Rattle.calling.specs.Serve.{check_of, decision, result_of}
use Rattle.demands.specs.Call.{Decides}
use Rattle.demands.specs.Sets.{Stands, Belongs}
use Rattle.demands.specs.Unable.{AllUsed, NoneToSend}
use Rattle.demands.proofs.Barring.{stands_found, belongs_known, none_known, lent_sound, result_counted}
use Rattle.demands.proofs.Results.{decided_upon, is_base}

-- The steps, by the answers to their questions.
module _ (a : Claimed) (k : ℕ) (sent : Sent) where
  abbrev comes : Finding → Outcome
  comes f = (challenge_of f k sent).given.verdict.result

  unable : {A : Type 0} (r : Outcome) → is_base 5012 r ≡ false → r ≡ Base 5012 → A
  unable r h e = absurd (true≢false (sym (ap (is_base 5012) e) ∙ h))

  claim_unable : comes (claim_of a) ≡ Base 5012 → (a.known ≡ true) × (a.together ≡ true) × (a.served ≡ true) × (a.some ≡ false)
  unfolding claim_of challenge_of
  claim_unable = go a.known a.together a.served a.some
    where
      go : (known together served some : Bool)
          → comes (cond (not known) (Err (Experimental 5001)) (cond (not together) (Err (Experimental 5002))
          (cond (not served) (Err (Experimental 5006)) (cond (not some) (Err (Base 5012)) (Ok tt)))))
          ≡ Base 5012
          → (known ≡ true) × (together ≡ true) × (served ≡ true) × (some ≡ false)
      go false together served some e = unable (Experimental 5001) refl e
      go true false served some e = unable (Experimental 5002) refl e
      go true true false some e = unable (Experimental 5006) refl e
      go true true true false e = (refl, refl, refl, refl)
      go true true true true e = unable (Base 2001) refl e

  unable_claim : a.known ≡ true → a.together ≡ true → a.served ≡ true → a.some ≡ false → comes (claim_of a) ≡ Base 5012
  unfolding claim_of challenge_of
  unable_claim e f g h = rw (e, f, g, h)

  unknown_claim : a.known ≡ false → comes (claim_of a) ≡ Experimental 5001
  unfolding claim_of challenge_of
  unknown_claim e = rw e

  apart_claim : a.known ≡ true → a.together ≡ false → comes (claim_of a) ≡ Experimental 5002
  unfolding claim_of challenge_of
  apart_claim e f = rw (e, f)

  unserved_claim : a.known ≡ true → a.together ≡ true → a.served ≡ false → comes (claim_of a) ≡ Experimental 5006
  unfolding claim_of challenge_of
  unserved_claim e f g = rw (e, f, g)

  abbrev Free : Finding → Type 0
  Free f = is_base 5003 (comes f) ≡ false

  claim_free : is_base 5003 (comes (claim_of a)) ≡ false
  unfolding claim_of challenge_of
  claim_free =
      either Free (not a.known) refl (either Free (not a.together) refl (either Free (not a.served) refl (either Free (not a.some) refl refl)))

pub mar_free : (t : List ℕ) (count : ℕ) (v : List ℕ) (seen : Seen) → is_base 5003 (mar_plan t count v seen).given.verdict.result ≡ false
unfolding mar_plan authenticate authenticate_found
mar_free t count v seen = claim_free _ _ _

-- Vectors to send: none exactly where none is asked or all of that name are used.
module _ (p : ℕ → Bool) where
  count_none : (n k : ℕ) → ((j : ℕ) → k ≤ j → j < k + n → p j ≡ false) → count_from p n k ≡ 0
  unfolding count_from
  count_none zero k h = refl
  count_none (suc n) k h = rw (h k (omega arith) (omega arith)) (count_none n (suc k) (λ j a b. h j (omega arith) (omega arith)))

  none_counted : (n k : ℕ) → count_from p n k ≡ 0 → (j : ℕ) → k ≤ j → j < k + n → p j ≡ false
  unfolding count_from
  none_counted zero k e j a b = absurd (omega arith)
  none_counted (suc n) k e j a b = go (p k) refl (eqb j k) refl e (λ f l. none_counted n (suc k) f j l (omega arith))
    where
      go : (x : Bool) → p k ≡ x → (y : Bool) → eqb j k ≡ y → cond x (suc (count_from p n (suc k))) (count_from p n (suc k)) ≡ 0
          → (count_from p n (suc k) ≡ 0 → suc k ≤ j → p j ≡ false) → p j ≡ false
      go true f y g e h = absurd (omega arith)
      go false f true g e h = let q : j ≡ k = eqb-true j k g in rw q f
      go false f false g e h = h e (omega (arith, eqb-false j k g))

module _ (v name : List ℕ) where
  used_says : AllUsed v name → (j : ℕ) → j < length v / 512 → unused_at v name j ≡ false
  unfolding unused_at unused_here
  used_says h j l = go (eqb (vector_of (block_of v j)).used 0) (same (card_of (block_of v j)) name) refl refl
    where
      go : (x y : Bool) → eqb (vector_of (block_of v j)).used 0 ≡ x → same (card_of (block_of v j)) name ≡ y → (x && y) ≡ false
      go true true e f = absurd (h j l (same_eq _ _ f) (eqb-true _ _ e))
      go true false e f = refl
      go false y e f = refl

  says_used : ((j : ℕ) → j < length v / 512 → unused_at v name j ≡ false) → AllUsed v name
  unfolding unused_at unused_here
  says_used h j l e f = true≢false (rw (eq-eqb _ _ f, same_yes _ _ e) at (h j l))

  sent_many : (number : ℕ) → (to_send v name number).count ≡ min (min number 16) (count_from (unused_at v name) (length v / 512) 0)
  unfolding to_send packed unused_of
  sent_many number = ones_many (unused_at v name) (length v / 512) 0 (min number 16)

  none_sent_lem : (number : ℕ) → (number ≡ 0) ⊎ AllUsed v name → ltb 0 (to_send v name number).count ≡ false
  none_sent_lem number (inl z) = le-ltb 0 (to_send v name number).count (omega (arith, sent_many number))
  none_sent_lem number (inr h) =
      let c : count_from (unused_at v name) (length v / 512) 0 ≡ 0 =
      count_none (unused_at v name) (length v / 512) 0 (λ j a b. used_says h j (omega arith)) in
      le-ltb 0 (to_send v name number).count (omega (arith, sent_many number))

  sent_none : (number : ℕ) → ltb 0 (to_send v name number).count ≡ false → (number ≡ 0) ⊎ AllUsed v name
  sent_none number e = go (eqb number 0) refl
    where
      go : (x : Bool) → eqb number 0 ≡ x → (number ≡ 0) ⊎ AllUsed v name
      go true f = inl (eqb-true number 0 f)
      go false f =
          let c : count_from (unused_at v name) (length v / 512) 0 ≡ 0 =
          omega (arith, sent_many number, ltb-false 0 (to_send v name number).count e, eqb-false number 0 f) in
          inr (says_used (λ j l. none_counted (unused_at v name) (length v / 512) 0 c j (omega arith) (omega arith)))

module _ (x : Lent) (count : ℕ) (sound : check_of x ≡ Ok count) (mar : command_of x.request ≡ 303) where
  abbrev t : List ℕ
  t = x.table

  module _ (seen : Seen) (read : Decides (dialect_in x) x.request seen) where
    abbrev user : List ℕ
    user = data_seen seen user_name

    abbrev public : List ℕ
    public = data_seen seen public_identity

    abbrev sending : Sent
    sending = to_send x.vectors user (value_seen seen number_auth_items)

    abbrev claimed : Option ℕ → Claimed
    claimed f = claimed_of t count user (scheme_of seen) (ltb 0 sending.count) f

    abbrev result_at : Option ℕ → Outcome
    result_at f = (challenge_of (claim_of (claimed f)) (block_found f) sending).given.verdict.result

    decided_is : (decision x count).given.verdict.result ≡ result_at (find_public t count public)
    unfolding decide_by judged_by performed_by plan_read mar_plan authenticate authenticate_found
    decided_is = rw (read.read, read.inside, mar)

    found_result : (f : Option ℕ) → find_public t count public ≡ f → result_of x ≡ result_at f
    found_result f e = result_counted x count sound ∙ decided_is ∙ ap result_at e

    found_none : (f : Option ℕ) → find_public t count public ≡ f → result_at f ≡ Base 5012 → NoneToSend x count
    unfolding claimed_of claimed_at private_at
    found_none None e r = absurd (true≢false (sym (claim_unable (claimed None) 0 sending r).0))
    found_none (Some k) e r =
        let c = claim_unable (claimed (Some k)) k sending r in
        let o : Only t count public k = found_only t count public (lent_sound x count sound) k e in
        record {
          seen = seen;
          read = read;
          block = k;
          public = record { from = o.from; to = o.to; name = o.named };
          private = same_eq _ _ c.1;
          served = same_eq _ _ c.2;
          none = sent_none x.vectors user (value_seen seen number_auth_items) c.3;
        }

    unknown : ((k : ℕ) → Stands t count k public → ⊥) ⊎ ((k : ℕ) → Belongs t count k user → ⊥) → result_of x ≡ Experimental 5001
    unfolding claimed_of claimed_at
    unknown (inl none) =
        let e : find_public t count public ≡ None = no_found t count public (λ j a b q. none j (record { from = a; to = b; name = q })) in
        found_result None e ∙ unknown_claim (claimed None) 0 sending refl
    unknown (inr none) = go (find_public t count public) refl
      where
        go : (f : Option ℕ) → find_public t count public ≡ f → result_of x ≡ Experimental 5001
        go None e = found_result None e ∙ unknown_claim (claimed None) 0 sending refl
        go (Some k) e = found_result (Some k) e ∙ unknown_claim (claimed (Some k)) k sending (none_known t count user none)

    apart : (k j : ℕ) → Stands t count k public → Belongs t count j user → private_at t k ≢ user → result_of x ≡ Experimental 5002
    unfolding claimed_of claimed_at private_at
    apart k j s b n =
        found_result (Some k) (stands_found t count (lent_sound x count sound) k public s)
        ∙ apart_claim (claimed (Some k)) k sending (belongs_known t count j user b) (same_no _ _ n)

    -- the two identities stand together in block k
    module _ (k : ℕ) (s : Stands t count k public) (p : private_at t k ≡ user) where
      user_known_lem : is_at (find_private t count user) ≡ true
      user_known_lem = belongs_known t count k user (record { from = s.from; to = s.to; name = p })

      unserved : scheme_of seen ≢ scheme → result_of x ≡ Experimental 5006
      unfolding claimed_of claimed_at private_at
      unserved n =
          found_result (Some k) (stands_found t count (lent_sound x count sound) k public s)
          ∙ unserved_claim (claimed (Some k)) k sending user_known_lem (same_yes _ _ p) (same_no _ _ n)

      none_given : scheme_of seen ≡ scheme → (value_seen seen number_auth_items ≡ 0) ⊎ AllUsed x.vectors user → result_of x ≡ Base 5012
      unfolding claimed_of claimed_at private_at
      none_given q n =
          found_result (Some k) (stands_found t count (lent_sound x count sound) k public s)
          ∙ unable_claim (claimed (Some k)) k sending user_known_lem (same_yes _ _ p) (same_yes _ _ q)
          (none_sent_lem x.vectors user (value_seen seen number_auth_items) n)

  pub challenge_only : result_of x ≡ Base 5012 → NoneToSend x count
  unfolding is_one
  challenge_only r =
      let u = decided_upon (dialect_in x) x.request t count x.vectors 5012 refl (sym (result_counted x count sound) ∙ r) in
      let f = find_public t count (data_seen u.seen public_identity) in
      found_none u.seen u.decides f refl (sym (found_result u.seen u.decides f refl) ∙ r)

  pub challenge_given : NoneToSend x count → result_of x ≡ Base 5012
  challenge_given n = none_given n.seen n.read n.block n.public n.private n.served n.none

  pub challenge_unknown : (seen : Seen) → Decides (dialect_in x) x.request seen
      → ((k : ℕ) → Stands t count k (data_seen seen public_identity) → ⊥) ⊎ ((k : ℕ) → Belongs t count k (data_seen seen user_name) → ⊥)
      → result_of x ≡ Experimental 5001
  challenge_unknown = unknown

  pub challenge_apart : (seen : Seen) → Decides (dialect_in x) x.request seen → (k j : ℕ) → Stands t count k (data_seen seen public_identity)
      → Belongs t count j (data_seen seen user_name) → private_at t k ≢ data_seen seen user_name → result_of x ≡ Experimental 5002
  challenge_apart = apart

  pub challenge_unserved : (seen : Seen) → Decides (dialect_in x) x.request seen → (k : ℕ) → Stands t count k (data_seen seen public_identity)
      → private_at t k ≡ data_seen seen user_name → scheme_of seen ≢ scheme → result_of x ≡ Experimental 5006
  challenge_unserved = unserved
