-- "B5003 now exactly when the identity is barred and no non-barred one shares its nonzero set; its place is the same": the result of a UAR.
use Rattle.std.specs.Prelude.{Result, Ok, Option, Some, None}
use Rattle.octets.specs.Standard.{ℕ, ◌≤◌, List, Bool, true, false, true≢false, ◌≡◌, refl, sym, ap, subst, ◌∙◌, ◌⊎◌, inl, inr, ◌≢◌, arith, length}
use Rattle.octets.proofs.Names.{same_eq, same_yes, same_no}
use Rattle.record.specs.Fields.{bits_of, barred}
use Rattle.record.specs.Sets.{same_set}
use Rattle.record.proofs.OneSet.{OneSet, set_says, set_holds}
use Rattle.blocks.specs.Blocks.{block_of}
use Rattle.blocks.specs.Changed.{is_one}
use Rattle.table.specs.Named.{public_at, private_at}
use Rattle.table.specs.SoundTable.{SoundTable}
use Rattle.lookup.specs.Find.{is_at, block_found, find_public, find_private, private_is, barred_alone}
use Rattle.lookup.proofs.First.{first_none, first_some}
use Rattle.lookup.proofs.Halves.{Only, one_block, found_only, only_found, no_found}
use Rattle.diameter.specs.Message.{command_of}
use Rattle.reading.specs.Kinds.{user_name, public_identity, visited_network, authorization_type}
use Rattle.reading.specs.Rules.{Seen}
use Rattle.reading.specs.declared.Outcome.{Outcome}
use Rattle.reading.specs.declared.Outcome.TheVariants.{Base, Experimental}
use Rattle.requests.specs.Judged.{fine}
use Rattle.requests.specs.Request.{data_seen, value_seen}
use Rattle.choices.specs.Choices.{authorization}
use Rattle.choices.specs.declared.choice.Asked.{Asked}
use Rattle.questions.specs.Authorization.{asked_at, asked_of, authorize_found, authorize}
use Rattle.questions.specs.Carried.{carried}
use Rattle.deciding.specs.Plans.{uar_plan, plan_read}
use Rattle.deciding.specs.Decide.{performed_by, judged_by, decide_by}
use Rattle.calling.specs.Lent.{Lent, dialect_in}
use Rattle.refusals.specs.Early.{check_value}
use Rattle.calling.specs.Serve.{check_of, decision, decided, result_of}
use Rattle.older_rules.proofs.Sets.{AllBarred, barred_says, barred_holds}
use Rattle.demands.specs.Call.{Decides}
use Rattle.demands.specs.Sets.{Shares, BarredAlone, Stands, Belongs, Barred}
use Rattle.demands.proofs.Results.{decided_upon, barred_asked, asked_unknown, asked_apart, asked_barred}

-- The two ways to say that records share a set.
pub shares_says : (t : List ℕ) (k j : ℕ) → same_set (block_of t k) (block_of t j) ≡ true → Shares t k j
shares_says t k j e =
    let s : OneSet (block_of t k) (block_of t j) = set_says (block_of t k) (block_of t j) e in
    record { nonzero = s.numbered; number = s.number; subscription = s.private }

pub shares_holds : (t : List ℕ) (k j : ℕ) → Shares t k j → same_set (block_of t k) (block_of t j) ≡ true
shares_holds t k j s = set_holds (block_of t k) (block_of t j) (record { numbered = s.nonzero; number = s.number; private = s.subscription })

module _ (t : List ℕ) (count : ℕ) where
  alone_says : (k : ℕ) → barred_alone t count (block_of t k) ≡ true → BarredAlone t count k
  alone_says k e =
      let s : AllBarred t count k = barred_says t count k e in
      record { own = s.own; others = λ j a b h. s.others j a b (shares_holds t k j h) }

  alone_holds : (k : ℕ) → BarredAlone t count k → barred_alone t count (block_of t k) ≡ true
  alone_holds k s = barred_holds t count k (record { own = s.own; others = λ j a b h. s.others j a b (shares_says t k j h) })

  -- the record of a public identity; whether some record has a private one
  pub stands_found : SoundTable t count → (k : ℕ) (public : List ℕ) → Stands t count k public → find_public t count public ≡ Some k
  stands_found sound k public s =
      only_found t count public k
      (record {
        from = s.from;
        to = s.to;
        named = s.name;
        alone = λ j a b q. one_block t count sound j k a s.from b s.to (q ∙ sym s.name);
      })

  pub belongs_known : (k : ℕ) (private : List ℕ) → Belongs t count k private → is_at (find_private t count private) ≡ true
  unfolding find_private private_is
  belongs_known k private b = sym (first_some (private_is t private) count k b.from b.to (same_yes _ _ b.name))

  pub none_known : (private : List ℕ) → ((k : ℕ) → Belongs t count k private → ⊥) → is_at (find_private t count private) ≡ false
  unfolding find_private private_is
  none_known private h =
      rw (first_none (private_is t private) count 1
      (λ j a b. same_no _ _ (λ q. h j (record { from = a; to = omega arith; name = q }))))

-- the table that is lent is sound, and the result of the call is that over as many records as it has
module _ (x : Lent) (count : ℕ) (sound : check_of x ≡ Ok count) where
  pub lent_sound : SoundTable x.table count
  lent_sound = record { file = length x.profile; checked = sound }

  pub result_counted : result_of x ≡ (decision x count).given.verdict.result
  result_counted = ap (λ (c : Result ℕ ℕ). (decision x (check_value c)).given.verdict.result) sound

module _ (x : Lent) (count : ℕ) (sound : check_of x ≡ Ok count) (uar : command_of x.request ≡ 300) where
  abbrev t : List ℕ
  t = x.table

  module _ (seen : Seen) (read : Decides (dialect_in x) x.request seen) where
    abbrev user : List ℕ
    user = data_seen seen user_name

    abbrev public : List ℕ
    public = data_seen seen public_identity

    abbrev asked : Option ℕ → Asked
    asked f = asked_of t count user (data_seen seen visited_network) f

    abbrev result_at : Option ℕ → Outcome
    result_at f = (carried t count user (block_found f) (authorization (asked f) (value_seen seen authorization_type))).verdict.result

    decided_is : (decision x count).given.verdict.result ≡ result_at (find_public t count public)
    unfolding decide_by judged_by performed_by plan_read uar_plan authorize authorize_found
    decided_is = rw (read.read, read.inside, uar)

    result_is : result_of x ≡ result_at (find_public t count public)
    result_is = result_counted x count sound ∙ decided_is

    found_result : (f : Option ℕ) → find_public t count public ≡ f → result_of x ≡ result_at f
    found_result f e = result_is ∙ ap result_at e

    found_barred : (f : Option ℕ) → find_public t count public ≡ f → result_at f ≡ Base 5003 → Barred x count
    unfolding asked_of asked_at private_at
    found_barred None e r = absurd (true≢false (sym (barred_asked (asked None) _ t count user 0 r).0))
    found_barred (Some k) e r =
        let a = barred_asked (asked (Some k)) _ t count user k r in
        let o : Only t count public k = found_only t count public (lent_sound x count sound) k e in
        record {
          seen = seen;
          read = read;
          block = k;
          public = record { from = o.from; to = o.to; name = o.named };
          private = same_eq _ _ a.1;
          alone = alone_says t count k a.2;
        }

    unknown : ((k : ℕ) → Stands t count k public → ⊥) ⊎ ((k : ℕ) → Belongs t count k user → ⊥) → result_of x ≡ Experimental 5001
    unfolding asked_of asked_at
    unknown (inl none) =
        let e : find_public t count public ≡ None = no_found t count public (λ j a b q. none j (record { from = a; to = b; name = q })) in
        found_result None e ∙ asked_unknown (asked None) _ t count user 0 refl
    unknown (inr none) = go (find_public t count public) refl
      where
        go : (f : Option ℕ) → find_public t count public ≡ f → result_of x ≡ Experimental 5001
        go None e = found_result None e ∙ asked_unknown (asked None) _ t count user 0 refl
        go (Some k) e = found_result (Some k) e ∙ asked_unknown (asked (Some k)) _ t count user k (none_known t count user none)

    apart : (k j : ℕ) → Stands t count k public → Belongs t count j user → private_at t k ≢ user → result_of x ≡ Experimental 5002
    unfolding asked_of asked_at private_at
    apart k j s b n =
        found_result (Some k) (stands_found t count (lent_sound x count sound) k public s)
        ∙ asked_apart (asked (Some k)) _ t count user k (belongs_known t count j user b) (same_no _ _ n)

  pub barred_only : result_of x ≡ Base 5003 → Barred x count
  unfolding is_one
  barred_only r =
      let u = decided_upon (dialect_in x) x.request t count x.vectors 5003 refl (sym (result_counted x count sound) ∙ r) in
      found_barred u.seen u.decides (find_public t count (data_seen u.seen public_identity)) refl (sym (result_is u.seen u.decides) ∙ r)

  pub barred_given : Barred x count → result_of x ≡ Base 5003
  unfolding asked_of asked_at private_at
  barred_given b =
      let f = asked b.seen b.read (Some b.block) in
      found_result b.seen b.read (Some b.block) (stands_found t count (lent_sound x count sound) b.block _ b.public)
      ∙ asked_barred f _ t count _ b.block
      (belongs_known t count b.block _ (record { from = b.public.from; to = b.public.to; name = b.private }))
      (same_yes _ _ b.private) (alone_holds t count b.block b.alone)

  pub barred_unknown : (seen : Seen) → Decides (dialect_in x) x.request seen
      → ((k : ℕ) → Stands t count k (data_seen seen public_identity) → ⊥) ⊎ ((k : ℕ) → Belongs t count k (data_seen seen user_name) → ⊥)
      → result_of x ≡ Experimental 5001
  barred_unknown = unknown

  pub barred_apart : (seen : Seen) → Decides (dialect_in x) x.request seen → (k j : ℕ) → Stands t count k (data_seen seen public_identity)
      → Belongs t count j (data_seen seen user_name) → private_at t k ≢ data_seen seen user_name → result_of x ≡ Experimental 5002
  barred_apart = apart

  -- every record of the set is barred then, whichever reading found the identity
  pub free_goes : (b : Barred x count) (seen : Seen) → Decides (dialect_in x) x.request seen → (k j : ℕ)
      → Stands t count k (data_seen seen public_identity)
      → 1 ≤ j → j ≤ count → Shares t k j → barred (bits_of (block_of t j)) ≡ true
  free_goes b seen read k j s from to h =
      let e : fine seen ≡ fine b.seen = sym read.read ∙ b.read.read in
      let same_seen : seen ≡ b.seen = cc in
      let name : public_at t k ≡ public_at t b.block = s.name ∙ ap (λ (l : Seen). data_seen l public_identity) same_seen ∙ sym b.public.name in
      let q : k ≡ b.block = one_block t count (lent_sound x count sound) k b.block s.from b.public.from s.to b.public.to name in
      b.alone.others j from to (subst (λ (i : ℕ). Shares t i j) q h)

  -- and where one is not, the record is not barred alone: with the User-Name in it, the answer carries what it does where nothing is barred
  pub free_given : (seen : Seen) → Decides (dialect_in x) x.request seen → (k j : ℕ) → Stands t count k (data_seen seen public_identity)
      → 1 ≤ j → j ≤ count → Shares t k j → barred (bits_of (block_of t j)) ≡ false → private_at t k ≡ data_seen seen user_name
      → (decided x).given
      ≡ carried t count (data_seen seen user_name) k
      (authorization (asked_at (block_of t 0) (block_of t k) true false (data_seen seen user_name) (data_seen seen visited_network))
      (value_seen seen authorization_type))
  unfolding decide_by judged_by performed_by plan_read uar_plan authorize authorize_found asked_of
  free_given seen read k j s from to h free p =
      ap (λ (c : Result ℕ ℕ). (decision x (check_value c)).given) sound
      ∙ rw (
        read.read,
        read.inside,
        uar,
        stands_found t count (lent_sound x count sound) k _ s,
        belongs_known t count k _ (record { from = s.from; to = s.to; name = p }),
        not_alone,
      )
    where
      not_alone : barred_alone t count (block_of t k) ≡ false
      not_alone = go (barred_alone t count (block_of t k)) refl
        where
          go : (y : Bool) → barred_alone t count (block_of t k) ≡ y → y ≡ false
          go true e = absurd (true≢false (sym ((alone_says t count k e).others j from to h) ∙ free))
          go false e = refl
