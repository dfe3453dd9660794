-- Tables that agree block by block in what a request can see: the records to be seen as one have one number, so that whatever is asked, what is planned is
-- the same.
use Rattle.std.specs.Prelude.{Option, Some, None}
use Rattle.octets.specs.Standard.{ℕ, zero, suc, ◌≤◌, Bool, true, false, cond, ◌≡◌, refl, sym, ◌∙◌, ap, inl, inr, List, [], ◌∷◌, ◌++◌, arith}
use Rattle.octets.specs.Name.{same}
use Rattle.record.specs.HeaderBlock.{header_of}
use Rattle.record.specs.Sets.{same_set}
use Rattle.blocks.specs.Blocks.{block_of}
use Rattle.table.specs.Named.{public_at, private_at}
use Rattle.table.specs.SoundTable.{SoundTable}
use Rattle.table.proofs.Sound.{sound_header_lem, sound_networks_lem, sound_place_lem, sound_limits_lem}
use Rattle.lookup.specs.Among.{Among}
use Rattle.lookup.specs.Find.{find_public, private_is}
use Rattle.lookup.proofs.Among.{public_among}
use Rattle.lookup.proofs.Halves.{find_alike}
use Rattle.diameter.specs.Put.{All}
use Rattle.diameter.specs.Message.{body_of}
use Rattle.reading.specs.Rules.{Seen}
use Rattle.reading.specs.declared.Dialect.{Dialect}
use Rattle.requests.specs.Features.{beyond_set}
use Rattle.requests.specs.Judged.{Judged, bad, fine}
use Rattle.requests.specs.Request.{read_in, identities}
use Rattle.choices.specs.declared.Given.{Given}
use Rattle.choices.specs.declared.plan.Deed.{Deed}
use Rattle.choices.specs.declared.plan.Deed.TheVariants.{Leave, Settle, Challenge}
use Rattle.choices.specs.declared.plan.Plan.{Plan}
use Rattle.assignment.specs.Assignment.{Assignment, planned_records}
use Rattle.deciding.specs.Plans.{assignment_of, plan_read}
use Rattle.deciding.specs.Rules.{in_force}
use Rattle.deciding.specs.Decide.{Decision, performed_by, judged_by, decide_by, decide}
use Rattle.deciding.proofs.Tests as tests
use Rattle.deciding.specs.Deeds.{spent_by}
use Rattle.seen_alike.specs.Alike.{AlikeTables}
use Rattle.seen_alike.specs.Shown.{SameRecord, SameSight, numbers_up_to, Each, FoundAlike, BlockAlike}
use Rattle.seen_alike.proofs.Fields.{header_same, record_same}
use Rattle.seen_alike.proofs.Rows.{numbers_same}
use Rattle.seen_alike.proofs.Lookups.{set_alike}
use Rattle.seen_alike.proofs.Decisions.{GivenAlike, DeedAlike, PlanAlike}
use Rattle.seen_alike.proofs.Assignments.{planned_each}
use Rattle.seen_alike.proofs.Plans.{Asks, assignment_same, plan_alike}

-- one of so many records; the same one in both tables; any name is asked for
abbrev pub Ranged : ℕ → ℕ → Type 0
Ranged count k = (1 ≤ k) × (k ≤ count)

abbrev pub Together : ℕ → ℕ → ℕ → Type 0
Together count j k = (j ≡ k) × Ranged count j

abbrev pub Any : List ℕ → Type 0
Any name = Unit

all_any : (avps : List (List ℕ)) → All (λ (a : List ℕ). Unit) avps
all_any [] = tt
all_any (a ∷ avps) = (tt, all_any avps)

pub asks_any : (dialect : Dialect) (req : List ℕ) (seen : Seen) → Asks dialect req seen Any Any
asks_any dialect req seen = record { one = λ n. tt; all = λ e. all_any (identities (body_of req)); user = λ e. tt }

-- Rows of records are together with themselves, and with no others.
module _ (count : ℕ) where
  all_append : (P : ℕ → Type 0) (xs ys : List ℕ) → All P xs → All P ys → All P (xs ++ ys)
  all_append P [] ys a b = b
  all_append P (x ∷ xs) ys a b = (a.0, all_append P xs ys a.1 b)

  pub numbers_ranged : (p : ℕ → Bool) (n : ℕ) → n ≤ count → All (Ranged count) (numbers_up_to p n)
  unfolding numbers_up_to
  numbers_ranged p zero h = tt
  numbers_ranged p (suc n) h = all_append (Ranged count) (numbers_up_to p n) _ (numbers_ranged p n (omega arith)) (go (p (suc n)))
    where
      go : (x : Bool) → All (Ranged count) (cond x (suc n ∷ []) [])
      go true = ((omega arith, h), tt)
      go false = tt

  each_self : (ks : List ℕ) → All (Ranged count) ks → Each (Together count) ks ks
  each_self [] a = tt
  each_self (k ∷ ks) a = ((refl, a.0), each_self ks a.1)

  each_same : (js ks : List ℕ) → Each (Together count) js ks → js ≡ ks
  each_same [] [] e = refl
  each_same [] (k ∷ ks) e = absurd e
  each_same (j ∷ js) [] e = absurd e
  each_same (j ∷ js) (k ∷ ks) (l, e) = rw (l.0, each_same js ks e)

  each_ranged : (js ks : List ℕ) → Each (Together count) js ks → All (Ranged count) js
  each_ranged [] [] e = tt
  each_ranged [] (k ∷ ks) e = absurd e
  each_ranged (j ∷ js) [] e = absurd e
  each_ranged (j ∷ js) (k ∷ ks) (l, e) = (l.1, each_ranged js ks e)

  found_self : (f : Option ℕ) → Among count f → FoundAlike (Together count) f f
  found_self (Some k) among = (refl, (among.from k refl, among.to k refl))
  found_self None among = tt

  -- plans that are alike are the same
  block_same : (j k : ℕ) → BlockAlike (Together count) j k → j ≡ k
  block_same j k (inl (a, b)) = a ∙ sym b
  block_same j k (inr l) = l.0

  given_equal : (g h : Given) → GivenAlike (Together count) g h → g ≡ h
  given_equal g h a =
      λ i.
      record {
        verdict = a.verdict i;
        user = block_same g.user h.user a.user i;
        public = block_same g.public h.public a.public i;
        server = block_same g.server h.server a.server i;
        capable = block_same g.capable h.capable a.capable i;
        profile = block_same g.profile h.profile a.profile i;
        sent = a.sent i;
      }

  deed_equal : (d e : Deed) → DeedAlike (Together count) d e → d ≡ e
  deed_equal Leave Leave a = refl
  deed_equal Leave (Settle z) a = absurd a
  deed_equal Leave (Challenge k) a = absurd a
  deed_equal (Settle w) Leave a = absurd a
  deed_equal (Settle w) (Settle z) a = ap Settle a
  deed_equal (Settle w) (Challenge k) a = absurd a
  deed_equal (Challenge j) Leave a = absurd a
  deed_equal (Challenge j) (Settle z) a = absurd a
  deed_equal (Challenge j) (Challenge k) a = ap Challenge a.0

  plan_equal : (p q : Plan) → PlanAlike (Together count) p q → p ≡ q
  plan_equal p q a = λ i. record { given = given_equal p.given q.given a.given i; deed = deed_equal p.deed q.deed a.deed i }

-- One of the two tables is sound.
module _ (t u : List ℕ) (count : ℕ) (sound : SoundTable t count) (alike : AlikeTables t u count) where
  module _ (file : List ℕ) where
    each : (k : ℕ) → 1 ≤ k → k ≤ count → SameRecord file file (block_of t k) (block_of u k)
    each k a b = record_same (block_of t k) (block_of u k) (alike.blocks k b) file (sound_limits_lem t count sound k a b)

    found : (name : List ℕ) → FoundAlike (Together count) (find_public t count name) (find_public u count name)
    unfolding public_at
    found name =
        rw (← find_alike t u count name (λ k a b. (each k a b).public))
        (found_self count (find_public t count name) (public_among t count name refl))

    owned : (name : List ℕ) → Each (Together count) (numbers_up_to (private_is t name) count) (numbers_up_to (private_is u name) count)
    unfolding private_is private_at
    owned name =
        rw (← numbers_same (private_is t name) (private_is u name) count (λ k a b. ap (λ (l : List ℕ). same l name) (each k a b).private))
        (each_self count (numbers_up_to (private_is t name) count) (numbers_ranged count (private_is t name) count (omega arith)))

    pub tables_sight : SameSight file file t u count count (Together count) Any Any
    unfolding header_of
    tables_sight =
        record {
          header =
              header_same (block_of t 0) (block_of u 0) (alike.blocks 0 (omega arith)) (sound_header_lem t count sound).host (sound_header_lem t count sound).realm
              (sound_networks_lem t count sound refl) (sound_place_lem t count sound refl);
          shown = λ j k l. rw (← l.0) (each j l.1.0 l.1.1);
          first = λ j k l. l.1.0;
          second = λ j k l. rw l.0 at l.1.0;
          found = λ name p. found name;
          owned = λ name p. owned name;
          owner = λ name p k e. tt;
        }

  sight : SameSight [] [] t u count count (Together count) Any Any
  sight = tables_sight []

  pub set_same : (j k : ℕ) → 1 ≤ j → j ≤ count → 1 ≤ k → k ≤ count → same_set (block_of t j) (block_of t k) ≡ same_set (block_of u j) (block_of u k)
  set_same j k a b c d = set_alike sight j k j k (refl, (a, b)) (refl, (c, d))

  -- the records that a SAR means
  module _ (s : Assignment) (owned : Bool) where
    row : Each (Together count) (planned_records t count s owned) (planned_records u count s owned)
    row = planned_each sight s (all_any s.identities) (λ e. tt) owned (λ e. tt)

    pub planned_same : planned_records t count s owned ≡ planned_records u count s owned
    planned_same = each_same count (planned_records t count s owned) (planned_records u count s owned) row

    pub planned_ranged : All (Ranged count) (planned_records t count s owned)
    planned_ranged = each_ranged count (planned_records t count s owned) (planned_records u count s owned) row

  -- the plan, and but for the table the decision
  module _ (dialect : Dialect) (req v : List ℕ) where
    pub numbers_alike : (seen : Seen) → assignment_of req t seen ≡ assignment_of req u seen
    numbers_alike = assignment_same sight dialect req v v (λ e. refl)

    pub plan_same : (seen : Seen) → read_in dialect req ≡ fine seen → plan_read dialect req t count v seen ≡ plan_read dialect req u count v seen
    plan_same seen e =
        plan_equal count (plan_read dialect req t count v seen) (plan_read dialect req u count v seen)
        (plan_alike sight dialect req v v (λ e. refl) seen (asks_any dialect req seen) e)

    pub given_same : (decide dialect req t count v).given ≡ (decide dialect req u count v).given
    unfolding decide_by judged_by performed_by
    given_same = go (read_in dialect req) refl
      where
        go : (j : Judged) → read_in dialect req ≡ j → (judged_by in_force dialect req t count v j).given ≡ (judged_by in_force dialect req u count v j).given
        go (bad f) e = refl
        go (fine seen) e =
            tests.each (λ (d b : Decision). d.given ≡ b.given) (beyond_set dialect.terms req) refl (ap (λ (p : Plan). p.given) (plan_same seen e))

    pub vectors_same : (decide dialect req t count v).vectors ≡ (decide dialect req u count v).vectors
    unfolding decide_by judged_by performed_by
    vectors_same = go (read_in dialect req) refl
      where
        go : (j : Judged) → read_in dialect req ≡ j → (judged_by in_force dialect req t count v j).vectors ≡ (judged_by in_force dialect req u count v j).vectors
        go (bad f) e = refl
        go (fine seen) e =
            tests.each (λ (d b : Decision). d.vectors ≡ b.vectors) (beyond_set dialect.terms req) refl
            (ap (λ (p : Plan). spent_by v p.given.sent p.deed) (plan_same seen e))
