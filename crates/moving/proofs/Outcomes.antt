-- What comes of a move, by its conditions, and the other way round.
use Rattle.std.specs.Prelude.{Result, Ok, Err}
use Rattle.octets.specs.Standard.{ℕ, ◌^◌, ◌<◌, ◌≤◌, Bool, true, false, ◌&&◌, ◌||◌, true≢false, or-true, ◌≡◌, refl, sym, ◌∙◌, ap, List, ◌≢◌, inl, inr}
use Rattle.octets.specs.Standard.{arith, eqb, eq-eqb, ne_eqb, eqb-true, eqb-false}
use Rattle.octets.proofs.Numbers.{Bytes}
use Rattle.record.specs.Fields.{edition_of, issue_of, set_of}
use Rattle.record.specs.HeaderBlock.{header_of}
use Rattle.record.specs.RecordBlock.{record_of}
use Rattle.record.proofs.Alike.{SameRun, SameFields, fields_same, profile_same, host_same, realm_same, network_same, run_within}
use Rattle.record.proofs.Tests.{HeaderTests}
use Rattle.blocks.specs.Blocks.{block_of}
use Rattle.table.specs.Check.{check_table}
use Rattle.table.specs.SoundTable.{SoundTable}
use Rattle.blocks.proofs.First.{good_each, all_good, FirstNot, bad_says, bad_holds}
use Rattle.table.proofs.Sound.{TableTests, table_says, sound_networks_lem, sound_place_lem, tests_record, tests_limits}
use Rattle.moving.specs.Moves.{moved_all, no_set, first_set}
use Rattle.moving.specs.Carried.{Carried}
use Rattle.moving.specs.Outcomes.{AfterMove, came, refusing, moving, forward_sound, back_past, back_sound, forward_checked, back_checked, forward}
use Rattle.moving.specs.Outcomes.{back}
use Rattle.moving.specs.Conditions.{ForwardMoves, BackMoves, ForwardRefuses, BackRefuses, FirstWithSet, WithoutSets, RecordMoved, HeaderMoved}
use Rattle.moving.specs.Conditions.{TableMoved}
use Rattle.moving.specs.Outcomes.{Move, refused}
use Rattle.moving.specs.declared.Refusal.{Refusal}
use Rattle.moving.proofs.Carried.{first_run, fields_run, record_same, header_same, set_same}
use Rattle.moving.proofs.Moved.{header_tests, header_edition, each_edition, moved_size, each_carried, edition_new, issue_new, moved_sound}
use Rattle.moving.proofs.Moved.{there_again}

-- Two outcomes of one input are one.
pub came_same : {r s : Move} {x y : List ℕ} → came r x ≡ came s y → (r ≡ s) × (x ≡ y)
came_same e = (ap (λ (o : AfterMove). o.move) e, ap (λ (o : AfterMove). o.table) e)

never : {A : Type 0} (n number block : ℕ) → ◌≡◌ {A = Move} (Ok n) (refused number block) → A
never n number block e = let z : ◌≡◌ {A = ℕ} 0 1 = cc in absurd (omega arith)

same_numbers : (n k number block : ℕ) → refused n k ≡ refused number block → (n ≡ number) × (k ≡ block)
same_numbers n k number block e =
    let r : ◌≡◌ {A = Refusal} (record { number = n; block = k }) (record { number = number; block = block }) = cc in
    (ap (λ (x : Refusal). x.number) r, ap (λ (x : Refusal). x.block) r)

same_count : (n m : ℕ) → ◌≡◌ {A = Move} (Ok n) (Ok m) → n ≡ m
same_count n m e = cc

-- The sets.
module _ (t : List ℕ) (count : ℕ) where
  pub sets_none : WithoutSets t count → first_set t count ≡ Ok count
  unfolding first_set no_set
  sets_none h = all_good (no_set t) count count 1 (λ k a b. eq-eqb _ _ (h k a (omega arith)))

  pub none_sets : (n : ℕ) → first_set t count ≡ Ok n → WithoutSets t count
  unfolding first_set no_set
  none_sets n e k a b = eqb-true _ _ (good_each (no_set t) count n count 1 e k a (omega arith))

  pub sets_first : (k : ℕ) → FirstWithSet t count k → first_set t count ≡ Err k
  unfolding first_set no_set
  sets_first k f =
      bad_holds (no_set t) count count 1 k
      (record {
        from = f.from;
        to = omega (arith, f.to);
        here = ne_eqb _ _ f.here;
        before = λ j a b. eq-eqb _ _ (f.before j a b);
      })

  pub first_sets : (k : ℕ) → first_set t count ≡ Err k → FirstWithSet t count k
  unfolding first_set no_set
  first_sets k e =
      let s : FirstNot (no_set t) count 1 k = bad_says (no_set t) count count 1 k e in
      record {
        from = s.from;
        to = omega (arith, s.to);
        here = eqb-false _ _ s.here;
        before = λ j a b. eqb-true _ _ (s.before j a b);
      }

-- What comes of a move under each condition.
module _ (t : List ℕ) (file : ℕ) where
  abbrev edition : ℕ
  edition = edition_of (block_of t 0)

  pub forward_unsound : (issue k : ℕ) → check_table t file ≡ Err k → forward t file issue ≡ refusing t 5 k
  unfolding forward forward_checked
  forward_unsound issue k e = rw e

  pub back_unsound : (k : ℕ) → check_table t file ≡ Err k → back t file ≡ refusing t 5 k
  unfolding back back_checked
  back_unsound k e = rw e

  module _ (count : ℕ) (e : check_table t file ≡ Ok count) where
    pub forward_is : (issue : ℕ) → edition ≡ 1 → forward t file issue ≡ moving t count 2 issue
    unfolding forward forward_checked forward_sound
    forward_is issue f = rw (e, f)

    pub forward_not : (issue : ℕ) → edition ≢ 1 → forward t file issue ≡ refusing t 5 0
    unfolding forward forward_checked forward_sound
    forward_not issue f = rw (e, ne_eqb edition 1 f)

    pub back_not : edition ≢ 2 → back t file ≡ refusing t 5 0
    unfolding back back_checked back_sound
    back_not f = rw (e, ne_eqb edition 2 f)

    pub back_sets : edition ≡ 2 → (k : ℕ) → FirstWithSet t count k → back t file ≡ refusing t 8 k
    unfolding back back_checked back_sound back_past
    back_sets f k s = rw (e, f, sets_first t count k s)

    pub back_is : edition ≡ 2 → WithoutSets t count → back t file ≡ moving t count 1 0
    unfolding back back_checked back_sound back_past
    back_is f s = rw (e, f, sets_none t count s)

-- The only ways there are: what is so of an outcome if a count is told, and if a refusal is.
abbrev Forwards : List ℕ → ℕ → ℕ → AfterMove → Type 0
Forwards t file issue o =
    ((n : ℕ) → o.move ≡ Ok n → ForwardMoves t file issue n o)
    × ((number block : ℕ) → o.move ≡ refused number block → ForwardRefuses t file number block × (o.table ≡ t))

abbrev Backs : List ℕ → ℕ → AfterMove → Type 0
Backs t file o =
    ((n : ℕ) → o.move ≡ Ok n → BackMoves t file n o)
    × ((number block : ℕ) → o.move ≡ refused number block → BackRefuses t file number block × (o.table ≡ t))

pub forward_ways : (t : List ℕ) (file issue : ℕ) → Forwards t file issue (forward t file issue)
forward_ways t file issue = go (check_table t file) refl
  where
    went : (count : ℕ) → check_table t file ≡ Ok count → (x : Bool) → eqb (edition_of (block_of t 0)) 1 ≡ x → Forwards t file issue (forward t file issue)
    went count e true f =
        let d : edition_of (block_of t 0) ≡ 1 = eqb-true _ _ f in
        rw (forward_is t file count e issue d) (
          (λ n g. let m : count ≡ n = same_count count n g in rw (← m) (record { checked = e; edition = d; is = refl })),
          (λ number block g. never count number block g),
        )
    went count e false f =
        let d : edition_of (block_of t 0) ≢ 1 = eqb-false _ _ f in
        rw (forward_not t file count e issue d) (
          (λ n g. never n 5 0 (sym g)),
          (λ number block g.
              let m = same_numbers 5 0 number block g in
              ((sym m.0, inr (record { count = count; checked = e; other = d }, sym m.1)), refl)),
        )

    go : (c : Result ℕ ℕ) → check_table t file ≡ c → Forwards t file issue (forward t file issue)
    go (Ok count) e = went count e (eqb (edition_of (block_of t 0)) 1) refl
    go (Err k) e =
        rw (forward_unsound t file issue k e) (
          (λ n g. never n 5 k (sym g)),
          (λ number block g. let m = same_numbers 5 k number block g in ((sym m.0, inl (e ∙ ap Err m.1)), refl)),
        )

pub back_ways : (t : List ℕ) (file : ℕ) → Backs t file (back t file)
back_ways t file = go (check_table t file) refl
  where
    past : (count : ℕ) → check_table t file ≡ Ok count → edition_of (block_of t 0) ≡ 2 → (c : Result ℕ ℕ) → first_set t count ≡ c → Backs t file (back t file)
    past count e d (Ok c) f =
        let s : WithoutSets t count = none_sets t count c f in
        rw (back_is t file count e d s) (
          (λ n g. let m : count ≡ n = same_count count n g in rw (← m) (record { checked = e; edition = d; sets = s; is = refl })),
          (λ number block g. never count number block g),
        )
    past count e d (Err k) f =
        let s : FirstWithSet t count k = first_sets t count k f in
        rw (back_sets t file count e d k s) (
          (λ n g. never n 8 k (sym g)),
          (λ number block g.
              let m = same_numbers 8 k number block g in
              (inr (sym m.0, rw (← m.1) (record { count = count; checked = e; edition = d; first = s })), refl)),
        )

    went : (count : ℕ) → check_table t file ≡ Ok count → (x : Bool) → eqb (edition_of (block_of t 0)) 2 ≡ x → Backs t file (back t file)
    went count e true f = past count e (eqb-true _ _ f) (first_set t count) refl
    went count e false f =
        let d : edition_of (block_of t 0) ≢ 2 = eqb-false _ _ f in
        rw (back_not t file count e d) (
          (λ n g. never n 5 0 (sym g)),
          (λ number block g.
              let m = same_numbers 5 0 number block g in
              (inl (sym m.0, inr (record { count = count; checked = e; other = d }, sym m.1)), refl)),
        )

    go : (c : Result ℕ ℕ) → check_table t file ≡ c → Backs t file (back t file)
    go (Ok count) e = went count e (eqb (edition_of (block_of t 0)) 2) refl
    go (Err k) e =
        rw (back_unsound t file k e) (
          (λ n g. never n 5 k (sym g)),
          (λ number block g. let m = same_numbers 5 k number block g in (inl (sym m.0, inl (e ∙ ap Err m.1)), refl)),
        )

-- A moved table: sound, with the same records; and there and back.
first_edition : (e n : ℕ) → e ≡ 1 → (eqb e 1 && eqb n 0 || eqb e 2) ≡ true → n ≡ 0
first_edition e n d f = go (eqb n 0) refl (rw d at f)
  where
    go : (x : Bool) → eqb n 0 ≡ x → (eqb 1 1 && eqb n 0 || eqb 1 2) ≡ true → n ≡ 0
    go true g h = eqb-true n 0 g
    go false g h = absurd (true≢false (sym (rw g at h)))

pub small : 0 < 2 ^ 32
small = omega arith

module _ (t : List ℕ) (file count : ℕ) (e : check_table t file ≡ Ok count) where
  was : TableTests t file count
  was = table_says t file count e

  -- edition 1 has no set and no issue number
  pub none_first : edition_of (block_of t 0) ≡ 1 → WithoutSets t count
  unfolding record_of header_of
  none_first d k a b = go (eqb (set_of (block_of t k)) 0) refl
    where
      is : edition_of (block_of t k) ≡ 1
      is = each_edition t file count was k b ∙ d

      go : (x : Bool) → eqb (set_of (block_of t k)) 0 ≡ x → set_of (block_of t k) ≡ 0
      go true f = eqb-true _ _ f
      go false f = absurd (true≢false (sym (rw (f, is) at (tests_record t file count was k a b).set)))

  issue_first : edition_of (block_of t 0) ≡ 1 → issue_of (block_of t 0) ≡ 0
  unfolding header_of
  issue_first d = first_edition (edition_of (block_of t 0)) (issue_of (block_of t 0)) d (header_edition t file count was)

  -- moved to any edition and issue number
  module _ (edition issue : ℕ) (small : issue < 2 ^ 32) where
    abbrev y : List ℕ
    y = moved_all t count edition issue

    carried : (k : ℕ) → k ≤ count → Carried (block_of t k) (block_of y k)
    carried = each_carried t count edition issue was.size

    record_is : (k : ℕ) → 1 ≤ k → k ≤ count → RecordMoved (block_of t k) (block_of y k) edition issue
    record_is k a b =
        let p : Carried (block_of t k) (block_of y k) = carried k b in
        let f : SameFields (block_of t k) (block_of y k) =
        fields_same (block_of t k) (block_of y k) (fields_run (block_of t k) (block_of y k) p) (tests_limits t file count was k a b) in
        record {
          bytes = p;
          numbers =
              record_same (block_of t k) (block_of y k) p
              ∙ rw (edition_new t count edition issue was.size k b, issue_new t count edition issue was.size small k b);
          public = f.public;
          private = f.private;
          server = f.server;
          mandatory = f.mandatory;
          optional = f.optional;
          profile =
              profile_same (block_of t k) (block_of y k)
              (run_within (block_of t k) (block_of y k) (first_run (block_of t k) (block_of y k) p) 400 406 (omega arith) (omega arith));
        }

    header_is : HeaderMoved (block_of t 0) (block_of y 0) edition issue
    unfolding header_of
    header_is =
        let p : Carried (block_of t 0) (block_of y 0) = carried 0 (omega arith) in
        let r : SameRun (block_of t 0) (block_of y 0) 8 400 = fields_run (block_of t 0) (block_of y 0) p in
        let l : HeaderTests (block_of t 0) = header_tests t file count was in
        let s : SoundTable t count = record { file = file; checked = e } in
        record {
          bytes = p;
          numbers =
              header_same (block_of t 0) (block_of y 0) p
              ∙ rw (edition_new t count edition issue was.size 0 (omega arith), issue_new t count edition issue was.size small 0 (omega arith));
          host = host_same (block_of t 0) (block_of y 0) r l.host;
          realm = realm_same (block_of t 0) (block_of y 0) r l.realm;
          networks = λ i h. network_same (block_of t 0) (block_of y 0) r i (omega (arith, sound_networks_lem t count s refl)) (sound_place_lem t count s refl i h);
        }

    pub moved_keeps : TableMoved t y count edition issue
    moved_keeps = record { size = moved_size t count edition issue was.size; header = header_is; records = record_is }

  -- forward
  module _ (issue : ℕ) (small : issue < 2 ^ 32) where
    pub forward_sound_lem : check_table (moved_all t count 2 issue) file ≡ Ok count
    forward_sound_lem = moved_sound t file count 2 issue was small (or-true (eqb 2 1 && eqb issue 0)) (λ k a b. or-true (eqb (set_of (block_of t k)) 0))

    forward_edition : edition_of (block_of (moved_all t count 2 issue) 0) ≡ 2
    forward_edition = edition_new t count 2 issue was.size 0 (omega arith)

    forward_none : edition_of (block_of t 0) ≡ 1 → WithoutSets (moved_all t count 2 issue) count
    forward_none d k a b = set_same (block_of t k) (block_of (moved_all t count 2 issue) k) (carried 2 issue small k b) ∙ none_first d k a b

    pub forward_back : Bytes t → edition_of (block_of t 0) ≡ 1 → back (forward t file issue).table file ≡ came (Ok count) t
    forward_back bytes d =
        rw (forward_is t file count e issue d)
        (back_is (moved_all t count 2 issue) file count forward_sound_lem forward_edition (forward_none d)
        ∙ ap (came (Ok count)) (rw (d, issue_first d) at (there_again t file count 2 issue was bytes)))

  -- back
  module _ (sets : WithoutSets t count) where
    pub back_sound_lem : check_table (moved_all t count 1 0) file ≡ Ok count
    back_sound_lem = moved_sound t file count 1 0 was (omega arith) refl (λ k a b. rw (sets k a b))

    back_edition : edition_of (block_of (moved_all t count 1 0) 0) ≡ 1
    back_edition = edition_new t count 1 0 was.size 0 (omega arith)

    pub back_forward : Bytes t → edition_of (block_of t 0) ≡ 2 → forward (back t file).table file (issue_of (block_of t 0)) ≡ came (Ok count) t
    back_forward bytes d =
        rw (back_is t file count e d sets)
        (forward_is (moved_all t count 1 0) file count back_sound_lem (issue_of (block_of t 0)) back_edition
        ∙ ap (came (Ok count)) (rw d at (there_again t file count 1 0 was bytes)))
