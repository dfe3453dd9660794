-- Sets (02 [6]), as theorems about `serve_table`, the check and the decisions. What the rules were before them is in specs/WithoutSets.
use Rattle.std.specs.Prelude.{Ok, Option, Some, None}
use Rattle.octets.specs.Standard.{ℕ, ◌*◌, ◌<◌, ◌≤◌, Bool, true, false, not, ◌&&◌, ◌||◌, true≢false, ◌≡◌, refl, sym, ◌∙◌, List, arith, eqb, leb}
use Rattle.octets.specs.Standard.{length, drop_of_length-le, eqb-true, leb-true, leb-false}
use Rattle.octets.specs.Number.{be16_at}
use Rattle.octets.proofs.All.{and_left, and_right}
use Rattle.record.specs.Fields.{edition_of, set_of, bits_of, barred}
use Rattle.record.specs.RecordBlock.{record_of}
use Rattle.record.specs.Sets.{same_set, agreeing}
use Rattle.blocks.specs.Blocks.{block_of}
use Rattle.table.specs.Check.{check_table}
use Rattle.table.specs.SoundTable.{SoundTable}
use Rattle.table.proofs.Sound.{TableTests, table_says, sound_agrees, tests_record}
use Rattle.lookup.specs.Find.{is_at, free_here, free_at, find_free, barred_alone}
use Rattle.lookup.proofs.First.{first_none, first_fails}
use Rattle.rewrite.proofs.Reaching.{header_set}
use Rattle.moving.proofs.Moved.{each_edition}
use Rattle.choices.specs.declared.types.AssignmentType.{AssignmentType}
use Rattle.assignment.specs.Assignment.{stores_at, fits_at, right_at}
use Rattle.deciding.specs.Rules.{in_force}
use Rattle.calling.specs.Lent.{Lent, dialect_in}
use Rattle.calling.specs.Serve.{check_of, serve_table_by, serve_table}
use Rattle.calling.proofs.Kept.{table_checked}
use Rattle.older_rules.specs.WithoutSets.{NoSets, before_sets}
use Rattle.older_rules.proofs.Rules.{rules_same, decided_same}
use Rattle.older_rules.proofs.WithoutSets.{check_is, plan_is, carried_is}
use Rattle.rewrite.proofs.Together as members
use Rattle.assignment.proofs.Members as asked

-- WITHOUT SETS. Over a table without sets every call comes to what it came to before, with the same table, vectors and buffer afterwards.
pub without_sets : (x : Lent) → NoSets x.table → serve_table_by before_sets x ≡ serve_table x
without_sets x none =
    rules_same before_sets in_force x (check_is x.table none (length x.profile)) (λ g. refl)
    (λ count e.
    decided_same before_sets in_force x count refl refl (plan_is x.table none count (dialect_in x) x.request x.vectors)
    (carried_is x.table none count x.request))

-- A sound table of the first edition is one, so that it is untouched.
module _ (t : List ℕ) (file count : ℕ) (checked : check_table t file ≡ Ok count) where
  was : TableTests t file count
  was = table_says t file count checked

  sound : SoundTable t count
  sound = record { file = file; checked = checked }

  record_none : edition_of (block_of t 0) ≡ 1 → (k : ℕ) → 1 ≤ k → k ≤ count → set_of (block_of t k) ≡ 0
  unfolding record_of
  record_none e k a b = go (eqb (set_of (block_of t k)) 0) refl (rw (each_edition t file count was k b, e) at (tests_record t file count was k a b).set)
    where
      go : (x : Bool) → eqb (set_of (block_of t k)) 0 ≡ x → (x || false) ≡ true → set_of (block_of t k) ≡ 0
      go true f g = eqb-true _ _ f
      go false f g = absurd (true≢false (sym g))

  past_none : (k : ℕ) → count < k → set_of (block_of t k) ≡ 0
  unfolding block_of be16_at
  past_none k h = rw (drop_of_length-le t {i = 512 * k} (omega (arith, was.size)))

  pub first_edition : edition_of (block_of t 0) ≡ 1 → NoSets t
  first_edition e k = go (leb k count) (leb 1 k) refl refl
    where
      go : (x y : Bool) → leb k count ≡ x → leb 1 k ≡ y → set_of (block_of t k) ≡ 0
      go false y f g = past_none k (leb-false k count f)
      go true true f g = record_none e k (leb-true 1 k g) (leb-true k count f)
      go true false f g = let q : k ≡ 0 = omega (arith, leb-false 1 k g) in rw q (header_set t count sound)

-- AGREEMENT. Whatever a call comes to, the records of every set agree after it in state, pending and server name, if the table was sound.
pub members_agree : (x : Lent) (count : ℕ) → check_of x ≡ Ok count → (j k : ℕ) → 1 ≤ j → j < k → k ≤ count
    → same_set (block_of (serve_table x).table j) (block_of (serve_table x).table k) ≡ true
    → agreeing (block_of (serve_table x).table j) (block_of (serve_table x).table k) ≡ true
members_agree x count e j k a b c =
    sound_agrees (serve_table x).table count (record { file = length x.profile; checked = table_checked x ∙ e }) j k a b c

-- BARRING. A UAR's answer to "barred" is yes exactly where the record is barred and so is every record of its set.
module _ (t : List ℕ) (count k : ℕ) where
  pub record AllBarred : Type 0 where
    pub own : barred (bits_of (block_of t k)) ≡ true
    pub others : (j : ℕ) → 1 ≤ j → j ≤ count → same_set (block_of t k) (block_of t j) ≡ true → barred (bits_of (block_of t j)) ≡ true

  not_free : (x y : Bool) → (x && not y) ≡ false → x ≡ true → y ≡ true
  not_free true true e f = refl
  not_free true false e f = absurd (true≢false e)
  not_free false y e f = absurd (true≢false (sym f))

  pub barred_says : barred_alone t count (block_of t k) ≡ true → AllBarred
  unfolding barred_alone find_free free_at free_here
  barred_says e =
      record {
        own = and_left (barred (bits_of (block_of t k))) _ e;
        others = λ j a b s. not_free (same_set (block_of t k) (block_of t j)) (barred (bits_of (block_of t j))) (fails j a b) s;
      }
    where
      none : (f : Option ℕ) → not (is_at f) ≡ true → f ≡ None
      none (Some j) g = absurd (true≢false (sym g))
      none None g = refl

      fails : (j : ℕ) → 1 ≤ j → j ≤ count → (same_set (block_of t k) (block_of t j) && not (barred (bits_of (block_of t j)))) ≡ false
      fails j a b =
          first_fails (free_at t (block_of t k)) count 1 (none (find_free t count (block_of t k)) (and_right (barred (bits_of (block_of t k))) _ e)) j a (omega arith)

  pub barred_holds : AllBarred → barred_alone t count (block_of t k) ≡ true
  unfolding barred_alone find_free free_at free_here
  barred_holds s = rw (s.own, first_none (free_at t (block_of t k)) count 1 (λ j a b. free j a (omega arith)))
    where
      free : (j : ℕ) → 1 ≤ j → j ≤ count → (same_set (block_of t k) (block_of t j) && not (barred (bits_of (block_of t j)))) ≡ false
      free j a b = go (same_set (block_of t k) (block_of t j)) refl
        where
          go : (x : Bool) → same_set (block_of t k) (block_of t j) ≡ x → (x && not (barred (bits_of (block_of t j)))) ≡ false
          go true e = rw (s.others j a b e)
          go false e = refl

-- A SAR's checks of a record's server name and state (type 0's B5012, X5005, X5007) say of every record of its set what they say of it, so that closing the
-- records under sets before them would change nothing.
module _ (t : List ℕ) (count : ℕ) (table : SoundTable t count) (j k : ℕ) (a : 1 ≤ j) (b : j ≤ count) (c : 1 ≤ k) (d : k ≤ count)
    (one : same_set (block_of t j) (block_of t k) ≡ true) where
  pub stores_same : (server : List ℕ) → stores_at t server j ≡ stores_at t server k
  stores_same = asked.stores_same t count table j k a b c d one

  pub fits_same : (server : List ℕ) → fits_at t server j ≡ fits_at t server k
  fits_same = asked.fits_same t count table j k a b c d one

  pub right_same : (kind : AssignmentType) → right_at t kind j ≡ right_at t kind k
  right_same = asked.right_same t count table j k a b c d one
