-- What each way through a move leaves.
use Rattle.std.specs.Prelude.{Result, Ok, Err}
use Rattle.octets.specs.Standard.{ℕ, ◌+◌, ◌*◌, ◌<◌, ◌≤◌, ◌≡◌, sym, ◌∙◌, ap, Bool, true, false, cond, eqb, eqb-true, refl, List, ◌≢◌, length, get_or, get_or-take, arith, eq-eqb, ne_eqb}
use Rattle.record.specs.Fields.{edition_of}
use Rattle.blocks.specs.Blocks.{block_of}
use Rattle.table.specs.Check.{check_table}
use Rattle.table.specs.SoundTable.{SoundTable}
use Rattle.table.proofs.Sound.{sound_size, sound_few}
use Rattle.moving.specs.Moves.{moved_all, first_set}
use Rattle.moving.specs.Outcomes.{came, edition_checked, of_edition, forward_sound, back_past, back_sound, forward_checked, back_checked, forward, back}
use Rattle.moving.specs.Outcomes.{Move, refused}
use Rattle.moving.specs.declared.Refusal.{Refusal}

-- the edition of a table is its second byte
edition_is : (t : List ℕ) → edition_of (block_of t 0) ≡ get_or t 1 0
unfolding block_of
edition_is t = get_or-take 512 t 1 0 (omega arith)

-- what of a table of an edition, and of another
of_sound : (t : List ℕ) (file edition count : ℕ) → of_edition t file edition ≡ Ok count → (check_table t file ≡ Ok count) × (edition_of (block_of t 0) ≡ edition)
unfolding of_edition edition_checked
of_sound t file edition count e = go (check_table t file) refl e
  where
    no : {A : Type 0} (n k : ℕ) → ◌≡◌ {A = Move} (refused n k) (Ok count) → A
    no n k f = let z : ◌≡◌ {A = ℕ} 0 1 = cc in absurd (omega arith)

    went : (n : ℕ) → check_table t file ≡ Ok n → (x : Bool) → eqb (edition_of (block_of t 0)) edition ≡ x
        → ◌≡◌ {A = Move} (cond x (Ok n) (refused 5 0)) (Ok count) → (check_table t file ≡ Ok count) × (edition_of (block_of t 0) ≡ edition)
    went n f true g h = let m : n ≡ count = cc in (f ∙ ap Ok m, eqb-true _ _ g)
    went n f false g h = no 5 0 h

    go : (c : Result ℕ ℕ) → check_table t file ≡ c → edition_checked t edition c ≡ Ok count → (check_table t file ≡ Ok count) × (edition_of (block_of t 0) ≡ edition)
    go (Ok n) f h = went n f (eqb (edition_of (block_of t 0)) edition) refl h
    go (Err k) f h = no 5 k h

module _ (t : List ℕ) (file edition count : ℕ) {m : Move} (is : m ≡ of_edition t file edition) (ok : m ≡ Ok count) where
  sound : SoundTable t count
  sound = record { file = file; checked = (of_sound t file edition count (sym is ∙ ok)).0 }

  pub checked_size : length t ≡ 512 * (count + 1)
  checked_size = sound_size t count sound

  pub checked_few : count ≤ 4096
  checked_few = sound_few t count sound

  pub checked_edition : edition_of (block_of t 0) ≡ edition
  checked_edition = (of_sound t file edition count (sym is ∙ ok)).1

-- a table that was checked, by its edition
module _ (t : List ℕ) (file edition : ℕ) {c : Result ℕ ℕ} (is : c ≡ check_table t file) where
  pub edition_bad : (k : ℕ) {m : Move} → c ≡ Err k → m ≡ refused 5 k → m ≡ of_edition t file edition
  unfolding of_edition edition_checked
  edition_bad k e f = rw (← is, e) f

  pub edition_long : (count : ℕ) → c ≡ Ok count → 1 < length t
  edition_long count e = let s : SoundTable t count = record { file = file; checked = sym is ∙ e } in omega (arith, sound_size t count s)

  pub edition_here : (count : ℕ) → c ≡ Ok count → get_or t 1 0 ≡ edition → Ok count ≡ of_edition t file edition
  unfolding of_edition edition_checked
  edition_here count e f = rw (← is, e, edition_is t, eq-eqb (get_or t 1 0) edition f)

  pub edition_other : (count : ℕ) → c ≡ Ok count → get_or t 1 0 ≢ edition → refused 5 0 ≡ of_edition t file edition
  unfolding of_edition edition_checked
  edition_other count e f = rw (← is, e, edition_is t, ne_eqb (get_or t 1 0) edition f)

-- what the move is of a table that is of its edition, and of one that is refused
no_both : {A : Type 0} (m : Move) (n : ℕ) (x : Refusal) → m ≡ Ok n → m ≡ Err x → A
no_both m n x a b = let z : ◌≡◌ {A = ℕ} 0 1 = cc in absurd (omega arith)

module _ (t : List ℕ) (file : ℕ) {m : Move} where
  pub forward_made : (issue count : ℕ) {y : List ℕ} → m ≡ of_edition t file 1 → m ≡ Ok count → y ≡ moved_all t count 2 issue
      → came (Ok count) y ≡ forward t file issue
  unfolding forward forward_checked forward_sound
  forward_made issue count is ok e =
      let s = of_sound t file 1 count (sym is ∙ ok) in
      rw (s.0, s.1, e)

  pub back_made : (count n : ℕ) {y : List ℕ} {c : Result ℕ ℕ} → m ≡ of_edition t file 2 → m ≡ Ok count → c ≡ first_set t count → c ≡ Ok n
      → y ≡ moved_all t count 1 0 → came (Ok count) y ≡ back t file
  unfolding back back_checked back_sound back_past
  back_made count n is ok f g e =
      let s = of_sound t file 2 count (sym is ∙ ok) in
      rw (s.0, s.1, ← f, g, e)

  pub back_stays : (count k : ℕ) {c : Result ℕ ℕ} {r : Move} → m ≡ of_edition t file 2 → m ≡ Ok count → c ≡ first_set t count → c ≡ Err k
      → r ≡ refused 8 k → came r t ≡ back t file
  unfolding back back_checked back_sound back_past
  back_stays count k is ok f g e =
      let s = of_sound t file 2 count (sym is ∙ ok) in
      rw (s.0, s.1, ← f, g, e)

  pub forward_stays : (issue : ℕ) (x : Refusal) {r : Move} → m ≡ of_edition t file 1 → m ≡ Err x → r ≡ m → came r t ≡ forward t file issue
  unfolding forward forward_checked forward_sound of_edition edition_checked
  forward_stays issue x {r} is e f = go (check_table t file) refl
    where
      go : (c : Result ℕ ℕ) → check_table t file ≡ c → came r t ≡ forward t file issue
      go (Err k) g = rw (g, f, is, g)
      go (Ok n) g = went (eqb (edition_of (block_of t 0)) 1) refl
        where
          went : (y : Bool) → eqb (edition_of (block_of t 0)) 1 ≡ y → came r t ≡ forward t file issue
          went true h = let a : m ≡ Ok n = is ∙ rw (g, h) in no_both m n x a e
          went false h = rw (g, h, f, is, g, h)

  pub back_none : (x : Refusal) {r : Move} → m ≡ of_edition t file 2 → m ≡ Err x → r ≡ m → came r t ≡ back t file
  unfolding back back_checked back_sound of_edition edition_checked
  back_none x {r} is e f = go (check_table t file) refl
    where
      go : (c : Result ℕ ℕ) → check_table t file ≡ c → came r t ≡ back t file
      go (Err k) g = rw (g, f, is, g)
      go (Ok n) g = went (eqb (edition_of (block_of t 0)) 2) refl
        where
          went : (y : Bool) → eqb (edition_of (block_of t 0)) 2 ≡ y → came r t ≡ back t file
          went true h = let a : m ≡ Ok n = is ∙ rw (g, h) in no_both m n x a e
          went false h = rw (g, h, f, is, g, h)
