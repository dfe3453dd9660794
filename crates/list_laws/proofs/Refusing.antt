-- Each refusal of export and of import under its condition, and under no other; the area is then as it came.
use Rattle.std.specs.Prelude.{Ok, Result, Err}
use Rattle.octets.specs.Standard.{ℕ, ◌+◌, ◌<◌, ◌≤◌, Bool, true, false, cond, ◌≡◌, refl, sym, ◌∙◌, ap, arith, eqb, ltb, eqb-true, eqb-false}
use Rattle.octets.specs.Standard.{eq-eqb, ne_eqb, lt-ltb, ltb-true, List, length}
use Rattle.octets.specs.Run.{over}
use Rattle.octets.proofs.Numbers.{Bytes}
use Rattle.record.specs.Fields.{edition_of}
use Rattle.blocks.specs.Blocks.{block_of}
use Rattle.blocks.proofs.First.{FirstNot, bad_says, bad_holds, good_each, all_good}
use Rattle.table.specs.Check.{check_table}
use Rattle.listing.specs.ListOf.{list_of, listable_at, first_unlisted}
use Rattle.listing.specs.Export.{AfterList, came, refusing, writing, export_past, export_sound, export_checked, exported, refused}
use Rattle.importing.specs.Said.{first_wrong}
use Rattle.importing.specs.Import.{fit_header, import_past, imported}
use Rattle.importing.proofs.Importing.{accepts_only}
use Rattle.list_laws.specs.Refusals.{SoundSecond, FirstUnlisted, ExportRefuses, unsound, older, unlisted, short}
use Rattle.list_laws.proofs.Exports.{AnExport, NamedLine, export_of, import_of}
use Rattle.list_laws.proofs.Exactly.{accepts_exactly}
use Rattle.list_laws.proofs.FirstLine.{first_line_lem, named_once}
use Rattle.list_laws.proofs.Outcomes.{never, number_is, value_is}

-- the first record with a name that cannot be listed, as the check finds it
unlisted_says : (t : List ℕ) (count k : ℕ) → first_unlisted t count ≡ Err k → FirstUnlisted t count k
unfolding first_unlisted
unlisted_says t count k e =
    let f : FirstNot (listable_at t) count 1 k = bad_says (listable_at t) count count 1 k e in
    record { from = f.from; to = omega (arith, f.to); here = f.here; before = f.before }

unlisted_holds : (t : List ℕ) (count k : ℕ) → FirstUnlisted t count k → first_unlisted t count ≡ Err k
unfolding first_unlisted
unlisted_holds t count k u =
    bad_holds (listable_at t) count count 1 k (record { from = u.from; to = omega (arith, u.to); here = u.here; before = u.before })

listed_says : (t : List ℕ) (count c : ℕ) → first_unlisted t count ≡ Ok c → (k : ℕ) → 1 ≤ k → k ≤ count → listable_at t k ≡ true
unfolding first_unlisted
listed_says t count c e k a b = good_each (listable_at t) count c count 1 e k a (omega arith)

listed_holds : (t : List ℕ) (count : ℕ) → ((k : ℕ) → 1 ≤ k → k ≤ count → listable_at t k ≡ true) → first_unlisted t count ≡ Ok count
unfolding first_unlisted
listed_holds t count h = all_good (listable_at t) count count 1 (λ k a b. h k a (omega arith))

module _ (t : List ℕ) (file : ℕ) (area : List ℕ) where
  -- under each condition its refusal, and the area as it came
  pub export_refused : {number value : ℕ} → ExportRefuses t file area number value → exported t file area ≡ refusing area number value
  unfolding exported export_checked export_sound export_past writing
  export_refused (unsound k e) = rw e
  export_refused (older count e n) = rw (e, ne_eqb (edition_of (block_of t 0)) 2 n)
  export_refused (unlisted count k f u) = rw (f.checked, eq-eqb (edition_of (block_of t 0)) 2 f.edition, unlisted_holds t count k u)
  export_refused (short count f l h) =
      rw (f.checked, eq-eqb (edition_of (block_of t 0)) 2 f.edition, listed_holds t count l, lt-ltb (length area) (length (list_of t)) h)

  -- under no other
  pub export_refuses : (number value : ℕ) → (exported t file area).said ≡ refused number value → ExportRefuses t file area number value
  unfolding exported export_checked export_sound export_past writing
  export_refuses number value e = checked (check_table t file) refl e
    where
      is : (a b : ℕ) → ExportRefuses t file area a b → refused a b ≡ refused number value → ExportRefuses t file area number value
      is a b r g = rw (number_is a number b value g, value_is a number b value g) at r

      ended : (count : ℕ) → SoundSecond t file count → ((k : ℕ) → 1 ≤ k → k ≤ count → listable_at t k ≡ true) → (x : Bool)
          → ltb (length area) (length (list_of t)) ≡ x
          → (cond x (refusing area 15 0) (came (Ok (length (list_of t))) (over (list_of t) area))).said ≡ refused number value
          → ExportRefuses t file area number value
      ended count f l true h g = is 15 0 (short count f l (ltb-true (length area) (length (list_of t)) h)) g
      ended count f l false h g = let z : ◌≡◌ {A = ℕ} 0 1 = cc in absurd (omega arith)

      names : (count : ℕ) → SoundSecond t file count → (c : Result ℕ ℕ) → first_unlisted t count ≡ c → (export_past t area c).said ≡ refused number value
          → ExportRefuses t file area number value
      names count f (Err k) h g = is 13 k (unlisted count k f (unlisted_says t count k h)) g
      names count f (Ok c) h g = ended count f (listed_says t count c h) (ltb (length area) (length (list_of t))) refl g

      second : (count : ℕ) → check_table t file ≡ Ok count → (x : Bool) → eqb (edition_of (block_of t 0)) 2 ≡ x
          → (cond x (export_past t area (first_unlisted t count)) (refusing area 5 0)).said ≡ refused number value → ExportRefuses t file area number value
      second count s false f g = is 5 0 (older count s (eqb-false (edition_of (block_of t 0)) 2 f)) g
      second count s true f g =
          names count (record { checked = s; edition = eqb-true (edition_of (block_of t 0)) 2 f }) (first_unlisted t count) refl g

      checked : (c : Result ℕ ℕ) → check_table t file ≡ c → (export_checked t area c).said ≡ refused number value → ExportRefuses t file area number value
      checked (Err k) s g = is 5 k (unsound k s) g
      checked (Ok count) s g = second count s (eqb (edition_of (block_of t 0)) 2) refl g

-- import is refused by a number, with a value: 5 under a header block that does not fit, 14 with the line where no export has the list, 15 where one has it and
-- the area is shorter than its table
pub data ImportRefuses (list header : List ℕ) (file : ℕ) (area : List ℕ) : ℕ → ℕ → Type 0 where
  unfit : fit_header header ≡ false → ImportRefuses list header file area 5 0
  wrong : (k : ℕ) → fit_header header ≡ true → (AnExport list header file → ⊥) → NamedLine list header file k → ImportRefuses list header file area 14 (k + 1)
  narrow : (x : AnExport list header file) → length area < length x.table → ImportRefuses list header file area 15 0

module _ (list header : List ℕ) (file : ℕ) (area : List ℕ) (bytes : Bytes header) where
  -- what an export can write has no wrong line
  bad_none : fit_header header ≡ true → (k : ℕ) → first_wrong list header file ≡ Err k → AnExport list header file → ⊥
  unfolding imported writing
  bad_none f k e x = go (ltb (length area) (length x.table)) (rw (f, e) at (import_of list header file area x))
    where
      go : (y : Bool) → refusing area 14 (k + 1) ≡ cond y (refusing area 15 0) (came (Ok (length x.table)) (over x.table area)) → ⊥
      go true g = omega (arith, number_is 14 15 (k + 1) 0 (ap (λ (o : AfterList). o.said) g))
      go false g = never 14 (k + 1) (length x.table) (ap (λ (o : AfterList). o.said) g)

  -- 14 for every list that no export has, under a header block that fits
  pub fourteen : fit_header header ≡ true → (AnExport list header file → ⊥)
      → (k : ℕ) × NamedLine list header file k × (imported list header file area ≡ refusing area 14 (k + 1))
  unfolding imported
  fourteen f none = go (first_wrong list header file) refl
    where
      go : (c : Result ℕ ℕ) → first_wrong list header file ≡ c
          → (k : ℕ) × NamedLine list header file k × (imported list header file area ≡ refusing area 14 (k + 1))
      go (Err k) e = (k, first_line_lem list header file bytes f k e, rw (f, e))
      go (Ok c) e =
          let o = accepts_only list header file bytes f c e in absurd (none (export_of list header file o.table o.exportable o.list_is))

  pub import_refused : {number value : ℕ} → ImportRefuses list header file area number value → imported list header file area ≡ refusing area number value
  unfolding imported
  import_refused (unfit e) = rw e
  import_refused (wrong k f none n) =
      let w = fourteen f none in
      let e : w.0 ≡ k = named_once list header file w.0 k w.1 n in
      rw e at w.2
  import_refused (narrow x h) = (accepts_exactly list header file area bytes).short x h

  pub import_refuses : (number value : ℕ) → (imported list header file area).said ≡ refused number value → ImportRefuses list header file area number value
  unfolding imported writing
  import_refuses number value e = fits (fit_header header) refl e
    where
      is : (a b : ℕ) → ImportRefuses list header file area a b → refused a b ≡ refused number value → ImportRefuses list header file area number value
      is a b r g = rw (number_is a number b value g, value_is a number b value g) at r

      ended : (x : AnExport list header file) → (y : Bool) → ltb (length area) (length x.table) ≡ y
          → (cond y (refusing area 15 0) (came (Ok (length x.table)) (over x.table area))).said ≡ refused number value
          → ImportRefuses list header file area number value
      ended x true h g = is 15 0 (narrow x (ltb-true (length area) (length x.table) h)) g
      ended x false h g = never number value (length x.table) (sym g)

      listed : AnExport list header file → ImportRefuses list header file area number value
      listed x =
          ended x (ltb (length area) (length x.table)) refl (sym (ap (λ (o : AfterList). o.said) (import_of list header file area x)) ∙ e)

      past : fit_header header ≡ true → (c : Result ℕ ℕ) → first_wrong list header file ≡ c → (import_past list header area c).said ≡ refused number value
          → ImportRefuses list header file area number value
      past f (Err k) w g = is 14 (k + 1) (wrong k f (bad_none f k w) (first_line_lem list header file bytes f k w)) g
      past f (Ok c) w g = let o = accepts_only list header file bytes f c w in listed (export_of list header file o.table o.exportable o.list_is)

      fits : (x : Bool) → fit_header header ≡ x
          → (cond x (import_past list header area (first_wrong list header file)) (refusing area 5 0)).said ≡ refused number value
          → ImportRefuses list header file area number value
      fits false f g = is 5 0 (unfit f) g
      fits true f g = past f (first_wrong list header file) refl g
