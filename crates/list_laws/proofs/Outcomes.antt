-- What export and import come to, by what they say.
use Rattle.std.specs.Prelude.{Ok, Result, Err}
use Rattle.octets.specs.Standard.{ℕ, ◌+◌, ◌*◌, ◌≤◌, Bool, true, false, cond, ◌≡◌, refl, sym, ◌∙◌, ap, arith, eqb, ltb, eqb-true, eq-eqb, ltb-false}
use Rattle.octets.specs.Standard.{List, length, take, take_at, drop}
use Rattle.octets.specs.Run.{over}
use Rattle.octets.proofs.Numbers.{Bytes}
use Rattle.record.specs.Fields.{count_of, edition_of}
use Rattle.blocks.specs.Blocks.{block_of}
use Rattle.blocks.proofs.First.{good_count}
use Rattle.table.specs.Check.{check_table}
use Rattle.listing.specs.ListOf.{list_of, listable_at, first_unlisted}
use Rattle.listing.specs.Export.{AfterList, came, refusing, writing, export_past, export_sound, export_checked, exported, Listed, refused}
use Rattle.listing.specs.declared.Refusal.{Refusal}
use Rattle.importing.specs.Said.{table_said}
use Rattle.importing.specs.Import.{fit_header}
use Rattle.importing.proofs.Accepts.{header_fits, said_size}
use Rattle.importing.proofs.Given.{Exportable}

pub never : {A : Type 0} (number value bytes : ℕ) → refused number value ≡ Ok bytes → A
never number value bytes e = let z : ◌≡◌ {A = ℕ} 0 1 = cc in absurd (omega arith)

pub number_is : (a b v w : ℕ) → refused a v ≡ refused b w → a ≡ b
number_is a b v w e = let q : ◌≡◌ {A = Refusal} (record { number = a; value = v }) (record { number = b; value = w }) = cc in ap (λ (r : Refusal). r.number) q

pub value_is : (a b v w : ℕ) → refused a v ≡ refused b w → v ≡ w
value_is a b v w e = let q : ◌≡◌ {A = Refusal} (record { number = a; value = v }) (record { number = b; value = w }) = cc in ap (λ (r : Refusal). r.value) q

-- The table that is said is as long as its header block counts.
pub size_is : (list header : List ℕ) → fit_header header ≡ true → length (table_said list header) ≡ 512 * (count_of header + 1)
size_is list header f = said_size list header (header_fits header f)

-- What was written over an area is as long as is said of it.
pub writing_wrote : (area w : List ℕ) (n : ℕ) → (writing area w).said ≡ Ok n → n ≡ length w
unfolding writing
writing_wrote area w n e = go (ltb (length area) (length w)) e
  where
    go : (x : Bool) → (cond x (refusing area 15 0) (came (Ok (length w)) (over w area))).said ≡ Ok n → n ≡ length w
    go true g = never 15 0 n g
    go false g = let s : ◌≡◌ {A = Listed} (Ok (length w)) (Ok n) = g in cc

-- what is written over an area of which it is said so
pub record WroteSo (area w : List ℕ) (n : ℕ) (y : List ℕ) : Type 0 where
  pub room : length w ≤ length area
  pub size : n ≡ length w
  pub bytes : take n y ≡ w

pub writing_says : (area w : List ℕ) (n : ℕ) (y : List ℕ) → writing area w ≡ came (Ok n) y → WroteSo area w n y
unfolding writing over
writing_says area w n y e = go (ltb (length area) (length w)) refl e
  where
    go : (x : Bool) → ltb (length area) (length w) ≡ x → cond x (refusing area 15 0) (came (Ok (length w)) (over w area)) ≡ came (Ok n) y
        → WroteSo area w n y
    go true f g = never 15 0 n (ap (λ (o : AfterList). o.said) g)
    go false f g =
        let s : ◌≡◌ {A = Listed} (Ok (length w)) (Ok n) = ap (λ (o : AfterList). o.said) g in
        let b : over w area ≡ y = ap (λ (o : AfterList). o.area) g in
        let q : length w ≡ n = cc in
        record {
          room = ltb-false (length area) (length w) f;
          size = sym q;
          bytes = rw (← b, ← q) (take_at w (drop (length w) area) (length w) refl);
        }

unlisted_count : (t : List ℕ) (count c : ℕ) → first_unlisted t count ≡ Ok c → count ≡ c
unfolding first_unlisted
unlisted_count t count c e = good_count (listable_at t) count c count 1 e

-- An export that wrote: its table is exportable, and this is its list.
pub record ExportedSo (t : List ℕ) (file n : ℕ) (y : List ℕ) : Type 0 where
  pub exportable : Exportable (block_of t 0) file t
  pub list_is : take n y ≡ list_of t

pub export_says : (t : List ℕ) (file : ℕ) (area : List ℕ) (n : ℕ) (y : List ℕ) → Bytes t → exported t file area ≡ came (Ok n) y → ExportedSo t file n y
unfolding exported export_checked export_sound export_past
export_says t file area n y bytes e = checked (check_table t file) refl e
  where
    listed : (count : ℕ) → check_table t file ≡ Ok count → edition_of (block_of t 0) ≡ 2 → (c : Result ℕ ℕ) → first_unlisted t count ≡ c
        → export_past t area c ≡ came (Ok n) y → ExportedSo t file n y
    listed count s d (Err k) f g = never 13 k n (ap (λ (o : AfterList). o.said) g)
    listed count s d (Ok c) f g =
        record {
          exportable = record {
            bytes = bytes;
            count = count;
            checked = s;
            header_block = refl;
            edition = d;
            listed = f ∙ ap Ok (sym (unlisted_count t count c f));
          };
          list_is = (writing_says area (list_of t) n y g).bytes;
        }

    second : (count : ℕ) → check_table t file ≡ Ok count → (x : Bool) → eqb (edition_of (block_of t 0)) 2 ≡ x
        → cond x (export_past t area (first_unlisted t count)) (refusing area 5 0) ≡ came (Ok n) y → ExportedSo t file n y
    second count s false f g = never 5 0 n (ap (λ (o : AfterList). o.said) g)
    second count s true f g = listed count s (eqb-true (edition_of (block_of t 0)) 2 f) (first_unlisted t count) refl g

    checked : (c : Result ℕ ℕ) → check_table t file ≡ c → export_checked t area c ≡ came (Ok n) y → ExportedSo t file n y
    checked (Err k) s g = never 5 k n (ap (λ (o : AfterList). o.said) g)
    checked (Ok count) s g = second count s (eqb (edition_of (block_of t 0)) 2) refl g

-- Export of an exportable table.
pub export_gives : (header : List ℕ) (file : ℕ) (t : List ℕ) (x : Exportable header file t) (area : List ℕ) → exported t file area ≡ writing area (list_of t)
unfolding exported export_checked export_sound export_past
export_gives header file t x area =
    rw (x.checked, x.header_block, eq-eqb (edition_of header) 2 x.edition, x.listed)
