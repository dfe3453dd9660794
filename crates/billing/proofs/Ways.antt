-- What each way through an import leaves.
use Rattle.std.specs.Prelude.{Ok, Result, Err}
use Rattle.octets.specs.Standard.{ℕ, ◌+◌, ◌*◌, ◌<◌, ◌≤◌, Bool, true, false, ◌&&◌, cond, ◌≡◌, refl, sym, ◌∙◌, arith, List, length, get_or}
use Rattle.octets.specs.Standard.{eqb, eq-eqb, ne_eqb, lt-ltb, le-ltb}
use Rattle.octets.specs.Run.{Wrote}
use Rattle.record.specs.Fields.{count_of}
use Rattle.record.specs.HeaderBlock.{sound_header}
use Rattle.blocks.specs.Blocks.{first_bad}
use Rattle.blocks.proofs.First.{FirstNot, bad_says, bad_sound, good_count}
use Rattle.listing.specs.Export.{came, writing, Listed, refused}
use Rattle.importing.specs.Said.{place_of, table_said, holds_at, is_titled, over_records, first_wrong}
use Rattle.importing.specs.Import.{fit_header, import_past, imported}
use Rattle.importing.proofs.Accepts.{header_fits, said_size}
use Rattle.judging.specs.Fit.{Fit}
use Rattle.judging.proofs.Fitting.{is_fit}
use Rattle.judging.proofs.Passes.{titled_long}

-- The header block.
module _ (b : List ℕ) where
  pub fit_read : {h : List ℕ} {x : Bool} → h ≡ b → length b ≡ 512 → x ≡ sound_header h → (x && eqb (get_or h 1 0) 2) ≡ fit_header b
  unfolding fit_header
  fit_read g l e = rw (eq-eqb (length b) 512 l, e, g)

  pub fit_not : (length b ≡ 512 → ⊥) → fit_header b ≡ false
  unfolding fit_header
  fit_not l = rw (ne_eqb (length b) 512 l)

-- The table written.
module _ (list header area : List ℕ) (fit : Fit header) (count : ℕ) (counted : count ≡ count_of header) where
  size_is : length (table_said list header) ≡ 512 * (count + 1)
  size_is = rw counted (said_size list header (header_fits header fit.fits))

  pub write_short : length area < 512 * (count + 1) → came (refused 15 0) area ≡ writing area (table_said list header)
  unfolding writing
  write_short h = rw (size_is, lt-ltb (length area) (512 * (count + 1)) h)

  pub write_holds : {y : List ℕ} → 512 * (count + 1) ≤ length area → Wrote (table_said list header) area y (512 * (count + 1))
      → came (Ok (512 * (count + 1))) y ≡ writing area (table_said list header)
  unfolding writing
  write_holds h w = rw (size_is, le-ltb (length area) (512 * (count + 1)) h, w.bytes)

  pub count_within : count ≤ 4096
  count_within = rw counted fit.few

-- Over the first wrong line.
module _ (list header : List ℕ) (file : ℕ) (wrong : Result ℕ ℕ) (e : wrong ≡ first_wrong list header file) where
  pub sound_long : (c : ℕ) → wrong ≡ Ok c → 121 ≤ length list
  unfolding first_wrong
  sound_long c f = go (is_titled list) refl (sym e ∙ f)
    where
      go : (x : Bool) → is_titled list ≡ x
          → cond x (over_records list (first_bad (holds_at list header file) (count_of header) (count_of header) 1)) (Err 0) ≡ Ok c → 121 ≤ length list
      go true g h = titled_long list g
      go false g h = bad_sound (Err 0) 0 c refl h

  pub line_few : (k : ℕ) → Fit header → wrong ≡ Err k → k ≤ 4097
  unfolding first_wrong
  line_few k fit f = go (is_titled list) (sym e ∙ f)
    where
      bad : (j : ℕ) → ◌≡◌ {A = Result ℕ ℕ} (Err j) (Err k) → j ≡ k
      bad j h = cc

      ended : (n : ℕ) → n ≤ 4096 → (x : Bool) → cond x (Ok n) (Err (n + 1)) ≡ Err k → k ≤ 4097
      ended n l true h = bad_sound (Ok n) k n h refl
      ended n l false h = omega (arith, bad (n + 1) h)

      past : (r : Result ℕ ℕ) → first_bad (holds_at list header file) (count_of header) (count_of header) 1 ≡ r → over_records list r ≡ Err k → k ≤ 4097
      past (Ok n) g h =
          let q : count_of header ≡ n = good_count (holds_at list header file) (count_of header) n (count_of header) 1 g in
          ended n (omega (arith, fit.few)) (eqb (place_of list n) (length list)) h
      past (Err j) g h =
          let n : FirstNot (holds_at list header file) (count_of header) 1 j = bad_says (holds_at list header file) (count_of header) (count_of header) 1 j g in
          omega (arith, n.to, fit.few, bad j h)

      go : (x : Bool) → cond x (over_records list (first_bad (holds_at list header file) (count_of header) (count_of header) 1)) (Err 0) ≡ Err k → k ≤ 4097
      go true h = past (first_bad (holds_at list header file) (count_of header) (count_of header) 1) refl h
      go false h = omega (arith, bad 0 h)

module _ (list header area : List ℕ) (wrong : Result ℕ ℕ) where
  pub past_sound : (c : ℕ) {r : Listed} {y : List ℕ} → wrong ≡ Ok c → came r y ≡ writing area (table_said list header)
      → came r y ≡ import_past list header area wrong
  past_sound c e f = rw e f

  pub past_wrong : (k : ℕ) {n : ℕ} → wrong ≡ Err k → n ≡ k + 1 → came (refused 14 n) area ≡ import_past list header area wrong
  past_wrong k e f = rw (e, f)

-- The whole.
module _ (list header area : List ℕ) (file : ℕ) where
  module _ {h : List ℕ} (e : h ≡ header) (f : fit_header header ≡ true) where
    pub import_fit : {wrong : Result ℕ ℕ} {r : Listed} {y : List ℕ} → wrong ≡ first_wrong list h file → came r y ≡ import_past list h area wrong
        → came r y ≡ imported list header file area
    unfolding imported
    import_fit g k = rw (f, ← e, ← g) k

  pub import_not : fit_header header ≡ false → came (refused 5 0) area ≡ imported list header file area
  unfolding imported
  import_not f = rw f

pub fit_given : (header : List ℕ) {h : List ℕ} → h ≡ header → fit_header header ≡ true → Fit h
fit_given header {h} e f = is_fit h refl (rw e f)
