-- A report over an area: its calls are those of `serve` over the area in turn, and it leaves what they leave.
use Rattle.std.specs.Prelude.{Ok}
use Rattle.octets.specs.Standard.{ℕ, ◌≤◌, Bool, true, false, List, [], ◌∷◌, ◌++◌, ◌≡◌, refl, sym, ◌∙◌, ap, leb, length, take, drop}
use Rattle.octets.specs.Standard.{length-take-le, le-ltb, lt-ltb, leb-true, leb-false}
use Rattle.table.specs.Area.{table_in}
use Rattle.counting.specs.Event.{Event}
use Rattle.reading.specs.declared.Terms.{Terms}
use Rattle.calling.specs.Lent.{Lent, lent, asking, holding, table_only, put_back}
use Rattle.calling.specs.Serve.{check_of, serve}
use Rattle.calling.proofs.Areas.{AsLarge, put_same, put_exact, put_in, put_length, put_rest, served_large, served_in, served_again, sound_long, only_sound}
use Rattle.reporting.specs.Row.{next, row, left, event_of, next_over, row_over, left_over}
use Rattle.reporting.specs.Report.{Reported, requests_of, ran, reported_table, report_back, reported}
use Rattle.reporting.specs.Counts.{Reports}

-- A call more: the table in the area is as the call over the table leaves it.
next_over_lem : (x : Lent) (p : List ℕ) → table_only (next_over x p) ≡ next (table_only x) p
unfolding next next_over
next_over_lem x p =
    ap (λ (t : List ℕ). lent x.request t x.profile (serve (asking x p)).vectors (serve (asking x p)).buffer x.terms) (served_in (asking x p))

-- The calls are counted so, and leave so the table in the area, and what is behind it.
pub row_over_lem : (x : Lent) (ps : List (List ℕ)) → row_over x ps ≡ row (table_only x) ps
unfolding row row_over
row_over_lem x [] = refl
row_over_lem x (p ∷ ps) =
    ap (λ (es : List Event). event_of (table_only (asking x p)) ∷ es) (row_over_lem (next_over x p) ps ∙ ap (λ (y : Lent). row y ps) (next_over_lem x p))

pub left_over_lem : (x : Lent) (ps : List (List ℕ)) → table_only (left_over x ps) ≡ left (table_only x) ps
unfolding left left_over
left_over_lem x [] = refl
left_over_lem x (p ∷ ps) = left_over_lem (next_over x p) ps ∙ ap (λ (y : Lent). left y ps) (next_over_lem x p)

pub left_table : (x : Lent) (ps : List (List ℕ)) → (left_over x ps).table ≡ put_back x.table (left (table_only x) ps).table
unfolding left left_over next_over
left_table x [] = sym (put_same x.table)
left_table x (p ∷ ps) =
    left_table (next_over x p) ps ∙ ap (λ (y : Lent). put_back (serve (asking x p)).table (left y ps).table) (next_over_lem x p)
    ∙ served_again (asking x p) (left (next (table_only x) p) ps).table

-- So the report leaves what the row of `serve`'s calls over the area leaves.
pub reported_left : (x : Lent) (area : List ℕ) → 1160 ≤ length area
    → ((reported x area).table ≡ (left_over x (requests_of x)).table) × ((reported x area).vectors ≡ (left_over x (requests_of x)).vectors)
    × ((reported x area).buffer ≡ (left_over x (requests_of x)).buffer)
unfolding reported_table ran
reported_left x area h =
    let q = le-ltb (length area) 1160 h in
    let l = left_over_lem x (requests_of x) in
    (rw q (sym (left_table x (requests_of x))), rw q (ap (λ (y : Lent). y.vectors) (sym l)), rw q (ap (λ (y : Lent). y.buffer) (sym l)))

-- The table in the area afterwards; what is behind it; and a sound table, behind which nothing is.
left_large : (x : Lent) (ps : List (List ℕ)) → AsLarge x.table (left x ps).table
unfolding left next
left_large x [] = record { bytes = refl; counts = refl }
left_large x (p ∷ ps) =
    let a : AsLarge x.table (next x p).table = served_large (asking x p) in
    let b : AsLarge (next x p).table (left (next x p) ps).table = left_large (next x p) ps in
    record { bytes = b.bytes ∙ a.bytes; counts = b.counts ∙ a.counts }

reported_large : (x : Lent) (area : List ℕ) → AsLarge x.table (reported_table x area).table
unfolding reported_table ran
reported_large x area = go (leb 1160 (length area)) refl
  where
    go : (b : Bool) → leb 1160 (length area) ≡ b → AsLarge x.table (reported_table x area).table
    go true e = let q = le-ltb (length area) 1160 (leb-true 1160 (length area) e) in rw q (left_large x (requests_of x))
    go false e = let q = lt-ltb (length area) 1160 (leb-false 1160 (length area) e) in rw q (record { bytes = refl; counts = refl })

module _ (x : Lent) (area : List ℕ) where
  pub reported_in : table_in (reported x area).table ≡ (reported_table (table_only x) area).table
  reported_in = put_in x.table (reported_table (table_only x) area).table (reported_large (table_only x) area)

  pub reported_length : length (reported x area).table ≡ length x.table
  reported_length = put_length x.table (reported_table (table_only x) area).table (reported_large (table_only x) area)

  pub reported_rest : drop (length (table_in x.table)) (reported x area).table ≡ drop (length (table_in x.table)) x.table
  reported_rest = put_rest x.table (reported_table (table_only x) area).table (reported_large (table_only x) area)

  pub reported_sound : (count : ℕ) → check_of x ≡ Ok count → reported x area ≡ reported_table x area
  reported_sound count e =
      let r : Reported = reported_table x area in
      ap (λ (y : Lent). report_back x.table (reported_table y area)) (only_sound x count e)
      ∙ ap (λ (t : List ℕ). record { number = r.number; table = t; vectors = r.vectors; buffer = r.buffer; area = r.area })
      (put_exact x.table r.table (sound_long x count e))

-- Two areas with the same table at the front.
pub reported_alike : (x : Lent) (other area : List ℕ) → table_in other ≡ table_in x.table
    → ((reported (holding x other) area).number ≡ (reported x area).number)
    × (table_in (reported (holding x other) area).table ≡ table_in (reported x area).table)
    × ((reported (holding x other) area).vectors ≡ (reported x area).vectors) × ((reported (holding x other) area).buffer ≡ (reported x area).buffer)
    × ((reported (holding x other) area).area ≡ (reported x area).area)
reported_alike x other area e =
    let q : table_only (holding x other) ≡ table_only x = ap (holding x) e in (
      ap (λ (y : Lent). (reported_table y area).number) q,
      reported_in (holding x other) area ∙ ap (λ (y : Lent). (reported_table y area).table) q ∙ sym (reported_in x area),
      ap (λ (y : Lent). (reported_table y area).vectors) q,
      ap (λ (y : Lent). (reported_table y area).buffer) q,
      ap (λ (y : Lent). (reported_table y area).area) q,
    )

-- What the function that cuts the area leaves.
module _ (req working file v o : List ℕ) (terms : Terms) (area : List ℕ) where
  abbrev x : Lent
  x = lent req working file v o terms

  pub area_reports : (n : ℕ) {r : ℕ} {t' v' o' area' : List ℕ} → take n working ≡ table_in working → n ≤ length working
      → Reports (reported_table (lent req (take n working) file v o terms) area) r t' v' o' area'
      → Reports (reported x area) r (t' ++ drop n working) v' o' area'
  area_reports n {r} {t'} {v'} {o'} {area'} e h l =
      let s : Reports (reported_table (table_only x) area) r t' v' o' area' = rw e at l in
      let k : n ≡ length (table_in working) = sym (length-take-le n working h) ∙ ap length e in
      record {
        number_is = s.number_is;
        table_is =
            ap (λ (t : List ℕ). t ++ drop n working) s.table_is
            ∙ ap (λ (m : ℕ). (reported_table (table_only x) area).table ++ drop m working) k;
        vectors_is = s.vectors_is;
        buffer_is = s.buffer_is;
        area_is = s.area_is;
      }
