-- Demand 3 about two requests as bytes: those put in are unmarked, or one of them is the first that is marked, and each case is a law.
use Rattle.octets.specs.Standard.{ℕ, ◌+◌, ◌%◌, ◌≤◌, ◌<◌, List, [], ◌∷◌, Option, none, some, none-ne-some, Bool, true, false, cond, ◌||◌, ◌≡◌}
use Rattle.octets.specs.Standard.{refl, sym, ap, ◌∙◌, fun_ext, ◌⊎◌, inl, inr, arith, length, ltb, ltb-false}
use Rattle.diameter.specs.Put.{Piece, avps_of, Whole, All}
use Rattle.reading.specs.declared.Dialect.{Dialect}
use Rattle.requests.specs.Request.{dialect_of}
use Rattle.requests.proofs.Insert.{past}
use Rattle.calling.specs.Lent.{Lent, asking, table_only}
use Rattle.calling.specs.Serve.{Served, serve_table, over_area, serve}
use Rattle.calling.proofs.Areas.{served_in, served_stays}
use Rattle.demands.specs.Call.{turned_away}
use Rattle.demands.specs.Insertion.{request_of, Foreign, is_marked, Quiet, Inserted, ending, keep, put, FirstMarked, fault_in, unsupported}
use Rattle.demands.specs.Insertion.{Longer, Mark, size_of, put_before, place_now, placed, behind_row, behind, first_mark, newer, Newer}
use Rattle.demands.proofs.Blaming.{blaming_table, blaming_over}
use Rattle.demands.proofs.Rows.{none_before}
use Rattle.demands.proofs.Insertions.{unmarked_same, both_refused, marked_kept, mark_answered, fault_more}

-- none is marked
pub record None {dialect : Dialect} {qs rs : List Piece} (i : Inserted (Foreign dialect) qs rs) : Type 0 where
  pub is : first_mark i ≡ none
  pub quiet : Inserted (Quiet dialect) qs rs
  pub before : (at p : ℕ) → put_before quiet at p ≡ put_before i at p

-- the mark that is found, with the rows around it; before an AVP in front of it stand unmarked ones alone
pub record MarkFound {dialect : Dialect} {qs rs : List Piece} (i : Inserted (Foreign dialect) qs rs) : Type 0 where
  pub first : FirstMarked dialect qs rs
  pub is : first_mark i ≡ some (record { front = first.front; before = first.before; mark = first.mark })
  pub before : (at p : ℕ) → at ≤ p → p < past at (avps_of first.front) → put_before first.quiet at p ≡ put_before i at p

abbrev pub Split : {dialect : Dialect} {qs rs : List Piece} → Inserted (Foreign dialect) qs rs → Type 0
Split {dialect} {qs} {rs} i = None i ⊎ MarkFound i

split_keep : (q : Piece) {dialect : Dialect} {qs rs : List Piece} (i : Inserted (Foreign dialect) qs rs) → Split i → Split (keep q i)
unfolding first_mark put_before avps_of past
split_keep q i (inl n) =
    inl (record {
      is = ap (behind q) n.is;
      quiet = keep q n.quiet;
      before = λ at p. ap (cond (ltb p (at + size_of q)) 0) (n.before (at + size_of q) p);
    })
split_keep q i (inr f) =
    let m = f.first in
    inr (record {
      first =
          record {
            mark = m.mark;
            front = q ∷ m.front;
            back = m.back;
            before = q ∷ m.before;
            after = m.after;
            row = ap (q ∷◌) m.row;
            longer = ap (q ∷◌) m.longer;
            quiet = keep q m.quiet;
            foreign = m.foreign;
            marking = m.marking;
            rest = m.rest;
          };
      is = ap (behind q) f.is;
      before = λ at p l h. go at p h (ltb p (at + size_of q)) refl;
    })
  where
    go : (at p : ℕ) → p < past (at + size_of q) (avps_of f.first.front) → (x : Bool) → ltb p (at + size_of q) ≡ x
        → cond x 0 (put_before f.first.quiet (at + size_of q) p) ≡ cond x 0 (put_before i (at + size_of q) p)
    go at p h true e = refl
    go at p h false e = f.before (at + size_of q) p (ltb-false p (at + size_of q) e) h

split_quiet : {dialect : Dialect} (u : Piece) (f : Foreign dialect u) (h : is_marked u ≡ false) {qs rs : List Piece} (i : Inserted (Foreign dialect) qs rs)
    → Split i → Split (put u f i)
unfolding first_mark put_before
split_quiet u f h i (inl n) =
    inl (record {
      is = rw (h, n.is);
      quiet = put u (record { foreign = f; unmarked = h }) n.quiet;
      before = λ at p. rw (n.before at p);
    })
split_quiet u f h i (inr g) =
    let m = g.first in
    inr (record {
      first =
          record {
            mark = m.mark;
            front = m.front;
            back = m.back;
            before = u ∷ m.before;
            after = m.after;
            row = m.row;
            longer = ap (u ∷◌) m.longer;
            quiet = put u (record { foreign = f; unmarked = h }) m.quiet;
            foreign = m.foreign;
            marking = m.marking;
            rest = m.rest;
          };
      is = rw (h, g.is);
      before = λ at p l k. rw (g.before at p l k);
    })

split_put : {dialect : Dialect} (u : Piece) (f : Foreign dialect u) {qs rs : List Piece} (i : Inserted (Foreign dialect) qs rs) → Split i → (x : Bool)
    → is_marked u ≡ x → Split (put u f i)
unfolding first_mark avps_of past
split_put u f {qs} {rs} i s true h =
    inr (record {
      first =
          record { mark = u; front = []; back = qs; before = []; after = rs; row = refl; longer = refl; quiet = ending; foreign = f; marking = h; rest = i };
      is = rw h;
      before = λ at p l k. absurd (omega arith);
    })
split_put u f i s false h = split_quiet u f h i s

pub split : {dialect : Dialect} {qs rs : List Piece} (i : Inserted (Foreign dialect) qs rs) → Split i
unfolding first_mark put_before
split ending = inl (record { is = refl; quiet = ending; before = λ at p. refl })
split (keep q i) = split_keep q i (split i)
split (put u f i) = split_put u f i (split i) (is_marked u) refl

pub marked_or_not : {dialect : Dialect} {qs rs : List Piece} → Inserted (Foreign dialect) qs rs → Inserted (Quiet dialect) qs rs ⊎ FirstMarked dialect qs rs
marked_or_not {dialect} {qs} {rs} i = go (split i)
  where
    go : Split i → Inserted (Quiet dialect) qs rs ⊎ FirstMarked dialect qs rs
    go (inl n) = inl n.quiet
    go (inr f) = inr f.first

-- what was put in before a place, by the row in front alone; and where none is marked
pub found_before : {dialect : Dialect} (q : Piece) {qs rs : List Piece} (i : Inserted (Foreign dialect) qs rs) (f : MarkFound i) (p : ℕ) → 20 ≤ p
    → p < past 20 (avps_of (q ∷ f.first.front)) → put_before (keep q f.first.quiet) 20 p ≡ put_before (keep q i) 20 p
unfolding put_before avps_of past
found_before q i f p l h = go (ltb p (20 + size_of q)) refl
  where
    go : (x : Bool) → ltb p (20 + size_of q) ≡ x
        → cond x 0 (put_before f.first.quiet (20 + size_of q) p) ≡ cond x 0 (put_before i (20 + size_of q) p)
    go true e = refl
    go false e = f.before (20 + size_of q) p (ltb-false p (20 + size_of q) e) h

pub none_now : {dialect : Dialect} (q : Piece) {qs rs : List Piece} (i : Inserted (Foreign dialect) qs rs) (n : None i)
    → place_now (keep q n.quiet) ≡ place_now (keep q i)
unfolding put_before
none_now q i n = fun_ext (λ p. rw (n.before (20 + size_of q) p))

-- what a call with them comes to over a table of its exact length; over an area it is `newer`
unfoldable newer_table : (x : Lent) → List ℕ → List ℕ → Piece → (ℕ → ℕ) → Option Mark → Served
newer_table x longer head q now none = placed now (serve_table x)
newer_table x longer head q now (some m) =
    cond (turned_away x || fault_in (dialect_of x.terms head) head (q ∷ m.front)) (placed now (serve_table x))
    (blaming_table (asking x longer) 5001 m.mark.avp (behind_row (q ∷ m.before)))

newer_over : (a : Lent) (longer head : List ℕ) (q : Piece) (now : ℕ → ℕ) (m : Option Mark)
    → over_area a.table (newer_table (table_only a) longer head q now m) ≡ newer a longer head q now m
unfolding newer newer_table
newer_over a longer head q now none = refl
newer_over a longer head q now (some m) = go (turned_away (table_only a) || fault_in (dialect_of a.terms head) head (q ∷ m.front))
  where
    go : (b : Bool) → over_area a.table (cond b (placed now (serve_table (table_only a))) (blaming_table (asking (table_only a) longer) 5001 m.mark.avp
        (behind_row (q ∷ m.before)))) ≡ cond b (placed now (serve a)) (unsupported (asking a longer) m.mark (behind_row (q ∷ m.before)))
    go true = refl
    go false = blaming_over (asking a longer) 5001 m.mark.avp (behind_row (q ∷ m.before))

-- A request, its AVPs after the first, the longer row, and what is behind it.
module _ (head : List ℕ) (twenty : length head ≡ 20) (q : Piece) (qs rs : List Piece) (whole : All Whole (q ∷ qs)) (tail : List ℕ) (fours : length tail % 4 ≡ 0)
    (most : length (request_of head (q ∷ rs) tail) ≤ 16384) (x : Lent) (i : Inserted (Foreign (dialect_of x.terms head)) qs rs) where
  abbrev short : Lent
  short = asking x (request_of head (q ∷ qs) tail)

  abbrev long : Lent
  long = asking x (request_of head (q ∷ rs) tail)

  abbrev now : ℕ → ℕ
  now = place_now (keep q i)

  marked_newer : (f : MarkFound i) (y z : Bool) → turned_away short ≡ y → fault_in (dialect_of x.terms head) head (q ∷ f.first.front) ≡ z
      → serve_table long ≡ cond (y || z) (placed now (serve_table short)) (blaming_table long 5001 f.first.mark.avp (behind_row (q ∷ f.first.before)))
  marked_newer f true z a b = both_refused head twenty q qs rs whole tail fours most x i now a
  marked_newer f false true a b =
      fault_more head twenty q qs rs whole tail fours most x f.first (put_before (keep q i) 20) (none_before q i) (found_before q i f) b
  marked_newer f false false a b = mark_answered head twenty q qs rs whole tail fours most x f.first b a

  row_newer : Split i → serve_table long ≡ newer_table short long.request head q now (first_mark i)
  unfolding newer_table
  row_newer (inl n) =
      rw n.is (unmarked_same head twenty q qs rs whole tail fours most x n.quiet ∙ ap (λ (f : ℕ → ℕ). placed f (serve_table short)) (none_now q i n))
  row_newer (inr f) = rw f.is (marked_newer f (turned_away short) (fault_in (dialect_of x.terms head) head (q ∷ f.first.front)) refl refl)

  row_kept : Split i → (m : Mark) → first_mark i ≡ some m → ((serve_table long).table ≡ x.table) × ((serve_table long).vectors ≡ x.vectors)
  row_kept (inl n) m g = absurd (none-ne-some m (sym n.is ∙ g))
  row_kept (inr f) m g = marked_kept head twenty q qs rs whole tail fours most x f.first

-- The same of the bytes.
record NewerTable (x : Lent) (longer : List ℕ) (l : Longer x.terms x.request longer) : Type 0 where
  comes : serve_table (asking x longer)
      ≡ newer_table x longer l.cut.head l.cut.first (place_now (keep l.cut.first l.inserted)) (first_mark l.inserted)
  table : (m : Mark) → first_mark l.inserted ≡ some m → (serve_table (asking x longer)).table ≡ x.table
  vectors : (m : Mark) → first_mark l.inserted ≡ some m → (serve_table (asking x longer)).vectors ≡ x.vectors

longer_table : (x : Lent) (longer : List ℕ) (l : Longer x.terms x.request longer) → NewerTable x longer l
longer_table x longer l =
    let c = l.cut in
    let long = request_of c.head (c.first ∷ l.row) c.tail in
    let most : length long ≤ 16384 = omega (arith, l.most, ap length l.bytes) in
    let same : serve_table (asking x longer) ≡ serve_table (asking x long) = ap (λ (y : List ℕ). serve_table (asking x y)) l.bytes in
    let now = place_now (keep c.first l.inserted) in
    let m = first_mark l.inserted in
    let kept =
    row_kept c.head c.twenty c.first c.rest l.row c.whole c.tail c.fours most x l.inserted (split l.inserted) in
    record {
      comes =
          same
          ∙ row_newer c.head c.twenty c.first c.rest l.row c.whole c.tail c.fours most x l.inserted (split l.inserted)
          ∙ ap (λ (y : List ℕ). newer_table (asking x y) long c.head c.first now m) (sym c.joined)
          ∙ ap (λ (y : List ℕ). newer_table x y c.head c.first now m) (sym l.bytes);
      table = λ n e. rw same (kept n e).0;
      vectors = λ n e. rw same (kept n e).1;
    }

-- And over an area.
pub longer_newer : (a : Lent) (longer : List ℕ) (l : Longer a.terms a.request longer) → Newer a longer l
longer_newer a longer l =
    let n : NewerTable (table_only a) longer l = longer_table (table_only a) longer l in
    record {
      comes =
          ap (over_area a.table) n.comes
          ∙ newer_over a longer l.cut.head l.cut.first (place_now (keep l.cut.first l.inserted)) (first_mark l.inserted);
      table = λ m e. served_stays (asking a longer) (served_in (asking a longer) ∙ n.table m e);
      vectors = λ m e. n.vectors m e;
    }
