-- Demand 3 for the Sh server about two requests as bytes: those put in are unmarked, or one of them is the first that is marked.
use Rattle.octets.specs.Standard.{ℕ, ◌%◌, ◌≤◌, List, ◌∷◌, Bool, true, false, cond, ◌||◌, ◌≡◌, refl, sym, ap, ◌∙◌, inl, inr, arith, length}
use Rattle.diameter.specs.Put.{Piece, Whole, All}
use Rattle.requests.specs.Request.{dialect_of, header_fault_sh}
use Rattle.reading.specs.declared.Dialect.{Dialect}
use Rattle.ndushavire_sh.specs.Lent.{Lent, terms_in}
use Rattle.ndushavire_sh.specs.Serve.{sh_serve}
use Rattle.demands.specs.Insertion.{request_of, Foreign, Inserted, keep, put_before, place_now, fault_by, behind_row, first_mark, Longer}
use Rattle.demands.proofs.Longer.{MarkFound, Split, split, found_before, none_now}
use Rattle.demands.proofs.Rows.{none_before}
use Rattle.sh_demands.specs.Call.{turned_away}
use Rattle.sh_demands.specs.Insertion.{asking, placed, blaming, newer, Newer}
use Rattle.sh_demands.proofs.Inserted.{unmarked_same, both_refused, fault_more, mark_answered}

module _ (head : List ℕ) (twenty : length head ≡ 20) (q : Piece) (qs rs : List Piece) (whole : All Whole (q ∷ qs)) (tail : List ℕ) (fours : length tail % 4 ≡ 0)
    (most : length (request_of head (q ∷ rs) tail) ≤ 16384) (x : Lent) (i : Inserted (Foreign (dialect_of (terms_in x) head)) qs rs) where
  abbrev short : Lent
  short = asking x (request_of head (q ∷ qs) tail)

  abbrev long : Lent
  long = asking x (request_of head (q ∷ rs) tail)

  abbrev dialect : Dialect
  dialect = dialect_of (terms_in x) head

  marked_newer : (f : MarkFound i) (y z : Bool) → turned_away short ≡ y → fault_by (header_fault_sh dialect head) dialect (q ∷ f.first.front) ≡ z
      → sh_serve long
      ≡ cond (y || z) (placed (place_now (keep q i)) (sh_serve short)) (blaming long 5001 f.first.mark.avp (behind_row (q ∷ f.first.before)))
  marked_newer f true z a b = both_refused head twenty q qs rs whole tail fours most x i (place_now (keep q i)) a
  marked_newer f false true a b =
      fault_more head twenty q qs rs whole tail fours most x f.first (put_before (keep q i) 20) (none_before q i) (found_before q i f) b
  marked_newer f false false a b = mark_answered head twenty q qs rs whole tail fours most x f.first b a

  row_newer : Split i → sh_serve long ≡ newer short long.request head q (place_now (keep q i)) (first_mark i)
  unfolding newer
  row_newer (inl n) =
      rw n.is (unmarked_same head twenty q qs rs whole tail fours most x n.quiet ∙ ap (λ (f : ℕ → ℕ). placed f (sh_serve short)) (none_now q i n))
  row_newer (inr f) = rw f.is (marked_newer f (turned_away short) (fault_by (header_fault_sh dialect head) dialect (q ∷ f.first.front)) refl refl)

pub longer_newer : (x : Lent) (longer : List ℕ) (l : Longer (terms_in x) x.request longer) → Newer x longer l
longer_newer x longer l =
    let c = l.cut in
    let long = request_of c.head (c.first ∷ l.row) c.tail in
    let most : length long ≤ 16384 = omega (arith, l.most, ap length l.bytes) in
    let now = place_now (keep c.first l.inserted) in
    let m = first_mark l.inserted in
    ap (λ (y : List ℕ). sh_serve (asking x y)) l.bytes
    ∙ row_newer c.head c.twenty c.first c.rest l.row c.whole c.tail c.fours most x l.inserted (split l.inserted)
    ∙ ap (λ (y : List ℕ). newer (asking x y) long c.head c.first now m) (sym c.joined)
    ∙ ap (λ (y : List ℕ). newer x y c.head c.first now m) (sym l.bytes)
