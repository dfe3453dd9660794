-- A line's record by itself and behind the one before: what is tested of two blocks is what is asked of the table that the list says.
use Rattle.octets.specs.Standard.{ℕ, suc, ◌+◌, ◌-◌, ◌<◌, ◌≤◌, Bool, true, false, ◌&&◌, cond, and_assoc, ◌≡◌, refl, sym, ◌∙◌, ap, arith, add-one}
use Rattle.octets.specs.Standard.{leb, le-leb, lt-leb, leb-false, List, length, length-take, drop, Option, none, some}
use Rattle.octets.specs.Name.{order_of}
use Rattle.std.specs.declared.cmp.Ordering.{Ordering}
use Rattle.std.specs.declared.cmp.Ordering.TheVariants.{Less, Equal, Greater}
use Rattle.octets.proofs.All.{and_left}
use Rattle.record.specs.Fields.{count_of, issue_of, public_of}
use Rattle.record.specs.HeaderBlock.{header_of}
use Rattle.record.specs.RecordBlock.{record_of, sound_record}
use Rattle.record.specs.declared.header.Header.{Header}
use Rattle.record.proofs.Tests.{RecordTests, record_says, Limits, limits_say, HeaderTests, header_says}
use Rattle.blocks.specs.Blocks.{block_of}
use Rattle.table.specs.Check.{is_less, stands_at, rises_at}
use Rattle.table.specs.Named.{public_at}
use Rattle.quoting.specs.Quoted.{listable}
use Rattle.rows.specs.Row.{Row, row_of, line_of}
use Rattle.rows.specs.RowIn.{row_in}
use Rattle.rows.specs.Block.{block_from, block_said}
use Rattle.rows.proofs.Lines as line
use Rattle.rows.proofs.Blocks.{row_said}
use Rattle.rows.proofs.Written.{line_short}
use Rattle.importing.specs.Above.{above}
use Rattle.importing.specs.Said.{place_of, said_at, table_said, enough_at}
use Rattle.importing.specs.Import.{fit_header}
use Rattle.importing.proofs.Accepts.{FitHeader, header_fits, said_block, place_after}
use Rattle.saying.proofs.Reading.{line_some}
use Rattle.judging.specs.Fit.{Fit}
use Rattle.judging.specs.Passes.{fits_at, follows, fits_behind, LineBefore}

pub is_fit : (header : List ℕ) {x : Bool} → x ≡ fit_header header → x ≡ true → Fit header
unfolding header_of
is_fit header e f =
    let h : FitHeader header = header_fits header (sym e ∙ f) in
    let t : HeaderTests header = header_says header h.sound in
    record { fits = sym e ∙ f; size = h.size; few = t.count; networks = t.networks }

-- the block that is said is the table's
pub fit_block : (list header : List ℕ) → Fit header → (k : ℕ) → k ≤ count_of header → block_of (table_said list header) k ≡ said_at list header k
fit_block list header f k h = said_block list header (header_fits header f.fits) k h

pub fit_here : (list header : List ℕ) (k : ℕ) {b : List ℕ} → Fit header → k ≤ count_of header → b ≡ said_at list header k → b ≡ block_of (table_said list header) k
fit_here list header k f h e = e ∙ sym (fit_block list header f k h)

-- its public identity can be listed
pub said_listed : (list header : List ℕ) (n : ℕ) {b : List ℕ} → b ≡ said_at list header (n + 1) → listable (public_of b) ≡ true
unfolding said_at listable public_of row_of
said_listed list header n e = rw (e, add-one n) (go (row_in (drop (place_of list n) list)) refl)
  where
    named : (r : Row) → row_in (drop (place_of list n) list) ≡ some r → listable (public_of (block_from (issue_of header) (suc n) r)) ≡ true
    named r f =
        let g : line.Fitting r = (line.written_read (drop (place_of list n) list) r f).fitting in
        let p : public_of (block_from (issue_of header) (suc n) r) ≡ r.public = ap (λ (q : Row). q.public) (row_said (issue_of header) (suc n) r g) in
        rw p g.public

    go : (o : Option Row) → row_in (drop (place_of list n) list) ≡ o → listable (public_of (block_said (issue_of header) (suc n) o)) ≡ true
    go none f = refl
    go (some r) f = named r f

-- The order of two records.
module _ (a b : List ℕ) (k : ℕ) where
  pub follows_first : k ≤ 1 → true ≡ follows a b k
  unfolding follows
  follows_first h = rw (le-leb k 1 h)

  module _ (h : 1 < k) (s t : List ℕ) {o : Ordering} (es : s ≡ public_of a) (et : t ≡ public_of b) (e : o ≡ order_of s t) where
    order_is : follows a b k ≡ is_less o
    unfolding follows
    order_is = rw (lt-leb k 1 h, e, es, et)

    pub follows_less : o ≡ Less → true ≡ follows a b k
    follows_less f = rw (order_is, f)

    pub follows_other : (o ≡ Less → ⊥) → false ≡ follows a b k
    follows_other f = go o refl
      where
        go : (c : Ordering) → o ≡ c → false ≡ follows a b k
        go Less e = absurd (f e)
        go Equal e = rw (order_is, e)
        go Greater e = rw (order_is, e)

-- A sound record's name is within its limits.
pub name_within : (b : List ℕ) (h : Header) (file k : ℕ) {x : Bool} {s : List ℕ} → x ≡ sound_record b k h file → x ≡ true → s ≡ public_of b → length s ≤ 128
unfolding record_of public_of
name_within b h file k e f g =
    let t : RecordTests b k h file = record_says b k h file (sym e ∙ f) in
    let l : Limits (record_of b) = limits_say (record_of b) t.limits in
    rw g (simp length-take (omega (arith, l.public)))

pub name_listed : (b s : List ℕ) → listable (public_of b) ≡ true → s ≡ public_of b → listable s ≡ true
name_listed b s e f = rw f e

module _ (a b : List ℕ) (h : Header) (file k : ℕ) {x : Bool} (e : x ≡ sound_record b k h file) where
  pub behind_fits : {s : List ℕ} {y z : Bool} → x ≡ true → y ≡ follows a b k → s ≡ public_of b → z ≡ leb (h.count - k) (above 128 s)
      → (y && z) ≡ fits_behind a b h file k
  unfolding fits_behind
  behind_fits f ey es ez = rw (← e, f, ey, ez, es)

  pub behind_not : x ≡ false → false ≡ fits_behind a b h file k
  unfolding fits_behind
  behind_not f = rw (← e, f)

-- The two blocks are those that the list says.
module _ (list header : List ℕ) (fit : Fit header) (file m : ℕ) (h : m < count_of header) (a b : List ℕ) (before : LineBefore list header a m)
    (said : b ≡ said_at list header (m + 1)) where
  t : List ℕ
  t = table_said list header

  here : block_of (table_said list header) (m + 1) ≡ b
  here = fit_block list header fit (m + 1) (omega arith) ∙ sym said

  rises_is : rises_at (table_said list header) (m + 1) ≡ follows a b (m + 1)
  unfolding rises_at follows public_at
  rises_is = go (leb (m + 1) 1) refl
    where
      go : (x : Bool) → leb (m + 1) 1 ≡ x
          → cond x true (is_less (order_of (public_of (block_of (table_said list header) (m + 1 - 1))) (public_of (block_of (table_said list header) (m + 1)))))
          ≡ cond x true (is_less (order_of (public_of a) (public_of b)))
      go true e = refl
      go false e =
          let l : 1 < m + 1 = leb-false (m + 1) 1 e in
          let d : m + 1 - 1 ≡ m = omega arith in
          let p : block_of (table_said list header) m ≡ a = fit_block list header fit m (omega arith) ∙ sym (before.said (omega arith)) in
          rw (d, p, here)

  pub fits_said : {x : Bool} {q : Header} → q ≡ header_of header → x ≡ fits_behind a b q file (m + 1) → x ≡ fits_at list header file (m + 1)
  unfolding fits_behind fits_at stands_at enough_at public_at header_of
  fits_said eq e =
      rw (rises_is, here)
      (e
      ∙ rw eq
      (sym (and_assoc (sound_record b (m + 1) (header_of header) file) (follows a b (m + 1)) (leb (count_of header - (m + 1)) (above 128 (public_of b))))))

-- A record that fits has a line, which is not too long.
module _ (list header : List ℕ) (fit : Fit header) (file m : ℕ) (h : m < count_of header) (good : fits_at list header file (m + 1) ≡ true) where
  abbrev block : List ℕ
  block = block_of (table_said list header) (suc m)

  record_good : sound_record block (suc m) (header_of header) file ≡ true
  unfolding fits_at stands_at
  record_good =
      let g : fits_at list header file (suc m) ≡ true = rw (add-one m) at good in
      and_left (sound_record block (suc m) (header_of header) file) (rises_at (table_said list header) (suc m))
      (and_left (stands_at (table_said list header) (header_of header) file (suc m)) (enough_at (table_said list header) (count_of header) (suc m)) g)

  after : place_of list (m + 1) ≡ place_of list m + length (line_of (row_of block))
  after = rw (add-one m) (place_after list header (header_fits header fit.fits) file m h record_good)

  pub line_there : place_of list m < place_of list (m + 1)
  line_there = omega (arith, after, line_some (row_of block))

  pub line_most : place_of list (m + 1) ≤ place_of list m + 1024
  unfolding record_of
  line_most =
      let l : Limits (record_of block) = limits_say (record_of block) (record_says block (suc m) (header_of header) file record_good).limits in
      omega (arith, after, line_short block l.public l.private l.server)

-- The header's numbers, by what is read of it.
module _ (header : List ℕ) (fit : Fit header) (h : Header) (e : h ≡ header_of header) where
  pub count_few : h.count ≤ 4096
  unfolding header_of
  count_few = rw e fit.few

  pub networks_few : h.networks ≤ 8
  unfolding header_of
  networks_few = rw e fit.networks

  pub count_read : h.count ≡ count_of header
  unfolding header_of
  count_read = rw e
