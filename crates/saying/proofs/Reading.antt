-- A line read where it begins: the block that it says, and where the next one begins; and one read again.
use Rattle.octets.specs.Standard.{ℕ, zero, suc, ◌+◌, ◌-◌, ◌*◌, ◌/◌, ◌%◌, ◌<◌, ◌≤◌, Bool, true, false, cond, ◌≡◌, refl, sym, ◌∙◌, ap, arith, add-one}
use Rattle.octets.specs.Standard.{eqb, eqb-true, eqb-false, eq-eqb, ne_eqb, List, ◌++◌, length, length-append}
use Rattle.octets.specs.Standard.{length-drop, length-set, length-replicate, take, drop, get_or, set, replicate, get_or-set_same, get_or-set_other}
use Rattle.octets.specs.Standard.{Option, none, some}
use Rattle.std.specs.Prelude.{None, Some}
use Rattle.record.specs.Fields.{issue_of}
use Rattle.quoting.specs.Quoted.{quoted}
use Rattle.rows.specs.Row.{Row, line_of}
use Rattle.rows.specs.RowIn.{row_in, row_size}
use Rattle.rows.specs.Block.{block_said}
use Rattle.rows.proofs.Lines as line
use Rattle.rows.proofs.Blocks.{said_length}
use Rattle.parsing.specs.Parsed.{given, row_length, block_over}
use Rattle.parsing.proofs.Fields.{part_end, Given, given_some, given_none}
use Rattle.listing.proofs.Lists.{first_length_lem}
use Rattle.importing.specs.Said.{place_of, said_at}
use Rattle.saying.specs.Noted.{noted, Noted}
use Rattle.saying.specs.Passed.{line_size}
use Rattle.saying.proofs.Passing.{place_past}

-- a line has bytes, and stands in the list
pub line_some : (r : Row) → 0 < length (line_of r)
unfolding line_of quoted
line_some r = omega arith

row_within : (s : List ℕ) → row_size (row_in s) ≤ length s
row_within s = go (row_in s) refl
  where
    go : (o : Option Row) → row_in s ≡ o → row_size o ≤ length s
    go none e = omega arith
    go (some r) e =
        let f : s ≡ line_of r ++ drop (length (line_of r)) s = (line.written_read s r e).front in
        omega (arith, ap length f, length-append (line_of r) (drop (length (line_of r)) s))

-- The line behind n records, if one stands there.
module _ (list header : List ℕ) (at n : ℕ) (p : at ≡ place_of list n) where
  module _ {size : ℕ} (e : Some size ≡ given row_length (row_in (take (length list - at) (drop at list)))) where
    read_some : Given row_length (row_in (drop at list)) size
    read_some = given_some row_length _ (rw (part_end list at) at e)

    size_is : size ≡ row_size (row_in (drop at list))
    size_is = rw read_some.is read_some.made

    pub place_next : at + size ≡ place_of list (n + 1)
    unfolding place_of
    place_next = rw (add-one n, ← p, ← size_is)

    pub next_within : at ≤ length list → at + size ≤ length list
    next_within h = omega (arith, size_is, row_within (drop at list), length-drop at list)

    pub said_line : (issue : ℕ) (b y : List ℕ) → issue ≡ issue_of header → y ≡ block_over issue (n + 1) (row_in (take (length list - at) (drop at list))) b
        → y ≡ said_at list header (n + 1)
    unfolding said_at
    said_line issue b y i f =
        let here : y ≡ block_over (issue_of header) (suc n) (row_in (drop at list)) b = f ∙ rw (part_end list at, i, add-one n) in
        rw (add-one n, ← p, read_some.is) (rw read_some.is at here)

  module _ (e : None ≡ given row_length (row_in (take (length list - at) (drop at list)))) where
    read_none : row_in (drop at list) ≡ none
    read_none = given_none row_length _ (rw (part_end list at) at e)

    pub place_same : at + 0 ≡ place_of list (n + 1)
    unfolding place_of
    place_same = rw (add-one n, ← p, read_none)

    pub said_none : replicate 512 0 ≡ said_at list header (n + 1)
    unfolding said_at
    said_none = rw (add-one n, ← p, read_none)

-- every line begins within the list
pub place_within : (list : List ℕ) (n : ℕ) → 121 ≤ length list → place_of list n ≤ length list
unfolding place_of
place_within list zero h = omega (arith, first_length_lem)
place_within list (suc n) h =
    omega (arith, place_within list n h, row_within (drop (place_of list n) list), length-drop (place_of list n) list)

pub place_first : (list : List ℕ) → 121 ≡ place_of list 0
unfolding place_of
place_first list = sym first_length_lem

-- Places that are kept.
pub noted_none : (list places : List ℕ) → length places ≡ 128 → Noted list places 0
noted_none list places e = record { size = e; each = λ i h. absurd (omega arith); there = λ i h. absurd (omega arith) }

pub noted_less : (list places : List ℕ) (m n : ℕ) → m ≤ n → Noted list places n → Noted list places m
noted_less list places m n h k = record { size = k.size; each = λ i l. k.each i (omega arith); there = λ i l. k.there i (omega arith) }

pub note_kept : (places : List ℕ) (n at : ℕ) → n % 32 ≡ 0 → set places (n / 32) at ≡ noted places n at
unfolding noted
note_kept places n at e = rw (eq-eqb (n % 32) 0 e)

pub note_other : (places : List ℕ) (n at : ℕ) → (n % 32 ≡ 0 → ⊥) → places ≡ noted places n at
unfolding noted
note_other places n at e = rw (ne_eqb (n % 32) 0 e)

pub noted_more : (list places : List ℕ) (n at : ℕ) {ps : List ℕ} → ps ≡ noted places n at → at ≡ place_of list n → n < 4096
    → place_of list n < place_of list (n + 1) → Noted list places n → Noted list ps (n + 1)
unfolding noted
noted_more list places n at e p h q k = rw e (go (eqb (n % 32) 0) refl)
  where
    line_there : (i : ℕ) → i < n + 1 → (y : Bool) → eqb i n ≡ y → place_of list i < place_of list (i + 1)
    line_there i l true g = rw (eqb-true i n g) q
    line_there i l false g = let z : i ≡ n → ⊥ = eqb-false i n g in k.there i (omega arith)

    go : (x : Bool) → eqb (n % 32) 0 ≡ x → Noted list (cond x (set places (n / 32) at) places) (n + 1)
    go false f =
        let z : n % 32 ≡ 0 → ⊥ = eqb-false (n % 32) 0 f in
        record { size = k.size; each = λ i l. k.each i (omega arith); there = λ i l. line_there i l (eqb i n) refl }
    go true f =
        record { size = rw length-set k.size; each = λ i l. pick i l (eqb i (n / 32)) refl; there = λ i l. line_there i l (eqb i n) refl }
      where
        z : n % 32 ≡ 0
        z = eqb-true (n % 32) 0 f

        pick : (i : ℕ) → 32 * i < n + 1 → (y : Bool) → eqb i (n / 32) ≡ y → get_or (set places (n / 32) at) i 0 ≡ place_of list (32 * i)
        pick i l true g =
            let q : i ≡ n / 32 = eqb-true i (n / 32) g in
            let d : 32 * (n / 32) ≡ n = omega (arith, z) in
            rw (q, get_or-set_same places (n / 32) at 0 (omega (arith, k.size)), d) p
        pick i l false g =
            let q : i ≡ n / 32 → ⊥ = eqb-false i (n / 32) g in
            rw (get_or-set_other places (n / 32) i at 0 q) (k.each i (omega arith))

-- A block read again: lines are passed over from a place that was kept up to its own.
module _ (list places : List ℕ) (k : ℕ) (n : Noted list places k) where
  pub again_place : (i : ℕ) {at : ℕ} → i ≡ (k - 1) / 32 → 1 ≤ k → at ≡ get_or places i 0 → at ≡ place_of list (32 * i)
  again_place i e h f = f ∙ n.each i (omega arith)

  pub again_within : {at : ℕ} → 1 ≤ k → at ≡ get_or places ((k - 1) / 32) 0 → 121 ≤ length list → at ≤ length list
  again_within h f l = rw (again_place ((k - 1) / 32) refl h f) (place_within list (32 * ((k - 1) / 32)) l)

  pub again_past : (m at : ℕ) {r : ℕ} → m < k - 1 → at ≡ place_of list m → r ≡ at + line_size (drop at list) → r ≡ place_of list (m + 1)
  again_past m at h p e = place_past list m at (n.there m (omega arith)) p e

pub again_end : (list : List ℕ) (n k at : ℕ) → n ≤ k - 1 → k - 1 ≤ n → at ≡ place_of list n → at ≡ place_of list (k - 1)
again_end list n k at a b p = let q : n ≡ k - 1 = omega arith in rw (← q) p

pub again_said : (list header : List ℕ) (k : ℕ) {y : List ℕ} → 1 ≤ k → y ≡ said_at list header (k - 1 + 1) → y ≡ said_at list header k
again_said list header k h e = let q : k - 1 + 1 ≡ k = omega arith in rw q at e

-- every block that is said is whole
pub said_whole : (list header : List ℕ) (k : ℕ) → length header ≡ 512 → length (said_at list header k) ≡ 512
unfolding said_at
said_whole list header zero h = h
said_whole list header (suc n) h = go (row_in (drop (place_of list n) list)) refl
  where
    go : (o : Option Row) → row_in (drop (place_of list n) list) ≡ o → length (block_said (issue_of header) (suc n) o) ≡ 512
    go none e = length-replicate {A = ℕ} 512 0
    go (some r) e = said_length (issue_of header) (suc n) r (line.written_read (drop (place_of list n) list) r e).fitting
