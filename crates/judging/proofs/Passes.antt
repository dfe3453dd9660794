-- The first pass turn by turn, and that the two passes find the first wrong line.
use Rattle.std.specs.Prelude.{Result, Ok, Err}
use Rattle.octets.specs.Standard.{ℕ, ◌+◌, ◌-◌, ◌<◌, ◌≤◌, Bool, true, false, ◌&&◌, cond, ◌≡◌, refl, sym, ◌∙◌, ap, arith, bit_or}
use Rattle.octets.specs.Standard.{eqb, leb, le-leb, lt-leb, leb-true, leb-false, eq-eqb, ne_eqb, min, List, length, length-take, take, take_all, drop}
use Rattle.octets.specs.Name.{same}
use Rattle.octets.proofs.All.{all_none}
use Rattle.octets.proofs.Names.{same_eq}
use Rattle.record.specs.Fields.{count_of, set_of}
use Rattle.record.specs.HeaderBlock.{header_of}
use Rattle.record.specs.declared.header.Header.{Header}
use Rattle.blocks.specs.Blocks.{first_bad}
use Rattle.table.specs.Check.{stands_at, agrees_at, sound_at}
use Rattle.table.specs.Leading.{leading, setless, outcome_of}
use Rattle.table.proofs.Leading.{leading_all, leading_more, leading_stop, leading_end, setless_read, setless_more, setless_left, setless_end, setless_all}
use Rattle.table.proofs.Leading.{two_passes}
use Rattle.listing.specs.ListOf.{first_line}
use Rattle.listing.proofs.Lists.{first_length_lem}
use Rattle.importing.specs.Said.{place_of, said_at, table_said, enough_at, holds_at, is_titled, over_records, first_wrong}
use Rattle.saying.specs.Noted.{noted}
use Rattle.saying.proofs.Reading.{place_first, noted_none, noted_more, said_whole}
use Rattle.judging.specs.Fit.{Fit}
use Rattle.judging.specs.Passes.{fits_at, fits_behind, Turned, Standing, StoodSo, verdict_of}
use Rattle.judging.specs.declared.standing.Stood.{Stood}
use Rattle.judging.proofs.Fitting.{fit_here, fits_said, line_there, line_most}

module _ (list header : List ℕ) (fit : Fit header) (file : ℕ) where
  pub standing_none : (places a : List ℕ) → 121 ≤ length list → length places ≡ 128 → length a ≡ 512 → Standing list header file places a 0 121 0
  standing_none places a l p s =
      record {
        few = omega arith;
        left = leading_all (fits_at list header file) (count_of header);
        none = all_none (setless (table_said list header));
        place = place_first list;
        within = l;
        near = omega arith;
        noted = noted_none list places p;
        before = record { size = s; said = λ h. absurd (omega arith) };
      }

  module _ (places a : List ℕ) (m at sets : ℕ) (s : Standing list header file places a m at sets) where
    -- a place is of 32 bits
    pub place_small : m < count_of header → at < 4294967296
    place_small h = omega (arith, s.near, fit.few)

    pub turned : (q : Header) {b : List ℕ} {size set : ℕ} {x : Bool} → m < count_of header → q ≡ header_of header
        → (b ≡ said_at list header (m + 1)) × (at + size ≡ place_of list (m + 1)) × (at + size ≤ length list) → set ≡ set_of b
        → x ≡ fits_behind a b q file (m + 1) → Turned list header file at m b size x set
    turned q h e r f g =
        record { said = r.0; place = r.1; within = r.2; fitting = fits_said list header fit file m h a _ s.before r.0 e g; set_read = f }

    module _ (h : m < count_of header) {b : List ℕ} {size set : ℕ} {fits : Bool} (turn : Turned list header file at m b size fits set) where
      set_is : eqb set 0 ≡ setless (table_said list header) m
      set_is = setless_read (table_said list header) m b (fit_here list header (m + 1) fit (omega arith) turn.said) turn.set_read

      pub standing_more : {ps : List ℕ} → fits ≡ true → ps ≡ noted places m at
          → Standing list header file ps b (m + 1) (at + size) (bit_or sets set)
      standing_more f kept =
          let good : fits_at list header file (m + 1) ≡ true = sym turn.fitting ∙ f in
          let lb : length b ≡ 512 = ap length turn.said ∙ said_whole list header (m + 1) fit.size in
          record {
            few = omega arith;
            left = leading_more (fits_at list header file) (count_of header) m s.left h turn.fitting f;
            none = setless_more (table_said list header) m sets set s.none set_is;
            place = turn.place;
            within = turn.within;
            near = omega (arith, s.near, s.place, turn.place, line_most list header fit file m h good);
            noted = noted_more list places m at kept s.place (omega (arith, fit.few)) (line_there list header fit file m h good) s.noted;
            before = record { size = lb; said = λ l. turn.said };
          }

      pub stood_here : fits ≡ false → StoodSo list header file places (record { records = m; setless = eqb (bit_or sets set) 0; end = at })
      stood_here f =
          record {
            records = leading_stop (fits_at list header file) (count_of header) m s.left h turn.fitting f;
            few = s.few;
            none = setless_left (table_said list header) m sets set s.none;
            place = s.place;
            noted = s.noted;
          }

    pub stood_end : (count : ℕ) → count ≡ count_of header → count ≤ m
        → StoodSo list header file places (record { records = count; setless = eqb sets 0; end = at })
    stood_end count c g = let h : count_of header ≤ m = omega arith in let q : count ≡ m = omega (arith, s.few) in rw q
        (record {
          records = leading_end (fits_at list header file) (count_of header) m s.left h;
          few = s.few;
          none = setless_end (table_said list header) m s.none;
          place = s.place;
          noted = s.noted;
        })

-- The answer.
exchange : (s a e : Bool) → ((s && a) && e) ≡ ((s && e) && a)
exchange true true true = refl
exchange true true false = refl
exchange true false true = refl
exchange true false false = refl
exchange false a e = refl

module _ (list header : List ℕ) (file : ℕ) where
  holds_each : (k : ℕ) → holds_at list header file k ≡ (fits_at list header file k && agrees_at (table_said list header) k)
  unfolding holds_at fits_at sound_at
  holds_each k =
      exchange (stands_at (table_said list header) (header_of header) file k) (agrees_at (table_said list header) k)
      (enough_at (table_said list header) (count_of header) k)

  pub untitled : {x : Bool} → x ≡ is_titled list → x ≡ false → Err 0 ≡ first_wrong list header file
  unfolding first_wrong
  untitled e f = rw (← e, f)

  module _ (title : is_titled list ≡ true) (places : List ℕ) (s : Stood) (so : StoodSo list header file places s) where
    two_whole : (m : ℕ) {r : Result ℕ ℕ} → m ≡ leading (agrees_at (table_said list header)) s.records 1 → m ≤ s.records
        → r ≡ verdict_of list (count_of header) m s.end → r ≡ first_wrong list header file
    unfolding first_wrong
    two_whole m e h f =
        let q : first_bad (holds_at list header file) (count_of header) (count_of header) 1 ≡ outcome_of (count_of header) m =
        two_passes (holds_at list header file) (fits_at list header file) (agrees_at (table_said list header)) holds_each (count_of header) (count_of header) 1
        ∙ rw (← so.records, ← e) in
        rw (title, q) (f ∙ go (leb (m + 1) (count_of header)) refl)
      where
        go : (x : Bool) → leb (m + 1) (count_of header) ≡ x
            → cond x (Err (m + 1)) (cond (eqb s.end (length list)) (Ok (count_of header)) (Err (m + 1)))
            ≡ over_records list (cond x (Err (m + 1)) (Ok (count_of header)))
        go true g = refl
        go false g =
            let l : count_of header < m + 1 = leb-false (m + 1) (count_of header) g in
            let n : m ≡ count_of header = omega (arith, so.few) in
            let k : s.records ≡ count_of header = omega (arith, so.few) in
            rw (so.place, k, n)

    pub wrong_two : (count m : ℕ) {r : Result ℕ ℕ} → count ≡ count_of header → m ≡ leading (agrees_at (table_said list header)) s.records 1 → m ≤ s.records
        → r ≡ verdict_of list count m s.end → r ≡ first_wrong list header file
    wrong_two count m c e h f = two_whole m e h (rw c at f)

    pub wrong_one : (count : ℕ) {r : Result ℕ ℕ} → count ≡ count_of header → s.setless ≡ true → r ≡ verdict_of list count s.records s.end
        → r ≡ first_wrong list header file
    wrong_one count c z f = wrong_two count s.records c (sym (setless_all (table_said list header) s.records (so.none.each z))) (omega arith) f

-- The answer's parts.
pub verdict_bad : (list : List ℕ) (count m end : ℕ) → m + 1 ≤ count → Err (m + 1) ≡ verdict_of list count m end
verdict_bad list count m end h = rw (le-leb _ _ h)

pub verdict_sound : (list : List ℕ) (count m end : ℕ) → count < m + 1 → end ≡ length list → Ok count ≡ verdict_of list count m end
verdict_sound list count m end h e = rw (lt-leb _ _ h, eq-eqb _ _ e)

pub verdict_past : (list : List ℕ) (count m end : ℕ) → count < m + 1 → (end ≡ length list → ⊥) → Err (m + 1) ≡ verdict_of list count m end
verdict_past list count m end h e = rw (lt-leb _ _ h, ne_eqb _ _ e)

-- The first line.
pub titled_read : (list : List ℕ) (to : ℕ) {x : Bool} → to ≡ min 121 (length list) → x ≡ same (take (to - 0) (drop 0 list)) first_line → x ≡ is_titled list
unfolding is_titled
titled_read list to e f =
    let d : take (to - 0) (drop 0 list) ≡ take 121 list = rw e (go (leb 121 (length list)) refl) in
    rw first_length_lem (f ∙ rw d)
  where
    go : (x : Bool) → leb 121 (length list) ≡ x → take (min 121 (length list) - 0) list ≡ take 121 list
    go true g = let q : min 121 (length list) - 0 ≡ 121 = omega (arith, leb-true 121 (length list) g) in rw q
    go false g =
        let l : length list < 121 = leb-false 121 (length list) g in
        let q : min 121 (length list) - 0 ≡ length list = omega arith in
        rw (q, take_all 121 list (omega arith), take_all (length list) list (omega arith))

pub titled_long : (list : List ℕ) → is_titled list ≡ true → 121 ≤ length list
unfolding is_titled
titled_long list e =
    let q : take (length first_line) list ≡ first_line = same_eq (take (length first_line) list) first_line e in
    let l : length (take (length first_line) list) ≡ 121 = ap length q ∙ first_length_lem in
    omega (arith, length-take (length first_line) list)

pub is_titled_lem : (list : List ℕ) {x : Bool} → x ≡ is_titled list → x ≡ true → is_titled list ≡ true
is_titled_lem list e f = sym e ∙ f
