-- "14, with the number of the first line, present or missing, that no export could hold there": of the beginnings that the list shares with exports under
-- the header block and beside the profile file, some holds as many line ends as lines stand before the one that is named, and none holds more.
use Rattle.std.specs.Prelude.{Result, Ok, Err}
use Rattle.octets.specs.Standard.{ℕ, suc, ◌+◌, ◌-◌, ◌<◌, ◌≤◌, Bool, true, false, cond, true≢false, ◌≡◌, refl, sym, ◌∙◌, ap, arith}
use Rattle.octets.specs.Standard.{eqb, ltb, le-leb, ltb-true, ltb-false, List, ◌++◌, append_assoc, length, length-append}
use Rattle.octets.specs.Standard.{take, drop, take_all, take_at, take-take, take-append-le, take-append-drop}
use Rattle.octets.proofs.Chains.{◌also◌}
use Rattle.octets.proofs.Names.{same_yes}
use Rattle.octets.proofs.Numbers.{Bytes}
use Rattle.record.specs.Fields.{count_of}
use Rattle.record.specs.HeaderBlock.{header_of}
use Rattle.blocks.specs.Blocks.{block_of, first_bad}
use Rattle.blocks.proofs.First.{FirstNot, bad_says, bad_sound, good_each, good_count}
use Rattle.table.specs.Check.{sound_at}
use Rattle.table.specs.Named.{public_at}
use Rattle.table.proofs.Areas.{sound_same}
use Rattle.listing.specs.ListOf.{first_line, lines_of, list_of}
use Rattle.listing.proofs.Lists.{list_is}
use Rattle.importing.specs.Above.{above}
use Rattle.importing.specs.Said.{place_of, table_said, enough_at, holds_at, is_titled, over_records, first_wrong}
use Rattle.importing.specs.Import.{fit_header}
use Rattle.importing.proofs.Accepts as accepts
use Rattle.importing.proofs.Accepts.{FitHeader}
use Rattle.importing.proofs.Given as goal
use Rattle.importing.proofs.Given.{Exportable, more, lines_split}
use Rattle.list_laws.specs.Ends.{line_ends}
use Rattle.list_laws.proofs.Ends.{ends_more}
use Rattle.list_laws.proofs.Lines.{lines_end, lines_cut}
use Rattle.list_laws.proofs.Continued as continued
use Rattle.list_laws.proofs.Exports.{Shared, SharedEnds, NamedLine, exportable_of, list_of_lem, export_of}

-- The same of the table that is exported: the first n bytes of a list are those of its list.
record Begun (list header : List ℕ) (file n : ℕ) : Type 0 where
  table : List ℕ
  exportable : Exportable header file table
  in_list : n ≤ length list
  in_export : n ≤ length (list_of table)
  alike : take n list ≡ take n (list_of table)

record BegunEnds (list header : List ℕ) (file k : ℕ) : Type 0 where
  place : ℕ
  shared : Begun list header file place
  ends : line_ends (take place list) ≡ k

-- a list's lines are those of its first j records and those behind them
lines_front : (header : List ℕ) (file : ℕ) (t : List ℕ) (x : Exportable header file t) (j : ℕ) → j ≤ x.count
    → list_of t ≡ (first_line ++ lines_of t j) ++ more t j (x.count - j)
lines_front header file t x j h =
    let e : j + (x.count - j) ≡ x.count = omega arith in
    list_is t x.count (goal.sound header file t x)
    ∙ ap (λ (l : List ℕ). first_line ++ l) (ap (lines_of t) (sym e) ∙ lines_split t j (x.count - j))
    ∙ sym (append_assoc first_line (lines_of t j) (more t j (x.count - j)))

-- fewer lines end in a beginning that is cut short of a line's end
cut : (header : List ℕ) (file : ℕ) (t : List ℕ) (x : Exportable header file t) (j n : ℕ) → j ≤ x.count → n < length (first_line ++ lines_of t j)
    → line_ends (take n (list_of t)) ≤ j
cut header file t x j n h l =
    let e : take n (list_of t) ≡ take n (first_line ++ lines_of t j) =
    ap (take n) (lines_front header file t x j h) ∙ take-append-le n (first_line ++ lines_of t j) (more t j (x.count - j)) (omega arith) in
    rw e (lines_cut header file t x j n h l)

-- a list that begins with the lines of an export's first m records shares them
ahead_shared : (header : List ℕ) (file : ℕ) (t : List ℕ) (x : Exportable header file t) (m : ℕ) → m ≤ x.count → (list rest : List ℕ)
    → list ≡ (first_line ++ lines_of t m) ++ rest → BegunEnds list header file (suc m)
ahead_shared header file t x m few list rest begun =
    record {
      place = length (first_line ++ lines_of t m);
      shared = record {
        table = t;
        exportable = x;
        in_list = omega (arith, ap length begun, length-append (first_line ++ lines_of t m) rest);
        in_export = omega (arith, ap length own, length-append (first_line ++ lines_of t m) (more t m (x.count - m)));
        alike =
            taken
            ∙ sym
            (ap (take (length (first_line ++ lines_of t m))) own
            ∙ take_at (first_line ++ lines_of t m) (more t m (x.count - m)) (length (first_line ++ lines_of t m)) refl);
      };
      ends = ap line_ends taken ∙ lines_end header file t x m few;
    }
  where
    own : list_of t ≡ (first_line ++ lines_of t m) ++ more t m (x.count - m)
    own = lines_front header file t x m few

    taken : take (length (first_line ++ lines_of t m)) list ≡ first_line ++ lines_of t m
    taken = ap (take (length (first_line ++ lines_of t m))) begun ∙ take_at (first_line ++ lines_of t m) rest (length (first_line ++ lines_of t m)) refl

module _ (list header : List ℕ) (file : ℕ) (bytes : Bytes header) (fits : fit_header header ≡ true) where
  fit : FitHeader header
  fit = accepts.header_fits header fits

  abbrev count : ℕ
  count = count_of header

  -- what a wrong line is
  wrong_ways : (k : ℕ) → first_wrong list header file ≡ Err k → (P : Type 0)
      → (is_titled list ≡ false → k ≡ 0 → P)
      → (is_titled list ≡ true → FirstNot (holds_at list header file) count 1 k → P)
      → (is_titled list ≡ true → ((j : ℕ) → 1 ≤ j → j ≤ count → holds_at list header file j ≡ true) → k ≡ count + 1 → P) → P
  unfolding first_wrong
  wrong_ways k e P none one past = go (is_titled list) refl e
    where
      bad : (a b : ℕ) → ◌≡◌ {A = Result ℕ ℕ} (Err a) (Err b) → b ≡ a
      bad a b g = cc

      ended : is_titled list ≡ true → (n : ℕ) → count ≡ n → ((j : ℕ) → 1 ≤ j → j ≤ count → holds_at list header file j ≡ true) → (y : Bool)
          → cond y (Ok n) (Err (n + 1)) ≡ Err k → P
      ended t n q each true g = bad_sound (Ok n) k n g refl
      ended t n q each false g = past t each (bad (n + 1) k g ∙ rw (← q))

      over : is_titled list ≡ true → (r : Result ℕ ℕ) → first_bad (holds_at list header file) count count 1 ≡ r → over_records list r ≡ Err k → P
      over t (Err j) f g =
          let q : k ≡ j = bad j k g in
          one t (rw q (bad_says (holds_at list header file) count count 1 j f))
      over t (Ok n) f g =
          let q : count ≡ n = good_count (holds_at list header file) count n count 1 f in
          ended t n q (λ j a b. good_each (holds_at list header file) count n count 1 f j a (omega arith)) (eqb (place_of list n) (length list)) g

      go : (y : Bool) → is_titled list ≡ y → cond y (over_records list (first_bad (holds_at list header file) count count 1)) (Err 0) ≡ Err k → P
      go false t f = none t (bad 0 k f)
      go true t f = over t (first_bad (holds_at list header file) count count 1) refl f

  -- No shared beginning holds more line ends.
  module _ (n : ℕ) (s : Begun list header file n) where
    counted : count_of header ≡ s.exportable.count
    counted = goal.counted header file s.table s.exportable

    ends_are : line_ends (take n list) ≡ line_ends (take n (list_of s.table))
    ends_are = ap line_ends s.alike

    front : (p : ℕ) → p ≤ n → take p list ≡ take p (list_of s.table)
    front p h = sym (take-take p n list h) ∙ ap (take p) s.alike ∙ take-take p n (list_of s.table) h

    -- the list begins with the lines of the export's first j records
    begins : (j : ℕ) → j ≤ s.exportable.count → length (first_line ++ lines_of s.table j) ≤ n
        → list ≡ (first_line ++ lines_of s.table j) ++ drop (length (first_line ++ lines_of s.table j)) list
    begins j h l =
        let p : ℕ = length (first_line ++ lines_of s.table j) in
        let e : take (length (first_line ++ lines_of s.table j)) list ≡ first_line ++ lines_of s.table j =
        front (length (first_line ++ lines_of s.table j)) l
        ∙ ap (take (length (first_line ++ lines_of s.table j))) (lines_front header file s.table s.exportable j h)
        ∙ take_at (first_line ++ lines_of s.table j) (more s.table j (s.exportable.count - j)) (length (first_line ++ lines_of s.table j)) refl in
        sym (take-append-drop (length (first_line ++ lines_of s.table j)) list)
        ∙ ap (λ (l : List ℕ). l ++ drop (length (first_line ++ lines_of s.table j)) list) e

    titled : length first_line ≤ n → is_titled list ≡ true
    unfolding is_titled lines_of
    titled h =
        same_yes (take (length first_line) list) first_line
        (front (length first_line) h
        ∙ ap (take (length first_line)) (list_is s.table s.exportable.count (goal.sound header file s.table s.exportable))
        ∙ take_at first_line (lines_of s.table s.exportable.count) (length first_line) refl)

    -- a record whose line is shared could stand there
    module _ (k : ℕ) (a : 1 ≤ k) (b : k ≤ count) (l : length (first_line ++ lines_of s.table k) ≤ n) where
      few : k ≤ s.exportable.count
      few = omega (arith, counted)

      block_is : (j : ℕ) → j ≤ k → block_of (table_said list header) j ≡ block_of s.table j
      block_is j h =
          accepts.said_block list header fit j (omega arith)
          ∙ goal.said_at_lem header file s.table s.exportable list (drop (length (first_line ++ lines_of s.table k)) list) k few (begins k few l) j h

      holds : holds_at list header file k ≡ true
      unfolding holds_at enough_at public_at
      holds =
          let r : sound_at s.table (header_of header) file k ≡ true =
          rw s.exportable.header_block at ((goal.tests header file s.table s.exportable).each k a few) in
          let e : count - k ≤ above 128 (public_at s.table k) =
          rw counted (goal.above_rest header file s.table s.exportable (s.exportable.count - k) k a (omega (arith, few))) in
          (sound_same (table_said list header) s.table (header_of header) file k block_is ∙ r)
          also (rw (block_is k (omega arith)) (le-leb (count - k) (above 128 (public_at s.table k)) e))

    ends_most : (k : ℕ) → first_wrong list header file ≡ Err k → line_ends (take n list) ≤ k
    ends_most k e = wrong_ways k e (line_ends (take n list) ≤ k) none one past
      where
        none : is_titled list ≡ false → k ≡ 0 → line_ends (take n list) ≤ k
        none f q = go (ltb n (length first_line)) refl
          where
            go : (y : Bool) → ltb n (length first_line) ≡ y → line_ends (take n list) ≤ k
            go true g =
                omega (
                  arith,
                  ends_are,
                  cut header file s.table s.exportable 0 n (omega arith)
                      (omega (arith, ltb-true n (length first_line) g, length-append first_line (lines_of s.table 0))),
                )
            go false g = absurd (true≢false (sym (titled (ltb-false n (length first_line) g)) ∙ f))

        one : is_titled list ≡ true → FirstNot (holds_at list header file) count 1 k → line_ends (take n list) ≤ k
        one f first = go (ltb n (length (first_line ++ lines_of s.table k))) refl
          where
            go : (y : Bool) → ltb n (length (first_line ++ lines_of s.table k)) ≡ y → line_ends (take n list) ≤ k
            go true g =
                omega (
                  arith,
                  ends_are,
                  cut header file s.table s.exportable k n (omega (arith, first.to, counted))
                      (ltb-true n (length (first_line ++ lines_of s.table k)) g),
                )
            go false g =
                absurd
                (true≢false (sym (holds k first.from (omega (arith, first.to)) (ltb-false n (length (first_line ++ lines_of s.table k)) g)) ∙ first.here))

        past : is_titled list ≡ true → ((j : ℕ) → 1 ≤ j → j ≤ count → holds_at list header file j ≡ true) → k ≡ count + 1 → line_ends (take n list) ≤ k
        past f each q =
            omega (
              arith,
              ends_are,
              counted,
              ends_more (list_of s.table) n (length (list_of s.table)) s.in_export,
              ap line_ends
                  (take_all (length (list_of s.table)) (list_of s.table) (omega arith)
                  ∙ list_is s.table s.exportable.count (goal.sound header file s.table s.exportable)),
              lines_end header file s.table s.exportable s.exportable.count (omega arith),
            )

  -- One holds so many.
  module _ (m : ℕ) (few : m ≤ count) (each : (k : ℕ) → 1 ≤ k → k ≤ m → holds_at list header file k ≡ true) where
    none_shared : BegunEnds list header file 0
    unfolding line_ends
    none_shared =
        record {
          place = 0;
          shared = record {
            table = continued.table list header file m bytes fits few each;
            exportable = continued.exportable list header file m bytes fits few each;
            in_list = omega arith;
            in_export = omega arith;
            alike = refl;
          };
          ends = refl;
        }

    lines_shared : is_titled list ≡ true → BegunEnds list header file (suc m)
    lines_shared title =
        ahead_shared header file (continued.table list header file m bytes fits few each) (continued.exportable list header file m bytes fits few each) m
        (omega (
          arith,
          goal.counted header file (continued.table list header file m bytes fits few each) (continued.exportable list header file m bytes fits few each),
        ))
        list
        (drop (place_of list m) list)
        (continued.begins list header file m bytes fits few each title)

  ends_some : (k : ℕ) → first_wrong list header file ≡ Err k → BegunEnds list header file k
  ends_some k e = wrong_ways k e (BegunEnds list header file k) none one past
    where
      none : is_titled list ≡ false → k ≡ 0 → BegunEnds list header file k
      none f q = rw q (none_shared 0 (omega arith) (λ j a b. absurd (omega arith)))

      one : is_titled list ≡ true → FirstNot (holds_at list header file) count 1 k → BegunEnds list header file k
      one f first =
          let q : suc (k - 1) ≡ k = omega (arith, first.from) in
          rw q at (lines_shared (k - 1) (omega (arith, first.to)) (λ j a b. first.before j a (omega (arith, first.from))) f)

      past : is_titled list ≡ true → ((j : ℕ) → 1 ≤ j → j ≤ count → holds_at list header file j ≡ true) → k ≡ count + 1 → BegunEnds list header file k
      past f each q = let z : k ≡ suc count = omega arith in rw z (lines_shared count (omega arith) each f)

  -- So the line that is named is the first that no export could hold there.
  pub first_line_lem : (k : ℕ) → first_wrong list header file ≡ Err k → NamedLine list header file k
  first_line_lem k e = record { some = out (ends_some k e); most = λ n s. ends_most n (into n s) k e }
    where
      into : (n : ℕ) → Shared list header file n → Begun list header file n
      into n s =
          let o : list_of s.export.table ≡ s.whole = list_of_lem s.whole header file s.export in
          record {
            table = s.export.table;
            exportable = exportable_of s.whole header file s.export;
            in_list = s.in_list;
            in_export = rw o s.in_export;
            alike = rw o s.alike;
          }

      out : BegunEnds list header file k → SharedEnds list header file k
      out o =
          let b : Begun list header file o.place = o.shared in
          record {
            place = o.place;
            shared = record {
              whole = list_of b.table;
              export = export_of (list_of b.table) header file b.table b.exportable refl;
              in_list = b.in_list;
              in_export = b.in_export;
              alike = b.alike;
            };
            ends = o.ends;
          }

-- There is one such line.
pub named_once : (list header : List ℕ) (file j k : ℕ) → NamedLine list header file j → NamedLine list header file k → j ≡ k
named_once list header file j k x y =
    let a : line_ends (take x.some.place list) ≤ k = y.most x.some.place x.some.shared in
    let b : line_ends (take y.some.place list) ≤ j = x.most y.some.place y.some.shared in
    omega (arith, x.some.ends, y.some.ends)
