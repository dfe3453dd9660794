-- A table that export can list: its list says it, and no line of it is wrong.
use Rattle.std.specs.Prelude.{Ok}
use Rattle.octets.specs.Standard.{ℕ, zero, suc, ◌+◌, ◌-◌, ◌<◌, ◌≤◌, true, ◌&&◌, ◌≡◌, refl, sym, ◌∙◌, ap, arith}
use Rattle.octets.specs.Standard.{le-leb, eq-eqb, List, [], ◌++◌, append_assoc, append-nil, length, length-append, take, drop}
use Rattle.octets.specs.Standard.{length-take, take_at, drop_at, some}
use Rattle.octets.proofs.All.{and_left, and_right}
use Rattle.octets.proofs.Chains.{◌also◌}
use Rattle.octets.proofs.Names.{same_refl}
use Rattle.octets.proofs.Numbers.{Bytes}
use Rattle.record.specs.Fields.{count_of, edition_of, public_of, private_of, server_of}
use Rattle.record.specs.HeaderBlock.{header_of}
use Rattle.record.specs.RecordBlock.{record_of, sound_record}
use Rattle.record.proofs.Tests.{Limits}
use Rattle.blocks.specs.Blocks.{block_of, first_bad}
use Rattle.blocks.proofs.Blocks.{table_is, table_same, block_length, block_bytes}
use Rattle.blocks.proofs.First.{all_good, good_each}
use Rattle.table.specs.Check.{check_table, sound_at}
use Rattle.table.specs.Named.{public_at}
use Rattle.table.specs.SoundTable.{SoundTable}
use Rattle.table.proofs.Sound.{TableTests, table_says, tests_sound, sound_limits_lem, sound_rises}
use Rattle.quoting.specs.Quoted.{listable}
use Rattle.rows.specs.Row.{row_of, line_of}
use Rattle.rows.specs.RowIn.{row_in}
use Rattle.rows.proofs.Lines as line
use Rattle.rows.proofs.Blocks.{block_said_lem, numbers_fit}
use Rattle.listing.specs.ListOf.{first_line, lines_of, list_of, listable_at, first_unlisted}
use Rattle.listing.proofs.Lists.{list_is}
use Rattle.importing.specs.Above.{above}
use Rattle.importing.specs.Said.{place_of, said_at, table_said, enough_at, holds_at, is_titled, first_wrong}
use Rattle.importing.proofs.Falling.{above_less}

-- a sound table of edition 2 under a header block and beside a profile file, whose every name can be listed
pub record Exportable (header : List ℕ) (file : ℕ) (t : List ℕ) : Type 0 where
  pub bytes : Bytes t
  pub count : ℕ
  pub checked : check_table t file ≡ Ok count
  pub header_block : block_of t 0 ≡ header
  pub edition : edition_of header ≡ 2
  pub listed : first_unlisted t count ≡ Ok count

-- The lines behind the first n.
unfoldable pub more : List ℕ → ℕ → ℕ → List ℕ
more t n zero = []
more t n (suc m) = more t n m ++ line_of (row_of (block_of t (suc (n + m))))

pub lines_split : (t : List ℕ) (n m : ℕ) → lines_of t (n + m) ≡ lines_of t n ++ more t n m
unfolding lines_of more
lines_split t n zero = let e : n + 0 ≡ n = omega arith in rw e (sym (append-nil (lines_of t n)))
lines_split t n (suc m) =
    let e : n + suc m ≡ suc (n + m) = omega arith in
    rw (e, lines_split t n m) (append_assoc (lines_of t n) (more t n m) (line_of (row_of (block_of t (suc (n + m))))))

module _ (header : List ℕ) (file : ℕ) (t : List ℕ) (x : Exportable header file t) where
  abbrev count : ℕ
  count = x.count

  pub sound : SoundTable t count
  sound = record { file = file; checked = x.checked }

  pub tests : TableTests t file count
  tests = table_says t file count x.checked

  pub counted : count_of header ≡ count
  unfolding header_of
  counted = ap (λ (b : List ℕ). count_of b) (sym x.header_block) ∙ tests.counted

  pub block_whole : (k : ℕ) → k ≤ count → length (block_of t k) ≡ 512
  block_whole k h = block_length t k (omega (arith, tests.size))

  names : (k : ℕ) → 1 ≤ k → k ≤ count → listable_at t k ≡ true
  unfolding first_unlisted
  names k a b = good_each (listable_at t) count count count 1 x.listed k a (omega arith)

  limits : (k : ℕ) → 1 ≤ k → k ≤ count → Limits (record_of (block_of t k))
  limits = sound_limits_lem t count sound

  record_sound : (k : ℕ) → 1 ≤ k → k ≤ count → sound_record (block_of t k) k (header_of header) file ≡ true
  record_sound k a b = rw x.header_block at (tests_sound t file count tests k a b)

  public_listed : (k : ℕ) → 1 ≤ k → k ≤ count → listable (public_at t k) ≡ true
  unfolding listable_at public_at
  public_listed k a b =
      and_left (listable (public_of (block_of t k))) _ (and_left (listable (public_of (block_of t k)) && listable (private_of (block_of t k))) _ (names k a b))

  -- each record has a row that a line can have
  pub fitting : (k : ℕ) → 1 ≤ k → k ≤ count → line.Fitting (row_of (block_of t k))
  unfolding listable_at row_of record_of public_of private_of server_of
  fitting k a b =
      let two = and_left (listable (public_of (block_of t k)) && listable (private_of (block_of t k))) (listable (server_of (block_of t k))) (names k a b) in
      let size = block_whole k b in
      let l = limits k a b in
      record {
        public = and_left (listable (public_of (block_of t k))) _ two;
        private = and_right (listable (public_of (block_of t k))) _ two;
        server = and_right (listable (public_of (block_of t k)) && listable (private_of (block_of t k))) _ (names k a b);
        public_size_lem = simp length-take (omega (arith, l.public));
        private_size_lem = simp length-take (omega (arith, l.private));
        server_size_lem = simp length-take (omega (arith, l.server));
        numbers = numbers_fit (block_of t k) (block_bytes t x.bytes k);
      }

  -- A list that begins with the first m lines of the table's: where each line begins, and what it says.
  module _ (list rest : List ℕ) (m : ℕ) (most : m ≤ count) (begins : list ≡ (first_line ++ lines_of t m) ++ rest) where
    here : (n : ℕ) → n < m → (after : List ℕ) × (list ≡ (first_line ++ lines_of t n) ++ (line_of (row_of (block_of t (suc n))) ++ after))
    unfolding lines_of
    here n h =
        let e : suc n + (m - suc n) ≡ m = omega arith in
        let s : lines_of t m ≡ lines_of t (suc n) ++ more t (suc n) (m - suc n) = ap (lines_of t) (sym e) ∙ lines_split t (suc n) (m - suc n) in (
          more t (suc n) (m - suc n) ++ rest,
          begins ∙ rw s (simp append_assoc),
        )

    read_at : (n : ℕ) → n < m → (p : ℕ) → p ≡ length (first_line ++ lines_of t n) → row_in (drop p list) ≡ some (row_of (block_of t (suc n)))
    read_at n h p e =
        let s = here n h in
        let d : drop p list ≡ line_of (row_of (block_of t (suc n))) ++ s.0 =
        ap (drop p) s.1 ∙ drop_at (first_line ++ lines_of t n) (line_of (row_of (block_of t (suc n))) ++ s.0) p (sym e) in
        rw d (line.read_written (row_of (block_of t (suc n))) s.0 (fitting (suc n) (omega arith) (omega arith)))

    pub place : (n : ℕ) → n ≤ m → place_of list n ≡ length (first_line ++ lines_of t n)
    unfolding place_of lines_of
    place zero h = rw (append-nil first_line)
    place (suc n) h =
        let e : place_of list n ≡ length (first_line ++ lines_of t n) = place n (omega arith) in
        rw (read_at n (omega arith) (place_of list n) e, e)
        (omega (
          arith,
          length-append first_line (lines_of t n),
          length-append (lines_of t n) (line_of (row_of (block_of t (suc n)))),
          length-append first_line (lines_of t n ++ line_of (row_of (block_of t (suc n)))),
        ))

    pub said_at_lem : (k : ℕ) → k ≤ m → said_at list header k ≡ block_of t k
    unfolding said_at header_of
    said_at_lem zero h = sym x.header_block
    said_at_lem (suc n) h =
        rw (read_at n (omega arith) (place_of list n) (place n (omega arith)))
        (block_said_lem (block_of t (suc n)) (suc n) (header_of header) file (block_whole (suc n) (omega arith)) (block_bytes t x.bytes (suc n)) x.edition
        (record_sound (suc n) (omega arith) (omega arith)))

  -- its own list does
  own : list_of t ≡ (first_line ++ lines_of t count) ++ []
  own = list_is t count sound ∙ sym (append-nil (first_line ++ lines_of t count))

  own_place : (n : ℕ) → n ≤ count → place_of (list_of t) n ≡ length (first_line ++ lines_of t n)
  own_place = place (list_of t) [] count (omega arith) own

  pub said : table_said (list_of t) header ≡ t
  unfolding table_said
  said =
      let e : suc count ≡ count + 1 = omega arith in
      rw (counted, e)
      (table_same (said_at (list_of t) header) (block_of t) (count + 1) (λ k h. said_at_lem (list_of t) [] count (omega arith) own k (omega arith))
      ∙ sym (table_is t (count + 1) tests.size))

  short : (k : ℕ) → 1 ≤ k → k ≤ count → length (public_at t k) ≤ 128
  unfolding public_at public_of record_of
  short k a b = simp length-take (omega (arith, (limits k a b).public))

  -- names enough are left above each
  pub above_rest : (m k : ℕ) → 1 ≤ k → k + m ≡ count → m ≤ above 128 (public_at t k)
  above_rest zero k a e = omega arith
  above_rest (suc m) k a e =
      let r : m ≤ above 128 (public_at t (suc k)) = above_rest m (suc k) (omega arith) (omega arith) in
      omega (
        arith,
        above_less 128 (public_at t k) (public_at t (suc k)) (public_listed k a (omega arith)) (public_listed (suc k) (omega arith) (omega arith))
            (short k a (omega arith)) (short (suc k) (omega arith) (omega arith)) (sound_rises t count sound k a (omega arith)),
      )

  holds : (k : ℕ) → 1 ≤ k → k ≤ count → holds_at (list_of t) header file k ≡ true
  unfolding holds_at enough_at
  holds k a b =
      let s : sound_at t (header_of header) file k ≡ true = rw x.header_block at (tests.each k a b) in
      rw (said, counted) (s also le-leb (count - k) (above 128 (public_at t k)) (above_rest (count - k) k a (omega arith)))

  titled : is_titled (list_of t) ≡ true
  unfolding is_titled
  titled =
      let e : take (length first_line) (list_of t) ≡ first_line =
      ap (take (length first_line)) (list_is t count sound) ∙ take_at first_line (lines_of t count) (length first_line) refl in
      rw e (same_refl first_line)

  pub whole : first_wrong (list_of t) header file ≡ Ok count
  unfolding first_wrong
  whole =
      let f : first_bad (holds_at (list_of t) header file) count count 1 ≡ Ok count =
      all_good (holds_at (list_of t) header file) count count 1 (λ j a b. holds j a (omega arith)) in
      let e : place_of (list_of t) count ≡ length (list_of t) = own_place count (omega arith) ∙ ap length (sym (list_is t count sound)) in
      rw (titled, counted, f, eq-eqb (place_of (list_of t) count) (length (list_of t)) e)
