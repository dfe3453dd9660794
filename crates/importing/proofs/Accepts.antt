-- A list that has no wrong line: the table that it says is one that export can list, and this is its list.
use Rattle.std.specs.Prelude.{Ok}
use Rattle.octets.specs.Standard.{ℕ, zero, suc, ◌+◌, ◌*◌, ◌<◌, ◌≤◌, true, ◌≡◌, refl, sym, ◌∙◌, ap, arith}
use Rattle.octets.specs.Standard.{eqb, eqb-true, List, [], ◌∷◌, ◌++◌, append_assoc, append-nil, length}
use Rattle.octets.specs.Standard.{take, drop, get_or, length-replicate, take-append-drop, drop-drop, drop_of_length-le, Option, none}
use Rattle.octets.specs.Standard.{some}
use Rattle.octets.proofs.All.{and_left}
use Rattle.octets.proofs.Chains.{chain_says, ◌also◌}
use Rattle.octets.proofs.Names.{same_eq}
use Rattle.record.specs.Fields.{count_of, issue_of, edition_of, public_of, private_of, server_of}
use Rattle.record.specs.HeaderBlock.{header_of, sound_header}
use Rattle.record.specs.RecordBlock.{record_of, sound_record}
use Rattle.record.proofs.Tests.{RecordTests, record_says}
use Rattle.blocks.specs.Blocks.{block_of}
use Rattle.blocks.proofs.Blocks.{table_length, table_block}
use Rattle.blocks.proofs.First.{all_good}
use Rattle.table.specs.Check.{check_table, sound_at, stands_at, rises_at, agrees_at}
use Rattle.table.proofs.Sound.{table_holds}
use Rattle.rows.specs.Row.{Row, row_of, line_of}
use Rattle.rows.specs.RowIn.{row_in}
use Rattle.rows.specs.Block.{block_said}
use Rattle.rows.proofs.Lines as line
use Rattle.rows.proofs.Blocks.{row_said, said_length}
use Rattle.listing.specs.ListOf.{first_line, lines_of, list_of, listable_at, first_unlisted}
use Rattle.importing.specs.Said.{place_of, said_at, table_said, is_titled}
use Rattle.importing.specs.Import.{fit_header}

-- what the header block says
pub record FitHeader (header : List ℕ) : Type 0 where
  pub size : length header ≡ 512
  pub sound : sound_header header ≡ true
  pub edition : edition_of header ≡ 2

pub header_fits : (header : List ℕ) → fit_header header ≡ true → FitHeader header
unfolding fit_header
header_fits header e =
    let s = chain_says (eqb (length header) 512) (_ ∷ _ ∷ []) e in
    record { size = eqb-true _ _ (s 0); sound = s 1; edition = eqb-true _ _ (s 2) }

module _ (list header : List ℕ) (fit : FitHeader header) where
  abbrev count : ℕ
  count = count_of header

  abbrev said : List ℕ
  said = table_said list header

  -- every block that is said is whole
  said_whole : (k : ℕ) → length (said_at list header k) ≡ 512
  unfolding said_at
  said_whole zero = fit.size
  said_whole (suc n) = go (row_in (drop (place_of list n) list)) refl
    where
      go : (o : Option Row) → row_in (drop (place_of list n) list) ≡ o → length (block_said (issue_of header) (suc n) o) ≡ 512
      go none e = length-replicate {A = ℕ} 512 0
      go (some r) e = said_length (issue_of header) (suc n) r (line.written_read (drop (place_of list n) list) r e).fitting

  pub said_size : length said ≡ 512 * (count + 1)
  unfolding table_said
  said_size = table_length (said_at list header) (suc count) (λ k h. said_whole k) ∙ omega arith

  pub said_block : (k : ℕ) → k ≤ count → block_of said k ≡ said_at list header k
  unfolding table_said
  said_block k h = table_block (said_at list header) (suc count) (λ j i. said_whole j) k (omega arith)

  pub said_header : block_of said 0 ≡ header
  unfolding said_at
  said_header = said_block 0 (omega arith)

  pub record_good : (file n : ℕ) → sound_at said (header_of header) file (suc n) ≡ true
      → sound_record (block_of said (suc n)) (suc n) (header_of header) file ≡ true
  unfolding sound_at stands_at
  record_good file n good =
      and_left (sound_record (block_of said (suc n)) (suc n) (header_of header) file) (rises_at said (suc n))
      (and_left (stands_at said (header_of header) file (suc n)) (agrees_at said (suc n)) good)

  -- a line that says a sound record is one
  module _ (file n : ℕ) (h : n < count) (good : sound_record (block_of said (suc n)) (suc n) (header_of header) file ≡ true) where
    kind_two : get_or (said_at list header (suc n)) 0 0 ≡ 2
    unfolding record_of
    kind_two =
        let t : RecordTests (block_of said (suc n)) (suc n) (header_of header) file = record_says _ _ _ _ good in
        let s = chain_says (eqb (get_or (block_of said (suc n)) 0 0) 2) (_ ∷ _ ∷ _ ∷ []) t.head in
        rw (said_block (suc n) h) at (eqb-true (get_or (block_of said (suc n)) 0 0) 2 (s 0))

    pub record RowThere : Type 0 where
      pub row : Row
      pub read : row_in (drop (place_of list n) list) ≡ some row

    pub row_there : RowThere
    unfolding said_at
    row_there = go (row_in (drop (place_of list n) list)) refl kind_two
      where
        go : (o : Option Row) → row_in (drop (place_of list n) list) ≡ o → get_or (block_said (issue_of header) (suc n) o) 0 0 ≡ 2 → RowThere
        go none e f = absurd (omega arith)
        go (some r) e f = record { row = r; read = e }

    abbrev r : Row
    r = row_there.row

    fits : line.ReadRow (drop (place_of list n) list) r
    fits = line.written_read (drop (place_of list n) list) r row_there.read

    row_is : row_of (block_of said (suc n)) ≡ r
    unfolding said_at
    row_is = rw (said_block (suc n) h, row_there.read) (row_said (issue_of header) (suc n) r fits.fitting)

    place_next : place_of list (suc n) ≡ place_of list n + length (line_of r)
    unfolding place_of
    place_next = rw row_there.read

    pub place_after : place_of list (suc n) ≡ place_of list n + length (line_of (row_of (block_of said (suc n))))
    place_after = rw row_is place_next

    -- the list goes on with that line
    pub line_here : drop (place_of list n) list ≡ line_of (row_of (block_of said (suc n))) ++ drop (place_of list (suc n)) list
    line_here = rw row_is (fits.front ∙ ap (λ (l : List ℕ). line_of r ++ l) (drop-drop (length (line_of r)) (place_of list n) list ∙ rw place_next))

    pub names_here : listable_at said (suc n) ≡ true
    unfolding listable_at row_of
    names_here =
        let p : public_of (block_of said (suc n)) ≡ r.public = ap (λ (q : Row). q.public) row_is in
        let q : private_of (block_of said (suc n)) ≡ r.private = ap (λ (q : Row). q.private) row_is in
        let s : server_of (block_of said (suc n)) ≡ r.server = ap (λ (q : Row). q.server) row_is in
        rw (p, q, s) (fits.fitting.public also fits.fitting.private also fits.fitting.server)

  -- the first m lines
  module _ (file m : ℕ) (few : m ≤ count) (each : (k : ℕ) → 1 ≤ k → k ≤ m → sound_at said (header_of header) file k ≡ true) (title : is_titled list ≡ true) where
    pub front : (n : ℕ) → n ≤ m → list ≡ (first_line ++ lines_of said n) ++ drop (place_of list n) list
    unfolding place_of lines_of is_titled
    front zero h =
        let e : take (length first_line) list ≡ first_line = same_eq (take (length first_line) list) first_line title in
        rw (append-nil first_line) (sym (take-append-drop (length first_line) list) ∙ rw e)
    front (suc n) h =
        let l : line_of (row_of (block_of said (suc n))) ++ drop (place_of list (suc n)) list ≡ drop (place_of list n) list =
        sym (line_here file n (omega arith) (record_good file n (each (suc n) (omega arith) h))) in
        front n (omega arith)
        ∙ sym
        (append_assoc first_line (lines_of said n ++ line_of (row_of (block_of said (suc n)))) (drop (place_of list (suc n)) list)
        ∙ ap (λ (x : List ℕ). first_line ++ x) (append_assoc (lines_of said n) (line_of (row_of (block_of said (suc n)))) (drop (place_of list (suc n)) list))
        ∙ sym (append_assoc first_line (lines_of said n) (line_of (row_of (block_of said (suc n))) ++ drop (place_of list (suc n)) list))
        ∙ ap (λ (x : List ℕ). (first_line ++ lines_of said n) ++ x) l)

  -- all lines
  module _ (file : ℕ) (each : (k : ℕ) → 1 ≤ k → k ≤ count → sound_at said (header_of header) file k ≡ true) (title : is_titled list ≡ true) where
    pub checked : check_table said file ≡ Ok count
    unfolding header_of
    checked =
        table_holds said file count
        (record {
          size = said_size;
          counted = rw said_header;
          header = rw said_header fit.sound;
          each = λ k a b. rw said_header (each k a b);
        })

    pub listed : first_unlisted said count ≡ Ok count
    unfolding first_unlisted
    listed = all_good (listable_at said) count count 1 (λ k a b. pick k a (omega arith))
      where
        pick : (k : ℕ) → 1 ≤ k → k ≤ count → listable_at said k ≡ true
        pick zero a b = absurd (omega arith)
        pick (suc n) a b = names_here file n b (record_good file n (each (suc n) a b))

    pub list_said : place_of list count ≡ length list → list_of said ≡ list
    unfolding list_of
    list_said e =
        let d : drop (place_of list count) list ≡ [] = drop_of_length-le list {i = place_of list count} (omega arith) in
        let c : count_of (block_of said 0) ≡ count = rw said_header in
        rw c (sym (front file count (omega arith) each title count (omega arith) ∙ rw d (append-nil (first_line ++ lines_of said count))))
