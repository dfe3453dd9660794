-- Moves of a small table, computed by the definitions, and each theorem of the page at it.
use Rattle.std.specs.Prelude.{Ok, Err}
use Rattle.octets.specs.Standard.{ℕ, ◌+◌, ◌*◌, ◌≤◌, true, List, [], ◌∷◌, ◌++◌, ◌≡◌, refl, sym, ap, ◌∙◌, inl, arith, lit<, lit≤, length, replicate}
use Rattle.octets.specs.Standard.{set, sets}
use Rattle.octets.specs.All.{all_below}
use Rattle.octets.specs.Name.{order_of}
use Rattle.octets.specs.Number.{be16_at, be32_at, put_be32}
use Rattle.octets.specs.Run.{zeros, zero_between}
use Rattle.octets.specs.Sum.{sum_words}
use Rattle.octets.proofs.Numbers.{Bytes, all_bytes, are_bytes}
use Rattle.record.specs.Fields.{edition_of, issue_of, set_of, public_of, server_of}
use Rattle.record.specs.HeaderBlock.{header_of, sound_header}
use Rattle.record.specs.Networks.{used_place, sound_place, same_byte, other_place, new_place, sound_networks}
use Rattle.record.specs.RecordBlock.{record_of, sound_record}
use Rattle.blocks.specs.Blocks.{block_of, table_of, first_bad}
use Rattle.table.specs.Named.{public_at}
use Rattle.table.specs.Check.{rises_at, stands_at, agrees_with, agrees_at, sound_at, check_records, check_table}
use Rattle.blocks.specs.Sealed.{negated, sealed}
use Rattle.blocks.specs.Changed.{changed_at, changed_all}
use Rattle.moving.specs.Moves.{moved, moved_all, no_set, first_set}
use Rattle.moving.specs.Outcomes.{Move, came, refusing, moving, forward_sound, back_past, back_sound, forward_checked, back_checked, forward, back}
use Rattle.moving.specs.Conditions.{OtherEdition, HasSets, WithoutSets, Mixes, ForwardMoves, BackMoves, ForwardRefuses, BackRefuses, TableMoved}
use Rattle.moving.proofs.Moving as page

-- A header of one record with host `h` and realm `r`; record 1, public identity `a`, private identity `p`, in state 1 at `s`; of an edition and an issue
-- number, and the record of a set.
unfoldable header : ℕ → ℕ → List ℕ
header edition issue =
    let numbers = sets (sets (replicate 512 0) 0 (1 ∷ edition ∷ [])) 8 (0 ∷ 0 ∷ 0 ∷ 1 ∷ 0 ∷ 1 ∷ 1 ∷ []) in
    sealed (put_be32 (set (set numbers 16 0x68) 80 0x72) 408 issue)

unfoldable line : ℕ → ℕ → ℕ → List ℕ
line edition issue number =
    let numbers = sets (sets (replicate 512 0) 0 (2 ∷ edition ∷ 0 ∷ 0 ∷ 0 ∷ 0 ∷ 0 ∷ 1 ∷ 1 ∷ [])) 13 (1 ∷ 1 ∷ 1 ∷ []) in
    sealed (put_be32 (set (set (set (set numbers 16 0x61) 144 0x70) 272 0x73) 407 number) 408 issue)

-- The same table in both editions, with issue number 0x01020304; with set 9; a record of edition 1 under a header of edition 2, and one of another issue.
unfoldable first : List ℕ
first = header 1 0 ++ line 1 0 0

unfoldable second : List ℕ
second = header 2 0x01020304 ++ line 2 0x01020304 0

unfoldable shared : List ℕ
shared = header 2 0x01020304 ++ line 2 0x01020304 9

unfoldable mixed : List ℕ
mixed = header 2 0 ++ line 1 0 0

unfoldable reissued : List ℕ
reissued = header 2 0x01020304 ++ line 2 0x01020305 0

-- all definitions that a computed case opens
unfoldable opened : ℕ
unfolding header line first second shared mixed reissued all_below order_of be16_at be32_at put_be32 zeros zero_between sum_words public_of server_of header_of
    sound_header used_place sound_place same_byte other_place new_place sound_networks record_of sound_record block_of table_of public_at rises_at stands_at agrees_with
    agrees_at sound_at first_bad check_records check_table negated sealed changed_at changed_all moved moved_all no_set first_set forward_sound
    back_past back_sound forward_checked back_checked
    forward back
opened = 0

-- The definitions compute: the tables are what the document says of them, and the moves are from one to the other.
first_checked : check_table first 0 ≡ Ok 1
unfolding opened
first_checked = refl

second_checked : check_table second 0 ≡ Ok 1
unfolding opened
second_checked = refl

shared_checked : check_table shared 0 ≡ Ok 1
unfolding opened
shared_checked = refl

mixed_checked : check_table mixed 0 ≡ Err 1
unfolding opened
mixed_checked = refl

reissued_checked : check_table reissued 0 ≡ Err 1
unfolding opened
reissued_checked = refl

first_moved : moved_all first 1 2 0x01020304 ≡ second
unfolding opened
first_moved = refl

second_moved : moved_all second 1 1 0 ≡ first
unfolding opened
second_moved = refl

-- What the theorems ask of them.
first_bytes : Bytes first
unfolding opened all_bytes
first_bytes = are_bytes first refl

second_bytes : Bytes second
unfolding opened all_bytes
second_bytes = are_bytes second refl

first_edition : edition_of (block_of first 0) ≡ 1
unfolding opened
first_edition = refl

second_edition : edition_of (block_of second 0) ≡ 2
unfolding opened
second_edition = refl

shared_edition : edition_of (block_of shared 0) ≡ 2
unfolding opened
shared_edition = refl

second_issue : issue_of (block_of second 0) ≡ 0x01020304
unfolding opened
second_issue = refl

second_set : set_of (block_of second 1) ≡ 0
unfolding opened
second_set = refl

shared_set : set_of (block_of shared 1) ≡ 9
unfolding opened
shared_set = refl

one : (k : ℕ) → 1 ≤ k → k ≤ 1 → k ≡ 1
one k a b = omega arith

second_none : WithoutSets second 1
second_none k a b = rw (one k a b) second_set

shared_first : HasSets shared 0 1
shared_first =
    record {
      count = 1;
      checked = shared_checked;
      edition = shared_edition;
      first =
          record {
            from = lit≤ tt;
            to = lit≤ tt;
            here = λ e. let z : ◌≡◌ {A = ℕ} 9 0 = sym shared_set ∙ e in absurd (omega arith);
            before = λ j a b. absurd (omega arith);
          };
    }

first_other_lem : OtherEdition first 0 2
first_other_lem = record { count = 1; checked = first_checked; other = λ e. let z : ◌≡◌ {A = ℕ} 1 2 = sym first_edition ∙ e in absurd (omega arith) }

second_other : OtherEdition second 0 1
second_other = record { count = 1; checked = second_checked; other = λ e. let z : ◌≡◌ {A = ℕ} 2 1 = sym second_edition ∙ e in absurd (omega arith) }

mixed_header : sound_header (block_of mixed 0) ≡ true
unfolding opened
mixed_header = refl

mixed_size : length mixed ≡ 512 * ((header_of (block_of mixed 0)).count + 1)
unfolding opened
mixed_size = refl

mixed_count : (header_of (block_of mixed 0)).count ≡ 1
unfolding opened
mixed_count = refl

mixed_first : edition_of (block_of mixed 0) ≡ 2
unfolding opened
mixed_first = refl

mixed_second : edition_of (block_of mixed 1) ≡ 1
unfolding opened
mixed_second = refl

mixed_mixes : Mixes mixed 0 1
mixed_mixes =
    record {
      header = mixed_header;
      size = mixed_size;
      from = lit≤ tt;
      to = omega (arith, mixed_count);
      before = λ j a b. absurd (omega arith);
      other = inl (λ e. let z : ◌≡◌ {A = ℕ} 1 2 = sym mixed_second ∙ e ∙ mixed_first in absurd (omega arith));
    }

-- The theorems at them.
met_throughout : issue_of (block_of second 1) ≡ 0x01020304
met_throughout = (page.throughout second 0 1 1 second_checked (lit≤ tt)).1 ∙ second_issue

met_mixed_blamed : check_table mixed 0 ≡ Err 1
met_mixed_blamed = page.mixed_blamed mixed 0 1 mixed_mixes

met_first_sets : set_of (block_of first 1) ≡ 0
met_first_sets = page.first_sets first 0 1 first_checked first_edition 1 (lit≤ tt) (lit≤ tt)

met_there_and_back : back (forward first 0 0x01020304).table 0 ≡ came (Ok 1) first
met_there_and_back = page.there_and_back first 0 1 0x01020304 first_bytes (lit< tt) first_checked first_edition

met_back_and_there : forward (back second 0).table 0 (issue_of (block_of second 0)) ≡ came (Ok 1) second
met_back_and_there = page.back_and_there second 0 1 second_bytes second_checked second_edition second_none

met_first : forward first 0 0x01020304 ≡ came (Ok 1) second
met_first = page.forward_moves first 0 0x01020304 1 first_checked first_edition ∙ ap (came (Ok 1)) first_moved

met_second : back second 0 ≡ came (Ok 1) first
met_second = page.back_moves second 0 1 second_checked second_edition second_none ∙ ap (came (Ok 1)) second_moved

met_forward_moves : forward first 0 7 ≡ moving first 1 2 7
met_forward_moves = page.forward_moves first 0 7 1 first_checked first_edition

met_back_moves : back second 0 ≡ moving second 1 1 0
met_back_moves = page.back_moves second 0 1 second_checked second_edition second_none

met_forward_moved : ForwardMoves first 0 7 1 (forward first 0 7)
met_forward_moved = page.forward_moved first 0 7 1 (rw met_forward_moves refl)

met_back_moved : BackMoves second 0 1 (back second 0)
met_back_moved = page.back_moved second 0 1 (rw met_back_moves refl)

met_forward_sound : check_table (forward first 0 7).table 0 ≡ Ok 1
met_forward_sound = page.forward_sound_lem first 0 7 1 (lit< tt) (rw met_forward_moves refl)

met_back_sound : check_table (back second 0).table 0 ≡ Ok 1
met_back_sound = page.back_sound_lem second 0 1 (rw met_back_moves refl)

met_forward_keeps : TableMoved first (forward first 0 7).table 1 2 7
met_forward_keeps = page.forward_keeps first 0 7 1 (lit< tt) (rw met_forward_moves refl)

first_server : server_of (block_of first 1) ≡ 0x73 ∷ []
unfolding opened
first_server = refl

met_server : server_of (block_of (forward first 0 7).table 1) ≡ 0x73 ∷ []
met_server = (met_forward_keeps.records 1 (lit≤ tt) (lit≤ tt)).server ∙ first_server

met_back_keeps : TableMoved second (back second 0).table 1 1 0
met_back_keeps = page.back_keeps second 0 1 (rw met_back_moves refl)

met_forward_unsound : forward mixed 0 7 ≡ refusing mixed 5 1
met_forward_unsound = page.forward_unsound mixed 0 7 1 mixed_checked

met_back_unsound : back reissued 0 ≡ refusing reissued 5 1
met_back_unsound = page.back_unsound reissued 0 1 reissued_checked

met_forward_other : forward second 0 7 ≡ refusing second 5 0
met_forward_other = page.forward_other second 0 7 second_other

met_back_other : back first 0 ≡ refusing first 5 0
met_back_other = page.back_other first 0 first_other_lem

met_back_sets : back shared 0 ≡ refusing shared 8 1
met_back_sets = page.back_sets shared 0 1 shared_first

met_forward_refuses : ForwardRefuses second 0 5 0
met_forward_refuses = page.forward_refuses second 0 7 5 0 (rw met_forward_other refl)

met_back_refuses : BackRefuses shared 0 8 1
met_back_refuses = page.back_refuses shared 0 8 1 (rw met_back_sets refl)

met_forward_leaves : (forward mixed 0 7).table ≡ mixed
met_forward_leaves = page.forward_leaves mixed 0 7 5 1 (rw met_forward_unsound refl)

met_back_leaves : (back shared 0).table ≡ shared
met_back_leaves = page.back_leaves shared 0 8 1 (rw met_back_sets refl)

met_unique : ◌≡◌ {A = Move} (Ok 1) (Ok 1) × (second ≡ second)
met_unique = page.unique (forward first 0 0x01020304) (sym met_first) (sym met_first)
