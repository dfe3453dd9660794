-- What is proved of the moves, on one page: the statements alone, each by the law that has its proof.
use Rattle.std.specs.Prelude.{Ok, Err}
use Rattle.octets.specs.Standard.{ℕ, ◌^◌, ◌<◌, ◌≤◌, ◌≡◌, sym, ◌∙◌, List}
use Rattle.octets.proofs.Numbers.{Bytes}
use Rattle.record.specs.Fields.{edition_of, issue_of}
use Rattle.blocks.specs.Blocks.{block_of}
use Rattle.table.specs.Check.{check_table}
use Rattle.moving.specs.Outcomes.{AfterMove, came, refusing, moving, forward, back}
use Rattle.moving.specs.Conditions.{OtherEdition, HasSets, WithoutSets, Mixes, ForwardMoves, BackMoves, ForwardRefuses, BackRefuses, TableMoved}
use Rattle.moving.specs.Outcomes.{Move, refused}
use Rattle.moving.proofs.Outcomes as outcomes
use Rattle.moving.proofs.Mixed as mixed

-- "an issue number (bytes 408-411 of every block, the same throughout)", and so the edition
pub throughout : (t : List ℕ) (file count k : ℕ) → check_table t file ≡ Ok count → k ≤ count
    → (edition_of (block_of t k) ≡ edition_of (block_of t 0)) × (issue_of (block_of t k) ≡ issue_of (block_of t 0))
throughout t file count k e h = mixed.throughout t file count k e h

-- "a table that mixes editions or issue numbers is unsound, .. blaming the later block"
pub mixed_blamed : (t : List ℕ) (file k : ℕ) → Mixes t file k → check_table t file ≡ Err k
mixed_blamed t file k m = mixed.mixed t file k m

-- "Edition 1 remains readable, with every set 0"
pub first_sets : (t : List ℕ) (file count : ℕ) → check_table t file ≡ Ok count → edition_of (block_of t 0) ≡ 1 → WithoutSets t count
first_sets t file count e d = outcomes.none_first t file count e d

-- "There and back yields the first bytes again"
pub there_and_back : (t : List ℕ) (file count issue : ℕ) → Bytes t → issue < 2 ^ 32 → check_table t file ≡ Ok count → edition_of (block_of t 0) ≡ 1
    → back (forward t file issue).table file ≡ came (Ok count) t
there_and_back t file count issue bytes small e d = outcomes.forward_back t file count e issue small bytes d

-- "back and there yields them when the same issue number is given"
pub back_and_there : (t : List ℕ) (file count : ℕ) → Bytes t → check_table t file ≡ Ok count → edition_of (block_of t 0) ≡ 2 → WithoutSets t count
    → forward (back t file).table file (issue_of (block_of t 0)) ≡ came (Ok count) t
back_and_there t file count bytes e d sets = outcomes.back_forward t file count e sets bytes d

-- A move leaves a sound table sound, with as many records.
pub forward_sound_lem : (t : List ℕ) (file issue count : ℕ) → issue < 2 ^ 32 → (forward t file issue).move ≡ Ok count
    → check_table (forward t file issue).table file ≡ Ok count
forward_sound_lem t file issue count small e =
    let m : ForwardMoves t file issue count (forward t file issue) = (outcomes.forward_ways t file issue).0 count e in
    rw m.is (outcomes.forward_sound_lem t file count m.checked issue small)

pub back_sound_lem : (t : List ℕ) (file count : ℕ) → (back t file).move ≡ Ok count → check_table (back t file).table file ≡ Ok count
back_sound_lem t file count e =
    let m : BackMoves t file count (back t file) = (outcomes.back_ways t file).0 count e in
    rw m.is (outcomes.back_sound_lem t file count m.checked m.sets)

-- A move leaves every record field by field as it was, and every byte but the edition, the issue number and the check word.
pub forward_keeps : (t : List ℕ) (file issue count : ℕ) → issue < 2 ^ 32 → (forward t file issue).move ≡ Ok count
    → TableMoved t (forward t file issue).table count 2 issue
forward_keeps t file issue count small e =
    let m : ForwardMoves t file issue count (forward t file issue) = (outcomes.forward_ways t file issue).0 count e in
    rw m.is (outcomes.moved_keeps t file count m.checked 2 issue small)

pub back_keeps : (t : List ℕ) (file count : ℕ) → (back t file).move ≡ Ok count → TableMoved t (back t file).table count 1 0
back_keeps t file count e =
    let m : BackMoves t file count (back t file) = (outcomes.back_ways t file).0 count e in
    rw m.is (outcomes.moved_keeps t file count m.checked 1 0 (outcomes.small))

-- A refusal leaves the table as it came.
pub forward_leaves : (t : List ℕ) (file issue number block : ℕ) → (forward t file issue).move ≡ refused number block → (forward t file issue).table ≡ t
forward_leaves t file issue number block e = ((outcomes.forward_ways t file issue).1 number block e).1

pub back_leaves : (t : List ℕ) (file number block : ℕ) → (back t file).move ≡ refused number block → (back t file).table ≡ t
back_leaves t file number block e = ((outcomes.back_ways t file).1 number block e).1

-- Each refusal under its condition,
pub forward_unsound : (t : List ℕ) (file issue k : ℕ) → check_table t file ≡ Err k → forward t file issue ≡ refusing t 5 k
forward_unsound t file issue k e = outcomes.forward_unsound t file issue k e

pub forward_other : (t : List ℕ) (file issue : ℕ) → OtherEdition t file 1 → forward t file issue ≡ refusing t 5 0
forward_other t file issue o = outcomes.forward_not t file o.count o.checked issue o.other

pub back_unsound : (t : List ℕ) (file k : ℕ) → check_table t file ≡ Err k → back t file ≡ refusing t 5 k
back_unsound t file k e = outcomes.back_unsound t file k e

pub back_other : (t : List ℕ) (file : ℕ) → OtherEdition t file 2 → back t file ≡ refusing t 5 0
back_other t file o = outcomes.back_not t file o.count o.checked o.other

pub back_sets : (t : List ℕ) (file k : ℕ) → HasSets t file k → back t file ≡ refusing t 8 k
back_sets t file k s = outcomes.back_sets t file s.count s.checked s.edition k s.first

-- under no other,
pub forward_refuses : (t : List ℕ) (file issue number block : ℕ) → (forward t file issue).move ≡ refused number block → ForwardRefuses t file number block
forward_refuses t file issue number block e = ((outcomes.forward_ways t file issue).1 number block e).0

pub back_refuses : (t : List ℕ) (file number block : ℕ) → (back t file).move ≡ refused number block → BackRefuses t file number block
back_refuses t file number block e = ((outcomes.back_ways t file).1 number block e).0

-- and else the move, of exactly so many records.
pub forward_moves : (t : List ℕ) (file issue count : ℕ) → check_table t file ≡ Ok count → edition_of (block_of t 0) ≡ 1
    → forward t file issue ≡ moving t count 2 issue
forward_moves t file issue count e d = outcomes.forward_is t file count e issue d

pub forward_moved : (t : List ℕ) (file issue count : ℕ) → (forward t file issue).move ≡ Ok count → ForwardMoves t file issue count (forward t file issue)
forward_moved t file issue count e = (outcomes.forward_ways t file issue).0 count e

pub back_moves : (t : List ℕ) (file count : ℕ) → check_table t file ≡ Ok count → edition_of (block_of t 0) ≡ 2 → WithoutSets t count
    → back t file ≡ moving t count 1 0
back_moves t file count e d s = outcomes.back_is t file count e d s

pub back_moved : (t : List ℕ) (file count : ℕ) → (back t file).move ≡ Ok count → BackMoves t file count (back t file)
back_moved t file count e = (outcomes.back_ways t file).0 count e

-- One outcome for each input: whatever the functions leave, as their contracts say, they leave nothing else.
pub unique : (o : AfterMove) {r s : Move} {x y : List ℕ} → came r x ≡ o → came s y ≡ o → (r ≡ s) × (x ≡ y)
unique o e f = outcomes.came_same (e ∙ sym f)
