-- When a move is made and when it is refused, and what is the same afterwards.
use Rattle.std.specs.Prelude.{ℕ, ◌+◌, ◌*◌, ◌<◌, ◌≤◌, true, List, ◌≢◌, ◌⊎◌, ◌≡◌, length, Ok, Err}
use Rattle.record.specs.Fields.{edition_of, issue_of, set_of, networks_of, host_of, realm_of, public_of, private_of, server_of, mandatory_of, optional_of, profile_of}
use Rattle.record.specs.HeaderBlock.{header_of, sound_header}
use Rattle.record.specs.Networks.{network_of}
use Rattle.record.specs.RecordBlock.{record_of}
use Rattle.blocks.specs.Blocks.{block_of}
use Rattle.table.specs.Check.{sound_at, check_table}
use Rattle.moving.specs.Carried.{Carried, record_with, header_with}
use Rattle.moving.specs.Outcomes.{AfterMove, moving}

-- the conditions of the refusals: a sound table of another edition; the first record with a set; a sound table of edition 2 that has one
pub record OtherEdition (t : List ℕ) (file edition : ℕ) : Type 0 where
  pub count : ℕ
  pub checked : check_table t file ≡ Ok count
  pub other : edition_of (block_of t 0) ≢ edition

pub record FirstWithSet (t : List ℕ) (count k : ℕ) : Type 0 where
  pub from : 1 ≤ k
  pub to : k ≤ count
  pub here : set_of (block_of t k) ≢ 0
  pub before : (j : ℕ) → 1 ≤ j → j < k → set_of (block_of t j) ≡ 0

pub record HasSets (t : List ℕ) (file k : ℕ) : Type 0 where
  pub count : ℕ
  pub checked : check_table t file ≡ Ok count
  pub edition : edition_of (block_of t 0) ≡ 2
  pub first : FirstWithSet t count k

-- no record has a set
abbrev pub WithoutSets : List ℕ → ℕ → Type 0
WithoutSets t count = (k : ℕ) → 1 ≤ k → k ≤ count → set_of (block_of t k) ≡ 0

-- block k is the first that is bad under a sound header and the right length, and it has not the header's edition or not its issue number
pub record Mixes (t : List ℕ) (file k : ℕ) : Type 0 where
  pub header : sound_header (block_of t 0) ≡ true
  pub size : length t ≡ 512 * ((header_of (block_of t 0)).count + 1)
  pub from : 1 ≤ k
  pub to : k ≤ (header_of (block_of t 0)).count
  pub before : (j : ℕ) → 1 ≤ j → j < k → sound_at t (header_of (block_of t 0)) file j ≡ true
  pub other : (edition_of (block_of t k) ≢ edition_of (block_of t 0)) ⊎ (issue_of (block_of t k) ≢ issue_of (block_of t 0))

-- a move that was made, and one that was refused, with their conditions
pub record ForwardMoves (t : List ℕ) (file issue count : ℕ) (o : AfterMove) : Type 0 where
  pub checked : check_table t file ≡ Ok count
  pub edition : edition_of (block_of t 0) ≡ 1
  pub is : o ≡ moving t count 2 issue

pub record BackMoves (t : List ℕ) (file count : ℕ) (o : AfterMove) : Type 0 where
  pub checked : check_table t file ≡ Ok count
  pub edition : edition_of (block_of t 0) ≡ 2
  pub sets : WithoutSets t count
  pub is : o ≡ moving t count 1 0

abbrev pub ForwardRefuses : List ℕ → ℕ → ℕ → ℕ → Type 0
ForwardRefuses t file number block = (number ≡ 5) × ((check_table t file ≡ Err block) ⊎ (OtherEdition t file 1 × (block ≡ 0)))

abbrev pub BackRefuses : List ℕ → ℕ → ℕ → ℕ → Type 0
BackRefuses t file number block =
    ((number ≡ 5) × ((check_table t file ≡ Err block) ⊎ (OtherEdition t file 2 × (block ≡ 0)))) ⊎ ((number ≡ 8) × HasSets t file block)

-- what a record and a header are after a move: all fields as they were but the edition and the issue number
pub record RecordMoved (b c : List ℕ) (edition issue : ℕ) : Type 0 where
  pub bytes : Carried b c
  pub numbers : record_of c ≡ record_with (record_of b) edition issue
  pub public : public_of c ≡ public_of b
  pub private : private_of c ≡ private_of b
  pub server : server_of c ≡ server_of b
  pub mandatory : mandatory_of c ≡ mandatory_of b
  pub optional : optional_of c ≡ optional_of b
  pub profile : (file : List ℕ) → profile_of c file ≡ profile_of b file

pub record HeaderMoved (b c : List ℕ) (edition issue : ℕ) : Type 0 where
  pub bytes : Carried b c
  pub numbers : header_of c ≡ header_with (header_of b) edition issue
  pub host : host_of c ≡ host_of b
  pub realm : realm_of c ≡ realm_of b
  pub networks : (i : ℕ) → i < networks_of b → network_of c i ≡ network_of b i

pub record TableMoved (t y : List ℕ) (count edition issue : ℕ) : Type 0 where
  pub size : length y ≡ length t
  pub header : HeaderMoved (block_of t 0) (block_of y 0) edition issue
  pub records : (k : ℕ) → 1 ≤ k → k ≤ count → RecordMoved (block_of t k) (block_of y k) edition issue
