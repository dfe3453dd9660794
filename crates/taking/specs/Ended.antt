-- The conditions of the refusals and of success, in words: how a take-over ended, and why.
use Rattle.std.specs.Prelude.{ℕ, ◌+◌, ◌*◌, ◌<◌, ◌≤◌, List, ◌⊎◌, ◌≡◌, length, get_or, Ok, Err}
use Rattle.record.specs.Fields.{edition_of, issue_of}
use Rattle.blocks.specs.Blocks.{block_of}
use Rattle.table.specs.Check.{check_table}
use Rattle.taking.specs.TakeOver.{Taken, refused}

-- a new table that is fit: sound, of edition 2, with so many records
pub record Fit (fresh : List ℕ) (file count : ℕ) : Type 0 where
  pub checked : check_table fresh file ≡ Ok count
  pub edition : edition_of (block_of fresh 0) ≡ 2

-- an issue number is found in a whole block of the area
pub record Found (area : List ℕ) (issue : ℕ) : Type 0 where
  pub block : ℕ
  pub whole : 512 * block + 512 ≤ length area
  pub kind : (get_or (block_of area block) 0 0 ≡ 1) ⊎ (get_or (block_of area block) 0 0 ≡ 2)
  pub here : issue_of (block_of area block) ≡ issue

-- the new table's issue number is greater than every issue found
abbrev pub Greater : List ℕ → List ℕ → Type 0
Greater area fresh = (issue : ℕ) → Found area issue → issue < issue_of (block_of fresh 0)

-- it is not: an issue is found that is at least as great
pub record NotGreater (area fresh : List ℕ) : Type 0 where
  pub issue : ℕ
  pub found : Found area issue
  pub at_least : issue_of (block_of fresh 0) ≤ issue

-- 9: the new table is unsound, or of edition 1
abbrev pub Unfit : List ℕ → ℕ → Type 0
Unfit fresh file = ((k : ℕ) × (check_table fresh file ≡ Err k)) ⊎ (edition_of (block_of fresh 0) ≡ 1)

-- 10: it is fit, and its issue number is not greater
pub record Unissued (area fresh : List ℕ) (file : ℕ) : Type 0 where
  pub count : ℕ
  pub fit : Fit fresh file count
  pub found : NotGreater area fresh

-- 11: it is fit, its issue number is greater, and the area is too short
pub record Short (area fresh : List ℕ) (file : ℕ) : Type 0 where
  pub count : ℕ
  pub fit : Fit fresh file count
  pub greater : Greater area fresh
  pub size : length area < 512 * (count + 1)

-- none of the three
pub record Takes (area fresh : List ℕ) (file count : ℕ) : Type 0 where
  pub fit : Fit fresh file count
  pub greater : Greater area fresh
  pub size : 512 * (count + 1) ≤ length area

abbrev pub Ended : List ℕ → List ℕ → ℕ → Taken → Type 0
Ended area fresh file r =
    ((r ≡ refused 9) × Unfit fresh file) ⊎ (((r ≡ refused 10) × Unissued area fresh file)
    ⊎ (((r ≡ refused 11) × Short area fresh file) ⊎ ((count : ℕ) × (r ≡ Ok count) × Takes area fresh file count)))
