-- The refusals of a call by this paper's numbers, and what each returns besides.
use Rattle.std.specs.Prelude.{ℕ, Result, Ok, Err}
use Rattle.refusals.specs.declared.Refusal.{Refusal}
use Rattle.refusals.specs.declared.Refusal.TheVariants.{UnknownPeer, SmallBuffer, WrongSize, WrongLength, NoRequest, Unsound, UnsoundVectors}

abbrev pub number_of : Refusal → ℕ
number_of UnknownPeer = 12
number_of SmallBuffer = 1
number_of WrongSize = 2
number_of WrongLength = 3
number_of NoRequest = 4
number_of (Unsound block) = 5
number_of UnsoundVectors = 6

-- 5: with the "first bad block"
abbrev pub value_of : Refusal → ℕ
value_of UnknownPeer = 0
value_of SmallBuffer = 0
value_of WrongSize = 0
value_of WrongLength = 0
value_of NoRequest = 0
value_of (Unsound block) = block
value_of UnsoundVectors = 0

-- the number of what was tried, 0 where no refusal holds
abbrev pub number_tried : Result Unit Refusal → ℕ
number_tried (Ok _) = 0
number_tried (Err r) = number_of r
