-- The word that a call returned, read back, and what it says.
use Rattle.listing.specs.Export.{Listed}
use Rattle.listing.specs.Export as listing
use Rattle.std.specs.Prelude.{ℕ, ◌/◌, ◌%◌, Bool, true, false, ◌≡◌, eqb, Ok, Err, Result}
use Rattle.calling.specs.Call.{Call, Answered, Refused}
use Rattle.refusals.specs.Early.{check_value}
use Rattle.moving.specs.Outcomes.{Move, refused}
use Rattle.taking.specs.TakeOver as taking
use Rattle.taking.specs.TakeOver.{Taken}
use Rattle.ndushavire.specs.Word.{number_unit, place_unit}

-- read back: bits 48 to 63, 32 to 47 and 0 to 31
abbrev pub number_in : ℕ → ℕ
number_in w = w / number_unit

abbrev pub place_in : ℕ → ℕ
place_in w = w / place_unit % 65536

abbrev pub value_in : ℕ → ℕ
value_in w = w % place_unit

abbrev pub check_number : ℕ → Result ℕ ℕ → ℕ
check_number number (Ok count) = 0
check_number number (Err block) = number

-- a call: number 0 with the place and the answer's length; a refusal's number with what it returns besides
abbrev pub call_number : Call → ℕ
call_number (Answered a) = 0
call_number (Refused number besides) = number

abbrev pub call_place : Call → ℕ
call_place (Answered a) = a.place
call_place (Refused number besides) = 0

abbrev pub call_value : Call → ℕ
call_value (Answered a) = a.length
call_value (Refused number besides) = besides

-- a move: number 0 with the count of records; a refusal's number with the block
abbrev pub move_number : Move → ℕ
move_number (Ok count) = 0
move_number (Err r) = r.number

abbrev pub move_value : Move → ℕ
move_value (Ok count) = count
move_value (Err r) = r.block

-- a take-over: number 0 with the count of records; a refusal's number with 0
abbrev pub take_number : Taken → ℕ
take_number (Ok count) = 0
take_number (Err r) = r.number

abbrev pub take_value : Taken → ℕ
take_value (Ok count) = count
take_value (Err r) = 0

-- an export or an import: number 0 with the bytes written; a refusal's number with a block, a line or 0
abbrev pub list_number : Listed → ℕ
list_number (Ok bytes) = 0
list_number (Err e) = e.number

abbrev pub list_value : Listed → ℕ
list_value (Ok bytes) = bytes
list_value (Err e) = e.value

abbrev pub call_by : Bool → ℕ → ℕ → ℕ → Call
call_by true number place value = Answered (record { length = value; place = place })
call_by false number place value = Refused number value

abbrev pub call_in : ℕ → Call
call_in w = call_by (eqb (number_in w) 0) (number_in w) (place_in w) (value_in w)

abbrev pub check_by : Bool → ℕ → Result ℕ ℕ
check_by true value = Ok value
check_by false value = Err value

abbrev pub check_in : ℕ → Result ℕ ℕ
check_in w = check_by (eqb (number_in w) 0) (value_in w)

abbrev pub move_by : Bool → ℕ → ℕ → Move
move_by true number value = Ok value
move_by false number value = refused number value

abbrev pub move_in : ℕ → Move
move_in w = move_by (eqb (number_in w) 0) (number_in w) (value_in w)

abbrev pub take_by : Bool → ℕ → ℕ → Taken
take_by true number value = Ok value
take_by false number value = taking.refused number

abbrev pub take_in : ℕ → Taken
take_in w = take_by (eqb (number_in w) 0) (number_in w) (value_in w)

abbrev pub list_by : Bool → ℕ → ℕ → Listed
list_by true number value = Ok value
list_by false number value = listing.refused number value

abbrev pub list_in : ℕ → Listed
list_in w = list_by (eqb (number_in w) 0) (number_in w) (value_in w)

-- so is a call read back, and so are the check's answer and what a move, a take-over, an export and an import come to
pub record Reads (c : Call) (w : ℕ) : Type 0 where
  pub number : number_in w ≡ call_number c
  pub place : place_in w ≡ call_place c
  pub value : value_in w ≡ call_value c
  pub call : call_in w ≡ c

pub record ReadsCheck (n : ℕ) (c : Result ℕ ℕ) (w : ℕ) : Type 0 where
  pub number : number_in w ≡ check_number n c
  pub place : place_in w ≡ 0
  pub value : value_in w ≡ check_value c
  pub answer : check_in w ≡ c

pub record ReadsMove (m : Move) (w : ℕ) : Type 0 where
  pub number : number_in w ≡ move_number m
  pub place : place_in w ≡ 0
  pub value : value_in w ≡ move_value m
  pub move : move_in w ≡ m

pub record ReadsTake (t : Taken) (w : ℕ) : Type 0 where
  pub number : number_in w ≡ take_number t
  pub place : place_in w ≡ 0
  pub value : value_in w ≡ take_value t
  pub take : take_in w ≡ t

pub record ReadsList (l : Listed) (w : ℕ) : Type 0 where
  pub number : number_in w ≡ list_number l
  pub place : place_in w ≡ 0
  pub value : value_in w ≡ list_value l
  pub list : list_in w ≡ l
