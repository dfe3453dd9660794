-- "Server-Assignment-Type 614 (0 to 11)": what each type is, which states it starts from, and what it does.
use Rattle.std.specs.Prelude.{ℕ, Bool, true, false, ◌&&◌, ◌||◌, cond, eqb, leb, ltb}
use Rattle.reading.specs.declared.Outcome.{Outcome}
use Rattle.reading.specs.declared.Outcome.TheVariants.{Base, Experimental}
use Rattle.choices.specs.declared.types.AssignmentType.{AssignmentType}
use Rattle.choices.specs.declared.types.AssignmentType.TheVariants.{NoAssignment, Registration, ReRegistration, UnregisteredUser, Removal}
use Rattle.choices.specs.declared.types.AssignmentType.TheVariants.{StoringRemoval, Failure}
use Rattle.choices.specs.declared.types.Effect.{Effect}

abbrev pub between : ℕ → ℕ → ℕ → Bool
between a k b = leb a k && leb k b

-- no other number than 0 to 11 is read: "614 (0 to 11)", else B5004
unfoldable pub type_of : ℕ → AssignmentType
type_of n =
    cond (eqb n 1) Registration
    (cond (eqb n 2) ReRegistration
    (cond (eqb n 3) UnregisteredUser
    (cond (between 4 n 5 || eqb n 8 || eqb n 11) Removal
    (cond (between 6 n 7) StoringRemoval
    (cond (between 9 n 10) Failure
    NoAssignment)))))

-- "Removal types are 4, 5, 6, 7, 8, 11."
abbrev pub is_removal : AssignmentType → Bool
is_removal Removal = true
is_removal StoringRemoval = true
is_removal Failure = false
is_removal NoAssignment = false
is_removal Registration = false
is_removal ReRegistration = false
is_removal UnregisteredUser = false

-- type 0 asks and alters nothing
abbrev pub asks_only : AssignmentType → Bool
asks_only Removal = false
asks_only StoringRemoval = false
asks_only Failure = false
asks_only NoAssignment = true
asks_only Registration = false
asks_only ReRegistration = false
asks_only UnregisteredUser = false

-- "SAR success, types 0 to 3": the answer carries the record's private identity, and its user data where 624 is 0
abbrev pub carries_user : AssignmentType → Bool
carries_user Removal = false
carries_user StoringRemoval = false
carries_user Failure = false
carries_user NoAssignment = true
carries_user Registration = true
carries_user ReRegistration = true
carries_user UnregisteredUser = true

-- "type 2 needs 1; type 3 needs 0 or 2; removals need 1 or 2 for each"; the others start from any state
abbrev pub allowed : AssignmentType → ℕ → Bool
allowed Removal state = ltb 0 state
allowed StoringRemoval state = ltb 0 state
allowed Failure state = true
allowed NoAssignment state = true
allowed Registration state = true
allowed ReRegistration state = eqb state 1
allowed UnregisteredUser state = eqb state 0 || eqb state 2

-- "state 1, name stored", "state 2, name kept"; "state 0, no name"
abbrev pub keeping : ℕ → Effect
keeping state = record { write = true; state = state; named = true; result = Base 2001 }

abbrev pub leaving : Outcome → Effect
leaving r = record { write = true; state = 0; named = false; result = r }

-- "Effects, pending cleared": the rows of the table, and type 0, which alters nothing. A name that is kept is the request's, else X5005 was given.
abbrev pub effect_of : AssignmentType → Bool → Effect
effect_of Removal keep = leaving (Base 2001)
effect_of StoringRemoval keep = cond keep (keeping 2) (leaving (Experimental 2004))
effect_of Failure keep = leaving (Base 2001)
effect_of NoAssignment keep = record { write = false; state = 0; named = false; result = Base 2001 }
effect_of Registration keep = keeping 1
effect_of ReRegistration keep = keeping 1
effect_of UnregisteredUser keep = keeping 2
