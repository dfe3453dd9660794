-- 02 [11]: what one Supported-Features asks for, and whether it passes the rules.
use Rattle.std.specs.Prelude.{ℕ, ◌/◌, ◌%◌, ◌^◌, List, Bool, cond, not, ◌&&◌, ◌||◌, eqb}
use Rattle.octets.specs.All.{all_below}
use Rattle.diameter.specs.Avp.{avp_flags, data_of, value_of, reserved, marked}
use Rattle.diameter.specs.Walk.{Walk, ended, faulty, avp, walk}
use Rattle.reading.specs.Groups.{feature_members, is_of, gathers}
use Rattle.reading.specs.Kinds.{kind_of, supported_features}

abbrev pub is_features : List ℕ → Bool
is_features a = eqb (kind_of a) supported_features

-- bit k of a number, from 0 on
abbrev pub bit_of : ℕ → ℕ → Bool
bit_of n k = eqb (n / 2 ^ k % 2) 1

-- "asks for a bit outside the set": not every bit of its 32 is clear or in the set
unfoldable pub clear_or_in : ℕ → ℕ → ℕ → Bool
clear_or_in wanted set k = not (bit_of wanted k) || bit_of set k

unfoldable pub bit_outside : ℕ → ℕ → Bool
bit_outside wanted set = not (all_below (clear_or_in wanted set) 32)

-- the number that the first AVP of a code and vendor holds, 0 where there is none
unfoldable pub member_value : ℕ → ℕ → Walk → ℕ
member_value code vendor ended = 0
member_value code vendor (faulty t) = 0
member_value code vendor (avp a w) = cond (is_of code vendor a) (value_of a) (member_value code vendor w)

-- ".. or for another list or vendor": the set is of "bits of list 1 of vendor 10415". Another one counts also where no bit is set.
unfoldable pub asks_other : ℕ → Walk → Bool
asks_other set w =
    not (eqb (member_value 266 0 w) 10415) || not (eqb (member_value 629 10415 w) 1) || bit_outside (member_value 630 10415 w) set

-- "With M set": what is asked without it is not judged
unfoldable pub asks : ℕ → List ℕ → Bool
asks set a = marked (avp_flags a) && asks_other set (walk (data_of a))

unfoldable pub asks_beyond : ℕ → List ℕ → Bool
asks_beyond set a = is_features a && asks set a

-- a 628 passes (c), and (h) by its members; (d) to (f) it always does, and no member of it is by itself at fault by (g)
unfoldable pub passes : List ℕ → Bool
passes a = eqb (reserved (avp_flags a)) 0 && gathers feature_members (walk (data_of a))

unfoldable pub calls_list : List ℕ → Bool
calls_list a = is_features a && passes a
