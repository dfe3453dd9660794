-- The word that a call returns: its number times 2^48, the place of the AVP at fault times 2^32, and what it returns besides below that.
use Rattle.std.specs.Prelude.{ℕ, ◌+◌, ◌*◌}
use Rattle.calling.specs.Call.{Call, Answered, Refused}

abbrev pub number_unit : ℕ
number_unit = 281474976710656

abbrev pub place_unit : ℕ
place_unit = 4294967296

abbrev pub word : ℕ → ℕ → ℕ → ℕ
word number place value = number * number_unit + place * place_unit + value

abbrev pub call_word : Call → ℕ
call_word (Answered a) = word 0 a.place a.length
call_word (Refused number besides) = word number 0 besides
