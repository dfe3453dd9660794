-- 02 [6]: "A set is the records of one subscription with the same nonzero number".
use Rattle.std.specs.Prelude.{ℕ, ◌%◌, Bool, ◌&&◌, List, eqb, ltb}
use Rattle.octets.specs.Name.{same}
use Rattle.record.specs.Fields.{state_of, bits_of, private_of, server_of, set_of}

-- two record blocks are of one set; a record without a set, whose number is 0, is of none
unfoldable pub same_set : List ℕ → List ℕ → Bool
same_set a b = ltb 0 (set_of a) && eqb (set_of a) (set_of b) && same (private_of a) (private_of b)

-- "all records of a set agree in state, pending and server name"; pending is bit 0
unfoldable pub agreeing : List ℕ → List ℕ → Bool
agreeing a b = eqb (state_of a) (state_of b) && eqb (bits_of a % 2) (bits_of b % 2) && same (server_of a) (server_of b)
