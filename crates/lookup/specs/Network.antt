-- "the visited network is named in the header and its bit set"
use Rattle.std.specs.Prelude.{ℕ, zero, suc, ◌+◌, ◌-◌, ◌/◌, ◌%◌, ◌^◌, Bool, ◌&&◌, cond, List, length, get_or, eqb, ltb}
use Rattle.octets.specs.Name.{same}
use Rattle.record.specs.Fields.{roaming_of, networks_of}
use Rattle.record.specs.Networks.{network_of}

unfoldable pub network_is : List ℕ → List ℕ → ℕ → Bool
network_is b name i = same (network_of b i) name

-- the first of the n numbers from i on that a test holds of, or the next after them
unfoldable pub seek : (ℕ → Bool) → ℕ → ℕ → ℕ
seek p zero i = i
seek p (suc n) i = cond (p i) i (seek p n (suc i))

-- the number of the network with a name, or the count of networks where none has it
unfoldable pub network_number : List ℕ → ℕ → List ℕ → ℕ
network_number b n name = seek (network_is b name) n 0

-- network n is one of them, and bit n of a record's roaming byte is set
unfoldable pub roams_in : ℕ → ℕ → ℕ → Bool
roams_in roaming networks n = ltb n networks && eqb (roaming / 2 ^ n % 2) 1

-- the same of the record in block b under the header h
unfoldable pub may_roam : List ℕ → List ℕ → List ℕ → Bool
may_roam h b name = roams_in (roaming_of b) (networks_of h) (network_number h (networks_of h) name)

-- byte i of a place, first its length, is as the name asks
unfoldable pub agree_at : List ℕ → ℕ → List ℕ → ℕ → Bool
agree_at b at name i = cond (eqb i 0) (eqb (get_or b at 0) (length name)) (eqb (get_or b (at + i) 0) (get_or name (i - 1) 0))
