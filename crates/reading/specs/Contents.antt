-- The fault of what an AVP holds that is no group, 0 where there is none: (g) "a 4-byte kind of another length: B5014", (h) "bad content: B5004"
use Rattle.std.specs.Prelude.{ℕ, ◌+◌, List, Bool, cond, not, ◌&&◌, length, leb, eqb}
use Rattle.diameter.specs.Avp.{avp_head, data_of, value_of}
use Rattle.reading.specs.declared.Content.{Content}
use Rattle.reading.specs.declared.Content.TheVariants.{Free, Number, Sized, Members}

abbrev pub fault_unless : Bool → ℕ → ℕ
fault_unless good n = cond good 0 n

unfoldable pub number_fault : ℕ → ℕ → List ℕ → ℕ
number_fault least most a =
    cond (not (eqb (length a) (avp_head a + 4))) 5014
    (fault_unless (leb least (value_of a) && leb (value_of a) most) 5004)

-- a group's members are not looked at here
unfoldable pub plain_fault : Content → List ℕ → ℕ
plain_fault Free a = 0
plain_fault (Number least most) a = number_fault least most a
plain_fault (Sized least most) a = fault_unless (leb least (length (data_of a)) && leb (length (data_of a)) most) 5004
plain_fault (Members g) a = 0
