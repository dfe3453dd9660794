-- "Only registration state (Data-Reference 11) and server name (12) are served": what the Data-References of a request ask for.
use Rattle.std.specs.Prelude.{ℕ, List, Bool, not, ◌&&◌, eqb}
use Rattle.diameter.specs.Avp.{value_of}
use Rattle.diameter.specs.Walk.{Walk, some_avp}
use Rattle.reading.specs.Kinds.{kind_of, data_reference}
use Rattle.user_data.specs.declared.References.{References}

-- an AVP is a Data-Reference of a number; of another than the two
unfoldable pub refers : ℕ → List ℕ → Bool
refers n a = eqb (kind_of a) data_reference && eqb (value_of a) n

unfoldable pub refers_other : List ℕ → Bool
refers_other a = eqb (kind_of a) data_reference && (not (eqb (value_of a) 11) && not (eqb (value_of a) 12))

unfoldable pub references_of : Walk → References
references_of w = record { state = some_avp (refers 11) w; name = some_avp (refers 12) w; other = some_avp refers_other w }
