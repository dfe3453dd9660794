-- What a choice on one record gives the answer to carry.
use Rattle.std.specs.Prelude.{ℕ, List, Option, Some, None}
use Rattle.lookup.specs.Find.{find_server}
use Rattle.reading.specs.declared.Outcome.{Outcome}
use Rattle.choices.specs.Given.{given_plain, given_server, given_capable}
use Rattle.choices.specs.declared.Given.{Given}
use Rattle.choices.specs.declared.choice.Choice.{Choice}
use Rattle.choices.specs.declared.choice.Choice.TheVariants.{Alone, Server, Capabilities, First}

-- the server name of a record that was found; "none, capabilities with" another result
abbrev pub served_by : Option ℕ → Outcome → Outcome → ℕ → Given
served_by (Some j) r other k = given_server r j
served_by None r other k = given_capable other k

-- a choice on block k, the asked record's; user is its subscription
unfoldable pub carried : List ℕ → ℕ → List ℕ → ℕ → Choice → Given
carried t count user k (Alone r) = given_plain r
carried t count user k (Server r) = given_server r k
carried t count user k (Capabilities r) = given_capable r k
carried t count user k (First r other) = served_by (find_server t count user) r other k
