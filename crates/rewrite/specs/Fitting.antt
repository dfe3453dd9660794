-- Both changes as one; what a change has to fit, so that a sound record stays sound.
use Rattle.std.specs.Prelude.{ℕ, ◌≤◌, true, ◌≡◌, List, length}
use Rattle.record.specs.RecordBlock.{server_fits}
use Rattle.rewrite.specs.declared.Change.{Change}
use Rattle.rewrite.specs.declared.Change.TheVariants.{Settled, Challenged}
use Rattle.rewrite.specs.Renew.{settled, challenged}

-- what every row of the table of effects has: a state 0 to 2, and a server name, which has room, exactly in state 1 or 2
pub record Fitting (state : ℕ) (name : List ℕ) : Type 0 where
  pub two : state ≤ 2
  pub most : length name ≤ 96
  pub served : server_fits (length name) state 0 ≡ true

-- either of them, with the server name that goes with it; what it has to fit
unfoldable pub change_of : Change → List ℕ → List ℕ → List ℕ
change_of (Settled state) name = settled state name
change_of Challenged name = challenged name

abbrev pub ChangeFits : Change → List ℕ → Type 0
ChangeFits (Settled state) name = Fitting state name
ChangeFits Challenged name = (1 ≤ length name) × (length name ≤ 96)
