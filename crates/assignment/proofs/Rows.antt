-- Each row of the table of effects fits a record: it has a server name exactly in state 1 or 2.
use Rattle.octets.specs.Standard.{ℕ, ◌≤◌, Bool, true, false, List, arith, length}
use Rattle.rewrite.specs.Fitting.{Fitting}
use Rattle.rewrite.proofs.Settled.{fits_named, fits_none}
use Rattle.choices.specs.Types.{effect_of}
use Rattle.choices.specs.declared.types.AssignmentType.{AssignmentType}
use Rattle.choices.specs.declared.types.AssignmentType.TheVariants.{NoAssignment, Registration, ReRegistration, UnregisteredUser, Removal}
use Rattle.choices.specs.declared.types.AssignmentType.TheVariants.{StoringRemoval, Failure}
use Rattle.assignment.specs.Assignment.{stored_name}

module _ (server : List ℕ) (least : 1 ≤ length server) (most : length server ≤ 96) where
  pub row_fits : (kind : AssignmentType) (keep : Bool) → Fitting (effect_of kind keep).state (stored_name (effect_of kind keep).named server)
  unfolding stored_name
  row_fits NoAssignment keep = fits_none
  row_fits Registration keep = fits_named 1 server (omega arith) (omega arith) least most
  row_fits ReRegistration keep = fits_named 1 server (omega arith) (omega arith) least most
  row_fits UnregisteredUser keep = fits_named 2 server (omega arith) (omega arith) least most
  row_fits Removal keep = fits_none
  row_fits StoringRemoval true = fits_named 2 server (omega arith) (omega arith) least most
  row_fits StoringRemoval false = fits_none
  row_fits Failure keep = fits_none
