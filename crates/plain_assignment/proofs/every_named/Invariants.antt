use Rattle.std.specs.Fn.{FnReturnsAt}
use Rattle.octets.specs.Standard.{ℕ, Bool, List, ◌≡◌, ◌&&◌, ◌-◌, length}
use Rattle.diameter.specs.Message.{body_of}
use Rattle.requests.specs.Request.{identities}
use Rattle.assignment.specs.Assignment.{every, find_all}
use Rattle.assignment.proofs.NameTurns.{rest_of}
use Rattle.plain_assignment.specs.Rules.{kept_by}
use Rattle.plain_assignment.proofs.every_named.Given as goal

abbrev pub invariant-loop-place : goal.invariant-loop-place
invariant-loop-place g l =
    (p : List ℕ → Bool) → ((b : List ℕ) (r : Bool) → FnReturnsAt g.F.Fn l.keeps b r → r ≡ p b)
    → (l.good && every (kept_by l.t p l.unknown) (find_all l.t l.count (rest_of l.req l.at)))
    ≡ every (kept_by l.t p l.unknown) (find_all l.t l.count (identities (body_of l.req)))

abbrev pub decreases-loop-place : goal.decreases-loop-place
decreases-loop-place g l = length l.req - l.at
