-- What is planned; and "SAR.": what it comes to, by what was seen of its records, and the plan then.
use Rattle.std.specs.Prelude.{ℕ, Bool, cond, not, ◌&&◌, eqb, Result, Ok, Err}
use Rattle.reading.specs.declared.Outcome.{Outcome}
use Rattle.reading.specs.declared.Outcome.TheVariants.{Base, Experimental}
use Rattle.choices.specs.Types.{asks_only, carries_user, effect_of}
use Rattle.choices.specs.Given.{given_plain, given_user}
use Rattle.choices.specs.declared.Given.{Given}
use Rattle.choices.specs.declared.types.AssignmentType.{AssignmentType}
use Rattle.choices.specs.declared.types.Effect.{Effect}
use Rattle.choices.specs.declared.plan.Sar.{Sar}
use Rattle.choices.specs.declared.plan.Survey.{Survey}
use Rattle.choices.specs.declared.plan.Deed.{Deed}
use Rattle.choices.specs.declared.plan.Deed.TheVariants.{Leave, Settle}
use Rattle.choices.specs.declared.plan.Plan.{Plan}

-- what the questions of a SAR or a MAR come to: the result of the first that is at fault, if one is
abbrev pub Finding : Type 0
Finding = Result (Unit {0}) Outcome

-- "any named identity, or a User-Name given, unknown: X5001. All in one subscription, the User-Name's if given, else X5002. Type 0: stored name equal to the
-- request's, B2001, else B5012. A stored name of one of these records that differs from the request's: X5005. Wrong state: X5007 .. and at least one record."
unfoldable pub finding_of : Survey → AssignmentType → Finding
finding_of v kind =
    cond (not v.known) (Err (Experimental 5001))
    (cond (not v.own) (Err (Experimental 5002))
    (cond (asks_only kind) (cond v.stores (Ok tt) (Err (Base 5012)))
    (cond (not v.fits) (Err (Experimental 5005))
    (cond (not (v.some && v.right)) (Err (Experimental 5007))
    (Ok tt)))))

-- "User-Name (the record's private identity; SAR success, types 0 to 3)"; "User-Data 606 (SAR success, types 0 to 3, 624 is 0, ..)"; the record is that of
-- block `first`
unfoldable pub grant : Sar → ℕ → Outcome → Given
grant s first r = cond (carries_user s.kind) (given_user r first (cond (eqb s.already 0) first 0)) (given_plain r)

-- nothing is written
abbrev pub only : Given → Plan
only g = record { given = g; deed = Leave }

-- what a row of the table of effects has to be written, of the User-Name's records or of the named ones
unfoldable pub deed_of : Effect → Bool → Deed
deed_of e owned = cond e.write (Settle (record { owned = owned; state = e.state; named = e.named })) Leave

unfoldable pub plan_of : Finding → Sar → ℕ → Bool → Plan
plan_of (Err r) s first owned = only (given_plain r)
plan_of (Ok done) s first owned =
    record { given = grant s first (effect_of s.kind s.keep).result; deed = deed_of (effect_of s.kind s.keep) owned }
