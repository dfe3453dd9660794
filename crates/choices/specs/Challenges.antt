-- "The authentication request.": what it comes to, by the answers to its questions, and the plan then.
use Rattle.std.specs.Prelude.{ℕ, cond, not, Ok, Err}
use Rattle.vectors.specs.declared.choice.Sent.{Sent}
use Rattle.reading.specs.declared.Outcome.TheVariants.{Base, Experimental}
use Rattle.choices.specs.Given.{given_plain, given_sent}
use Rattle.choices.specs.Plans.{Finding, only}
use Rattle.choices.specs.declared.challenge.Claimed.{Claimed}
use Rattle.choices.specs.declared.plan.Deed.TheVariants.{Challenge}
use Rattle.choices.specs.declared.plan.Plan.{Plan}

-- "Steps, first fault deciding: identities unknown, not matching, scheme other than `Digest-AKAv1-MD5`"; "none unused, or zero asked, B5012, after X5006"
unfoldable pub claim_of : Claimed → Finding
claim_of a =
    cond (not a.known) (Err (Experimental 5001))
    (cond (not a.together) (Err (Experimental 5002))
    (cond (not a.served) (Err (Experimental 5006))
    (cond (not a.some) (Err (Base 5012))
    (Ok tt))))

-- "then that name's first unused vectors .. are marked used and sent, B2001. The Server-Name is stored if different": the record is that of block k
unfoldable pub challenge_of : Finding → ℕ → Sent → Plan
challenge_of (Err r) k sent = only (given_plain r)
challenge_of (Ok done) k sent = record { given = given_sent k sent; deed = Challenge k }
