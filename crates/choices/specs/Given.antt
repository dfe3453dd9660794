-- What a decision gives the answer to carry, made. But for `given_fault`, no AVP of the request is at fault; but for `given_sent`, no vector is sent.
use Rattle.std.specs.Prelude.{ℕ}
use Rattle.vectors.specs.Chosen.{none_sent}
use Rattle.vectors.specs.declared.choice.Sent.{Sent}
use Rattle.reading.specs.declared.Outcome.{Outcome}
use Rattle.reading.specs.declared.Outcome.TheVariants.{Base}
use Rattle.reading.specs.declared.Verdict.{Verdict}
use Rattle.choices.specs.declared.Given.{Given}

-- no AVP is at fault, and none is missing
abbrev pub blameless : Outcome → Verdict
blameless r = record { result = r; place = 0; lacks = 0 }

-- a verdict, and of which block each thing is: private identity, server name, capabilities, user data
abbrev pub given_of : Verdict → ℕ → ℕ → ℕ → ℕ → Given
given_of v user server capable profile =
    record { verdict = v; user = user; public = 0; server = server; capable = capable; profile = profile; sent = none_sent }

-- a verdict alone; a result alone; with the server name of a block; with its capabilities; with its private identity and the user data of a block
abbrev pub given_fault : Verdict → Given
given_fault v = given_of v 0 0 0 0

abbrev pub given_plain : Outcome → Given
given_plain r = given_fault (blameless r)

abbrev pub given_server : Outcome → ℕ → Given
given_server r k = given_of (blameless r) 0 k 0 0

abbrev pub given_capable : Outcome → ℕ → Given
given_capable r k = given_of (blameless r) 0 0 k 0

abbrev pub given_user : Outcome → ℕ → ℕ → Given
given_user r k profile = given_of (blameless r) k 0 0 profile

-- a success with both identities of a block, and vectors
abbrev pub given_sent : ℕ → Sent → Given
given_sent k sent = record { verdict = blameless (Base 2001); user = k; public = k; server = 0; capable = 0; profile = 0; sent = sent }
