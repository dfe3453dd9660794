-- "The authentication request.": the questions, and what their answers come to (choices/specs/Challenges has the steps).
use Rattle.std.specs.Prelude.{ℕ, min, List, Bool, false, ltb, Option, Some, None}
use Rattle.octets.specs.Name.{same}
use Rattle.record.specs.Fields.{private_of}
use Rattle.blocks.specs.Blocks.{block_of}
use Rattle.vectors.specs.Chosen.{unused_of, packed}
use Rattle.vectors.specs.Scheme.{scheme}
use Rattle.vectors.specs.declared.choice.Sent.{Sent}
use Rattle.lookup.specs.Find.{is_at, find_public, find_private}
use Rattle.choices.specs.Challenges.{claim_of, challenge_of}
use Rattle.choices.specs.declared.challenge.Claimed.{Claimed}
use Rattle.choices.specs.declared.plan.Plan.{Plan}
use Rattle.lookup.specs.Find.{block_found}

-- of a record's block b, where it is said whether the private identity is known, and whether there is a vector to send
unfoldable pub claimed_at : List ℕ → Bool → List ℕ → List ℕ → Bool → Claimed
claimed_at b known user asked some = record { known = known; together = same (private_of b) user; served = same asked scheme; some = some }

-- of the record that was found; where none was, an identity is unknown
unfoldable pub claimed_of : List ℕ → ℕ → List ℕ → List ℕ → Bool → Option ℕ → Claimed
claimed_of t count user asked some (Some k) = claimed_at (block_of t k) (is_at (find_private t count user)) user asked some
claimed_of t count user asked some None = record { known = false; together = false; served = false; some = false }

-- "that name's first unused vectors in file order, as many as asked or as remain, at most 16"
unfoldable pub to_send : List ℕ → List ℕ → ℕ → Sent
to_send v user number = packed (unused_of v user (min number 16))

unfoldable pub authenticate_found : List ℕ → ℕ → List ℕ → List ℕ → Sent → Option ℕ → Plan
authenticate_found t count user asked sent f = challenge_of (claim_of (claimed_of t count user asked (ltb 0 sent.count) f)) (block_found f) sent

-- a table, a vector file; the User-Name, the Public-Identity, the scheme and the number that are asked
unfoldable pub authenticate : List ℕ → ℕ → List ℕ → List ℕ → List ℕ → List ℕ → ℕ → Plan
authenticate t count v user public asked number = authenticate_found t count user asked (to_send v user number) (find_public t count public)
