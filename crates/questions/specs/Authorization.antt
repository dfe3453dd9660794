-- "UAR.": the questions, and what their answers come to (choices/specs/Choices has the paragraph, row by row).
use Rattle.std.specs.Prelude.{ℕ, List, Bool, false, ltb, Option, Some, None}
use Rattle.octets.specs.Name.{same}
use Rattle.record.specs.Fields.{private_of, state_of}
use Rattle.blocks.specs.Blocks.{block_of}
use Rattle.lookup.specs.Find.{is_at, find_public, find_private, barred_alone}
use Rattle.lookup.specs.Network.{may_roam}
use Rattle.choices.specs.Choices.{authorization}
use Rattle.choices.specs.declared.Given.{Given}
use Rattle.choices.specs.declared.choice.Asked.{Asked}
use Rattle.lookup.specs.Find.{block_found}
use Rattle.questions.specs.Carried.{carried}

-- of a record's block b, where it is said whether the private identity is known and whether the record is barred, and all its set; h is the header block
unfoldable pub asked_at : List ℕ → List ℕ → Bool → Bool → List ℕ → List ℕ → Asked
asked_at h b known barred user network =
    record {
      known = known;
      together = same (private_of b) user;
      barred = barred;
      roams = may_roam h b network;
      present = ltb 0 (state_of b);
    }

-- of the record that was found; where none was, "either identity" is unknown
unfoldable pub asked_of : List ℕ → ℕ → List ℕ → List ℕ → Option ℕ → Asked
asked_of t count user network (Some k) = asked_at (block_of t 0) (block_of t k) (is_at (find_private t count user)) (barred_alone t count (block_of t k)) user network
asked_of t count user network None =
    record { known = false; together = false; barred = false; roams = false; present = false }

unfoldable pub authorize_found : List ℕ → ℕ → List ℕ → List ℕ → ℕ → Option ℕ → Given
authorize_found t count user network kind f = carried t count user (block_found f) (authorization (asked_of t count user network f) kind)

unfoldable pub authorize : List ℕ → ℕ → List ℕ → List ℕ → List ℕ → ℕ → Given
authorize t count user public network kind = authorize_found t count user network kind (find_public t count public)
