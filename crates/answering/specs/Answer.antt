-- "The answer", byte by byte: of the terms of the call, the request, the table, the profile file, the vector file and what a decision gives.
use Rattle.std.specs.Prelude.{ℕ, ◌+◌, List, ◌++◌, length}
use Rattle.reading.specs.declared.Terms.{Terms}
use Rattle.choices.specs.declared.Given.{Given}
use Rattle.envelope.specs.End.{end_bytes}
use Rattle.envelope.specs.Header.{header_bytes}
use Rattle.reply.specs.Pieces.{top_bytes, given_bytes}

-- what a decision gives, and the end; with what every answer has; with the header, which has the answer's own length
unfoldable pub rest_bytes : List ℕ → List ℕ → List ℕ → List ℕ → Given → List ℕ
rest_bytes req t file v g = given_bytes t file v g ++ end_bytes req g.verdict

unfoldable pub body_bytes : Terms → List ℕ → List ℕ → List ℕ → List ℕ → Given → List ℕ
body_bytes terms req t file v g = top_bytes terms req t g.verdict.result ++ rest_bytes req t file v g

unfoldable pub answer_bytes : Terms → List ℕ → List ℕ → List ℕ → List ℕ → Given → List ℕ
answer_bytes terms req t file v g =
    header_bytes req g.verdict.result (20 + length (body_bytes terms req t file v g)) ++ body_bytes terms req t file v g
