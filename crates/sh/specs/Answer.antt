-- The answer to a User-Data-Request, byte by byte.
use Rattle.std.specs.Prelude.{ℕ, ◌+◌, List, ◌++◌, length}
use Rattle.record.specs.Fields.{state_of, bits_of, server_of, pending}
use Rattle.blocks.specs.Blocks.{block_of, of_block}
use Rattle.diameter.specs.Message.{body_of}
use Rattle.reading.specs.declared.Terms.{Terms}
use Rattle.requests.specs.Request.{session_of}
use Rattle.failed.specs.Failing.{failed_by}
use Rattle.envelope.specs.End.{failed_part, proxies, end_bytes}
use Rattle.envelope.specs.Front.{front_bytes, origin_bytes}
use Rattle.envelope.specs.Header.{header_bytes}
use Rattle.user_data.specs.UserData.{user_data_bytes}
use Rattle.user_data.specs.declared.References.{References}
use Rattle.sh.specs.Tell.{Telling}

-- 702 of a record's block; of the block that is told of, nothing where none is
unfoldable pub record_bytes : References → List ℕ → List ℕ
record_bytes r b = user_data_bytes r (state_of b) (pending (bits_of b)) (server_of b)

unfoldable pub told_bytes : List ℕ → Telling → List ℕ
told_bytes t g = of_block (record_bytes g.asked) t g.block

-- "Session-Id, 260, result, 277, 264, 296, 702 .., 279, Proxy-Info"; with the header, which has the answer's own length
unfoldable pub sh_body : Terms → List ℕ → List ℕ → Telling → List ℕ
sh_body terms req t g =
    front_bytes terms (session_of (body_of req)) g.verdict.result ++ (origin_bytes (block_of t 0) ++ (told_bytes t g ++ end_bytes req g.verdict))

unfoldable pub sh_answer : Terms → List ℕ → List ℕ → Telling → List ℕ
sh_answer terms req t g = header_bytes req g.verdict.result (20 + length (sh_body terms req t g)) ++ sh_body terms req t g

-- the room that all after the header takes
abbrev pub body_room : Terms → List ℕ → List ℕ → Telling → ℕ
body_room terms req t g =
    length (front_bytes terms (session_of (body_of req)) g.verdict.result)
    + (length (origin_bytes (block_of t 0)) + (length (told_bytes t g) + (length (failed_part (failed_by req g.verdict)) + length (proxies (body_of req)))))
