-- How long an answer is at the most.
use Rattle.octets.specs.Standard.{ℕ, ◌+◌, ◌%◌, ◌≤◌, List, ◌≡◌, arith, length, length-append}
use Rattle.table.specs.SoundTable.{SoundTable}
use Rattle.vectors.specs.Sendable.{Sendable}
use Rattle.diameter.specs.Message.{body_of}
use Rattle.pen.specs.Bytes.{copied_size}
use Rattle.items.proofs.Items.{sent_most}
use Rattle.reading.specs.declared.Terms.{Terms}
use Rattle.requests.specs.Request.{session_of}
use Rattle.failed.specs.Failing.{failed_by}
use Rattle.choices.specs.declared.Given.{Given}
use Rattle.parts.specs.Profile.{profile_at}
use Rattle.reply.specs.Pieces.{top_bytes, given_bytes}
use Rattle.envelope.proofs.Lengths.{front_length, header_length, origin_length}
use Rattle.reply.proofs.Lengths.{list_length, names_length, data_length}
use Rattle.envelope.specs.End.{failed_part, proxies, end_bytes}
use Rattle.answering.specs.Answer.{rest_bytes, body_bytes, answer_bytes}
use Rattle.envelope.proofs.Copies.{session_proxies}

-- 3,772 bytes are bounded by the table's fields and by 16 vectors; the rest comes from the request and from the profile file
module _ (t : List ℕ) (count : ℕ) (s : SoundTable t count) (terms : Terms) (req file v : List ℕ) (g : Given) (good : Sendable v g.sent) where
  body_length : length (body_bytes terms req t file v g)
      ≤ 3772 + copied_size (length (session_of (body_of req))) + copied_size (length (profile_at t file g.profile))
      + length (failed_part (failed_by req g.verdict)) + length (proxies (body_of req))
  unfolding body_bytes top_bytes rest_bytes given_bytes end_bytes
  body_length =
      simp length-append
      (omega (
        arith,
        front_length terms (session_of (body_of req)) g.verdict.result,
        origin_length t count s,
        list_length terms req,
        names_length t count s g,
        sent_most v g.sent good,
        data_length t count s file g,
      ))

  -- Session-Id and every Proxy-Info are copied from different AVPs.
  pub answer_length_lem : 20 ≤ length req → length req % 4 ≡ 0
      → length (answer_bytes terms req t file v g) ≤ 3772 + length req + copied_size (length (profile_at t file g.profile))
      + length (failed_part (failed_by req g.verdict))
  unfolding answer_bytes
  answer_length_lem h e =
      simp length-append
      (omega (arith, header_length req g.verdict.result (20 + length (body_bytes terms req t file v g)) h, body_length, session_proxies req h e))
