-- How long an answer is at the most: it fits.
use Rattle.octets.specs.Standard.{ℕ, ◌+◌, ◌≤◌, List, [], Bool, true, false, cond, ◌≡◌, arith, eqb, length, length-append}
use Rattle.record.specs.Fields.{state_of, bits_of, server_of, pending}
use Rattle.blocks.specs.Blocks.{block_of}
use Rattle.table.specs.SoundTable.{SoundTable}
use Rattle.diameter.specs.Message.{body_of}
use Rattle.reading.specs.declared.Terms.{Terms}
use Rattle.requests.specs.Request.{session_of}
use Rattle.parts.proofs.Fields.{part_length, server_field}
use Rattle.refusals.specs.Passed.{Passed}
use Rattle.envelope.specs.End.{end_bytes}
use Rattle.envelope.specs.Header.{header_bytes}
use Rattle.envelope.proofs.Copies.{session_proxies}
use Rattle.envelope.proofs.Lengths.{front_length, header_length, origin_length, failed_short}
use Rattle.user_data.specs.declared.References.{References}
use Rattle.user_data.proofs.Sizes.{user_data_most}
use Rattle.sh.specs.Answer.{record_bytes, told_bytes, sh_body, sh_answer, body_room}
use Rattle.sh.specs.Tell.{Telling}

record_most : (r : References) (b : List ℕ) → length (server_of b) ≤ 96 → length (record_bytes r b) ≤ 728
unfolding record_bytes
record_most r b h = user_data_most r (state_of b) (pending (bits_of b)) (server_of b) h

module _ (t : List ℕ) (count : ℕ) (s : SoundTable t count) where
  told_most : (g : Telling) → length (told_bytes t g) ≤ 728
  unfolding told_bytes
  told_most g = go (eqb g.block 0) (part_length server_of 96 t count (server_field t count s) g.block)
    where
      go : (x : Bool) → length (cond x [] (server_of (block_of t g.block))) ≤ 96 → length (cond x [] (record_bytes g.asked (block_of t g.block))) ≤ 728
      go true h = omega arith
      go false h = record_most g.asked (block_of t g.block) h

  -- "answer buffer under 36,864 bytes" is refused: no answer is longer
  pub answer_most : (terms : Terms) (req o : List ℕ) (g : Telling) → Passed req o → 20 + body_room terms req t g ≤ 36864
  answer_most terms req o g p =
      omega (
        arith,
        p.most,
        front_length terms (session_of (body_of req)) g.verdict.result,
        origin_length t count s,
        told_most g,
        failed_short req g.verdict p.most,
        session_proxies req p.least p.fours,
      )

  body_long : (terms : Terms) (req : List ℕ) (g : Telling) → length (sh_body terms req t g) ≡ body_room terms req t g
  unfolding sh_body end_bytes
  body_long terms req g = simp length-append

  pub answer_fits : (terms : Terms) (req o : List ℕ) (g : Telling) → Passed req o → length (sh_answer terms req t g) ≤ 36864
  unfolding sh_answer
  answer_fits terms req o g p =
      let n = 20 + length (sh_body terms req t g) in
      omega (
        arith,
        length-append (header_bytes req g.verdict.result n) (sh_body terms req t g),
        header_length req g.verdict.result n p.least,
        body_long terms req g,
        answer_most terms req o g p,
      )
