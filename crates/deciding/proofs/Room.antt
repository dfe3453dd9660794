-- Every answer fits: no request of at most 16,384 bytes has one of more than 36,864.
use Rattle.octets.specs.Standard.{ℕ, ◌+◌, ◌≤◌, ◌%◌, List, ◌≡◌, ◌⊎◌, inl, inr, arith, length}
use Rattle.table.specs.SoundTable.{SoundTable}
use Rattle.vectors.specs.Sendable.{Sendable}
use Rattle.vectors.specs.VectorFile.{SoundVectors}
use Rattle.pen.specs.Bytes.{copied_size}
use Rattle.reading.specs.declared.Dialect.{Dialect}
use Rattle.reading.specs.declared.Terms.{Terms}
use Rattle.failed.specs.Failing.{failed_by}
use Rattle.envelope.proofs.Lengths.{failed_short}
use Rattle.choices.specs.declared.Given.{Given}
use Rattle.parts.specs.Profile.{profile_at}
use Rattle.envelope.specs.End.{failed_part}
use Rattle.answering.specs.Answer.{answer_bytes}
use Rattle.answering.proofs.Lengths.{answer_length_lem}
use Rattle.deciding.specs.Decide.{decide}
use Rattle.deciding.proofs.Cases.{Blameless}
use Rattle.deciding.proofs.Comes.{decide_carries}
use Rattle.deciding.proofs.Deeds.{decide_sendable}
use Rattle.parts.proofs.Fields as parts

-- "answer buffer under 36,864 bytes" is refused: no answer is longer
module _ (t file : List ℕ) (count : ℕ) (s : SoundTable t count) (v : List ℕ) (req : List ℕ) (h : 20 ≤ length req)
    (k : length req ≤ 16384) (e : length req % 4 ≡ 0) where
  pub given_most : (terms : Terms) (g : Given) → Sendable v g.sent → (g.profile ≡ 0) ⊎ Blameless g → length (answer_bytes terms req t file v g) ≤ 36864
  unfolding failed_by
  given_most terms g sends light = go light
    where
      most : length (answer_bytes terms req t file v g) ≤ 3772 + length req + copied_size (length (profile_at t file g.profile))
          + length (failed_part (failed_by req g.verdict))
      most = answer_length_lem t count s terms req file v g sends h e

      go : (g.profile ≡ 0) ⊎ Blameless g → length (answer_bytes terms req t file v g) ≤ 36864
      go (inl p) =
          let none : length (profile_at t file g.profile) ≡ 0 = rw p in
          omega (arith, most, failed_short req g.verdict k)
      go (inr b) =
          let none : length (failed_part (failed_by req g.verdict)) ≡ 0 = rw (b.0, b.1) in
          omega (arith, most, parts.profile_length t file count s g.profile)

  pub answer_most : (dialect : Dialect) → SoundVectors v → length (answer_bytes dialect.terms req t file v (decide dialect req t count v).given) ≤ 36864
  answer_most dialect vectors =
      given_most dialect.terms (decide dialect req t count v).given (decide_sendable dialect req t count v vectors)
      (decide_carries dialect req t count v).light
