-- What depends on the decision, and how an answer ends.
use Rattle.octets.specs.Standard.{ℕ, ◌+◌, ◌≤◌, List, length, length-append}
use Rattle.octets.specs.Run.{Wrote}
use Rattle.octets.proofs.Writes.{lent, back, then}
use Rattle.diameter.specs.Message.{body_of}
use Rattle.failed.specs.Failing.{failed_by}
use Rattle.choices.specs.declared.Given.{Given}
use Rattle.envelope.specs.End.{failed_part, proxies, end_bytes}
use Rattle.envelope.proofs.Rooms.{room_left, room_right}
use Rattle.reply.specs.Pieces.{given_bytes}
use Rattle.answering.specs.Answer.{rest_bytes}

module _ (req t file v : List ℕ) (g : Given) where
  pub given_room : {m : ℕ} → length (rest_bytes req t file v g) ≤ m → length (given_bytes t file v g) ≤ m
  unfolding rest_bytes
  given_room h = room_left (given_bytes t file v g) (end_bytes req g.verdict) h

  module _ {b xs : List ℕ} {n : ℕ} (p : Wrote (given_bytes t file v g) b xs n) where
    pub end_room : length (rest_bytes req t file v g) ≤ length b
        → length (failed_part (failed_by req g.verdict)) + length (proxies (body_of req)) ≤ length (lent n xs)
    unfolding rest_bytes end_bytes
    end_room h =
        let k = room_right (given_bytes t file v g) (end_bytes req g.verdict) p h in
        rw length-append at k

    pub wrote_rest : {ys : List ℕ} {r : ℕ} → Wrote (end_bytes req g.verdict) (lent n xs) ys r → Wrote (rest_bytes req t file v g) b (back n xs ys) (n + r)
    unfolding rest_bytes
    wrote_rest q = then p q
