-- The whole answer: its body, then its header.
use Rattle.octets.specs.Standard.{ℕ, ◌+◌, ◌≤◌, ◌≡◌, refl, List, arith, length, length-append, length-take, length-drop}
use Rattle.octets.specs.Run.{Wrote}
use Rattle.octets.proofs.Writes.{lent, back, then, named, then_front}
use Rattle.reading.specs.declared.Terms.{Terms}
use Rattle.requests.specs.Features.{list_called, wanted_of}
use Rattle.requests.specs.declared.features.Wanted.{Wanted}
use Rattle.choices.specs.declared.Given.{Given}
use Rattle.envelope.specs.Header.{header_bytes}
use Rattle.reply.specs.Pieces.{top_bytes}
use Rattle.envelope.proofs.Rooms.{room_left, room_right}
use Rattle.envelope.proofs.Lengths.{header_length}
use Rattle.answering.specs.Answer.{rest_bytes, body_bytes, answer_bytes}

-- whether the own list is called for
pub listed_is : (terms : Terms) (req : List ℕ) (w : Wanted) → w ≡ wanted_of terms req → w.listed ≡ list_called terms req
listed_is terms req w e = rw e

module _ (terms : Terms) (req t file v : List ℕ) (g : Given) where
  pub top_room : {m : ℕ} → length (body_bytes terms req t file v g) ≤ m → length (top_bytes terms req t g.verdict.result) ≤ m
  unfolding body_bytes
  top_room h = room_left (top_bytes terms req t g.verdict.result) (rest_bytes req t file v g) h

  module _ {b xs : List ℕ} {n : ℕ} (p : Wrote (top_bytes terms req t g.verdict.result) b xs n) where
    pub rest_room : length (body_bytes terms req t file v g) ≤ length b → length (rest_bytes req t file v g) ≤ length (lent n xs)
    unfolding body_bytes
    rest_room h = room_right (top_bytes terms req t g.verdict.result) (rest_bytes req t file v g) p h

    pub wrote_body : {ys : List ℕ} {r : ℕ} → Wrote (rest_bytes req t file v g) (lent n xs) ys r → Wrote (body_bytes terms req t file v g) b (back n xs ys) (n + r)
    unfolding body_bytes
    wrote_body q = then p q

  -- the body is written first, behind the header's place, and then the header with the length
  body_most : {m : ℕ} → 20 ≤ length req → length (answer_bytes terms req t file v g) ≤ m → 20 + length (body_bytes terms req t file v g) ≤ m
  unfolding answer_bytes
  body_most whole h =
      let k = rw length-append at h in
      omega (arith, header_length req g.verdict.result (20 + length (body_bytes terms req t file v g)) whole)

  pub body_room_lem : (b : List ℕ) → 20 ≤ length req → length (answer_bytes terms req t file v g) ≤ 36864 → 36864 ≤ length b
      → length (body_bytes terms req t file v g) ≤ length (lent 20 b)
  body_room_lem b whole h room = simp (length-take, length-drop) (omega (arith, body_most whole h))

  pub answer_bounded : {b ys : List ℕ} {r : ℕ} → 20 ≤ length req → length (answer_bytes terms req t file v g) ≤ 36864
      → Wrote (body_bytes terms req t file v g) b ys r
      → 20 + r ≤ 36864
  answer_bounded whole h p = omega (arith, p.count, body_most whole h)

  pub wrote_answer : {b ys zs : List ℕ} {r : ℕ} → 36864 ≤ length b → Wrote (body_bytes terms req t file v g) (lent 20 b) ys r
      → Wrote (header_bytes req g.verdict.result (20 + r)) (back 20 b ys) zs 20 → Wrote (answer_bytes terms req t file v g) b zs (20 + r)
  unfolding answer_bytes
  wrote_answer room p q = named (rw p.count) refl (then_front (omega arith) p q)
