-- An answer is written by the writers of its parts.
use Rattle.std.specs.Prelude.{Result, Ok, Err}
use Rattle.octets.specs.Standard.{ℕ, ◌+◌, ◌*◌, ◌≤◌, List, Bool, ◌≡◌, refl, append_assoc, arith, length, length-append, ne_eqb}
use Rattle.octets.specs.Run.{over, Wrote}
use Rattle.octets.proofs.Writes.{lent, back, then, named, then_front}
use Rattle.record.specs.Fields.{server_of, pending}
use Rattle.record.specs.RecordBlock.{record_of}
use Rattle.record.specs.declared.subscriber.Record.{Record}
use Rattle.blocks.specs.Blocks.{block_of}
use Rattle.table.specs.SoundTable.{SoundTable}
use Rattle.table.proofs.Sound.{sound_block}
use Rattle.diameter.specs.Message.{body_of}
use Rattle.reading.specs.declared.Dialect.{Dialect}
use Rattle.reading.specs.declared.Terms.{Terms}
use Rattle.reading.specs.declared.Verdict.{Verdict}
use Rattle.requests.specs.Request.{session_of}
use Rattle.envelope.specs.End.{end_bytes}
use Rattle.envelope.specs.Front.{front_bytes, origin_bytes}
use Rattle.envelope.specs.Header.{header_bytes}
use Rattle.user_data.specs.UserData.{user_data_bytes}
use Rattle.user_data.specs.declared.References.{References}
use Rattle.sh.specs.Answer.{record_bytes, told_bytes, sh_body, sh_answer, body_room}
use Rattle.sh.specs.Replies.{AmongRecords, Tells, Replies}
use Rattle.sh.specs.Tell.{Telling, telling_of}
use Rattle.sh.specs.declared.telling.Told.{Told}

-- 702 of a record, whose numbers and name were read.
module _ (r : References) (b : List ℕ) (rec : Record) (p : Bool) (name : List ℕ) (er : rec ≡ record_of b) (ep : p ≡ pending rec.bits)
    (en : name ≡ server_of b) where
  pub record_room : {m : ℕ} → length (record_bytes r b) ≤ m → length (user_data_bytes r rec.state p name) ≤ m
  unfolding record_bytes record_of
  record_room h = rw (ep, er, en) h

  pub wrote_record : {o xs : List ℕ} {n : ℕ} → Wrote (user_data_bytes r rec.state p name) o xs n → Wrote (record_bytes r b) o xs n
  unfolding record_bytes record_of
  wrote_record w = rw (ep, er, en) at w

-- 702, of a record or not there.
module _ (t : List ℕ) (g : Result Told Verdict) where
  module _ (count : ℕ) (among : AmongRecords count g) (a : Told) (e : g ≡ Ok a) where
    within : a.block ≤ count
    within = rw e at among

    pub block_room : SoundTable t count → 512 * a.block + 512 ≤ length t
    block_room s = sound_block t count s a.block within

    -- block 0 is no record's
    pub wrote_none : (o : List ℕ) → a.block ≡ 0 → Wrote (told_bytes t (telling_of g)) o o 0
    unfolding told_bytes over
    wrote_none o z = rw (e, z) (record { count = refl; bytes = refl })

    module _ (one : a.block ≡ 0 → ⊥) (b : List ℕ) (eb : b ≡ block_of t a.block) where
      told_is : told_bytes t (telling_of g) ≡ record_bytes a.asked b
      unfolding told_bytes
      told_is = rw (e, ne_eqb a.block 0 one, eb)

      pub told_room : {m : ℕ} → length (told_bytes t (telling_of g)) ≤ m → length (record_bytes a.asked b) ≤ m
      told_room r = rw told_is at r

      pub wrote_told : {o xs : List ℕ} {n : ℕ} → Wrote (record_bytes a.asked b) o xs n → Wrote (told_bytes t (telling_of g)) o xs n
      wrote_told w = rw told_is w

  pub wrote_untold : (v : Verdict) (o : List ℕ) → g ≡ Err v → Wrote (told_bytes t (telling_of g)) o o 0
  unfolding told_bytes over
  wrote_untold v o e = rw e (record { count = refl; bytes = refl })

-- All after the header, and the whole.
module _ (terms : Terms) (req t : List ℕ) (g : Telling) (v : Verdict) (is : v ≡ g.verdict) where
  pub wrote_body : {o xs ys zs us : List ℕ} {a b c e : ℕ} → Wrote (front_bytes terms (session_of (body_of req)) v.result) o xs a
      → Wrote (origin_bytes (block_of t 0)) (lent a xs) ys b → Wrote (told_bytes t g) (lent (a + b) (back a xs ys)) zs c
      → Wrote (end_bytes req v) (lent (a + b + c) (back (a + b) (back a xs ys) zs)) us e
      → Wrote (sh_body terms req t g) o (back (a + b + c) (back (a + b) (back a xs ys) zs) us) (a + b + c + e)
  unfolding sh_body
  wrote_body p q u w = named (simp (append_assoc, is)) refl (then (then (then p q) u) w)

  -- its length is the room that it takes
  pub answer_bounded : {o ys : List ℕ} {r : ℕ} → 20 + body_room terms req t g ≤ 36864 → Wrote (sh_body terms req t g) o ys r → 20 + r ≤ 36864
  unfolding sh_body end_bytes
  answer_bounded h p = omega (arith, simp length-append at p.count)

  pub wrote_answer : {o ys zs : List ℕ} {r : ℕ} → 36864 ≤ length o → Wrote (sh_body terms req t g) (lent 20 o) ys r
      → Wrote (header_bytes req v.result (20 + r)) (back 20 o ys) zs 20 → Wrote (sh_answer terms req t g) o zs (20 + r)
  unfolding sh_answer
  wrote_answer room p q = named (rw (p.count, is)) refl (then_front (omega arith) p q)

-- What is said of it.
pub replies : (d : Dialect) (req t : List ℕ) (count : ℕ) (g : Result Told Verdict) {v : Verdict} {o xs : List ℕ} {n : ℕ} → Tells d req t count g
    → v ≡ (telling_of g).verdict → Wrote (sh_answer d.terms req t (telling_of g)) o xs n
    → Replies d req t count o xs (record { length = n; place = v.place })
replies d req t count g h e w = record { answers = rw h.telling_is at w; place_is = rw (e, h.telling_is) }
