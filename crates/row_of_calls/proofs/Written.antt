-- The word of a call as bytes: the number and the place in its first four, the value in its last four.
use Rattle.octets.specs.Standard.{ℕ, ◌+◌, ◌*◌, ◌/◌, ◌%◌, ◌≤◌, ◌<◌, List, [], ◌∷◌, ◌≡◌, arith, length}
use Rattle.std.specs.Prelude.{Result, Ok, Err}
use Rattle.refusals.specs.declared.Refusal.{Refusal}
use Rattle.refusals.specs.Numbers.{number_of, value_of}
use Rattle.octets.specs.Number.{put_be32}
use Rattle.octets.specs.Run.{Wrote}
use Rattle.octets.proofs.Writes.{over_sets}
use Rattle.counting.specs.Words.{long_bytes}
use Rattle.deciding.specs.declared.Told.{Told}
use Rattle.calling.specs.Leaves.{call_of}
use Rattle.row_of_calls.specs.Word.{word, call_word}

-- a byte of the lower half
low : (h v : ℕ) → (h * 256 + v) % 256 ≡ v % 256
low h v = omega arith

module _ (h v : ℕ) (small : v < 4294967296) where
  abbrev w : ℕ
  w = h * 4294967296 + v

  upper : w / 4294967296 ≡ h
  upper = omega arith

  seventh : w / 1099511627776 ≡ h / 256
  seventh = omega arith

  sixth : w / 281474976710656 ≡ h / 65536
  sixth = omega arith

  fifth : w / 72057594037927936 ≡ h / 16777216
  fifth = omega arith

  fourth : w / 16777216 % 256 ≡ v / 16777216 % 256
  fourth = let q : w / 16777216 ≡ h * 256 + v / 16777216 = omega arith in rw q (low h (v / 16777216))

  third : w / 65536 % 256 ≡ v / 65536 % 256
  third = let q : w / 65536 ≡ h * 256 * 256 + v / 65536 = omega arith in rw q (low (h * 256) (v / 65536))

  second : w / 256 % 256 ≡ v / 256 % 256
  second = let q : w / 256 ≡ h * 65536 * 256 + v / 256 = omega arith in rw q (low (h * 65536) (v / 256))

  first : w % 256 ≡ v % 256
  first = omega arith

  halves : long_bytes w
      ≡ (h / 16777216 % 256) ∷ (h / 65536 % 256) ∷ (h / 256 % 256) ∷ (h % 256)
      ∷ (v / 16777216 % 256) ∷ (v / 65536 % 256) ∷ (v / 256 % 256) ∷ (v % 256) ∷ []
  unfolding long_bytes
  halves = rw (upper, seventh, sixth, fifth, fourth, third, second, first)

  halves_written : (out : List ℕ) → 8 ≤ length out → Wrote (long_bytes w) out (put_be32 (put_be32 out 0 h) 4 v) 8
  unfolding put_be32
  halves_written out room = record { count = rw halves; bytes = rw halves (over_sets _ out room) }

pub word_written : (number place value : ℕ) (out : List ℕ) {a b : List ℕ} → value < 4294967296 → 8 ≤ length out
    → a ≡ put_be32 out 0 (number * 65536 + place) → b ≡ put_be32 a 4 value → Wrote (long_bytes (word number place value)) out b 8
word_written number place value out small room e f =
    let q : word number place value ≡ (number * 65536 + place) * 4294967296 + value = omega arith in
    rw (q, f, e) (halves_written (number * 65536 + place) value small out room)

-- by what a call came to
module _ (c : Result Told Refusal) {out out' : List ℕ} where
  pub answer_written : (told : Told) → c ≡ Ok told → Wrote (long_bytes (word 0 told.place told.length)) out out' 8
      → Wrote (long_bytes (call_word (call_of c))) out out' 8
  answer_written told e w = rw e w

  pub refusal_written : (r : Refusal) {number besides : ℕ} → c ≡ Err r → number ≡ number_of r → besides ≡ value_of r
      → Wrote (long_bytes (word number 0 besides)) out out' 8 → Wrote (long_bytes (call_word (call_of c))) out out' 8
  refusal_written r e f g w = rw (e, ← f, ← g) w
