-- What a change of a record keeps.
use Rattle.std.specs.Prelude.{ℕ, ◌/◌, ◌<◌, Bool, true, false, ◌&&◌, ◌||◌, ◌≡◌, List, eqb, leb, ltb, length, get_or}
use Rattle.record.specs.Fields.{bits_of}
use Rattle.record.specs.RecordBlock.{sound_record}
use Rattle.record.specs.Sets.{agreeing}
use Rattle.record.specs.declared.header.Header.{Header}

-- the bytes of a record that an effect may write: state, bits, the server name with its length, the check word
abbrev pub alterable : ℕ → Bool
alterable i = eqb i 8 || eqb i 9 || eqb i 15 || leb 272 i && ltb i 368 || leb 508 i

-- what a record's new block c keeps of the old one: its length, every byte that no effect may write, the bits above pending, and its soundness
pub record Kept (b c : List ℕ) : Type 0 where
  pub size : length c ≡ length b
  pub others : (i : ℕ) → i < 512 → alterable i ≡ false → get_or c i 0 ≡ get_or b i 0
  pub bits : bits_of c / 2 ≡ bits_of b / 2
  pub sound : (k : ℕ) (h : Header) (file : ℕ) → sound_record b k h file ≡ true → sound_record c k h file ≡ true

-- what a change keeps of every block, and of two that agree; done twice it is done once
pub record Keeps (change : List ℕ → List ℕ) : Type 0 where
  pub each : (b : List ℕ) → length b ≡ 512 → Kept b (change b)
  pub agree : (a b : List ℕ) → length a ≡ 512 → length b ≡ 512 → agreeing a b ≡ true → agreeing (change a) (change b) ≡ true
  pub twice : (b : List ℕ) → length b ≡ 512 → change (change b) ≡ change b
