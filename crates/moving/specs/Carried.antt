-- What a move keeps of a block.
use Rattle.std.specs.Prelude.{ℕ, ◌<◌, Bool, false, ◌||◌, ◌&&◌, ◌≡◌, List, eqb, leb, ltb, length, get_or}
use Rattle.record.specs.declared.header.Header.{Header}
use Rattle.record.specs.declared.subscriber.Record.{Record}

-- the bytes of a block that a move may write: the edition, the issue number, the check word
abbrev pub movable : ℕ → Bool
movable i = eqb i 1 || leb 408 i && ltb i 412 || leb 508 i

-- what a moved block c keeps of the old one: its length, and every byte that a move may not write
pub record Carried (b c : List ℕ) : Type 0 where
  pub size : length c ≡ length b
  pub bytes : (i : ℕ) → i < 512 → movable i ≡ false → get_or c i 0 ≡ get_or b i 0

-- the numbers of a record and of a header with another edition and issue number
abbrev pub record_with : Record → ℕ → ℕ → Record
record_with r edition issue =
    record {
      kind = r.kind;
      edition = edition;
      number = r.number;
      state = r.state;
      bits = r.bits;
      roaming = r.roaming;
      mandatory = r.mandatory;
      optional = r.optional;
      public = r.public;
      private = r.private;
      server = r.server;
      start = r.start;
      size = r.size;
      set = r.set;
      issue = issue;
    }

abbrev pub header_with : Header → ℕ → ℕ → Header
header_with h edition issue =
    record {
      kind = h.kind;
      edition = edition;
      number = h.number;
      count = h.count;
      keep = h.keep;
      host = h.host;
      realm = h.realm;
      networks = h.networks;
      issue = issue;
    }
