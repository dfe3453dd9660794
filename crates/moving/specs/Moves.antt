-- 02 [5]: "the move from edition 1 to 2, given an issue number, and the move back, in place"
use Rattle.std.specs.Prelude.{ℕ, suc, Bool, true, List, eqb, set, Result}
use Rattle.octets.specs.Number.{put_be32}
use Rattle.record.specs.Fields.{set_of}
use Rattle.blocks.specs.Blocks.{block_of}
use Rattle.blocks.specs.Blocks.{first_bad}
use Rattle.blocks.specs.Sealed.{sealed}
use Rattle.blocks.specs.Changed.{changed_all}

-- a block of another edition and issue number, with a new check word
unfoldable pub moved : ℕ → ℕ → List ℕ → List ℕ
moved edition issue b = sealed (put_be32 (set b 1 edition) 408 issue)

-- every block of a table of so many records, the header too
unfoldable pub moved_all : List ℕ → ℕ → ℕ → ℕ → List ℕ
moved_all t count edition issue = changed_all t (suc count) (λ (k : ℕ). true) (moved edition issue)

-- the record has no set: "0 for none"
unfoldable pub no_set : List ℕ → ℕ → Bool
no_set t k = eqb (set_of (block_of t k)) 0

-- "8, move back while some set number is not 0, with the first such block"
unfoldable pub first_set : List ℕ → ℕ → Result ℕ ℕ
first_set t count = first_bad (no_set t) count count 1
