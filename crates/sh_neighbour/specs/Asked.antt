-- 02 [9] for the Sh server: what two calls must have in common for the same answer.
use Rattle.std.specs.Prelude.{ℕ, List, ◌≡◌}
use Rattle.record.specs.Fields.{public_of}
use Rattle.blocks.specs.Blocks.{block_of}
use Rattle.table.specs.Area.{table_in}
use Rattle.reading.specs.Rules.{Seen}
use Rattle.requests.specs.Judged.{fine}
use Rattle.requests.specs.Request.{read_sh, identity_of}
use Rattle.seen_alike.specs.Shown.{Each}
use Rattle.neighbour.specs.Seen.{header_apart, SameApart, SameLine, records, having}
use Rattle.ndushavire_sh.specs.Lent.{Lent, dialect_in}

-- the records of the table that is lent with a name as their public identity
abbrev pub lines_of : Lent → ℕ → List ℕ → List (List ℕ)
lines_of x count name = having public_of name (records (table_in x.table) count)

-- the same request by a peer of the same edition, over tables with equal headers, which hold the same records for the public identity that it asks about
pub record SameAsked (x y : Lent) (count many : ℕ) : Type 0 where
  pub request : x.request ≡ y.request
  pub peer : x.peer ≡ y.peer
  pub header : SameApart header_apart (block_of (table_in x.table) 0) (block_of (table_in y.table) 0)
  pub lines : (seen : Seen) → read_sh (dialect_in x) x.request ≡ fine seen
      → Each (SameLine x.profile y.profile) (lines_of x count (identity_of seen)) (lines_of y many (identity_of seen))
