-- How code reads a line: where its names stand and how long they are, then its numbers; and the row that it takes out of the list.
use Rattle.std.specs.Prelude.{ℕ, ◌+◌, ◌≤◌, List, [], ◌≡◌, length, get_or, drop, Option as Returned, None, Some}
use Rattle.std.proofs.Math.Option.{Option, none, some}
use Rattle.decimals.specs.Decimal.{digit_count}
use Rattle.decimals.specs.declared.Number.{Number}
use Rattle.quoting.specs.Quoted.{quoted_size, name_in, taken}
use Rattle.quoting.specs.declared.Name.{Name}
use Rattle.rows.specs.Row.{Row, numbers_line, line_of}
use Rattle.rows.specs.RowIn.{and_then, name_after, second_at, third_at, numbers_at}
use Rattle.rows.specs.Block.{block_from}
use Rattle.parsing.specs.declared.Names.{Names}
use Rattle.parsing.specs.declared.Values.{Values}

-- what code returns where there may be nothing
abbrev pub given : {A B : Type 0} → (A → B) → Option A → Returned B
given f none = None
given f (some a) = Some (f a)

-- a name and a number as code has them, and behind a comma
abbrev pub name_here : List ℕ → Name
name_here name = record { size = quoted_size name; length = length name }

abbrev pub number_here : ℕ → Number
number_here v = record { size = digit_count v; value = v }

abbrev pub name_behind : List ℕ → Name
name_behind name = record { size = 1 + quoted_size name; length = length name }

abbrev pub number_behind : ℕ → Number
number_behind v = record { size = 1 + digit_count v; value = v }

-- the names of a line, with no numbers yet
unfoldable pub names_in : List ℕ → Option Row
names_in s =
    and_then (name_in 128 s) (λ (a : List ℕ).
    and_then (name_after 128 (drop (second_at a) s)) (λ (b : List ℕ).
    and_then (name_after 96 (drop (third_at a b) s)) (λ (c : List ℕ).
    some (record { public = a; private = b; server = c; numbers = [] }))))

-- how long each is, and where the next field begins
abbrev pub as_names : Row → Names
as_names r =
    record {
      public = length r.public;
      private = length r.private;
      server = length r.server;
      second = second_at r.public;
      third = third_at r.public r.private;
      numbers = numbers_at r.public r.private r.server;
    }

-- the numbers of a line that begin at a place, and where the line ends
abbrev pub as_numbers : ℕ → List ℕ → Values
as_numbers at ns = record { numbers = ns; end = at + length (numbers_line ns) }

abbrev pub row_length : Row → ℕ
row_length r = length (line_of r)

-- each of the numbers that become bytes fits one
pub record Sized (ns : List ℕ) : Type 0 where
  pub count : length ns ≡ 18
  pub state : get_or ns 0 0 ≤ 255
  pub pending : get_or ns 1 0 ≤ 1
  pub barred : get_or ns 2 0 ≤ 1
  pub services : get_or ns 3 0 ≤ 1
  pub roaming : get_or ns 4 0 ≤ 255
  pub mandatory : get_or ns 5 0 ≤ 255
  pub optional : get_or ns 10 0 ≤ 255

-- the names fit their fields, and stand not far from the front
pub record Fitted (n : Names) : Type 0 where
  pub public : n.public ≤ 128
  pub private : n.private ≤ 128
  pub server : n.server ≤ 96
  pub second : n.second ≤ 258
  pub third : n.third ≤ 517

-- the row of names that stand in a list and of numbers: each name begins behind its quote
abbrev pub row_taken : List ℕ → Names → List ℕ → Row
row_taken s n ns =
    record {
      public = taken n.public (drop 1 s);
      private = taken n.private (drop (n.second + 2) s);
      server = taken n.server (drop (n.third + 2) s);
      numbers = ns;
    }

-- a block over which the block of a line is written, if there is a line
abbrev pub block_over : ℕ → ℕ → Option Row → List ℕ → List ℕ
block_over issue k none b = b
block_over issue k (some r) b = block_from issue k r
