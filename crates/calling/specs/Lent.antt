-- What is lent to one call: "one Diameter request, the subscriber table, a profile file (read only) and an answer buffer, all lent", and the vectors in
-- "a third lent file"; and the terms of the call. The table is lent in its working area, which "may be longer than the table" (02 [8]).
use Rattle.std.specs.Prelude.{ℕ, List, ◌++◌, length, drop}
use Rattle.table.specs.Area.{table_in}
use Rattle.reading.specs.declared.Dialect.{Dialect}
use Rattle.reading.specs.declared.Terms.{Terms}
use Rattle.requests.specs.Request.{dialect_of}

pub record Lent : Type 0 where
  pub request : List ℕ
  pub table : List ℕ
  pub profile : List ℕ
  pub vectors : List ℕ
  pub buffer : List ℕ
  pub terms : Terms

abbrev pub lent : List ℕ → List ℕ → List ℕ → List ℕ → List ℕ → Terms → Lent
lent request table profile vectors buffer terms =
    record { request = request; table = table; profile = profile; vectors = vectors; buffer = buffer; terms = terms }

-- the same with another request
abbrev pub asking : Lent → List ℕ → Lent
asking x request =
    record { request = request; table = x.table; profile = x.profile; vectors = x.vectors; buffer = x.buffer; terms = x.terms }

-- the same with another table, or with another area that a table is lent in
abbrev pub holding : Lent → List ℕ → Lent
holding x table = record { request = x.request; table = table; profile = x.profile; vectors = x.vectors; buffer = x.buffer; terms = x.terms }

-- the same without what stands behind the table in its area
abbrev pub table_only : Lent → Lent
table_only x = holding x (table_in x.table)

-- a table put back at the front of its area, before what was behind it
abbrev pub put_back : List ℕ → List ℕ → List ℕ
put_back area table = table ++ drop (length (table_in area)) area

-- the dialect in which its request is read
abbrev pub dialect_in : Lent → Dialect
dialect_in x = dialect_of x.terms x.request
