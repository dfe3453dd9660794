-- What is lent to one call of the Sh server: a request, the table in its working area and a profile file, all three only read, an answer buffer; and the
-- edition of the base standard that the peer follows.
use Rattle.std.specs.Prelude.{ℕ, List}
use Rattle.reading.specs.declared.Dialect.{Dialect}
use Rattle.reading.specs.declared.Terms.{Terms}
use Rattle.requests.specs.Request.{dialect_of, under_sh}

pub record Lent : Type 0 where
  pub request : List ℕ
  pub table : List ℕ
  pub profile : List ℕ
  pub buffer : List ℕ
  pub peer : ℕ

abbrev pub lent : List ℕ → List ℕ → List ℕ → List ℕ → ℕ → Lent
lent request table profile buffer peer = record { request = request; table = table; profile = profile; buffer = buffer; peer = peer }

-- the terms of the call, and the dialect in which its request is read
abbrev pub terms_in : Lent → Terms
terms_in x = under_sh x.peer

abbrev pub dialect_in : Lent → Dialect
dialect_in x = dialect_of (terms_in x) x.request
