-- A row of calls, the vector file carried along: "No vector is ever sent twice by this file's record."
use Rattle.std.specs.Prelude.{ℕ, List, [], ◌∷◌, ◌++◌, false, ◌≡◌}
use Rattle.blocks.specs.Changed.{is_one}
use Rattle.reading.specs.declared.Terms.{Terms}
use Rattle.calling.specs.Lent.{Lent, lent, table_only}
use Rattle.calling.specs.Serve.{serve}
use Rattle.vectors_sent.specs.Sent.{sent_by}

-- what is lent to a call besides the vector file, and its terms. Any area may be: the one that the call before left, or another that the daemon has put in
-- its place
pub record Turn : Type 0 where
  pub request : List ℕ
  pub table : List ℕ
  pub profile : List ℕ
  pub buffer : List ℕ
  pub terms : Terms

-- the call over a vector file
abbrev pub lending : List ℕ → Turn → Lent
lending v c = lent c.request c.table c.profile v c.buffer c.terms

-- the file after a row of calls, each over what the one before left of it
unfoldable pub left_by : List ℕ → List Turn → List ℕ
left_by v [] = v
left_by v (c ∷ cs) = left_by (serve (lending v c)).vectors cs

-- the numbers of all the blocks that they send
unfoldable pub sent_over : List ℕ → List Turn → List ℕ
sent_over v [] = []
sent_over v (c ∷ cs) = sent_by (table_only (lending v c)) ++ sent_over (serve (lending v c)).vectors cs

-- no number is there twice
abbrev pub Once : List ℕ → Type 0
Once [] = Unit
Once (k ∷ ks) = (is_one ks k ≡ false) × Once ks
