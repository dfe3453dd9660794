-- The choice of vectors, one vector after the other.
use Rattle.std.specs.Prelude.{ℕ, cond, List, leb}
use Rattle.vectors.specs.Chosen.{unused_at}
use Rattle.vectors.specs.Sendable.{sent_also}
use Rattle.vectors.specs.declared.choice.Sent.{Sent}

-- vector k joins those that are sent, if there are not enough and it is an unused one of the name's
unfoldable pub with_next : List ℕ → List ℕ → ℕ → Sent → ℕ → Sent
with_next v name most s k = cond (leb most s.count) s (cond (unused_at v name k) (sent_also s k) s)
