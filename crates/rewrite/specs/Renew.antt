-- A record block written anew. "A rewritten record gets a new check word."
use Rattle.std.specs.Prelude.{ℕ, cond, not, ◌||◌, List, length, set, eqb}
use Rattle.octets.specs.Name.{same}
use Rattle.octets.specs.Run.{put_name}
use Rattle.blocks.specs.Sealed.{sealed}
use Rattle.record.specs.Fields.{state_of, bits_of, server_of, cleared, pending_set}

-- a record block with another state, other bits and another server name, all 96 bytes of its field
unfoldable pub renewed : List ℕ → ℕ → ℕ → List ℕ → List ℕ
renewed b state bits name = sealed (put_name (set (set (set b 8 state) 9 bits) 15 (length name)) 272 name 96)

-- "Effects, pending cleared": another state and another server name, as a change of a record's block
unfoldable pub settled : ℕ → List ℕ → List ℕ → List ℕ
settled state name b = renewed b state (cleared (bits_of b)) name

-- "The Server-Name is stored if different; pending is set if state is 0 or the name changed." The state stays
unfoldable pub challenged : List ℕ → List ℕ → List ℕ
challenged name b = cond (eqb (state_of b) 0 || not (same (server_of b) name)) (renewed b (state_of b) (pending_set (bits_of b)) name) b
