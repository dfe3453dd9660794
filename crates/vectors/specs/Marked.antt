-- "are marked used": byte 1, and a new check word
use Rattle.std.specs.Prelude.{ℕ, ◌/◌, List, length, set}
use Rattle.blocks.specs.Sealed.{sealed}
use Rattle.blocks.specs.Changed.{changed_all, is_one}

unfoldable pub marked_used : List ℕ → List ℕ
marked_used b = sealed (set b 1 1)

-- the vector file with these blocks marked, and every other as it was
unfoldable pub spent : List ℕ → List ℕ → List ℕ
spent v ks = changed_all v (length v / 512) (is_one ks) marked_used
