-- "that name's first unused vectors in file order, as many as asked or as remain, at most 16"
use Rattle.std.specs.Prelude.{ℕ, zero, suc, ◌-◌, ◌/◌, Bool, cond, ◌&&◌, List, [], ◌∷◌, ◌++◌, length, take, replicate, eqb}
use Rattle.octets.specs.Name.{same}
use Rattle.blocks.specs.Blocks.{block_of}
use Rattle.vectors.specs.VectorBlock.{vector_of, card_of}
use Rattle.vectors.specs.declared.choice.Sent.{Sent}

-- at most so many of the n numbers from k on that a test holds of, the first ones
unfoldable pub first_ones : (ℕ → Bool) → ℕ → ℕ → ℕ → List ℕ
first_ones p zero k most = []
first_ones p (suc n) k zero = []
first_ones p (suc n) k (suc most) = cond (p k) (k ∷ first_ones p n (suc k) most) (first_ones p n (suc k) (suc most))

unfoldable pub unused_here : List ℕ → List ℕ → Bool
unused_here b name = eqb (vector_of b).used 0 && same (card_of b) name

unfoldable pub unused_at : List ℕ → List ℕ → ℕ → Bool
unused_at v name k = unused_here (block_of v k) name

-- the first unused vectors of a name, at most so many: the numbers of their blocks
unfoldable pub unused_of : List ℕ → List ℕ → ℕ → List ℕ
unused_of v name most = first_ones (unused_at v name) (length v / 512) 0 most

-- no block; at most 16 block numbers in an array, zeros behind them; and back
abbrev pub none_sent : Sent
none_sent = record { blocks = replicate 16 0; count = 0 }

unfoldable pub packed : List ℕ → Sent
packed ks = record { blocks = ks ++ replicate (16 - length ks) 0; count = length ks }

abbrev pub sent_of : Sent → List ℕ
sent_of s = take s.count s.blocks
