-- Look-ups over the whole table, each as a scan in table order.
use Rattle.std.specs.Prelude.{ℕ, zero, suc, ◌+◌, ◌*◌, Bool, true, false, ◌&&◌, not, cond, List, ltb, Option, Some, None}
use Rattle.octets.specs.Name.{same}
use Rattle.record.specs.Fields.{bits_of, private_of, server_size, barred}
use Rattle.record.specs.Sets.{same_set}
use Rattle.blocks.specs.Blocks.{block_of}
use Rattle.table.specs.Named.{public_at, private_at}

-- the first of the n numbers from k on that a test holds of
unfoldable pub first_from : (ℕ → Bool) → ℕ → ℕ → Option ℕ
first_from p zero k = None
first_from p (suc n) k = cond (p k) (Some k) (first_from p n (suc k))

abbrev pub is_at : Option ℕ → Bool
is_at (Some k) = true
is_at None = false

-- the block of a record that was found, 0 where none was
abbrev pub block_found : Option ℕ → ℕ
block_found (Some k) = k
block_found None = 0

-- the end of a found record's block
abbrev pub end_of : Option ℕ → ℕ
end_of (Some k) = 512 * k + 512
end_of None = 0

-- the record with a public identity
unfoldable pub public_is : List ℕ → List ℕ → ℕ → Bool
public_is t name k = same (public_at t k) name

unfoldable pub find_public : List ℕ → ℕ → List ℕ → Option ℕ
find_public t count name = first_from (public_is t name) count 1

-- the first record with a private identity: "A subscription is the records with one private identity."
unfoldable pub private_is : List ℕ → List ℕ → ℕ → Bool
private_is t name k = same (private_at t k) name

unfoldable pub find_private : List ℕ → ℕ → List ℕ → Option ℕ
find_private t count name = first_from (private_is t name) count 1

-- "the first server name in the subscription by table order": the first record that stores one
unfoldable pub server_here : List ℕ → List ℕ → Bool
server_here b name = ltb 0 (server_size b) && same (private_of b) name

unfoldable pub serves_at : List ℕ → List ℕ → ℕ → Bool
serves_at t name k = server_here (block_of t k) name

unfoldable pub find_server : List ℕ → ℕ → List ℕ → Option ℕ
find_server t count name = first_from (serves_at t name) count 1

-- 02 [6]: "B5003 now exactly when the identity is barred and no non-barred one shares its nonzero set": a record of the set of block b that is not barred
unfoldable pub free_here : List ℕ → List ℕ → Bool
free_here b c = same_set b c && not (barred (bits_of c))

unfoldable pub free_at : List ℕ → List ℕ → ℕ → Bool
free_at t b k = free_here b (block_of t k)

unfoldable pub find_free : List ℕ → ℕ → List ℕ → Option ℕ
find_free t count b = first_from (free_at t b) count 1

unfoldable pub barred_alone : List ℕ → ℕ → List ℕ → Bool
barred_alone t count b = barred (bits_of b) && not (is_at (find_free t count b))
