-- A block of a table, lent and come back: the table is split before it, and its bytes are the first of what is behind.
use Rattle.octets.specs.Standard.{ℕ, ◌*◌, ◌≡◌, List, ◌++◌, take, drop, drop-drop}
use Rattle.blocks.specs.Blocks.{block_of}
use Rattle.blocks.specs.Changed.{changed_in}

pub block_back : (change : List ℕ → List ℕ) (t : List ℕ) (k : ℕ) {a b x y : List ℕ} → a ≡ take (512 * k) t → b ≡ drop (512 * k) t → x ≡ take 512 b
    → y ≡ change x → a ++ (y ++ drop 512 b) ≡ changed_in t k change
unfolding changed_in block_of
block_back change t k p q r e = rw (e, r, p, q, drop-drop)

pub block_lent : (t : List ℕ) (k : ℕ) {b x : List ℕ} → b ≡ drop (512 * k) t → x ≡ take 512 b → x ≡ block_of t k
unfolding block_of
block_lent t k q r = rw (r, q)
