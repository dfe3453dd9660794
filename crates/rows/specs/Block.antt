-- The record block that a row says, with a block number and an issue number: of edition 2, sealed.
use Rattle.std.specs.Prelude.{ℕ, ◌+◌, ◌-◌, ◌*◌, ◌/◌, ◌%◌, List, [], ◌∷◌, ◌++◌, length, get_or, take, drop, replicate}
use Rattle.std.proofs.Math.Option.{Option, none, some}
use Rattle.blocks.specs.Sealed.{sealed}
use Rattle.rows.specs.Row.{Row}

-- a name in its field, and zeros past it
unfoldable pub padded : ℕ → List ℕ → List ℕ
padded n name = name ++ replicate (n - length name) 0

-- numbers of 16 and of 32 bits in bytes
abbrev pub half_bytes : ℕ → List ℕ
half_bytes n = n / 256 % 256 ∷ n % 256 ∷ []

abbrev pub word_bytes : ℕ → List ℕ
word_bytes n = n / 16777216 % 256 ∷ n / 65536 % 256 ∷ n / 256 % 256 ∷ n % 256 ∷ []

unfoldable pub words_bytes : List ℕ → List ℕ
words_bytes [] = []
words_bytes (n ∷ ns) = word_bytes n ++ words_bytes ns

-- "0 kind 2; 1 edition ..; 4-7 block number; 8 state; 9 bits ..; 10 roaming; 11, 12 counts ..; 13, 14, 15 lengths ..", of the numbers of a row
abbrev pub front_bytes : ℕ → List ℕ → ℕ → ℕ → ℕ → List ℕ
front_bytes k ns p q r =
    2 ∷ 2 ∷ 0 ∷ 0 ∷ k / 16777216 % 256 ∷ k / 65536 % 256 ∷ k / 256 % 256 ∷ k % 256 ∷ get_or ns 0 0 ∷ (get_or ns 1 0 + 2 * get_or ns 2 0 + 4 * get_or ns 3 0)
    ∷ get_or ns 4 0 ∷ get_or ns 5 0 ∷ get_or ns 10 0 ∷ p ∷ q ∷ r ∷ []

-- "16-143, 144-271, 272-367 these names"
unfoldable pub names_bytes : List ℕ → List ℕ → List ℕ → List ℕ
names_bytes a b c = padded 128 a ++ (padded 128 b ++ padded 96 c)

-- "368-383, 384-399 capabilities ..; 400-403 and 404-405 profile start and length"; 406-407 the set
unfoldable pub rest_bytes : List ℕ → List ℕ
rest_bytes ns = words_bytes (take 4 (drop 6 ns)) ++ (words_bytes (take 5 (drop 11 ns)) ++ (half_bytes (get_or ns 16 0) ++ half_bytes (get_or ns 17 0)))

-- then the issue, 408-411, and zeros
unfoldable pub unsealed : ℕ → ℕ → Row → List ℕ
unsealed issue k r =
    front_bytes k r.numbers (length r.public) (length r.private) (length r.server)
    ++ (names_bytes r.public r.private r.server ++ (rest_bytes r.numbers ++ (word_bytes issue ++ replicate 100 0)))

unfoldable pub block_from : ℕ → ℕ → Row → List ℕ
block_from issue k r = sealed (unsealed issue k r)

-- where no line of a list stands, a block of zeros is said, which is no record
abbrev pub block_said : ℕ → ℕ → Option Row → List ℕ
block_said issue k none = replicate 512 0
block_said issue k (some r) = block_from issue k r
