-- Big-endian numbers of 16 to 64 bits at a place of a list of bytes.
use Rattle.std.specs.Prelude.{ℕ, ◌+◌, ◌*◌, ◌/◌, ◌%◌, List, slice_index, slice_set}

-- the number that two, three, four and eight bytes make, the first the highest
abbrev pub two : ℕ → ℕ → ℕ
two a b = a * 256 + b

abbrev pub three : ℕ → ℕ → ℕ → ℕ
three a b c = a * 65536 + b * 256 + c

abbrev pub four : ℕ → ℕ → ℕ → ℕ → ℕ
four a b c d = a * 16777216 + b * 65536 + c * 256 + d

abbrev pub eight : ℕ → ℕ → ℕ → ℕ → ℕ → ℕ → ℕ → ℕ → ℕ
eight a b c d e f g h = four a b c d * 4294967296 + four e f g h

unfoldable pub be16_at : List ℕ → ℕ → ℕ
be16_at s at = two (slice_index s at) (slice_index s (at + 1))

unfoldable pub be24_at : List ℕ → ℕ → ℕ
be24_at s at = three (slice_index s at) (slice_index s (at + 1)) (slice_index s (at + 2))

unfoldable pub be32_at : List ℕ → ℕ → ℕ
be32_at s at = four (slice_index s at) (slice_index s (at + 1)) (slice_index s (at + 2)) (slice_index s (at + 3))

unfoldable pub be64_at : List ℕ → ℕ → ℕ
be64_at s at =
    eight (slice_index s at) (slice_index s (at + 1)) (slice_index s (at + 2)) (slice_index s (at + 3)) (slice_index s (at + 4)) (slice_index s (at + 5)) (slice_index s (at + 6))
    (slice_index s (at + 7))

-- the word at a place with its first byte the lowest, and eight bytes likewise
unfoldable pub le32_at : List ℕ → ℕ → ℕ
le32_at s at = four (slice_index s (at + 3)) (slice_index s (at + 2)) (slice_index s (at + 1)) (slice_index s at)

unfoldable pub le64_at : List ℕ → ℕ → ℕ
le64_at s at =
    eight (slice_index s (at + 7)) (slice_index s (at + 6)) (slice_index s (at + 5)) (slice_index s (at + 4)) (slice_index s (at + 3)) (slice_index s (at + 2)) (slice_index s (at + 1))
    (slice_index s at)

-- a number stored at a place
unfoldable pub put_be24 : List ℕ → ℕ → ℕ → List ℕ
put_be24 s at n = slice_set (slice_set (slice_set s at (n / 65536 % 256)) (at + 1) (n / 256 % 256)) (at + 2) (n % 256)

unfoldable pub put_be32 : List ℕ → ℕ → ℕ → List ℕ
put_be32 s at n = slice_set (slice_set (slice_set (slice_set s at (n / 16777216 % 256)) (at + 1) (n / 65536 % 256)) (at + 2) (n / 256 % 256)) (at + 3) (n % 256)

-- a length made up to a multiple of 4
abbrev pub in_fours : ℕ → ℕ
in_fours n = (n + 3) / 4 * 4
