-- "the items, each with 613 (from 1), 608, 609, 610, 625, 626": the vectors of an answer, "sent as stored".
use Rattle.std.specs.Prelude.{ℕ, zero, suc, ◌+◌, List, [], ◌++◌, get_or, ltb}
use Rattle.blocks.specs.Blocks.{block_of}
use Rattle.pen.specs.Bytes.{copied_size, vendor_bytes, vendor_number, vendor_group, if_there}
use Rattle.vectors.specs.declared.choice.Sent.{Sent}
use Rattle.vectors.specs.Scheme.{scheme}
use Rattle.vectors.specs.VectorBlock.{vector_of, rand_autn_of, xres_of, confidentiality_of, integrity_of}

-- the number in this answer, the scheme, and the challenge; XRES, confidentiality and integrity key
unfoldable pub challenge_bytes : ℕ → List ℕ → List ℕ
challenge_bytes i b = vendor_number 613 i ++ vendor_bytes 608 scheme ++ vendor_bytes 609 (rand_autn_of b)

unfoldable pub key_bytes : List ℕ → List ℕ
key_bytes b = vendor_bytes 610 (xres_of b) ++ vendor_bytes 625 (confidentiality_of b) ++ vendor_bytes 626 (integrity_of b)

unfoldable pub item_bytes : ℕ → List ℕ → List ℕ
item_bytes i b = vendor_group 612 (challenge_bytes i b ++ key_bytes b)

-- the bytes that they take up
abbrev pub key_size : List ℕ → ℕ
key_size b = 68 + copied_size (vector_of b).xres

abbrev pub item_size : List ℕ → ℕ
item_size b = 12 + (88 + key_size b)

-- the first n of the blocks, numbered from 1
unfoldable pub items_bytes : List ℕ → List ℕ → ℕ → List ℕ
items_bytes v blocks zero = []
items_bytes v blocks (suc n) = items_bytes v blocks n ++ item_bytes (suc n) (block_of v (get_or blocks n 0))

-- "the number sent, and the items"; nothing where none is sent
unfoldable pub numbered_bytes : List ℕ → Sent → List ℕ
numbered_bytes v s = vendor_number 607 s.count ++ items_bytes v s.blocks s.count

unfoldable pub sent_bytes : List ℕ → Sent → List ℕ
sent_bytes v s = if_there (ltb 0 s.count) (numbered_bytes v s)
