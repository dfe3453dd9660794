-- 02 [14]: "Export a sound edition 2 table as comma-separated lines in the manner of RFC 4180: a header line, then all fields of each record in table order".
use Rattle.std.specs.Prelude.{ℕ, zero, suc, Bool, ◌&&◌, List, [], ◌∷◌, ◌++◌, Result}
use Rattle.record.specs.Fields.{count_of, public_of, private_of, server_of}
use Rattle.blocks.specs.Blocks.{block_of, first_bad}
use Rattle.quoting.specs.Quoted.{listable}
use Rattle.rows.specs.Row.{row_of, line_of}

-- "public,private,server,state,pending,barred,services,roaming,mandatory,m1,m2,m3,m4,optional,o1,o2,o3,o4,start,length,set" and CR LF
unfoldable pub first_line : List ℕ
first_line =
    112 ∷ 117 ∷ 98 ∷ 108 ∷ 105 ∷ 99 ∷ 44 ∷ 112 ∷ 114 ∷ 105 ∷ 118 ∷ 97 ∷ 116 ∷ 101 ∷ 44 ∷ 115 ∷ 101 ∷ 114 ∷ 118 ∷ 101 ∷ 114 ∷ 44 ∷ 115 ∷ 116 ∷ 97 ∷
    116 ∷ 101 ∷ 44 ∷ 112 ∷ 101 ∷ 110 ∷ 100 ∷ 105 ∷ 110 ∷ 103 ∷ 44 ∷ 98 ∷ 97 ∷ 114 ∷ 114 ∷ 101 ∷ 100 ∷ 44 ∷ 115 ∷ 101 ∷ 114 ∷ 118 ∷ 105 ∷ 99 ∷ 101 ∷
    115 ∷ 44 ∷ 114 ∷ 111 ∷ 97 ∷ 109 ∷ 105 ∷ 110 ∷ 103 ∷ 44 ∷ 109 ∷ 97 ∷ 110 ∷ 100 ∷ 97 ∷ 116 ∷ 111 ∷ 114 ∷ 121 ∷ 44 ∷ 109 ∷ 49 ∷ 44 ∷ 109 ∷ 50 ∷ 44 ∷
    109 ∷ 51 ∷ 44 ∷ 109 ∷ 52 ∷ 44 ∷ 111 ∷ 112 ∷ 116 ∷ 105 ∷ 111 ∷ 110 ∷ 97 ∷ 108 ∷ 44 ∷ 111 ∷ 49 ∷ 44 ∷ 111 ∷ 50 ∷ 44 ∷ 111 ∷ 51 ∷ 44 ∷ 111 ∷ 52 ∷
    44 ∷ 115 ∷ 116 ∷ 97 ∷ 114 ∷ 116 ∷ 44 ∷ 108 ∷ 101 ∷ 110 ∷ 103 ∷ 116 ∷ 104 ∷ 44 ∷ 115 ∷ 101 ∷ 116 ∷ 13 ∷ 10 ∷ []

-- the lines of the first n records
unfoldable pub lines_of : List ℕ → ℕ → List ℕ
lines_of t zero = []
lines_of t (suc n) = lines_of t n ++ line_of (row_of (block_of t (suc n)))

-- the list of a table
unfoldable pub list_of : List ℕ → List ℕ
list_of t = first_line ++ lines_of t (count_of (block_of t 0))

-- the three names of record k can be listed
unfoldable pub listable_at : List ℕ → ℕ → Bool
listable_at t k = listable (public_of (block_of t k)) && listable (private_of (block_of t k)) && listable (server_of (block_of t k))

-- the first record with a name that cannot be listed, and the count where there is none
unfoldable pub first_unlisted : List ℕ → ℕ → Result ℕ ℕ
first_unlisted t count = first_bad (listable_at t) count count 1
