-- Small tables and areas of which the examples are made.
use Rattle.octets.specs.Standard.{ℕ, List, [], ◌∷◌, ◌++◌, take, length, replicate, set, sets}
use Rattle.octets.specs.All.{all_below}
use Rattle.octets.specs.Name.{order_of}
use Rattle.octets.specs.Number.{be16_at, be32_at, put_be32}
use Rattle.octets.specs.Run.{zeros, zero_between, over}
use Rattle.octets.specs.Sum.{sum_words}
use Rattle.record.specs.Fields.{public_of, server_of}
use Rattle.record.specs.HeaderBlock.{header_of, sound_header}
use Rattle.record.specs.Networks.{used_place, sound_place, same_byte, other_place, new_place, sound_networks}
use Rattle.record.specs.RecordBlock.{record_of, sound_record}
use Rattle.record.specs.Sets.{same_set}
use Rattle.blocks.specs.Blocks.{block_of, table_of, first_bad}
use Rattle.blocks.specs.Changed.{changed_in, changed_at, changed_all}
use Rattle.blocks.specs.Sealed.{negated, sealed}
use Rattle.table.specs.Area.{size_in, table_in, check_area}
use Rattle.table.specs.Check.{rises_at, stands_at, agrees_with, agrees_at, sound_at, check_records, check_table}
use Rattle.table.specs.Named.{public_at}
use Rattle.taking.specs.Found.{greater_at, greater_than_all}
use Rattle.taking.specs.TakeOver.{unfit, not_greater, too_short}
use Rattle.taking.specs.Written.{with_block, cut_after, torn_at, torn_after, zeroed_after, zeroed_where}

-- A header of so many records with host `h` and realm `r`; record k with a public identity, private identity `p`, in state 1 at `s`; both of an edition and an
-- issue number.
unfoldable pub header : ℕ → ℕ → ℕ → List ℕ
header edition issue count =
    let numbers = sets (sets (replicate 512 0) 0 (1 ∷ edition ∷ [])) 8 (0 ∷ 0 ∷ 0 ∷ count ∷ 0 ∷ 1 ∷ 1 ∷ []) in
    sealed (put_be32 (set (set numbers 16 0x68) 80 0x72) 408 issue)

unfoldable pub line : ℕ → ℕ → ℕ → List ℕ → List ℕ
line edition issue k name =
    let numbers = sets (sets (replicate 512 0) 0 (2 ∷ edition ∷ 0 ∷ 0 ∷ 0 ∷ 0 ∷ 0 ∷ k ∷ 1 ∷ [])) 13 (length name ∷ 1 ∷ 1 ∷ name) in
    sealed (put_be32 (set (set numbers 144 0x70) 272 0x73) 408 issue)

abbrev pub a : List ℕ
a = 0x61 ∷ []

abbrev pub b : List ℕ
b = 0x62 ∷ []

abbrev pub c : List ℕ
c = 0x63 ∷ []

-- tables of no record, of one, of two and of three
unfoldable pub none : ℕ → ℕ → List ℕ
none edition issue = header edition issue 0

unfoldable pub one : ℕ → List ℕ
one issue = header 2 issue 1 ++ line 2 issue 1 a

unfoldable pub two : ℕ → List ℕ
two issue = header 2 issue 2 ++ (line 2 issue 1 a ++ line 2 issue 2 b)

unfoldable pub three : ℕ → List ℕ
three issue = header 2 issue 3 ++ (line 2 issue 1 a ++ (line 2 issue 2 b ++ line 2 issue 3 c))

-- a table of edition 1 with a record
unfoldable pub first : List ℕ
first = header 1 0 1 ++ line 1 0 1 b

-- a block of some kind, of edition 0 and with no check word, that holds an issue number
unfoldable pub rubbish : ℕ → ℕ → List ℕ
rubbish kind issue = put_be32 (set (replicate 512 0) 0 kind) 408 issue

-- an old table of issue 5, then a block of kind 3 and a last piece of 511 bytes of kind 2, both with the greatest issue number
unfoldable pub behind : List ℕ
behind = rubbish 3 4294967295 ++ take 511 (rubbish 2 4294967295)

unfoldable pub roomy : List ℕ
roomy = two 5 ++ behind

-- an old table of issue 5, and past its count a block of kind 1 with the greatest issue number
unfoldable pub stuck : List ℕ
stuck = none 2 5 ++ rubbish 1 4294967295

-- all definitions that a computed case opens
unfoldable pub opened : ℕ
unfolding header line none one two three first rubbish behind roomy stuck all_below order_of be16_at be32_at put_be32 zeros zero_between over sum_words public_of
    server_of header_of sound_header used_place sound_place same_byte other_place new_place sound_networks record_of sound_record same_set block_of table_of public_at rises_at
    stands_at agrees_with agrees_at sound_at first_bad check_records check_table negated sealed size_in table_in check_area greater_at greater_than_all unfit not_greater
    too_short changed_in changed_at changed_all with_block cut_after torn_at torn_after zeroed_after zeroed_where
opened = 0
