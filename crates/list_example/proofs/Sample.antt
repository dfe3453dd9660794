-- A table of two records and its list, byte by byte.
use Rattle.octets.specs.Standard.{ℕ, List, [], ◌∷◌, ◌++◌, replicate, set, sets}
use Rattle.octets.specs.All.{all_below}
use Rattle.octets.specs.Name.{order_of, alike_at, same}
use Rattle.octets.specs.Number.{be16_at, be32_at, put_be32}
use Rattle.octets.specs.Run.{zeros, zero_between, over}
use Rattle.octets.specs.Sum.{sum_words}
use Rattle.record.specs.Fields.{public_of, private_of, server_of}
use Rattle.record.specs.HeaderBlock.{header_of, sound_header}
use Rattle.record.specs.Networks.{used_place, sound_place, same_byte, other_place, new_place, sound_networks}
use Rattle.record.specs.RecordBlock.{record_of, sound_record}
use Rattle.record.specs.Sets.{same_set, agreeing}
use Rattle.blocks.specs.Blocks.{block_of, table_of, first_bad}
use Rattle.blocks.specs.Sealed.{negated, sealed}
use Rattle.table.specs.Check.{rises_at, stands_at, agrees_with, agrees_at, sound_at, check_records, check_table}
use Rattle.table.specs.Named.{public_at}
use Rattle.decimals.specs.Decimal.{digits_more, digit_count, digits_of, decimal, past_digits, value_of, number_in}
use Rattle.quoting.specs.Quoted.{listable, doubled, quoted, name_from, name_in}
use Rattle.rows.specs.Row.{numbers_of, row_of, numbers_line, line_of}
use Rattle.rows.specs.RowIn.{name_after, number_after, numbers_in, row_in}
use Rattle.rows.specs.Block.{padded, words_bytes, names_bytes, rest_bytes, unsealed, block_from}
use Rattle.listing.specs.ListOf.{first_line, lines_of, list_of, listable_at, first_unlisted}
use Rattle.listing.specs.Export.{writing, exported}
use Rattle.importing.specs.Above.{strings_of, above}
use Rattle.importing.specs.Said.{place_of, said_at, table_said, enough_at, holds_at, is_titled, first_wrong}
use Rattle.importing.specs.Import.{fit_header, imported}

-- a header of so many records and three networks, with host `h` and realm `r`, of an edition, with issue 5
unfoldable pub header : ℕ → ℕ → List ℕ
header edition count =
    let numbers = sets (sets (replicate 512 0) 0 (1 ∷ edition ∷ [])) 8 (0 ∷ 0 ∷ 0 ∷ count ∷ 0 ∷ 1 ∷ 1 ∷ 3 ∷ 0x68 ∷ []) in
    let networks = sets (sets (sets (set numbers 80 0x72) 144 (1 ∷ 0x6e ∷ [])) 176 (1 ∷ 0x6f ∷ [])) 208 (1 ∷ 0x70 ∷ []) in
    sealed (put_be32 networks 408 5)

-- `sip:a@isle`, `a@isle`, in state 0, with services
unfoldable pub first : List ℕ
first =
    let numbers : List ℕ = sets (replicate 512 0) 0 (2 ∷ 2 ∷ 0 ∷ 0 ∷ 0 ∷ 0 ∷ 0 ∷ 1 ∷ 0 ∷ 4 ∷ 0 ∷ 0 ∷ 0 ∷ 10 ∷ 6 ∷ 0 ∷ []) in
    sealed (put_be32 (sets (sets numbers 16 (115 ∷ 105 ∷ 112 ∷ 58 ∷ 97 ∷ 64 ∷ 105 ∷ 115 ∷ 108 ∷ 101 ∷ [])) 144 (97 ∷ 64 ∷ 105 ∷ 115 ∷ 108 ∷ 101 ∷ [])) 408 5)

-- `sip:b"@isle`, `a@isle`, in state 2 at `sip:s`, barred, roaming in networks 0 and 2, two mandatory capabilities and an optional one, in set 8
unfoldable pub second : List ℕ
second =
    let numbers : List ℕ = sets (replicate 512 0) 0 (2 ∷ 2 ∷ 0 ∷ 0 ∷ 0 ∷ 0 ∷ 0 ∷ 2 ∷ 2 ∷ 2 ∷ 5 ∷ 2 ∷ 1 ∷ 11 ∷ 6 ∷ 5 ∷ []) in
    let named =
    sets (sets (sets numbers 16 (115 ∷ 105 ∷ 112 ∷ 58 ∷ 98 ∷ 34 ∷ 64 ∷ 105 ∷ 115 ∷ 108 ∷ 101 ∷ [])) 144 (97 ∷ 64 ∷ 105 ∷ 115 ∷ 108 ∷ 101 ∷ [])) 272
    (115 ∷ 105 ∷ 112 ∷ 58 ∷ 115 ∷ []) in
    let capable = put_be32 (put_be32 (put_be32 named 368 7) 372 4294967295) 384 9 in
    sealed (put_be32 (sets capable 400 (0 ∷ 0 ∷ 0 ∷ 3 ∷ 0 ∷ 4 ∷ 0 ∷ 8 ∷ [])) 408 5)

unfoldable pub table : List ℕ
table = header 2 2 ++ (first ++ second)

-- their lines:
-- "sip:a@isle","a@isle","",0,0,0,1,0,0,0,0,0,0,0,0,0,0,0,0,0,0
-- "sip:b""@isle","a@isle","sip:s",2,0,1,0,5,2,7,4294967295,0,0,1,9,0,0,0,3,4,8
unfoldable pub line1 : List ℕ
line1 =
    34 ∷ 115 ∷ 105 ∷ 112 ∷ 58 ∷ 97 ∷ 64 ∷ 105 ∷ 115 ∷ 108 ∷ 101 ∷ 34 ∷ 44 ∷ 34 ∷ 97 ∷ 64 ∷ 105 ∷ 115 ∷ 108 ∷ 101 ∷ 34 ∷ 44 ∷ 34 ∷ 34 ∷ 44 ∷ 48 ∷ 44 ∷ 48 ∷
    44 ∷ 48 ∷ 44 ∷ 49 ∷ 44 ∷ 48 ∷ 44 ∷ 48 ∷ 44 ∷ 48 ∷ 44 ∷ 48 ∷ 44 ∷ 48 ∷ 44 ∷ 48 ∷ 44 ∷ 48 ∷ 44 ∷ 48 ∷ 44 ∷ 48 ∷ 44 ∷ 48 ∷ 44 ∷ 48 ∷ 44 ∷ 48 ∷ 44 ∷ 48 ∷
    44 ∷ 48 ∷ 13 ∷ 10 ∷ []

unfoldable pub line2 : List ℕ
line2 =
    34 ∷ 115 ∷ 105 ∷ 112 ∷ 58 ∷ 98 ∷ 34 ∷ 34 ∷ 64 ∷ 105 ∷ 115 ∷ 108 ∷ 101 ∷ 34 ∷ 44 ∷ 34 ∷ 97 ∷ 64 ∷ 105 ∷ 115 ∷ 108 ∷ 101 ∷ 34 ∷ 44 ∷ 34 ∷ 115 ∷ 105 ∷ 112 ∷
    58 ∷ 115 ∷ 34 ∷ 44 ∷ 50 ∷ 44 ∷ 48 ∷ 44 ∷ 49 ∷ 44 ∷ 48 ∷ 44 ∷ 53 ∷ 44 ∷ 50 ∷ 44 ∷ 55 ∷ 44 ∷ 52 ∷ 50 ∷ 57 ∷ 52 ∷ 57 ∷ 54 ∷ 55 ∷ 50 ∷ 57 ∷ 53 ∷ 44 ∷ 48 ∷
    44 ∷ 48 ∷ 44 ∷ 49 ∷ 44 ∷ 57 ∷ 44 ∷ 48 ∷ 44 ∷ 48 ∷ 44 ∷ 48 ∷ 44 ∷ 51 ∷ 44 ∷ 52 ∷ 44 ∷ 56 ∷ 13 ∷ 10 ∷ []

unfoldable pub list : List ℕ
list = first_line ++ (line1 ++ line2)

-- all definitions that a computed case opens
unfoldable pub opened : ℕ
unfolding header first second table line1 line2 list all_below order_of alike_at same be16_at be32_at put_be32 zeros zero_between over sum_words public_of private_of
    server_of header_of sound_header used_place sound_place same_byte other_place new_place sound_networks record_of sound_record same_set agreeing block_of table_of
    first_bad negated sealed rises_at stands_at agrees_with agrees_at sound_at check_records check_table public_at digits_more digit_count digits_of decimal past_digits
    value_of number_in listable doubled quoted name_from name_in numbers_of row_of numbers_line line_of name_after number_after numbers_in row_in padded words_bytes
    names_bytes rest_bytes unsealed block_from first_line lines_of list_of listable_at first_unlisted writing exported strings_of above place_of said_at table_said
    enough_at holds_at is_titled first_wrong fit_header imported
opened = 0
