-- Authentication requests, worked through: what each is answered, and the table and the vector file afterwards.
use Rattle.std.specs.Prelude.{Result, Ok, Err}
use Rattle.octets.specs.Standard.{ℕ, zero, suc, ◌+◌, ◌≡◌, refl, ap, ◌∙◌, List, [], ◌∷◌, ◌++◌, map, Bool, true, false, length, take, replicate, set}
use Rattle.octets.specs.Run.{over}
use Rattle.blocks.specs.Blocks.{block_of}
use Rattle.table.specs.Check.{check_table}
use Rattle.blocks.specs.Sealed.{sealed}
use Rattle.vectors.specs.VectorBlock.{vector_of, sound_limits, sound_rest}
use Rattle.vectors.specs.VectorFile.{sound_piece, check_vectors}
use Rattle.vectors.specs.Chosen.{packed, sent_of}
use Rattle.vectors.specs.Scheme.{scheme}
use Rattle.pen.specs.Bytes.{vendor_head, avp_bytes, vendor_bytes, vendor_number, number_bytes}
use Rattle.pen.specs.Groups.{experimental, failed}
use Rattle.choices.specs.Given.{given_sent}
use Rattle.choices.specs.declared.Given.{Given}
use Rattle.questions.specs.Authentication.{to_send}
use Rattle.deciding.specs.Decide.{decide}
use Rattle.answering.specs.Answer.{answer_bytes}
use Rattle.requests.specs.Request.{dialect_of, under_cx}
use Rattle.calling.specs.Call.{Answered, Refused}
use Rattle.calling.specs.Lent.{Lent, lent}
use Rattle.calling.specs.Serve.{Served, serve_table}
use Rattle.worked_examples.proofs.Computed.{known, come, roomy, registered_sound}
use Rattle.worked_examples.proofs.Sample.{block, header, person, subscriber, vector, room, request, reply, assignment, digest}
use Rattle.worked_examples.proofs.Sample.{authentication_of, authentication, item, challenges, one, s, z, opened}

-- what is left where a call is answered: with the place of an AVP at fault, or with none
abbrev left_at : ℕ → List ℕ → List ℕ → List ℕ → Served
left_at place table vectors bytes =
    record { call = Answered (record { length = length bytes; place = place }); table = table; vectors = vectors; buffer = over bytes room }

abbrev pub left : List ℕ → List ℕ → List ℕ → Served
left = left_at 0

-- A MAR of `p` and `a` with the name `s` that asks for one vector, its answer, the vector and the record before and afterwards, each byte by byte: no writer
-- of the definitions made them. Of the vector only byte 1 and the check word change; of the record the bits, the name with its length, and the check word.
mar : List ℕ
mar =
    0x01 ∷ 0x00 ∷ 0x00 ∷ 0xD4 ∷ 0xC0 ∷ 0x00 ∷ 0x01 ∷ 0x2F ∷ 0x01 ∷ 0x00 ∷ 0x00 ∷ 0x00 ∷ 0x00 ∷ 0x00 ∷ 0x00 ∷ 0x01 ∷ 0x00 ∷ 0x00 ∷ 0x00 ∷ 0x02
    ∷ 0x00 ∷ 0x00 ∷ 0x01 ∷ 0x07 ∷ 0x40 ∷ 0x00 ∷ 0x00 ∷ 0x09 ∷ 0x73 ∷ 0x00 ∷ 0x00 ∷ 0x00 ∷ 0x00 ∷ 0x00 ∷ 0x01 ∷ 0x04 ∷ 0x40 ∷ 0x00 ∷ 0x00 ∷ 0x20
    ∷ 0x00 ∷ 0x00 ∷ 0x01 ∷ 0x0A ∷ 0x40 ∷ 0x00 ∷ 0x00 ∷ 0x0C ∷ 0x00 ∷ 0x00 ∷ 0x28 ∷ 0xAF ∷ 0x00 ∷ 0x00 ∷ 0x01 ∷ 0x02 ∷ 0x40 ∷ 0x00 ∷ 0x00 ∷ 0x0C
    ∷ 0x01 ∷ 0x00 ∷ 0x00 ∷ 0x00 ∷ 0x00 ∷ 0x00 ∷ 0x01 ∷ 0x15 ∷ 0x40 ∷ 0x00 ∷ 0x00 ∷ 0x0C ∷ 0x00 ∷ 0x00 ∷ 0x00 ∷ 0x01 ∷ 0x00 ∷ 0x00 ∷ 0x01 ∷ 0x08
    ∷ 0x40 ∷ 0x00 ∷ 0x00 ∷ 0x09 ∷ 0x63 ∷ 0x00 ∷ 0x00 ∷ 0x00 ∷ 0x00 ∷ 0x00 ∷ 0x01 ∷ 0x28 ∷ 0x40 ∷ 0x00 ∷ 0x00 ∷ 0x09 ∷ 0x72 ∷ 0x00 ∷ 0x00 ∷ 0x00
    ∷ 0x00 ∷ 0x00 ∷ 0x01 ∷ 0x1B ∷ 0x40 ∷ 0x00 ∷ 0x00 ∷ 0x09 ∷ 0x72 ∷ 0x00 ∷ 0x00 ∷ 0x00 ∷ 0x00 ∷ 0x00 ∷ 0x00 ∷ 0x01 ∷ 0x40 ∷ 0x00 ∷ 0x00 ∷ 0x09
    ∷ 0x70 ∷ 0x00 ∷ 0x00 ∷ 0x00 ∷ 0x00 ∷ 0x00 ∷ 0x02 ∷ 0x59 ∷ 0xC0 ∷ 0x00 ∷ 0x00 ∷ 0x0D ∷ 0x00 ∷ 0x00 ∷ 0x28 ∷ 0xAF ∷ 0x61 ∷ 0x00 ∷ 0x00 ∷ 0x00
    ∷ 0x00 ∷ 0x00 ∷ 0x02 ∷ 0x64 ∷ 0xC0 ∷ 0x00 ∷ 0x00 ∷ 0x28 ∷ 0x00 ∷ 0x00 ∷ 0x28 ∷ 0xAF ∷ 0x00 ∷ 0x00 ∷ 0x02 ∷ 0x60 ∷ 0xC0 ∷ 0x00 ∷ 0x00 ∷ 0x1C
    ∷ 0x00 ∷ 0x00 ∷ 0x28 ∷ 0xAF ∷ 0x44 ∷ 0x69 ∷ 0x67 ∷ 0x65 ∷ 0x73 ∷ 0x74 ∷ 0x2D ∷ 0x41 ∷ 0x4B ∷ 0x41 ∷ 0x76 ∷ 0x31 ∷ 0x2D ∷ 0x4D ∷ 0x44 ∷ 0x35
    ∷ 0x00 ∷ 0x00 ∷ 0x02 ∷ 0x5F ∷ 0xC0 ∷ 0x00 ∷ 0x00 ∷ 0x10 ∷ 0x00 ∷ 0x00 ∷ 0x28 ∷ 0xAF ∷ 0x00 ∷ 0x00 ∷ 0x00 ∷ 0x01 ∷ 0x00 ∷ 0x00 ∷ 0x02 ∷ 0x5A
    ∷ 0xC0 ∷ 0x00 ∷ 0x00 ∷ 0x0D ∷ 0x00 ∷ 0x00 ∷ 0x28 ∷ 0xAF ∷ 0x73 ∷ 0x00 ∷ 0x00 ∷ 0x00
    ∷ []

maa : List ℕ
maa =
    0x01 ∷ 0x00 ∷ 0x01 ∷ 0x50 ∷ 0x40 ∷ 0x00 ∷ 0x01 ∷ 0x2F ∷ 0x01 ∷ 0x00 ∷ 0x00 ∷ 0x00 ∷ 0x00 ∷ 0x00 ∷ 0x00 ∷ 0x01 ∷ 0x00 ∷ 0x00 ∷ 0x00 ∷ 0x02
    ∷ 0x00 ∷ 0x00 ∷ 0x01 ∷ 0x07 ∷ 0x40 ∷ 0x00 ∷ 0x00 ∷ 0x09 ∷ 0x73 ∷ 0x00 ∷ 0x00 ∷ 0x00 ∷ 0x00 ∷ 0x00 ∷ 0x01 ∷ 0x04 ∷ 0x40 ∷ 0x00 ∷ 0x00 ∷ 0x20
    ∷ 0x00 ∷ 0x00 ∷ 0x01 ∷ 0x0A ∷ 0x40 ∷ 0x00 ∷ 0x00 ∷ 0x0C ∷ 0x00 ∷ 0x00 ∷ 0x28 ∷ 0xAF ∷ 0x00 ∷ 0x00 ∷ 0x01 ∷ 0x02 ∷ 0x40 ∷ 0x00 ∷ 0x00 ∷ 0x0C
    ∷ 0x01 ∷ 0x00 ∷ 0x00 ∷ 0x00 ∷ 0x00 ∷ 0x00 ∷ 0x01 ∷ 0x0C ∷ 0x40 ∷ 0x00 ∷ 0x00 ∷ 0x0C ∷ 0x00 ∷ 0x00 ∷ 0x07 ∷ 0xD1 ∷ 0x00 ∷ 0x00 ∷ 0x01 ∷ 0x15
    ∷ 0x40 ∷ 0x00 ∷ 0x00 ∷ 0x0C ∷ 0x00 ∷ 0x00 ∷ 0x00 ∷ 0x01 ∷ 0x00 ∷ 0x00 ∷ 0x01 ∷ 0x08 ∷ 0x40 ∷ 0x00 ∷ 0x00 ∷ 0x10 ∷ 0x68 ∷ 0x73 ∷ 0x73 ∷ 0x2E
    ∷ 0x69 ∷ 0x73 ∷ 0x6C ∷ 0x65 ∷ 0x00 ∷ 0x00 ∷ 0x01 ∷ 0x28 ∷ 0x40 ∷ 0x00 ∷ 0x00 ∷ 0x0C ∷ 0x69 ∷ 0x73 ∷ 0x6C ∷ 0x65 ∷ 0x00 ∷ 0x00 ∷ 0x00 ∷ 0x01
    ∷ 0x40 ∷ 0x00 ∷ 0x00 ∷ 0x09 ∷ 0x70 ∷ 0x00 ∷ 0x00 ∷ 0x00 ∷ 0x00 ∷ 0x00 ∷ 0x02 ∷ 0x59 ∷ 0xC0 ∷ 0x00 ∷ 0x00 ∷ 0x0D ∷ 0x00 ∷ 0x00 ∷ 0x28 ∷ 0xAF
    ∷ 0x61 ∷ 0x00 ∷ 0x00 ∷ 0x00 ∷ 0x00 ∷ 0x00 ∷ 0x02 ∷ 0x5F ∷ 0xC0 ∷ 0x00 ∷ 0x00 ∷ 0x10 ∷ 0x00 ∷ 0x00 ∷ 0x28 ∷ 0xAF ∷ 0x00 ∷ 0x00 ∷ 0x00 ∷ 0x01
    ∷ 0x00 ∷ 0x00 ∷ 0x02 ∷ 0x64 ∷ 0xC0 ∷ 0x00 ∷ 0x00 ∷ 0xB0 ∷ 0x00 ∷ 0x00 ∷ 0x28 ∷ 0xAF ∷ 0x00 ∷ 0x00 ∷ 0x02 ∷ 0x65 ∷ 0xC0 ∷ 0x00 ∷ 0x00 ∷ 0x10
    ∷ 0x00 ∷ 0x00 ∷ 0x28 ∷ 0xAF ∷ 0x00 ∷ 0x00 ∷ 0x00 ∷ 0x01 ∷ 0x00 ∷ 0x00 ∷ 0x02 ∷ 0x60 ∷ 0xC0 ∷ 0x00 ∷ 0x00 ∷ 0x1C ∷ 0x00 ∷ 0x00 ∷ 0x28 ∷ 0xAF
    ∷ 0x44 ∷ 0x69 ∷ 0x67 ∷ 0x65 ∷ 0x73 ∷ 0x74 ∷ 0x2D ∷ 0x41 ∷ 0x4B ∷ 0x41 ∷ 0x76 ∷ 0x31 ∷ 0x2D ∷ 0x4D ∷ 0x44 ∷ 0x35 ∷ 0x00 ∷ 0x00 ∷ 0x02 ∷ 0x61
    ∷ 0xC0 ∷ 0x00 ∷ 0x00 ∷ 0x2C ∷ 0x00 ∷ 0x00 ∷ 0x28 ∷ 0xAF ∷ 0x10 ∷ 0x11 ∷ 0x12 ∷ 0x13 ∷ 0x14 ∷ 0x15 ∷ 0x16 ∷ 0x17 ∷ 0x18 ∷ 0x19 ∷ 0x1A ∷ 0x1B
    ∷ 0x1C ∷ 0x1D ∷ 0x1E ∷ 0x1F ∷ 0x20 ∷ 0x21 ∷ 0x22 ∷ 0x23 ∷ 0x24 ∷ 0x25 ∷ 0x26 ∷ 0x27 ∷ 0x28 ∷ 0x29 ∷ 0x2A ∷ 0x2B ∷ 0x2C ∷ 0x2D ∷ 0x2E ∷ 0x2F
    ∷ 0x00 ∷ 0x00 ∷ 0x02 ∷ 0x62 ∷ 0xC0 ∷ 0x00 ∷ 0x00 ∷ 0x11 ∷ 0x00 ∷ 0x00 ∷ 0x28 ∷ 0xAF ∷ 0xF1 ∷ 0xF2 ∷ 0xF3 ∷ 0xF4 ∷ 0xF5 ∷ 0x00 ∷ 0x00 ∷ 0x00
    ∷ 0x00 ∷ 0x00 ∷ 0x02 ∷ 0x71 ∷ 0xC0 ∷ 0x00 ∷ 0x00 ∷ 0x1C ∷ 0x00 ∷ 0x00 ∷ 0x28 ∷ 0xAF ∷ 0x40 ∷ 0x41 ∷ 0x42 ∷ 0x43 ∷ 0x44 ∷ 0x45 ∷ 0x46 ∷ 0x47
    ∷ 0x48 ∷ 0x49 ∷ 0x4A ∷ 0x4B ∷ 0x4C ∷ 0x4D ∷ 0x4E ∷ 0x4F ∷ 0x00 ∷ 0x00 ∷ 0x02 ∷ 0x72 ∷ 0xC0 ∷ 0x00 ∷ 0x00 ∷ 0x1C ∷ 0x00 ∷ 0x00 ∷ 0x28 ∷ 0xAF
    ∷ 0x50 ∷ 0x51 ∷ 0x52 ∷ 0x53 ∷ 0x54 ∷ 0x55 ∷ 0x56 ∷ 0x57 ∷ 0x58 ∷ 0x59 ∷ 0x5A ∷ 0x5B ∷ 0x5C ∷ 0x5D ∷ 0x5E ∷ 0x5F
    ∷ []

stored : ℕ → List ℕ → List ℕ
stored used check =
    0x03 ∷ used ∷ 0x05 ∷ 0x01 ∷ 0x70 ∷ replicate 127 0
    ++ (0x10 ∷ 0x11 ∷ 0x12 ∷ 0x13 ∷ 0x14 ∷ 0x15 ∷ 0x16 ∷ 0x17 ∷ 0x18 ∷ 0x19 ∷ 0x1A ∷ 0x1B ∷ 0x1C ∷ 0x1D ∷ 0x1E ∷ 0x1F
    ∷ 0x20 ∷ 0x21 ∷ 0x22 ∷ 0x23 ∷ 0x24 ∷ 0x25 ∷ 0x26 ∷ 0x27 ∷ 0x28 ∷ 0x29 ∷ 0x2A ∷ 0x2B ∷ 0x2C ∷ 0x2D ∷ 0x2E ∷ 0x2F
    ∷ 0xF1 ∷ 0xF2 ∷ 0xF3 ∷ 0xF4 ∷ 0xF5 ∷ 0x00 ∷ 0x00 ∷ 0x00 ∷ 0x00 ∷ 0x00 ∷ 0x00 ∷ 0x00 ∷ 0x00 ∷ 0x00 ∷ 0x00 ∷ 0x00
    ∷ 0x40 ∷ 0x41 ∷ 0x42 ∷ 0x43 ∷ 0x44 ∷ 0x45 ∷ 0x46 ∷ 0x47 ∷ 0x48 ∷ 0x49 ∷ 0x4A ∷ 0x4B ∷ 0x4C ∷ 0x4D ∷ 0x4E ∷ 0x4F
    ∷ 0x50 ∷ 0x51 ∷ 0x52 ∷ 0x53 ∷ 0x54 ∷ 0x55 ∷ 0x56 ∷ 0x57 ∷ 0x58 ∷ 0x59 ∷ 0x5A ∷ 0x5B ∷ 0x5C ∷ 0x5D ∷ 0x5E ∷ 0x5F
    ∷ replicate 296 0 ++ check)

line : ℕ → ℕ → ℕ → List ℕ → List ℕ
line bits size name check =
    0x02 ∷ 0x01 ∷ 0x00 ∷ 0x00 ∷ 0x00 ∷ 0x00 ∷ 0x00 ∷ 0x01 ∷ 0x00 ∷ bits ∷ 0x00 ∷ 0x00 ∷ 0x00 ∷ 0x01 ∷ 0x01 ∷ size ∷ 0x61 ∷ replicate 127 0
    ++ (0x70 ∷ replicate 127 0 ++ (name ∷ replicate 235 0 ++ check))

table : List ℕ
table = header 1 0 ++ line 0 0 0 (0x2C ∷ 0xFD ∷ 0xFE ∷ 0xFF ∷ [])

unsent : List ℕ
unsent = stored 0 (0x42 ∷ 0x99 ∷ 0x83 ∷ 0x7B ∷ [])

table_sound : check_table table 0 ≡ Ok 1
unfolding opened line table
table_sound = refl

unsent_sound : check_vectors unsent ≡ Ok 1
unfolding opened stored unsent
unsent_sound = refl

to_the_byte :
    serve_table (lent mar table [] unsent room (under_cx 3588 0))
    ≡ left (header 1 0 ++ line 1 1 0x73 (0xB9 ∷ 0xFC ∷ 0xFE ∷ 0xFE ∷ [])) (stored 1 (0x42 ∷ 0x98 ∷ 0x83 ∷ 0x7B ∷ [])) maa
unfolding opened mar maa stored line table unsent
to_the_byte = come (lent mar table [] unsent room (under_cx 3588 0)) roomy table_sound unsent_sound refl

-- Two files with what their checks answer, so that these are computed once; and a row: a request over them, and what is left.
record Files : Type 0 where
  table : List ℕ
  vectors : List ℕ
  records : Result ℕ ℕ
  blocks : Result ℕ ℕ
  table_is : check_table table 0 ≡ records
  vectors_is : check_vectors vectors ≡ blocks

data Row : Type 0 where
  row : Files → List ℕ → Served → Row

abbrev calling : Files → List ℕ → Lent
calling f req = lent req f.table [] f.vectors room (under_cx 3588 0)

abbrev Comes : Row → Type 0
Comes (row f req y) = serve_table (calling f req) ≡ y

-- what is to be computed of a row: the same with these answers
abbrev Computes : Row → Type 0
Computes (row f req y) = known false f.records f.blocks (calling f req) ≡ y

comes : (r : Row) → Computes r → Comes r
comes (row f req y) e = come (calling f req) roomy f.table_is f.vectors_is e

abbrev All : (Row → Type 0) → List Row → Type 0
All P [] = Unit
All P (r ∷ rows) = P r × All P rows

all_come : (rows : List Row) → All Computes rows → All Comes rows
all_come [] tt = tt
all_come (r ∷ rows) (e, es) = (comes r e, all_come rows es)

-- One vector of `p`, unused and used; and a file of one of `q` and two of `p`, where the numbers say which are used.
unfoldable pub mixed : ℕ → ℕ → ℕ → List ℕ
mixed first second third = vector first 0x71 1 ++ (vector second 0x70 5 ++ vector third 0x70 9)

fresh_sound : check_vectors (vector 0 0x70 1) ≡ Ok 1
unfolding opened
fresh_sound = refl

used_sound : check_vectors (vector 1 0x70 1) ≡ Ok 1
unfolding opened
used_sound = refl

mixed_sound : check_vectors (mixed 0 0 0) ≡ Ok 3
unfolding opened mixed
mixed_sound = refl

-- the one record `a`, registered at `s`, with each of them
abbrev registered : (v : List ℕ) (blocks : Result ℕ ℕ) → check_vectors v ≡ blocks → Files
registered v blocks e = record { table = one 0 1 s; vectors = v; records = Ok 1; blocks = blocks; table_is = registered_sound; vectors_is = e }

abbrev fresh : Files
fresh = registered (vector 0 0x70 1) (Ok 1) fresh_sound

abbrev exhausted : Files
exhausted = registered (vector 1 0x70 1) (Ok 1) used_sound

abbrev shared : Files
shared = registered (mixed 0 0 0) (Ok 3) mixed_sound

-- answered by a result alone, or with a Failed-AVP; refused: nothing is altered
abbrev denied : Files → List ℕ → List ℕ → List ℕ → Row
denied f req result rest = row f req (left f.table f.vectors (reply 303 result rest))

abbrev refusing : Files → List ℕ → ℕ → Row
refusing f req number = row f req (record { call = Refused number 0; table = f.table; vectors = f.vectors; buffer = room })

-- "that name's first unused vectors in file order, as many as asked or as remain": not another's, and no used one again
chosen :
    map (λ (n : ℕ). sent_of (to_send (mixed 0 0 0) (0x70 ∷ []) n)) (0 ∷ 1 ∷ 2 ∷ 3 ∷ 4294967295 ∷ [])
    ≡ [] ∷ (1 ∷ []) ∷ (1 ∷ 2 ∷ []) ∷ (1 ∷ 2 ∷ []) ∷ (1 ∷ 2 ∷ []) ∷ []
unfolding opened mixed
chosen = refl

chosen_later : sent_of (to_send (mixed 0 1 0) (0x70 ∷ []) 2) ≡ 2 ∷ []
unfolding opened mixed
chosen_later = refl

abbrev numbers : List Row
numbers =
    row fresh (authentication 1 s) (left (one 0 1 s) (vector 1 0x70 1) (challenges 1 (item 1 1)))
    -- three asked where two are left: 607 is the number sent
    ∷ row shared (authentication 3 s) (left (one 0 1 s) (mixed 0 1 1) (challenges 2 (item 1 5 ++ item 2 9)))
    -- zero asked, nothing is marked; none unused
    ∷ denied fresh (authentication 0 s) (number_bytes 268 5012) []
    ∷ denied exhausted (authentication 1 s) (number_bytes 268 5012) []
    ∷ []

numbers_come : All Comes numbers
unfolding opened mixed
numbers_come = all_come numbers (refl, (refl, (refl, (refl, tt))))

-- these four by name
pub one_sent : serve_table (lent (authentication 1 s) (one 0 1 s) [] (vector 0 0x70 1) room (under_cx 3588 0))
    ≡ left (one 0 1 s) (vector 1 0x70 1) (challenges 1 (item 1 1))
one_sent = numbers_come.0

pub two_left : serve_table (lent (authentication 3 s) (one 0 1 s) [] (mixed 0 0 0) room (under_cx 3588 0))
    ≡ left (one 0 1 s) (mixed 0 1 1) (challenges 2 (item 1 5 ++ item 2 9))
two_left = numbers_come.1.0

pub none_asked :
    serve_table (lent (authentication 0 s) (one 0 1 s) [] (vector 0 0x70 1) room (under_cx 3588 0))
    ≡ left (one 0 1 s) (vector 0 0x70 1) (reply 303 (number_bytes 268 5012) [])
none_asked = numbers_come.1.1.0

pub none_unused :
    serve_table (lent (authentication 1 s) (one 0 1 s) [] (vector 1 0x70 1) room (under_cx 3588 0))
    ≡ left (one 0 1 s) (vector 1 0x70 1) (reply 303 (number_bytes 268 5012) [])
none_unused = numbers_come.1.1.1.0

-- "No vector is ever sent twice": the same MAR again, over what the first call left
abbrev again : List ℕ → Served → Served
again req y = serve_table (lent req y.table [] y.vectors room (under_cx 3588 0))

twice :
    again (authentication 1 s) (again (authentication 1 s) (left (one 0 1 s) (vector 0 0x70 1) []))
    ≡ left (one 0 1 s) (vector 1 0x70 1) (reply 303 (number_bytes 268 5012) [])
twice = ap (again (authentication 1 s)) one_sent ∙ none_unused

-- "at most 16": of seventeen unused, with seventeen asked, blocks 0 to 15 are chosen, and the answer has sixteen items
cards : ℕ → ℕ → List ℕ
cards zero n = []
cards (suc k) n = vector 0 0x70 n ++ cards k (suc n)

abbrev seventeen : List ℕ
seventeen = cards 17 0

sixteen : Given
sixteen = given_sent 1 (packed (0 ∷ 1 ∷ 2 ∷ 3 ∷ 4 ∷ 5 ∷ 6 ∷ 7 ∷ 8 ∷ 9 ∷ 10 ∷ 11 ∷ 12 ∷ 13 ∷ 14 ∷ 15 ∷ []))

items : ℕ → List ℕ
items zero = []
items (suc k) = items k ++ item (suc k) k

at_most : (decide (dialect_of (under_cx 3588 0) (authentication 17 s)) (authentication 17 s) (one 0 1 s) 1 seventeen).given ≡ sixteen
unfolding opened cards sixteen
at_most = refl

at_most_sent : answer_bytes (under_cx 3588 0) (authentication 17 s) (one 0 1 s) [] seventeen sixteen ≡ challenges 16 (items 16)
unfolding opened cards sixteen items
at_most_sent = refl

-- Beside `a` of the card `p`, `b` of the card `q`; and a 608 of five bytes.
neighbours : ℕ → List ℕ → List ℕ
neighbours bits server = header 2 0 ++ (person 1 0x61 0x70 1 s ++ subscriber 2 0x62 0x71 1 bits server)

neighbours_sound : check_table (neighbours 0 s) 0 ≡ Ok 2
unfolding opened neighbours
neighbours_sound = refl

abbrev two_cards : Files
two_cards =
    record { table = neighbours 0 s; vectors = mixed 0 0 0; records = Ok 2; blocks = Ok 3; table_is = neighbours_sound; vectors_is = mixed_sound }

other : List ℕ
other = vendor_bytes 608 (0x41 ∷ 0x4B ∷ 0x41 ∷ 0x76 ∷ 0x31 ∷ [])

-- "Steps, first fault deciding: identities unknown, not matching, scheme other than `Digest-AKAv1-MD5`", and B5012 "after X5006"
abbrev steps : List Row
steps =
    denied two_cards (authentication_of 0x70 0x63 digest 1 s) (experimental 5001) []
    ∷ denied two_cards (authentication_of 0x72 0x61 digest 1 s) (experimental 5001) []
    ∷ denied two_cards (authentication_of 0x72 0x61 other 0 s) (experimental 5001) []
    ∷ denied two_cards (authentication_of 0x70 0x62 digest 1 s) (experimental 5002) []
    ∷ denied two_cards (authentication_of 0x70 0x62 other 0 s) (experimental 5002) []
    ∷ denied two_cards (authentication_of 0x70 0x61 other 0 s) (experimental 5006) []
    -- `digest-AKAv1-MD5`; a byte behind it; no byte
    ∷ denied two_cards (authentication_of 0x70 0x61 (set digest 12 0x64) 1 s) (experimental 5006) []
    ∷ denied two_cards (authentication_of 0x70 0x61 (vendor_bytes 608 (scheme ++ (0x00 ∷ []))) 1 s) (experimental 5006) []
    ∷ denied two_cards (authentication_of 0x70 0x61 (vendor_bytes 608 []) 1 s) (experimental 5006) []
    -- all is right of the second record: it is altered, and the first is not
    ∷ row two_cards (authentication_of 0x71 0x62 digest 2 z) (left (neighbours 1 z) (mixed 1 0 0) (reply 303 (number_bytes 268 2001)
    (avp_bytes 1 (0x71 ∷ []) ++ (vendor_bytes 601 (0x62 ∷ []) ++ (vendor_number 607 1 ++ item 1 1)))))
    ∷ []

steps_come : All Comes steps
unfolding opened mixed neighbours other
steps_come = all_come steps (refl, (refl, (refl, (refl, (refl, (refl, (refl, (refl, (refl, (refl, tt))))))))))

-- "612 holds exactly one 608 and nothing else, else B5004", "the last one's padding whole or cut"
abbrev holding : List ℕ → List ℕ → List ℕ → Row
holding held result rest = denied fresh (authentication_of 0x70 0x61 held 1 s) result rest

abbrev ill : List ℕ → Row
ill held =
    row fresh (authentication_of 0x70 0x61 held 1 s)
    (left_at 140 fresh.table fresh.vectors (reply 303 (number_bytes 268 5004) (failed (vendor_head 612 (12 + length held) ++ held))))

abbrev contents : List Row
contents =
    -- 17 bytes of 20, and 19; they are read, and the scheme is another
    holding (take 17 other) (experimental 5006) []
    ∷ holding (take 19 other) (experimental 5006) []
    -- 613 beside it; nothing
    ∷ ill (digest ++ vendor_number 613 1)
    ∷ ill []
    ∷ []

contents_come : All Comes contents
unfolding opened other
contents_come = all_come contents (refl, (refl, (refl, (refl, tt))))

-- The record `a` of a state, bits and a name, before a MAR with a name, and the bits afterwards: the state stays, and the name is the request's. All but the
-- check word is compared.
record Naming : Type 0 where
  state : ℕ
  bits : ℕ
  name : List ℕ
  server : List ℕ
  bits' : ℕ

abbrev named : ℕ → ℕ → List ℕ → List ℕ → ℕ → Naming
named state bits name server bits' = record { state = state; bits = bits; name = name; server = server; bits' = bits' }

decided : Naming → List ℕ
decided c =
    let t = header 1 0 ++ subscriber 1 0x61 0x70 c.state c.bits c.name in
    let req = authentication 1 c.server in
    take 508 (block_of (decide (dialect_of (under_cx 3588 0) req) req t 1 (vector 0 0x70 1)).table 1)

expected : Naming → List ℕ
expected c = take 508 (subscriber 1 0x61 0x70 c.state c.bits' c.server)

-- "The Server-Name is stored if different; pending is set if state is 0 or the name changed."
abbrev names : List Naming
names =
    -- a new name in states 0 (barred, with unregistered services), 1 and 2
    named 0 6 [] s 7
    ∷ named 1 0 s z 1
    ∷ named 2 0 s z 1
    -- one that differs in its length alone
    ∷ named 1 0 (s ++ s) s 1
    -- the same name: pending stays as it was, set or not
    ∷ named 0 1 s s 1
    ∷ named 1 0 s s 0
    ∷ named 1 1 s s 1
    ∷ named 2 0 s s 0
    ∷ named 2 1 s s 1
    ∷ []

names_stored : map decided names ≡ map expected names
unfolding opened decided expected
names_stored = refl

-- "6, vector file unsound, at every call, after 5", and 0 besides: block 0 of kind 0; block 1 cut off; and a table of zeros
unkind : List ℕ
unkind = sealed (set (vector 0 0x70 1) 0 0)

unkind_bad : check_vectors unkind ≡ Err 0
unfolding opened unkind
unkind_bad = refl

cut_bad : check_vectors (vector 0 0x70 1 ++ take 511 unkind) ≡ Err 1
unfolding opened unkind
cut_bad = refl

zeros_bad : check_table block 0 ≡ Err 0
unfolding opened
zeros_bad = refl

abbrev spoilt : Files
spoilt = registered unkind (Err 0) unkind_bad

abbrev cut : Files
cut = registered (vector 0 0x70 1 ++ take 511 unkind) (Err 1) cut_bad

abbrev both : Files
both = record { table = block; vectors = unkind; records = Err 0; blocks = Err 0; table_is = zeros_bad; vectors_is = unkind_bad }

abbrev refusals : List Row
refusals =
    refusing spoilt (authentication 1 s) 6
    ∷ refusing cut (authentication 1 s) 6
    -- whatever is asked: a SAR, and a command that is not spoken
    ∷ refusing spoilt (assignment 5 s) 6
    ∷ refusing spoilt (request 299 []) 6
    ∷ refusing both (authentication 1 s) 5
    ∷ []

refusals_come : All Comes refusals
unfolding opened unkind
refusals_come = all_come refusals (refl, (refl, (refl, (refl, (refl, tt)))))

-- The check of a vector file: no block; a wrong sum; a block past the 4,096th, whatever it is.
none_sound : check_vectors [] ≡ Ok 0
unfolding opened
none_sound = refl

sum_bad : check_vectors (set (vector 0 0x70 1) 511 0) ≡ Err 0
unfolding opened
sum_bad = refl

too_many : (v : List ℕ) → sound_piece v 4096 ≡ false
unfolding sound_piece
too_many v = refl

-- "0 kind 3; 1 used (0 or 1); 2 XRES length (4 to 16); 3 length of private identity (1 to 128)"
abbrev limited : ℕ → ℕ → ℕ → ℕ → Bool
limited kind used xres private = sound_limits (record { kind = kind; used = used; xres = xres; private = private })

limits :
    limited 3 0 4 1 ∷ limited 3 1 16 128 ∷ limited 2 0 4 1 ∷ limited 3 2 4 1 ∷ limited 3 0 3 1 ∷ limited 3 0 17 1 ∷ limited 3 0 4 0 ∷ limited 3 0 4 129 ∷ []
    ≡ true ∷ true ∷ replicate 6 false
limits = refl

-- "the rest zero": behind the name, behind XRES, behind the keys
rests : map (λ (i : ℕ). sound_rest (set (vector 0 0x70 1) i 1) (vector_of (vector 0 0x70 1))) (5 ∷ 169 ∷ 212 ∷ 507 ∷ []) ≡ replicate 4 false
unfolding opened
rests = refl
