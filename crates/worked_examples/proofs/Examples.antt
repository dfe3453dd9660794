-- "Proved of the definitions, all in a single table under a single statement."
use Rattle.std.specs.Prelude.{Result, Ok, Err}
use Rattle.octets.specs.Standard.{ℕ, ◌≡◌, refl, List, [], ◌∷◌, ◌++◌, Bool, true, false, length, take, replicate, set, ltb}
use Rattle.octets.specs.Run.{over}
use Rattle.octets.specs.Sum.{sum_words}
use Rattle.table.specs.Check.{check_table}
use Rattle.blocks.specs.Sealed.{sealed}
use Rattle.pen.specs.Bytes.{vendor_head, avp_bytes, number_bytes}
use Rattle.pen.specs.Groups.{experimental, failed}
use Rattle.requests.specs.Request.{under_cx}
use Rattle.calling.specs.Call.{Call, Answered, Refused}
use Rattle.calling.specs.Lent.{lent}
use Rattle.calling.specs.Serve.{serve_table}
use Rattle.worked_examples.proofs.Computed.{known, come, sized, no_vectors, unregistered_sound}
use Rattle.worked_examples.proofs.Sample.{block, header, answer, assignment, one, two, s, opened}

-- A case: a call (a request, a table, no profile file and no vector, a buffer of zeros of so many bytes; what it comes to, the table afterwards, the answer),
-- the check of a table with its answer, or a block with the sum of its words
data Case : Type 0 where
  call : List ℕ → List ℕ → ℕ → Call → List ℕ → List ℕ → Case
  check : List ℕ → Result ℕ ℕ → Case
  sum : List ℕ → ℕ → Case

abbrev Right : Case → Type 0
Right (call req table room comes after bytes) =
    serve_table (lent req table [] [] (replicate room 0) (under_cx 3588 0)) ≡ record { call = comes; table = after; vectors = []; buffer = over bytes (replicate room 0) }
Right (check table answer) = check_table table 0 ≡ answer
Right (sum b n) = sum_words b 128 ≡ n

abbrev Holds : List Case → Type 0
Holds [] = Unit
Holds (c ∷ cs) = Right c × Holds cs

-- "For `01000014C000012E010000000000000100000002` it writes exactly, as bytes"
worked : List ℕ
worked = 0x01 ∷ 0x00 ∷ 0x00 ∷ 0x14 ∷ 0xC0 ∷ 0x00 ∷ 0x01 ∷ 0x2E ∷ 0x01 ∷ 0x00 ∷ 0x00 ∷ 0x00 ∷ 0x00 ∷ 0x00 ∷ 0x00 ∷ 0x01 ∷ 0x00 ∷ 0x00 ∷ 0x00 ∷ 0x02 ∷ []

exactly : List ℕ
exactly =
    0x01 ∷ 0x00 ∷ 0x00 ∷ 0x78 ∷ 0x40 ∷ 0x00 ∷ 0x01 ∷ 0x2E ∷ 0x01 ∷ 0x00 ∷ 0x00 ∷ 0x00 ∷ 0x00 ∷ 0x00 ∷ 0x00 ∷ 0x01 ∷ 0x00 ∷ 0x00 ∷ 0x00 ∷ 0x02
    ∷ 0x00 ∷ 0x00 ∷ 0x01 ∷ 0x04 ∷ 0x40 ∷ 0x00 ∷ 0x00 ∷ 0x20 ∷ 0x00 ∷ 0x00 ∷ 0x01 ∷ 0x0A ∷ 0x40 ∷ 0x00 ∷ 0x00 ∷ 0x0C ∷ 0x00 ∷ 0x00 ∷ 0x28 ∷ 0xAF
    ∷ 0x00 ∷ 0x00 ∷ 0x01 ∷ 0x02 ∷ 0x40 ∷ 0x00 ∷ 0x00 ∷ 0x0C ∷ 0x01 ∷ 0x00 ∷ 0x00 ∷ 0x00 ∷ 0x00 ∷ 0x00 ∷ 0x01 ∷ 0x0C ∷ 0x40 ∷ 0x00 ∷ 0x00 ∷ 0x0C
    ∷ 0x00 ∷ 0x00 ∷ 0x13 ∷ 0x8D ∷ 0x00 ∷ 0x00 ∷ 0x01 ∷ 0x15 ∷ 0x40 ∷ 0x00 ∷ 0x00 ∷ 0x0C ∷ 0x00 ∷ 0x00 ∷ 0x00 ∷ 0x01 ∷ 0x00 ∷ 0x00 ∷ 0x01 ∷ 0x08
    ∷ 0x40 ∷ 0x00 ∷ 0x00 ∷ 0x10 ∷ 0x68 ∷ 0x73 ∷ 0x73 ∷ 0x2E ∷ 0x69 ∷ 0x73 ∷ 0x6C ∷ 0x65 ∷ 0x00 ∷ 0x00 ∷ 0x01 ∷ 0x28 ∷ 0x40 ∷ 0x00 ∷ 0x00 ∷ 0x0C
    ∷ 0x69 ∷ 0x73 ∷ 0x6C ∷ 0x65 ∷ 0x00 ∷ 0x00 ∷ 0x01 ∷ 0x17 ∷ 0x40 ∷ 0x00 ∷ 0x00 ∷ 0x10 ∷ 0x00 ∷ 0x00 ∷ 0x01 ∷ 0x07 ∷ 0x40 ∷ 0x00 ∷ 0x00 ∷ 0x08
    ∷ []

-- a SAR of type 1 for `a` with the name `z`, a table of one line `a` that is registered at `s`, and X5005, each byte by byte: no writer of the definitions
-- made them
other : List ℕ
other =
    0x01 ∷ 0x00 ∷ 0x00 ∷ 0xB0 ∷ 0xC0 ∷ 0x00 ∷ 0x01 ∷ 0x2D ∷ 0x01 ∷ 0x00 ∷ 0x00 ∷ 0x00 ∷ 0x00 ∷ 0x00 ∷ 0x00 ∷ 0x01 ∷ 0x00 ∷ 0x00 ∷ 0x00 ∷ 0x02
    ∷ 0x00 ∷ 0x00 ∷ 0x01 ∷ 0x07 ∷ 0x40 ∷ 0x00 ∷ 0x00 ∷ 0x09 ∷ 0x73 ∷ 0x00 ∷ 0x00 ∷ 0x00 ∷ 0x00 ∷ 0x00 ∷ 0x01 ∷ 0x04 ∷ 0x40 ∷ 0x00 ∷ 0x00 ∷ 0x20
    ∷ 0x00 ∷ 0x00 ∷ 0x01 ∷ 0x0A ∷ 0x40 ∷ 0x00 ∷ 0x00 ∷ 0x0C ∷ 0x00 ∷ 0x00 ∷ 0x28 ∷ 0xAF ∷ 0x00 ∷ 0x00 ∷ 0x01 ∷ 0x02 ∷ 0x40 ∷ 0x00 ∷ 0x00 ∷ 0x0C
    ∷ 0x01 ∷ 0x00 ∷ 0x00 ∷ 0x00 ∷ 0x00 ∷ 0x00 ∷ 0x01 ∷ 0x15 ∷ 0x40 ∷ 0x00 ∷ 0x00 ∷ 0x0C ∷ 0x00 ∷ 0x00 ∷ 0x00 ∷ 0x01 ∷ 0x00 ∷ 0x00 ∷ 0x01 ∷ 0x08
    ∷ 0x40 ∷ 0x00 ∷ 0x00 ∷ 0x09 ∷ 0x63 ∷ 0x00 ∷ 0x00 ∷ 0x00 ∷ 0x00 ∷ 0x00 ∷ 0x01 ∷ 0x28 ∷ 0x40 ∷ 0x00 ∷ 0x00 ∷ 0x09 ∷ 0x72 ∷ 0x00 ∷ 0x00 ∷ 0x00
    ∷ 0x00 ∷ 0x00 ∷ 0x01 ∷ 0x1B ∷ 0x40 ∷ 0x00 ∷ 0x00 ∷ 0x09 ∷ 0x72 ∷ 0x00 ∷ 0x00 ∷ 0x00 ∷ 0x00 ∷ 0x00 ∷ 0x02 ∷ 0x59 ∷ 0xC0 ∷ 0x00 ∷ 0x00 ∷ 0x0D
    ∷ 0x00 ∷ 0x00 ∷ 0x28 ∷ 0xAF ∷ 0x61 ∷ 0x00 ∷ 0x00 ∷ 0x00 ∷ 0x00 ∷ 0x00 ∷ 0x02 ∷ 0x5A ∷ 0xC0 ∷ 0x00 ∷ 0x00 ∷ 0x0D ∷ 0x00 ∷ 0x00 ∷ 0x28 ∷ 0xAF
    ∷ 0x7A ∷ 0x00 ∷ 0x00 ∷ 0x00 ∷ 0x00 ∷ 0x00 ∷ 0x02 ∷ 0x66 ∷ 0xC0 ∷ 0x00 ∷ 0x00 ∷ 0x10 ∷ 0x00 ∷ 0x00 ∷ 0x28 ∷ 0xAF ∷ 0x00 ∷ 0x00 ∷ 0x00 ∷ 0x01
    ∷ 0x00 ∷ 0x00 ∷ 0x02 ∷ 0x70 ∷ 0xC0 ∷ 0x00 ∷ 0x00 ∷ 0x10 ∷ 0x00 ∷ 0x00 ∷ 0x28 ∷ 0xAF ∷ 0x00 ∷ 0x00 ∷ 0x00 ∷ 0x01
    ∷ []

registered : List ℕ
registered =
    0x01 ∷ 0x01 ∷ 0x00 ∷ 0x00 ∷ 0x00 ∷ 0x00 ∷ 0x00 ∷ 0x00 ∷ 0x00 ∷ 0x00 ∷ 0x00 ∷ 0x01 ∷ 0x00 ∷ 0x08 ∷ 0x04 ∷ 0x00
    ∷ 0x68 ∷ 0x73 ∷ 0x73 ∷ 0x2E ∷ 0x69 ∷ 0x73 ∷ 0x6C ∷ 0x65 ∷ replicate 56 0
    ++ (0x69 ∷ 0x73 ∷ 0x6C ∷ 0x65 ∷ replicate 424 0
    ++ (0xC3 ∷ 0x9C ∷ 0xB0 ∷ 0x07
    ∷ 0x02 ∷ 0x01 ∷ 0x00 ∷ 0x00 ∷ 0x00 ∷ 0x00 ∷ 0x00 ∷ 0x01 ∷ 0x01 ∷ 0x00 ∷ 0x00 ∷ 0x00 ∷ 0x00 ∷ 0x01 ∷ 0x01 ∷ 0x01 ∷ 0x61 ∷ replicate 127 0
    ++ (0x70 ∷ replicate 127 0 ++ (0x73 ∷ replicate 235 0 ++ (0xB8 ∷ 0xFD ∷ 0xFE ∷ 0xFE ∷ [])))))

elsewhere : List ℕ
elsewhere =
    0x01 ∷ 0x00 ∷ 0x00 ∷ 0x88 ∷ 0x40 ∷ 0x00 ∷ 0x01 ∷ 0x2D ∷ 0x01 ∷ 0x00 ∷ 0x00 ∷ 0x00 ∷ 0x00 ∷ 0x00 ∷ 0x00 ∷ 0x01 ∷ 0x00 ∷ 0x00 ∷ 0x00 ∷ 0x02
    ∷ 0x00 ∷ 0x00 ∷ 0x01 ∷ 0x07 ∷ 0x40 ∷ 0x00 ∷ 0x00 ∷ 0x09 ∷ 0x73 ∷ 0x00 ∷ 0x00 ∷ 0x00 ∷ 0x00 ∷ 0x00 ∷ 0x01 ∷ 0x04 ∷ 0x40 ∷ 0x00 ∷ 0x00 ∷ 0x20
    ∷ 0x00 ∷ 0x00 ∷ 0x01 ∷ 0x0A ∷ 0x40 ∷ 0x00 ∷ 0x00 ∷ 0x0C ∷ 0x00 ∷ 0x00 ∷ 0x28 ∷ 0xAF ∷ 0x00 ∷ 0x00 ∷ 0x01 ∷ 0x02 ∷ 0x40 ∷ 0x00 ∷ 0x00 ∷ 0x0C
    ∷ 0x01 ∷ 0x00 ∷ 0x00 ∷ 0x00 ∷ 0x00 ∷ 0x00 ∷ 0x01 ∷ 0x29 ∷ 0x40 ∷ 0x00 ∷ 0x00 ∷ 0x20 ∷ 0x00 ∷ 0x00 ∷ 0x01 ∷ 0x0A ∷ 0x40 ∷ 0x00 ∷ 0x00 ∷ 0x0C
    ∷ 0x00 ∷ 0x00 ∷ 0x28 ∷ 0xAF ∷ 0x00 ∷ 0x00 ∷ 0x01 ∷ 0x2A ∷ 0x40 ∷ 0x00 ∷ 0x00 ∷ 0x0C ∷ 0x00 ∷ 0x00 ∷ 0x13 ∷ 0x8D ∷ 0x00 ∷ 0x00 ∷ 0x01 ∷ 0x15
    ∷ 0x40 ∷ 0x00 ∷ 0x00 ∷ 0x0C ∷ 0x00 ∷ 0x00 ∷ 0x00 ∷ 0x01 ∷ 0x00 ∷ 0x00 ∷ 0x01 ∷ 0x08 ∷ 0x40 ∷ 0x00 ∷ 0x00 ∷ 0x10 ∷ 0x68 ∷ 0x73 ∷ 0x73 ∷ 0x2E
    ∷ 0x69 ∷ 0x73 ∷ 0x6C ∷ 0x65 ∷ 0x00 ∷ 0x00 ∷ 0x01 ∷ 0x28 ∷ 0x40 ∷ 0x00 ∷ 0x00 ∷ 0x0C ∷ 0x69 ∷ 0x73 ∷ 0x6C ∷ 0x65
    ∷ []

-- count 0 alone; the same but for its kind, with a check word of its own
alone : List ℕ
alone = header 0 0

unkind : List ℕ
unkind = sealed (set alone 0 0)

-- a call that is refused, where nothing is altered; one that is answered; and one of a request in which the AVP at a place is at fault
abbrev refusing : List ℕ → List ℕ → ℕ → ℕ → ℕ → Case
refusing req table room number besides = call req table room (Refused number besides) table []

abbrev answering : List ℕ → List ℕ → List ℕ → List ℕ → Case
answering req table after bytes = call req table 36864 (Answered (record { length = length bytes; place = 0 })) after bytes

abbrev blaming : List ℕ → List ℕ → ℕ → List ℕ → Case
blaming req table place bytes = call req table 36864 (Answered (record { length = length bytes; place = place })) table bytes

abbrev cases : List Case
cases =
    -- the worked LIR; a request of 20 bytes; a buffer of 36,864; count 0 alone
    answering worked alone alone exactly
    ∷ check alone (Ok 0)
    -- a request of 19 bytes, and of 16,388
    ∷ refusing (take 19 worked) alone 36864 2 0
    ∷ refusing (0x01 ∷ 0x00 ∷ 0x40 ∷ 0x04 ∷ replicate 16384 0xC0) alone 36864 2 0
    -- a buffer of 36,863
    ∷ refusing worked alone 36863 1 0
    -- a block of zeros: bad by its kind, though it sums to zero; and one that is right in all but its kind
    ∷ sum block 0
    ∷ check block (Err 0)
    ∷ refusing worked block 36864 5 0
    ∷ sum unkind 0
    ∷ check unkind (Err 0)
    -- two equal public identities: the later block is blamed
    ∷ check two (Err 2)
    ∷ refusing worked two 36864 5 2
    -- SAR type 2 in state 0: X5007
    ∷ answering (assignment 2 s) (one 0 0 []) (one 0 0 []) (answer (experimental 5007) [])
    -- type 1 with another name: X5005
    ∷ check registered (Ok 1)
    ∷ answering other registered registered elsewhere
    -- type 6 with keep 0: state 0, no name, X2004; with keep 1: state 2, the name kept, B2001
    ∷ answering (assignment 6 s) registered (one 0 0 []) (answer (experimental 2004) [])
    ∷ answering (assignment 6 s) (one 1 1 s) (one 1 2 s) (answer (number_bytes 268 2001) [])
    -- a Server-Name of 96 bytes is stored; one of 97 is B5004 with the whole AVP
    ∷ answering (assignment 1 (replicate 96 0x73)) (one 0 0 []) (one 0 1 (replicate 96 0x73)) (answer (number_bytes 268 2001) (avp_bytes 1 (0x70 ∷ [])))
    ∷ blaming (assignment 1 (replicate 97 0x73)) (one 0 0 []) 128 (answer (number_bytes 268 5004) (failed (vendor_head 602 109 ++ replicate 97 0x73)))
    ∷ []

-- What is to be computed of a case: of a call what it comes to, with any buffer, by what the check of its table answers and whether the buffer is small.
record Called (req table : List ℕ) (room : ℕ) (comes : Call) (after bytes : List ℕ) : Type 0 where
  answer : Result ℕ ℕ
  checked : check_table table 0 ≡ answer
  small : Bool
  size : ltb room 36864 ≡ small
  computed : (o : List ℕ)
      → known small answer (Ok 0) (lent req table [] [] o (under_cx 3588 0)) ≡ record { call = comes; table = after; vectors = []; buffer = over bytes o }

abbrev Computes : Case → Type 0
Computes (call req table room comes after bytes) = Called req table room comes after bytes
Computes (check table answer) = check_table table 0 ≡ answer
Computes (sum b n) = sum_words b 128 ≡ n

right : (c : Case) → Computes c → Right c
right (call req table room comes after bytes) g =
    come (lent req table [] [] (replicate room 0) (under_cx 3588 0)) (sized room g.size) g.checked no_vectors (g.computed (replicate room 0))
right (check table answer) e = e
right (sum b n) e = e

abbrev All : List Case → Type 0
All [] = Unit
All (c ∷ cs) = Computes c × All cs

all_right : (cs : List Case) → All cs → Holds cs
all_right [] tt = tt
all_right (c ∷ cs) (e, es) = (right c e, all_right cs es)

-- the checks
alone_sound : check_table alone 0 ≡ Ok 0
unfolding opened alone
alone_sound = refl

zeros_bad : check_table block 0 ≡ Err 0
unfolding opened
zeros_bad = refl

unkind_bad : check_table unkind 0 ≡ Err 0
unfolding opened alone unkind
unkind_bad = refl

two_bad : check_table two 0 ≡ Err 2
unfolding opened
two_bad = refl

line_sound : check_table registered 0 ≡ Ok 1
unfolding opened registered
line_sound = refl

kept_sound : check_table (one 1 1 s) 0 ≡ Ok 1
unfolding opened
kept_sound = refl

examples : Holds cases
unfolding opened worked exactly other registered elsewhere alone unkind
examples =
    all_right cases (
      record { answer = Ok 0; checked = alone_sound; small = false; size = refl; computed = λ o. refl },
      (
        alone_sound,
        (
          record { answer = Ok 0; checked = alone_sound; small = false; size = refl; computed = λ o. refl },
          (
            record { answer = Ok 0; checked = alone_sound; small = false; size = refl; computed = λ o. refl },
            (
              record { answer = Ok 0; checked = alone_sound; small = true; size = refl; computed = λ o. refl },
              (
                refl,
                (
                  zeros_bad,
                  (
                    record { answer = Err 0; checked = zeros_bad; small = false; size = refl; computed = λ o. refl },
                    (
                      refl,
                      (
                        unkind_bad,
                        (
                          two_bad,
                          (
                            record { answer = Err 2; checked = two_bad; small = false; size = refl; computed = λ o. refl },
                            (
                              record { answer = Ok 1; checked = unregistered_sound; small = false; size = refl; computed = λ o. refl },
                              (
                                line_sound,
                                (
                                  record { answer = Ok 1; checked = line_sound; small = false; size = refl; computed = λ o. refl },
                                  (
                                    record { answer = Ok 1; checked = line_sound; small = false; size = refl; computed = λ o. refl },
                                    (
                                      record { answer = Ok 1; checked = kept_sound; small = false; size = refl; computed = λ o. refl },
                                      (
                                        record { answer = Ok 1; checked = unregistered_sound; small = false; size = refl; computed = λ o. refl },
                                        (record { answer = Ok 1; checked = unregistered_sound; small = false; size = refl; computed = λ o. refl }, tt),
                                      ),
                                    ),
                                  ),
                                ),
                              ),
                            ),
                          ),
                        ),
                      ),
                    ),
                  ),
                ),
              ),
            ),
          ),
        ),
      ),
    )
