-- Two tables that differ in everything that they may differ in, and the requests that are asked of both.
use Rattle.std.specs.Prelude.{Ok}
use Rattle.octets.specs.Standard.{ℕ, Bool, true, false, ◌||◌, ◌≡◌, refl, ap, List, [], ◌∷◌, ◌++◌, length, get_or, take, set, replicate, eqb}
use Rattle.octets.specs.Standard.{ltb, eqb-true, length-replicate}
use Rattle.octets.specs.All.{all_below}
use Rattle.octets.proofs.All.{all_at}
use Rattle.record.specs.Fields.{public_of, private_of, profile_of}
use Rattle.blocks.specs.Blocks.{block_of}
use Rattle.table.specs.Area.{size_in, table_in, check_area}
use Rattle.table.specs.Check.{check_table}
use Rattle.vectors.specs.VectorFile.{check_vectors}
use Rattle.pen.specs.Bytes.{avp_bytes, vendor_bytes, vendor_number}
use Rattle.requests.specs.Request.{under_cx}
use Rattle.calling.specs.Lent.{Lent, lent}
use Rattle.refusals.specs.Early.{small_buffer}
use Rattle.neighbour.specs.Seen.{header_apart, record_apart, SameApart, SameLine, records, having, SameHaving}
use Rattle.worked_examples.proofs.Sample.{checked, header, subscriber, request, common, room, vector, s, z, opened}

-- whether two blocks are the same apart from some bytes, computed
abbrev pub alike_apart : (ℕ → Bool) → List ℕ → List ℕ → Bool
alike_apart apart b c = all_below (λ (i : ℕ). apart i || eqb (get_or b i 0) (get_or c i 0)) 512

pub apart_says : (apart : ℕ → Bool) (b c : List ℕ) → alike_apart apart b c ≡ true → SameApart apart b c
apart_says apart b c e = record { bytes = λ i h f. go i f (all_at (λ (i : ℕ). apart i || eqb (get_or b i 0) (get_or c i 0)) 512 e i h) }
  where
    go : (i : ℕ) → apart i ≡ false → (apart i || eqb (get_or b i 0) (get_or c i 0)) ≡ true → get_or b i 0 ≡ get_or c i 0
    go i f g = eqb-true (get_or b i 0) (get_or c i 0) (rw f at g)

-- a header of the second edition that names the network `v`, with an issue number
unfoldable pub head : ℕ → ℕ → List ℕ
head count issue = checked (take 508 (set (set (set (set (set (header count 0) 1 2) 15 1) 144 1) 145 0x76) 411 issue))

-- a line that may roam there: its block and issue number, its identities, state, bits, server name and set number, its profile's start and length
unfoldable pub line : ℕ → ℕ → ℕ → ℕ → ℕ → ℕ → List ℕ → ℕ → ℕ → ℕ → List ℕ
line k issue public private state bits server number start size =
    checked (take 508 (set (set (set (set (set (set (subscriber k public private state bits server) 1 2) 10 1) 403 start) 405 size) 407 number) 411 issue))

-- MINE, of the private identity `p`: `a` with unregistered services, not registered; `c` and `e` of one set, registered at `s`. By block and issue number and
-- where the profile begins.
unfoldable pub mine_a : ℕ → ℕ → ℕ → List ℕ
mine_a k issue start = line k issue 0x61 0x70 0 4 [] 0 start 2

unfoldable pub mine_c : ℕ → ℕ → ℕ → List ℕ
mine_c k issue start = line k issue 0x63 0x70 1 0 s 1 start 2

unfoldable pub mine_e : ℕ → ℕ → ℕ → List ℕ
mine_e k issue start = line k issue 0x65 0x70 1 0 s 1 start 0

-- one table has a neighbour's line `b` between mine; the other has two lines more, `b` barred, in a set and in state 2, and something behind the table
unfoldable pub first : List ℕ
first = head 4 7 ++ (mine_a 1 7 0 ++ (line 2 7 0x62 0x71 0 0 [] 0 0 0 ++ (mine_c 3 7 2 ++ mine_e 4 7 0)))

unfoldable pub second : List ℕ
second =
    head 6 9
    ++ (line 1 9 0x41 0x72 0 1 z 0 0 1
    ++ (mine_a 2 9 3 ++ (line 3 9 0x62 0x71 2 2 z 5 1 3 ++ (mine_c 4 9 1 ++ (line 5 9 0x64 0x71 2 4 z 5 0 0 ++ mine_e 6 9 4)))))

unfoldable pub behind : List ℕ
behind = 1 ∷ 2 ∷ 3 ∷ []

-- their profile files; the second has a vector and a larger buffer, not of zeros
unfoldable pub profiles : List ℕ
profiles = 1 ∷ 2 ∷ 3 ∷ 4 ∷ []

unfoldable pub others : List ℕ
others = 9 ∷ 3 ∷ 4 ∷ 1 ∷ 2 ∷ []

unfoldable pub large : List ℕ
large = replicate 36865 7

abbrev pub here : List ℕ → Lent
here req = lent req first profiles [] room (under_cx 3588 0)

abbrev pub there : List ℕ → Lent
there req = lent req (second ++ behind) others (vector 0 0x71 0x20) large (under_cx 3588 0)

-- a UAR of type 0 for `a`; a SAR of type 1 for `c` that asks for user data; a LIR for `a`; a removal of `c` and `e`
unfoldable pub uar : List ℕ
uar = request 300 (common ++ (avp_bytes 1 (0x70 ∷ []) ++ (vendor_bytes 601 (0x61 ∷ []) ++ (vendor_bytes 600 (0x76 ∷ []) ++ vendor_number 623 0))))

unfoldable pub sar : List ℕ
sar = request 301 (common ++ (vendor_bytes 601 (0x63 ∷ []) ++ (vendor_bytes 602 s ++ (vendor_number 614 1 ++ vendor_number 624 0))))

unfoldable pub lir : List ℕ
lir = request 302 (common ++ vendor_bytes 601 (0x61 ∷ []))

unfoldable pub removal : List ℕ
removal =
    request 301 (common ++ (vendor_bytes 601 (0x63 ∷ []) ++ (vendor_bytes 601 (0x65 ∷ []) ++ (vendor_bytes 602 s ++ (vendor_number 614 5 ++ vendor_number 624 1)))))

-- all that a case here opens
unfoldable pub all : ℕ
unfolding opened head line mine_a mine_c mine_e first second behind profiles others uar sar lir removal table_in size_in records having
all = 0

-- THE FILES, checked; what is behind the table is not looked at.
pub first_in : table_in first ≡ first
unfolding all
first_in = refl

pub second_in : table_in (second ++ behind) ≡ second
unfolding all
second_in = refl

pub first_exact : check_table first (length profiles) ≡ Ok 4
unfolding all
first_exact = refl

pub second_exact : check_table second (length others) ≡ Ok 6
unfolding all
second_exact = refl

pub first_sound_lem : check_area first (length profiles) ≡ Ok 4
unfolding check_area
first_sound_lem = rw first_in first_exact

pub second_sound : check_area (second ++ behind) (length others) ≡ Ok 6
unfolding check_area
second_sound = rw second_in second_exact

pub card_sound : check_vectors (vector 0 0x71 0x20) ≡ Ok 1
unfolding all
card_sound = refl

pub large_enough : small_buffer large ≡ false
unfolding large
large_enough = ap (λ (k : ℕ). ltb k 36864) (length-replicate {A = ℕ} 36865 7)

-- WHAT THEY HAVE IN COMMON: the headers, and my three lines.
heads : alike_apart header_apart (head 4 7) (head 6 9) ≡ true
unfolding all
heads = refl

lines_a : alike_apart record_apart (mine_a 1 7 0) (mine_a 2 9 3) ≡ true
unfolding all
lines_a = refl

lines_c : alike_apart record_apart (mine_c 3 7 2) (mine_c 4 9 1) ≡ true
unfolding all
lines_c = refl

lines_e : alike_apart record_apart (mine_e 4 7 0) (mine_e 6 9 4) ≡ true
unfolding all
lines_e = refl

pub header_a : SameApart header_apart (block_of (table_in first) 0) (block_of (table_in (second ++ behind)) 0)
unfolding all
header_a = apart_says header_apart (head 4 7) (head 6 9) heads

profile_a : profile_of (mine_a 1 7 0) profiles ≡ profile_of (mine_a 2 9 3) others
unfolding all
profile_a = refl

profile_c : profile_of (mine_c 3 7 2) profiles ≡ profile_of (mine_c 4 9 1) others
unfolding all
profile_c = refl

profile_e : profile_of (mine_e 4 7 0) profiles ≡ profile_of (mine_e 6 9 4) others
unfolding all
profile_e = refl

pub same_a : SameLine profiles others (mine_a 1 7 0) (mine_a 2 9 3)
same_a = record { block = apart_says record_apart (mine_a 1 7 0) (mine_a 2 9 3) lines_a; profile = profile_a }

pub same_c : SameLine profiles others (mine_c 3 7 2) (mine_c 4 9 1)
same_c = record { block = apart_says record_apart (mine_c 3 7 2) (mine_c 4 9 1) lines_c; profile = profile_c }

pub same_e : SameLine profiles others (mine_e 4 7 0) (mine_e 6 9 4)
same_e = record { block = apart_says record_apart (mine_e 4 7 0) (mine_e 6 9 4) lines_e; profile = profile_e }

-- the records of each identity in both
abbrev pub One : (List ℕ → List ℕ) → ℕ → List (List ℕ)
One field name = having field (name ∷ []) (records (table_in first) 4)

abbrev pub Two : (List ℕ → List ℕ) → ℕ → List (List ℕ)
Two field name = having field (name ∷ []) (records (table_in (second ++ behind)) 6)

pub a_one : One public_of 0x61 ≡ mine_a 1 7 0 ∷ []
unfolding all
a_one = refl

pub a_two : Two public_of 0x61 ≡ mine_a 2 9 3 ∷ []
unfolding all
a_two = refl

pub c_one : One public_of 0x63 ≡ mine_c 3 7 2 ∷ []
unfolding all
c_one = refl

pub c_two : Two public_of 0x63 ≡ mine_c 4 9 1 ∷ []
unfolding all
c_two = refl

pub e_one : One public_of 0x65 ≡ mine_e 4 7 0 ∷ []
unfolding all
e_one = refl

pub e_two : Two public_of 0x65 ≡ mine_e 6 9 4 ∷ []
unfolding all
e_two = refl

p_one : One private_of 0x70 ≡ mine_a 1 7 0 ∷ mine_c 3 7 2 ∷ mine_e 4 7 0 ∷ []
unfolding all
p_one = refl

p_two : Two private_of 0x70 ≡ mine_a 2 9 3 ∷ mine_c 4 9 1 ∷ mine_e 6 9 4 ∷ []
unfolding all
p_two = refl

module _ (req : List ℕ) where
  pub public_a : SameHaving (here req) (there req) 4 6 public_of (0x61 ∷ [])
  public_a = rw (a_one, a_two) (same_a, tt)

  pub public_c : SameHaving (here req) (there req) 4 6 public_of (0x63 ∷ [])
  public_c = rw (c_one, c_two) (same_c, tt)

  pub public_e : SameHaving (here req) (there req) 4 6 public_of (0x65 ∷ [])
  public_e = rw (e_one, e_two) (same_e, tt)

  pub private_p : SameHaving (here req) (there req) 4 6 private_of (0x70 ∷ [])
  private_p = rw (p_one, p_two) (same_a, (same_c, (same_e, tt)))
