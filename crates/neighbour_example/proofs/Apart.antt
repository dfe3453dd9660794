-- No hypothesis of the neighbour's line is idle but two, that the tables are sound, which follows, and the edition, which no answer shows: for each of the
-- others a pair of calls that have the rest in common, both answered, and not with the same bytes.
use Rattle.std.specs.Prelude.{Ok}
use Rattle.octets.specs.Standard.{ℕ, true, false, ◌≡◌, refl, sym, ◌∙◌, ap, ◌≢◌, List, [], ◌∷◌, ◌++◌, arith, length, get_or, take, set}
use Rattle.record.specs.Fields.{public_of, private_of}
use Rattle.blocks.specs.Blocks.{block_of}
use Rattle.table.specs.Area.{table_in}
use Rattle.table.specs.Check.{check_table}
use Rattle.vectors.specs.VectorFile.{check_vectors}
use Rattle.diameter.specs.Put.{All}
use Rattle.pen.specs.Bytes.{avp_bytes, vendor_bytes, number_bytes, vendor_number}
use Rattle.reading.specs.declared.Terms.{Terms}
use Rattle.requests.specs.Request.{under_cx}
use Rattle.calling.specs.Call.{Answer, Answered}
use Rattle.calling.specs.Lent.{Lent, lent}
use Rattle.calling.specs.Serve.{Served, check_of, serve}
use Rattle.calling.proofs.Areas.{serve_sound}
use Rattle.seen_alike.specs.Shown.{Each}
use Rattle.neighbour.specs.Seen.{header_apart, SameApart, SameLine, records, having, records_of, publics_of, users_of, SameHaving, SameSeen, bytes_of, SameAnswer}
use Rattle.worked_examples.proofs.Computed.{known, come, roomy, no_vectors, registered_sound}
use Rattle.worked_examples.proofs.Sample.{checked, header, person, subscriber, request, common, authentication, vector, room, one, s}
use Rattle.neighbour_example.proofs.Tables.{alike_apart, apart_says, lir, all}

-- The hypotheses, one by one.
abbrev Headers : Lent → Lent → Type 0
Headers x y = SameApart header_apart (block_of (table_in x.table) 0) (block_of (table_in y.table) 0)

abbrev Publics : Lent → Lent → ℕ → ℕ → Type 0
Publics x y count many = All (SameHaving x y count many public_of) (publics_of x)

abbrev Users : Lent → Lent → ℕ → ℕ → Type 0
Users x y count many = All (SameHaving x y count many private_of) (users_of x)

abbrev Owners : Lent → Lent → ℕ → ℕ → Type 0
Owners x y count many =
    All (λ (name : List ℕ). All (λ (b : List ℕ). SameHaving x y count many private_of (private_of b)) (having public_of name (records_of x count))) (publics_of x)

-- over one table and one profile file all of them hold
same_line : (file b : List ℕ) → SameLine file file b b
same_line file b = record { block = record { bytes = λ i h e. refl }; profile = refl }

same_lines : (file : List ℕ) (bs : List (List ℕ)) → Each (SameLine file file) bs bs
same_lines file [] = tt
same_lines file (b ∷ bs) = (same_line file b, same_lines file bs)

all_of : {X : Type 0} (P : X → Type 0) → ((a : X) → P a) → (xs : List X) → All P xs
all_of P f [] = tt
all_of P f (a ∷ xs) = (f a, all_of P f xs)

module _ (x y : Lent) (count : ℕ) (lines : (field : List ℕ → List ℕ) (name : List ℕ) → SameHaving x y count count field name) where
  publics_of_lem : Publics x y count count
  publics_of_lem = all_of (SameHaving x y count count public_of) (lines public_of) (publics_of x)

  users_of_lem : Users x y count count
  users_of_lem = all_of (SameHaving x y count count private_of) (lines private_of) (users_of x)

  owners_of : Owners x y count count
  owners_of =
      all_of (λ (name : List ℕ). All (λ (b : List ℕ). SameHaving x y count count private_of (private_of b)) (having public_of name (records_of x count)))
      (λ name. all_of (λ (b : List ℕ). SameHaving x y count count private_of (private_of b)) (λ b. lines private_of (private_of b))
      (having public_of name (records_of x count)))
      (publics_of x)

module _ (req other t file v w o : List ℕ) (terms elsewhere : Terms) (count : ℕ) where
  abbrev one_here : Lent
  one_here = lent req t file v o terms

  abbrev one_there : Lent
  one_there = lent other t file w o elsewhere

  one_header : Headers one_here one_there
  one_header = record { bytes = λ i h e. refl }

  one_table : (field : List ℕ → List ℕ) (name : List ℕ) → SameHaving one_here one_there count count field name
  one_table field name = same_lines file (having field name (records (table_in t) count))

-- a call over an exact table, computed
abbrev told : ℕ → Answer
told n = record { length = n; place = 0 }

by : (x : Lent) (count many : ℕ) → check_of x ≡ Ok count → check_vectors x.vectors ≡ Ok many → x.buffer ≡ room
    → serve x ≡ known false (Ok count) (Ok many) x
by x count many e f o =
    serve_sound x count e ∙ come x {y = known false (Ok count) (Ok many) x} (rw o roomy) e f refl

-- answers of other lengths, or with another byte
long : (r q : Served) (m n : ℕ) → m ≢ n → SameAnswer r q (told m) (told n) → ⊥
long r q m n h e = h (ap (λ (a : Answer). a.length) e.told)

byte : (r q : Served) (m n i : ℕ) {j k : ℕ} → get_or (bytes_of r (told m)) i 0 ≡ j → get_or (bytes_of q (told n)) i 0 ≡ k → j ≢ k
    → SameAnswer r q (told m) (told n) → ⊥
byte r q m n i e f h a = h (sym e ∙ ap (λ (l : List ℕ). get_or l i 0) a.bytes ∙ f)

-- THE REQUEST: a LIR for `a`, which is registered at `s`, and one for `b`, which is in no record.
unfoldable unknown : List ℕ
unknown = request 302 (common ++ vendor_bytes 601 (0x62 ∷ []))

abbrev plain : Lent
plain = lent lir (one 0 1 s) [] [] room (under_cx 3588 0)

abbrev asking_b : Lent
asking_b = lent unknown (one 0 1 s) [] [] room (under_cx 3588 0)

plain_call : (serve plain).call ≡ Answered (told 132)
unfolding all
plain_call = ap (λ (y : Served). y.call) (by plain 1 0 registered_sound no_vectors refl)

asking_b_call : (serve asking_b).call ≡ Answered (told 136)
unfolding all unknown
asking_b_call = ap (λ (y : Served). y.call) (by asking_b 1 0 registered_sound no_vectors refl)

request_rest : (plain.terms ≡ asking_b.terms) × Headers plain asking_b × Publics plain asking_b 1 1 × Users plain asking_b 1 1 × Owners plain asking_b 1 1
request_rest =
    let l = one_table lir unknown (one 0 1 s) [] [] [] room (under_cx 3588 0) (under_cx 3588 0) 1 in (
      refl,
      one_header lir unknown (one 0 1 s) [] [] [] room (under_cx 3588 0) (under_cx 3588 0) 1,
      publics_of_lem plain asking_b 1 l,
      users_of_lem plain asking_b 1 l,
      owners_of plain asking_b 1 l,
    )

request_apart : SameAnswer (serve plain) (serve asking_b) (told 132) (told 136) → ⊥
request_apart = long (serve plain) (serve asking_b) 132 136 (λ e. omega arith)

-- THE TERMS: another application, of which 302 is no command.
abbrev elsewhere : Terms
elsewhere = record { application = 7; peer = 3588; features = 0 }

abbrev foreign : Lent
foreign = lent lir (one 0 1 s) [] [] room elsewhere

foreign_call : (serve foreign).call ≡ Answered (told 116)
unfolding all
foreign_call = ap (λ (y : Served). y.call) (by foreign 1 0 registered_sound no_vectors refl)

terms_rest : (plain.request ≡ foreign.request) × Headers plain foreign × Publics plain foreign 1 1 × Users plain foreign 1 1 × Owners plain foreign 1 1
terms_rest =
    let l = one_table lir lir (one 0 1 s) [] [] [] room (under_cx 3588 0) elsewhere 1 in (
      refl,
      one_header lir lir (one 0 1 s) [] [] [] room (under_cx 3588 0) elsewhere 1,
      publics_of_lem plain foreign 1 l,
      users_of_lem plain foreign 1 l,
      owners_of plain foreign 1 l,
    )

terms_apart : SameAnswer (serve plain) (serve foreign) (told 132) (told 116) → ⊥
terms_apart = long (serve plain) (serve foreign) 132 116 (λ e. omega arith)

-- .. and another peer: two Vendor-Ids, which RFC 3588 allows and RFC 6733 does not.
unfoldable doubled : List ℕ
doubled =
    let ids = avp_bytes 260 (number_bytes 266 10415 ++ (number_bytes 266 10415 ++ number_bytes 258 16777216)) in
    let base = number_bytes 277 1 ++ (avp_bytes 264 (0x63 ∷ []) ++ (avp_bytes 296 (0x72 ∷ []) ++ avp_bytes 283 (0x72 ∷ []))) in
    request 302 (avp_bytes 263 (0x73 ∷ []) ++ (ids ++ (base ++ vendor_bytes 601 (0x61 ∷ []))))

abbrev older : Lent
older = lent doubled (one 0 1 s) [] [] room (under_cx 3588 0)

abbrev newer : Lent
newer = lent doubled (one 0 1 s) [] [] room (under_cx 6733 0)

older_call : (serve older).call ≡ Answered (told 132)
unfolding all doubled
older_call = ap (λ (y : Served). y.call) (by older 1 0 registered_sound no_vectors refl)

abbrev blamed : Answer
blamed = record { length = 168; place = 32 }

newer_call : (serve newer).call ≡ Answered blamed
unfolding all doubled
newer_call = ap (λ (y : Served). y.call) (by newer 1 0 registered_sound no_vectors refl)

peer_rest : (older.request ≡ newer.request) × Headers older newer × Publics older newer 1 1 × Users older newer 1 1 × Owners older newer 1 1
peer_rest =
    let l = one_table doubled doubled (one 0 1 s) [] [] [] room (under_cx 3588 0) (under_cx 6733 0) 1 in (
      refl,
      one_header doubled doubled (one 0 1 s) [] [] [] room (under_cx 3588 0) (under_cx 6733 0) 1,
      publics_of_lem older newer 1 l,
      users_of_lem older newer 1 l,
      owners_of older newer 1 l,
    )

peer_apart : SameAnswer (serve older) (serve newer) (told 132) blamed → ⊥
peer_apart e = let n : ◌≡◌ {A = ℕ} 132 168 = ap (λ (a : Answer). a.length) e.told in omega arith

-- THE HEADER: the host is `hss.`, four bytes long.
unfoldable renamed : List ℕ
renamed = checked (take 508 (set (set (set (set (set (header 1 0) 13 4) 20 0) 21 0) 22 0) 23 0)) ++ person 1 0x61 0x70 1 s

abbrev hosted : Lent
hosted = lent lir renamed [] [] room (under_cx 3588 0)

renamed_sound : check_table renamed 0 ≡ Ok 1
unfolding all renamed
renamed_sound = refl

hosted_call : (serve hosted).call ≡ Answered (told 128)
unfolding all renamed
hosted_call = ap (λ (y : Served). y.call) (by hosted 1 0 renamed_sound no_vectors refl)

renamed_records : records (table_in renamed) 1 ≡ records (table_in (one 0 1 s)) 1
unfolding all renamed
renamed_records = refl

hosted_lines : (field : List ℕ → List ℕ) (name : List ℕ) → SameHaving plain hosted 1 1 field name
hosted_lines field name = rw renamed_records (same_lines [] (having field name (records (table_in (one 0 1 s)) 1)))

header_rest : (plain.request ≡ hosted.request) × (plain.terms ≡ hosted.terms) × Publics plain hosted 1 1 × Users plain hosted 1 1 × Owners plain hosted 1 1
header_rest = (refl, refl, publics_of_lem plain hosted 1 hosted_lines, users_of_lem plain hosted 1 hosted_lines, owners_of plain hosted 1 hosted_lines)

header_apart_lem : SameAnswer (serve plain) (serve hosted) (told 132) (told 128) → ⊥
header_apart_lem = long (serve plain) (serve hosted) 132 128 (λ e. omega arith)

-- A PUBLIC IDENTITY of the request: `a` is in no record of the one table.
abbrev empty : Lent
empty = lent lir (header 0 0) [] [] room (under_cx 3588 0)

empty_sound : check_table (header 0 0) 0 ≡ Ok 0
unfolding all
empty_sound = refl

empty_call : (serve empty).call ≡ Answered (told 136)
unfolding all
empty_call = ap (λ (y : Served). y.call) (by empty 0 0 empty_sound no_vectors refl)

empty_heads : alike_apart header_apart (block_of (table_in (header 0 0)) 0) (block_of (table_in (one 0 1 s)) 0) ≡ true
unfolding all
empty_heads = refl

empty_publics : publics_of empty ≡ (0x61 ∷ []) ∷ []
unfolding all
empty_publics = refl

empty_users : users_of empty ≡ []
unfolding all
empty_users = refl

empty_none : having public_of (0x61 ∷ []) (records (table_in (header 0 0)) 0) ≡ []
unfolding all
empty_none = refl

publics_rest : (empty.request ≡ plain.request) × (empty.terms ≡ plain.terms) × Headers empty plain × Users empty plain 0 1 × Owners empty plain 0 1
publics_rest = (refl, refl, apart_says header_apart _ _ empty_heads, rw empty_users tt, rw (empty_publics, empty_none) (tt, tt))

publics_apart : SameAnswer (serve empty) (serve plain) (told 136) (told 132) → ⊥
publics_apart = long (serve empty) (serve plain) 136 132 (λ e. omega arith)

-- THE USER-NAME: a UAR for `a` with the User-Name `q`, which is in no record of the one table, and in the other in that of `b`: X5001 and X5002.
unfoldable unmatched : List ℕ
unmatched = request 300 (common ++ (avp_bytes 1 (0x71 ∷ []) ++ (vendor_bytes 601 (0x61 ∷ []) ++ (vendor_bytes 600 (0x76 ∷ []) ++ vendor_number 623 1))))

unfoldable pair : List ℕ
pair = header 2 0 ++ (person 1 0x61 0x70 1 s ++ person 2 0x62 0x71 0 [])

abbrev without_q : Lent
without_q = lent unmatched (one 0 1 s) [] [] room (under_cx 3588 0)

abbrev with_q : Lent
with_q = lent unmatched pair [] [] room (under_cx 3588 0)

pair_sound : check_table pair 0 ≡ Ok 2
unfolding all pair
pair_sound = refl

without_call : (serve without_q).call ≡ Answered (told 136)
unfolding all unmatched
without_call = ap (λ (y : Served). y.call) (by without_q 1 0 registered_sound no_vectors refl)

with_call : (serve with_q).call ≡ Answered (told 136)
unfolding all unmatched pair
with_call = ap (λ (y : Served). y.call) (by with_q 2 0 pair_sound no_vectors refl)

without_byte : get_or (bytes_of (serve without_q) (told 136)) 95 0 ≡ 0x89
unfolding all unmatched
without_byte = ap (λ (y : Served). get_or (bytes_of y (told 136)) 95 0) (by without_q 1 0 registered_sound no_vectors refl)

with_byte : get_or (bytes_of (serve with_q) (told 136)) 95 0 ≡ 0x8A
unfolding all unmatched pair
with_byte = ap (λ (y : Served). get_or (bytes_of y (told 136)) 95 0) (by with_q 2 0 pair_sound no_vectors refl)

pair_heads : alike_apart header_apart (block_of (table_in (one 0 1 s)) 0) (block_of (table_in pair) 0) ≡ true
unfolding all pair
pair_heads = refl

unmatched_publics : publics_of without_q ≡ (0x61 ∷ []) ∷ []
unfolding all unmatched
unmatched_publics = refl

one_a : having public_of (0x61 ∷ []) (records (table_in (one 0 1 s)) 1) ≡ person 1 0x61 0x70 1 s ∷ []
unfolding all
one_a = refl

pair_a : having public_of (0x61 ∷ []) (records (table_in pair) 2) ≡ person 1 0x61 0x70 1 s ∷ []
unfolding all pair
pair_a = refl

one_p : having private_of (0x70 ∷ []) (records (table_in (one 0 1 s)) 1) ≡ person 1 0x61 0x70 1 s ∷ []
unfolding all
one_p = refl

pair_p : having private_of (0x70 ∷ []) (records (table_in pair) 2) ≡ person 1 0x61 0x70 1 s ∷ []
unfolding all pair
pair_p = refl

a_owner : private_of (person 1 0x61 0x70 1 s) ≡ 0x70 ∷ []
unfolding all
a_owner = refl

users_rest : (without_q.request ≡ with_q.request) × (without_q.terms ≡ with_q.terms) × Headers without_q with_q × Publics without_q with_q 1 2
    × Owners without_q with_q 1 2
users_rest = (
  refl,
  refl,
  apart_says header_apart _ _ pair_heads,
  rw (unmatched_publics, one_a, pair_a) ((same_line [] (person 1 0x61 0x70 1 s), tt), tt),
  rw (unmatched_publics, one_a, a_owner, one_p, pair_p) (((same_line [] (person 1 0x61 0x70 1 s), tt), tt), tt),
)

users_apart : SameAnswer (serve without_q) (serve with_q) (told 136) (told 136) → ⊥
users_apart = byte (serve without_q) (serve with_q) 136 136 95 without_byte with_byte (λ e. omega arith)

-- THE OWNER of a record: a LIR for `a`, which is not registered and has unregistered services; in the one table `p` has a server name in the record of `c`.
unfoldable alone : List ℕ
alone = header 1 0 ++ subscriber 1 0x61 0x70 0 4 []

unfoldable served : List ℕ
served = header 2 0 ++ (subscriber 1 0x61 0x70 0 4 [] ++ person 2 0x63 0x70 1 s)

abbrev unserved_lent : Lent
unserved_lent = lent lir alone [] [] room (under_cx 3588 0)

abbrev served_lent : Lent
served_lent = lent lir served [] [] room (under_cx 3588 0)

alone_sound : check_table alone 0 ≡ Ok 1
unfolding all alone
alone_sound = refl

served_sound : check_table served 0 ≡ Ok 2
unfolding all served
served_sound = refl

unserved_call : (serve unserved_lent).call ≡ Answered (told 136)
unfolding all alone
unserved_call = ap (λ (y : Served). y.call) (by unserved_lent 1 0 alone_sound no_vectors refl)

served_call : (serve served_lent).call ≡ Answered (told 132)
unfolding all served
served_call = ap (λ (y : Served). y.call) (by served_lent 2 0 served_sound no_vectors refl)

served_heads : alike_apart header_apart (block_of (table_in alone) 0) (block_of (table_in served) 0) ≡ true
unfolding all alone served
served_heads = refl

served_publics : publics_of unserved_lent ≡ (0x61 ∷ []) ∷ []
unfolding all
served_publics = refl

served_users : users_of unserved_lent ≡ []
unfolding all
served_users = refl

alone_a : having public_of (0x61 ∷ []) (records (table_in alone) 1) ≡ subscriber 1 0x61 0x70 0 4 [] ∷ []
unfolding all alone
alone_a = refl

served_a : having public_of (0x61 ∷ []) (records (table_in served) 2) ≡ subscriber 1 0x61 0x70 0 4 [] ∷ []
unfolding all served
served_a = refl

owners_rest : (unserved_lent.request ≡ served_lent.request) × (unserved_lent.terms ≡ served_lent.terms) × Headers unserved_lent served_lent
    × Publics unserved_lent served_lent 1 2 × Users unserved_lent served_lent 1 2
owners_rest = (
  refl,
  refl,
  apart_says header_apart _ _ served_heads,
  rw (served_publics, alone_a, served_a) ((same_line [] (subscriber 1 0x61 0x70 0 4 []), tt), tt),
  rw served_users tt,
)

owners_apart : SameAnswer (serve unserved_lent) (serve served_lent) (told 136) (told 132) → ⊥
owners_apart = long (serve unserved_lent) (serve served_lent) 136 132 (λ e. omega arith)

-- THE PROFILE BYTES: one table beside two profile files, and a SAR that asks for user data.
unfoldable profiled : List ℕ
profiled = header 1 0 ++ checked (take 508 (set (person 1 0x61 0x70 1 s) 405 1))

unfoldable wanting : List ℕ
wanting = request 301 (common ++ (vendor_bytes 601 (0x61 ∷ []) ++ (vendor_bytes 602 s ++ (vendor_number 614 1 ++ vendor_number 624 0))))

abbrev profile_one : Lent
profile_one = lent wanting profiled (1 ∷ []) [] room (under_cx 3588 0)

abbrev profile_two : Lent
profile_two = lent wanting profiled (2 ∷ []) [] room (under_cx 3588 0)

profiled_sound : check_table profiled 1 ≡ Ok 1
unfolding all profiled
profiled_sound = refl

profile_one_byte : get_or (bytes_of (serve profile_one) (told 144)) 140 0 ≡ 1
unfolding all profiled wanting
profile_one_byte = ap (λ (y : Served). get_or (bytes_of y (told 144)) 140 0) (by profile_one 1 0 profiled_sound no_vectors refl)

profile_two_byte : get_or (bytes_of (serve profile_two) (told 144)) 140 0 ≡ 2
unfolding all profiled wanting
profile_two_byte = ap (λ (y : Served). get_or (bytes_of y (told 144)) 140 0) (by profile_two 1 0 profiled_sound no_vectors refl)

profile_one_call : (serve profile_one).call ≡ Answered (told 144)
unfolding all profiled wanting
profile_one_call = ap (λ (y : Served). y.call) (by profile_one 1 0 profiled_sound no_vectors refl)

profile_two_call : (serve profile_two).call ≡ Answered (told 144)
unfolding all profiled wanting
profile_two_call = ap (λ (y : Served). y.call) (by profile_two 1 0 profiled_sound no_vectors refl)

-- all bytes of the tables are the same
profile_rest : (profile_one.request ≡ profile_two.request) × (profile_one.terms ≡ profile_two.terms) × (profile_one.table ≡ profile_two.table)
profile_rest = (refl, refl, refl)

profile_apart : SameAnswer (serve profile_one) (serve profile_two) (told 144) (told 144) → ⊥
profile_apart = byte (serve profile_one) (serve profile_two) 144 144 140 profile_one_byte profile_two_byte (λ e. omega arith)

-- THE COMMAND: an authentication request reads the vectors besides.
abbrev cardless : Lent
cardless = lent (authentication 1 s) (one 0 1 s) [] [] room (under_cx 3588 0)

abbrev carded : Lent
carded = lent (authentication 1 s) (one 0 1 s) [] (vector 0 0x70 0x20) room (under_cx 3588 0)

card_sound : check_vectors (vector 0 0x70 0x20) ≡ Ok 1
unfolding all
card_sound = refl

cardless_call : (serve cardless).call ≡ Answered (told 116)
unfolding all
cardless_call = ap (λ (y : Served). y.call) (by cardless 1 0 registered_sound no_vectors refl)

carded_call : (serve carded).call ≡ Answered (told 336)
unfolding all
carded_call = ap (λ (y : Served). y.call) (by carded 1 1 registered_sound card_sound refl)

command_rest : SameSeen cardless carded 1 1
command_rest =
    let l = one_table (authentication 1 s) (authentication 1 s) (one 0 1 s) [] [] (vector 0 0x70 0x20) room (under_cx 3588 0) (under_cx 3588 0) 1 in
    record {
      request = refl;
      terms = refl;
      header = one_header (authentication 1 s) (authentication 1 s) (one 0 1 s) [] [] (vector 0 0x70 0x20) room (under_cx 3588 0) (under_cx 3588 0) 1;
      publics = publics_of_lem cardless carded 1 l;
      users = users_of_lem cardless carded 1 l;
      owners = owners_of cardless carded 1 l;
    }

command_apart : SameAnswer (serve cardless) (serve carded) (told 116) (told 336) → ⊥
command_apart = long (serve cardless) (serve carded) 116 336 (λ e. omega arith)
