-- The theorems of the neighbour's line at two tables that differ in everything they may differ in: for each command, a removal of several, lines of others, and
-- a call before mine. Each time both calls are answered.
use Rattle.std.specs.Prelude.{Ok}
use Rattle.octets.specs.Standard.{ℕ, false, ◌≡◌, refl, sym, ◌∙◌, ap, ◌≢◌, inl, Option, some, List, [], ◌∷◌, ◌++◌, arith, length}
use Rattle.record.specs.Fields.{public_of, private_of}
use Rattle.table.specs.Area.{table_in}
use Rattle.diameter.specs.Message.{command_of}
use Rattle.diameter.specs.Put.{All}
use Rattle.pen.specs.Bytes.{vendor_bytes, vendor_number}
use Rattle.requests.specs.Request.{under_cx}
use Rattle.calling.specs.Call.{Answer, Answered}
use Rattle.calling.specs.Lent.{Lent, lent, holding, dialect_in}
use Rattle.calling.specs.Serve.{Served, serve_table, serve}
use Rattle.calling.proofs.Areas.{serve_sound}
use Rattle.demands.specs.Frame.{first_owner, asked_in, subscription_of}
use Rattle.neighbour.specs.Seen.{records, having, records_of, publics_of, users_of, SameHaving, SameSeen, bytes_of, SameAnswer}
use Rattle.neighbour.specs.Mine.{AboutMine, OtherLines, none, stays, added, changed, Turn, turn_over, after_turns, AboutOthers}
use Rattle.neighbour.proofs.Neighbour.{neighbours_line, between_mine, other_lines, calls_before}
use Rattle.worked_examples.proofs.Computed.{known, come, roomy, no_vectors}
use Rattle.worked_examples.proofs.Sample.{request, common, room, vector, z}
use Rattle.neighbour_example.proofs.Tables.{head, line, mine_a, mine_c, mine_e, first, second, behind, profiles, others, large, here, there, uar, sar, lir}
use Rattle.neighbour_example.proofs.Tables.{removal, all, first_in, second_in, first_exact, second_exact, first_sound_lem, second_sound, card_sound}
use Rattle.neighbour_example.proofs.Tables.{large_enough, header_a, same_a, same_c, same_e, a_one, a_two, c_one, e_one, public_a}
use Rattle.neighbour_example.proofs.Tables.{public_c, public_e, private_p}

-- WHAT EACH REQUEST NAMES.
uar_publics : publics_of (here uar) ≡ (0x61 ∷ []) ∷ []
unfolding all
uar_publics = refl

uar_users : users_of (here uar) ≡ (0x70 ∷ []) ∷ []
unfolding all
uar_users = refl

sar_publics : publics_of (here sar) ≡ (0x63 ∷ []) ∷ []
unfolding all
sar_publics = refl

sar_users : users_of (here sar) ≡ []
unfolding all
sar_users = refl

lir_publics : publics_of (here lir) ≡ (0x61 ∷ []) ∷ []
unfolding all
lir_publics = refl

lir_users : users_of (here lir) ≡ []
unfolding all
lir_users = refl

removal_publics : publics_of (here removal) ≡ (0x63 ∷ []) ∷ (0x65 ∷ []) ∷ []
unfolding all
removal_publics = refl

removal_users : users_of (here removal) ≡ []
unfolding all
removal_users = refl

-- whose their records are
a_mine : private_of (mine_a 1 7 0) ≡ 0x70 ∷ []
unfolding all
a_mine = refl

c_mine : private_of (mine_c 3 7 2) ≡ 0x70 ∷ []
unfolding all
c_mine = refl

e_mine : private_of (mine_e 4 7 0) ≡ 0x70 ∷ []
unfolding all
e_mine = refl

module _ (req : List ℕ) where
  abbrev Same : List ℕ → Type 0
  Same b = SameHaving (here req) (there req) 4 6 private_of (private_of b)

  owner_a : All Same (having public_of (0x61 ∷ []) (records_of (here req) 4))
  owner_a = rw a_one (rw a_mine (private_p req), tt)

  owner_c : All Same (having public_of (0x63 ∷ []) (records_of (here req) 4))
  owner_c = rw c_one (rw c_mine (private_p req), tt)

  owner_e : All Same (having public_of (0x65 ∷ []) (records_of (here req) 4))
  owner_e = rw e_one (rw e_mine (private_p req), tt)

-- WHAT BOTH CALLS SEE IS THE SAME.
seen_uar : SameSeen (here uar) (there uar) 4 6
seen_uar =
    record {
      request = refl;
      terms = refl;
      header = header_a;
      publics = rw uar_publics (public_a uar, tt);
      users = rw uar_users (private_p uar, tt);
      owners = rw uar_publics (owner_a uar, tt);
    }

seen_sar : SameSeen (here sar) (there sar) 4 6
seen_sar =
    record {
      request = refl;
      terms = refl;
      header = header_a;
      publics = rw sar_publics (public_c sar, tt);
      users = rw sar_users tt;
      owners = rw sar_publics (owner_c sar, tt);
    }

seen_lir : SameSeen (here lir) (there lir) 4 6
seen_lir =
    record {
      request = refl;
      terms = refl;
      header = header_a;
      publics = rw lir_publics (public_a lir, tt);
      users = rw lir_users tt;
      owners = rw lir_publics (owner_a lir, tt);
    }

seen_removal : SameSeen (here removal) (there removal) 4 6
seen_removal =
    record {
      request = refl;
      terms = refl;
      header = header_a;
      publics = rw removal_publics (public_c removal, (public_e removal, tt));
      users = rw removal_users tt;
      owners = rw removal_publics (owner_c removal, (owner_e removal, tt));
    }

-- THE CALLS, computed by their lengths.
abbrev over_second : List ℕ → Lent
over_second req = lent req second others (vector 0 0x71 0x20) large (under_cx 3588 0)

abbrev told : ℕ → Answer
told n = record { length = n; place = 0 }

by_first : (req : List ℕ) (n : ℕ) → (known false (Ok 4) (Ok 0) (here req)).call ≡ Answered (told n) → (serve (here req)).call ≡ Answered (told n)
by_first req n e =
    ap (λ (t : List ℕ). (serve_table (holding (here req) t)).call) first_in
    ∙ ap (λ (y : Served). y.call) (come (here req) {y = known false (Ok 4) (Ok 0) (here req)} roomy first_exact no_vectors refl) ∙ e

by_second : (req : List ℕ) (n : ℕ) → (known false (Ok 6) (Ok 1) (over_second req)).call ≡ Answered (told n) → (serve (there req)).call ≡ Answered (told n)
by_second req n e =
    ap (λ (t : List ℕ). (serve_table (holding (there req) t)).call) second_in
    ∙ ap (λ (y : Served). y.call)
    (come (over_second req) {y = known false (Ok 6) (Ok 1) (over_second req)} large_enough second_exact card_sound refl)
    ∙ e

uar_here : (serve (here uar)).call ≡ Answered (told 152)
unfolding all
uar_here = by_first uar 152 refl

uar_there : (serve (there uar)).call ≡ Answered (told 152)
unfolding all
uar_there = by_second uar 152 refl

sar_here : (serve (here sar)).call ≡ Answered (told 144)
unfolding all
sar_here = by_first sar 144 refl

sar_there : (serve (there sar)).call ≡ Answered (told 144)
unfolding all
sar_there = by_second sar 144 refl

lir_here : (serve (here lir)).call ≡ Answered (told 132)
unfolding all
lir_here = by_first lir 132 refl

lir_there : (serve (there lir)).call ≡ Answered (told 132)
unfolding all
lir_there = by_second lir 132 refl

removal_here : (serve (here removal)).call ≡ Answered (told 116)
unfolding all
removal_here = by_first removal 116 refl

removal_there : (serve (there removal)).call ≡ Answered (told 116)
unfolding all
removal_there = by_second removal 116 refl

uar_apart : command_of uar ≢ 303
unfolding all
uar_apart e = omega arith

sar_apart : command_of sar ≢ 303
unfolding all
sar_apart e = omega arith

lir_apart : command_of lir ≢ 303
unfolding all
lir_apart e = omega arith

removal_apart : command_of removal ≢ 303
unfolding all
removal_apart e = omega arith

-- THE THEOREM at each.
met_uar : SameAnswer (serve (here uar)) (serve (there uar)) (told 152) (told 152)
met_uar = neighbours_line (here uar) (there uar) 4 6 first_sound_lem second_sound seen_uar uar_apart (told 152) (told 152) uar_here uar_there

met_sar : SameAnswer (serve (here sar)) (serve (there sar)) (told 144) (told 144)
met_sar = neighbours_line (here sar) (there sar) 4 6 first_sound_lem second_sound seen_sar sar_apart (told 144) (told 144) sar_here sar_there

met_lir : SameAnswer (serve (here lir)) (serve (there lir)) (told 132) (told 132)
met_lir = neighbours_line (here lir) (there lir) 4 6 first_sound_lem second_sound seen_lir lir_apart (told 132) (told 132) lir_here lir_there

met_removal : SameAnswer (serve (here removal)) (serve (there removal)) (told 116) (told 116)
met_removal =
    neighbours_line (here removal) (there removal) 4 6 first_sound_lem second_sound seen_removal removal_apart (told 116) (told 116) removal_here removal_there

-- IN A SUBSCRIBER'S WORDS: the UAR is about `p`; of the second table two lines were added, and one is another.
there_publics : publics_of (there uar) ≡ (0x61 ∷ []) ∷ []
unfolding all
there_publics = refl

there_users : users_of (there uar) ≡ (0x70 ∷ []) ∷ []
unfolding all
there_users = refl

a_mine_too : private_of (mine_a 2 9 3) ≡ 0x70 ∷ []
unfolding all
a_mine_too = refl

about_here : AboutMine (here uar) 4 (0x70 ∷ [])
about_here = record { publics = rw (uar_publics, a_one) ((a_mine, tt), tt); users = rw uar_users (inl refl, tt) }

about_there : AboutMine (there uar) 6 (0x70 ∷ [])
about_there = record { publics = rw (there_publics, a_two) ((a_mine_too, tt), tt); users = rw there_users (inl refl, tt) }

abbrev b_first : List ℕ
b_first = line 2 7 0x62 0x71 0 0 [] 0 0 0

abbrev b_second : List ℕ
b_second = line 3 9 0x62 0x71 2 2 z 5 1 3

abbrev ASecond : List ℕ
ASecond = line 1 9 0x41 0x72 0 1 z 0 0 1

abbrev d_second : List ℕ
d_second = line 5 9 0x64 0x71 2 4 z 5 0 0

records_first : records (table_in first) 4 ≡ mine_a 1 7 0 ∷ b_first ∷ mine_c 3 7 2 ∷ mine_e 4 7 0 ∷ []
unfolding all
records_first = refl

records_second : records (table_in (second ++ behind)) 6 ≡ ASecond ∷ mine_a 2 9 3 ∷ b_second ∷ mine_c 4 9 1 ∷ d_second ∷ mine_e 6 9 4 ∷ []
unfolding all
records_second = refl

not_mine : (name : ℕ) → name ≢ 0x70 → (b : List ℕ) → private_of b ≡ name ∷ [] → private_of b ≢ (0x70 ∷ [])
not_mine name n b e f = n (let q : name ∷ [] ≡ 0x70 ∷ [] = sym e ∙ f in cc)

b_first_other : private_of b_first ≢ (0x70 ∷ [])
unfolding all
b_first_other = not_mine 0x71 (λ e. omega arith) b_first refl

b_second_other : private_of b_second ≢ (0x70 ∷ [])
unfolding all
b_second_other = not_mine 0x71 (λ e. omega arith) b_second refl

ASecond-other : private_of ASecond ≢ (0x70 ∷ [])
unfolding all
ASecond-other = not_mine 0x72 (λ e. omega arith) ASecond refl

d_second_other : private_of d_second ≢ (0x70 ∷ [])
unfolding all
d_second_other = not_mine 0x71 (λ e. omega arith) d_second refl

lines_apart : OtherLines profiles others (0x70 ∷ []) (records_of (here uar) 4) (records_of (there uar) 6)
lines_apart =
    rw (records_first, records_second)
    (added ASecond ASecond-other
    (stays (mine_a 1 7 0) (mine_a 2 9 3) same_a
    (changed b_first b_second b_first_other b_second_other
    (stays (mine_c 3 7 2) (mine_c 4 9 1) same_c (added d_second d_second_other (stays (mine_e 4 7 0) (mine_e 6 9 4) same_e none))))))

met_other_lines : SameAnswer (serve (here uar)) (serve (there uar)) (told 152) (told 152)
met_other_lines =
    other_lines (here uar) (there uar) 4 6 first_sound_lem second_sound refl refl header_a (0x70 ∷ []) about_here about_there uar_apart (told 152) (told 152)
    uar_here uar_there lines_apart

met_between_mine : SameAnswer (serve (here uar)) (serve (there uar)) (told 152) (told 152)
met_between_mine =
    between_mine (here uar) (there uar) 4 6 first_sound_lem second_sound refl refl header_a (0x70 ∷ []) about_here about_there uar_apart (told 152) (told 152)
    uar_here uar_there (private_p uar)

-- A CALL BEFORE MINE: a SAR registers the neighbour's line `b`, and the table is another then.
unfoldable registering : List ℕ
registering = request 301 (common ++ (vendor_bytes 601 (0x62 ∷ []) ++ (vendor_bytes 602 z ++ (vendor_number 614 1 ++ vendor_number 624 1))))

abbrev turn : Turn
turn = record { request = registering; buffer = room; terms = under_cx 3588 0 }

abbrev before : Lent
before = turn_over (here uar) turn

unfoldable altered : List ℕ
altered = head 4 7 ++ (mine_a 1 7 0 ++ (line 2 7 0x62 0x71 1 0 z 0 0 0 ++ (mine_c 3 7 2 ++ mine_e 4 7 0)))

asks_b : subscription_of (dialect_in before) registering (table_in first) 4 ≡ some (0x71 ∷ [])
unfolding all registering subscription_of asked_in first_owner
asks_b = refl

not_mine_asked : (o : Option (List ℕ)) (name : ℕ) → name ≢ 0x70 → o ≡ some (name ∷ []) → o ≢ some (0x70 ∷ [])
not_mine_asked o name n e f = n (let q : some (name ∷ []) ≡ some (0x70 ∷ []) = sym e ∙ f in cc)

about_b : AboutOthers (0x70 ∷ []) 4 (here uar) (turn ∷ [])
about_b = (not_mine_asked (subscription_of (dialect_in before) registering (table_in first) 4) 0x71 (λ e. omega arith) asks_b, tt)

left_by_lem : serve before ≡ known false (Ok 4) (Ok 0) before
left_by_lem = serve_sound before 4 first_exact ∙ come before {y = known false (Ok 4) (Ok 0) before} roomy first_exact no_vectors refl

left_table : (serve before).table ≡ altered
unfolding all registering altered
left_table = ap (λ (y : Served). y.table) left_by_lem

met_calls_before : ((serve (after_turns (here uar) (turn ∷ []))).call ≡ Answered (told 152))
    × (bytes_of (serve (after_turns (here uar) (turn ∷ []))) (told 152) ≡ bytes_of (serve (here uar)) (told 152))
met_calls_before = calls_before (here uar) 4 first_sound_lem (0x70 ∷ []) about_here (turn ∷ []) about_b uar_apart (told 152) uar_here
