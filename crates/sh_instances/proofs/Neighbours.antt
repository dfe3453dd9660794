-- The neighbour's line, of the Sh server: two tables that differ in all they may differ in, and behind one of them a whole stale record and a last piece.
use Rattle.std.specs.Prelude.{Ok, Some}
use Rattle.octets.specs.Standard.{ℕ, ◌≤◌, false, ◌≡◌, refl, sym, ap, ◌∙◌, List, [], ◌∷◌, ◌++◌, length, take, length-replicate, lit≤}
use Rattle.record.specs.Fields.{public_of}
use Rattle.blocks.specs.Blocks.{block_of}
use Rattle.table.specs.Area.{table_in, check_area}
use Rattle.table.proofs.Areas.{read_front, sound_size_in}
use Rattle.lookup.specs.Find.{find_public}
use Rattle.reading.specs.Rules.{Seen}
use Rattle.requests.specs.Judged.{Judged, fine}
use Rattle.requests.specs.Request.{dialect_of, under_sh, read_sh, identity_of}
use Rattle.calling.specs.Call.{Answer, Answered}
use Rattle.neighbour_example.proofs.Tables as tables
use Rattle.neighbour_example.proofs.Tables.{first, second, behind, profiles, others, large, all, first_in, second_in, first_sound_lem, second_exact, header_a}
use Rattle.neighbour_example.proofs.Tables.{same_c, One, Two, c_one, c_two}
use Rattle.worked_examples.proofs.Sample.{z}
use Rattle.ndushavire_sh.specs.Lent.{Lent, lent}
use Rattle.ndushavire_sh.specs.Serve.{Served, told_of, answer_of, sh_serve}
use Rattle.sh_example.proofs.Computed.{come, known, room, roomy, area, area_table, asking}
use Rattle.sh_example.proofs.Sample.{header, line, server, state, name, ask, opened}
use Rattle.sh_demands.specs.Shown.{SameShown, SameFound, SameSight}
use Rattle.sh_demands.proofs.Demands.{sh_neighbours_line}
use Rattle.sh_neighbour.specs.Asked.{SameAsked}
use Rattle.sh_neighbour.proofs.Neighbour.{sh_neighbour, sh_neighbour_same}
use Rattle.sh_instances.proofs.Says.{seen_in, seen_of}

-- a request that was read asks about what was seen of it
named_so : (req id : List ℕ) → identity_of (seen_of req) ≡ id → (seen : Seen) → read_sh (dialect_of (under_sh 3588) req) req ≡ fine seen → identity_of seen ≡ id
named_so req id n seen e = ap (λ (j : Judged). identity_of (seen_in j)) (sym e) ∙ n

-- THE REQUESTS: for state and name of `c`, which is record 3 of the one table and record 4 of the other, registered at `s` in both; for the state of `w`,
-- which no record has.
unfoldable asked : List ℕ
asked = ask 0x63 (state ++ name)

unfoldable strange : List ℕ
strange = ask 0x77 state

named_c : identity_of (seen_of asked) ≡ 0x63 ∷ []
unfolding opened asked
named_c = refl

named_w : identity_of (seen_of strange) ≡ 0x77 ∷ []
unfolding opened strange
named_w = refl

-- behind the second table: `c` once more, in a stale record that says another state and server, and a last piece
unfoldable stale : List ℕ
stale = tables.line 7 8 0x63 0x70 2 0 z 0 0 0 ++ behind

abbrev here : List ℕ → Lent
here req = lent req first profiles room 3588

abbrev there : List ℕ → List ℕ → Lent
there req buffer = lent req (second ++ stale) others buffer 3588

stale_in : table_in (second ++ stale) ≡ second
stale_in = read_front second stale (sound_size_in second (length others) 6 second_exact)

there_sound : check_area (second ++ stale) (length others) ≡ Ok 6
unfolding check_area
there_sound = rw stale_in second_exact

w_one : One public_of 0x77 ≡ []
unfolding all
w_one = refl

w_two : Two public_of 0x77 ≡ []
unfolding all
w_two = refl

-- the tables differ in the count, the issue and the check word, in the other lines, and in block and issue of `c`, whose profiles are the same bytes
alike_c : (buffer : List ℕ) → SameAsked (here asked) (there asked buffer) 4 6
alike_c buffer =
    record {
      request = refl;
      peer = refl;
      header = rw stale_in (rw second_in at header_a);
      lines = λ seen e. rw (named_so asked (0x63 ∷ []) named_c seen e, stale_in, c_one, rw second_in at c_two) (same_c, tt);
    }

alike_w : (buffer : List ℕ) → SameAsked (here strange) (there strange buffer) 4 6
alike_w buffer =
    record {
      request = refl;
      peer = refl;
      header = rw stale_in (rw second_in at header_a);
      lines = λ seen e. rw (named_so strange (0x77 ∷ []) named_w seen e, stale_in, w_one, rw second_in at w_two) tt;
    }

-- both are answered over the first table: B2001 and X5001, by their lengths
abbrev told : ℕ → Answer
told n = record { length = n; place = 0 }

here_so : (req : List ℕ) (n : ℕ) → (known false (Ok 4) first (here req)).call ≡ Answered (told n) → (sh_serve (here req)).call ≡ Answered (told n)
here_so req n e = ap (λ (y : Served). y.call) (come (here req) {y = known false (Ok 4) first (here req)} roomy first_sound_lem first_in refl) ∙ e

here_c : (sh_serve (here asked)).call ≡ Answered (told 268)
unfolding opened all asked
here_c = here_so asked 268 refl

here_w : (sh_serve (here strange)).call ≡ Answered (told 136)
unfolding opened all strange
here_w = here_so strange 136 refl

large_enough : 36864 ≤ length large
unfolding large
large_enough = rw (length-replicate {A = ℕ} 36865 7) (lit≤ tt)

-- THE THEOREM: over the other table and another buffer the same length, and the same bytes; over the same buffer the same call
met_neighbour : ((sh_serve (there asked large)).call ≡ Answered (told 268))
    × (take 268 (sh_serve (there asked large)).buffer ≡ take 268 (sh_serve (here asked)).buffer)
met_neighbour = sh_neighbour (here asked) (there asked large) 4 6 first_sound_lem there_sound (alike_c large) (told 268) here_c large_enough

met_neighbour_none : ((sh_serve (there strange large)).call ≡ Answered (told 136))
    × (take 136 (sh_serve (there strange large)).buffer ≡ take 136 (sh_serve (here strange)).buffer)
met_neighbour_none = sh_neighbour (here strange) (there strange large) 4 6 first_sound_lem there_sound (alike_w large) (told 136) here_w large_enough

met_neighbour_same : sh_serve (here asked) ≡ sh_serve (there asked room)
met_neighbour_same = sh_neighbour_same (here asked) (there asked room) 4 6 first_sound_lem there_sound (alike_c room) refl

-- WHAT IT SEES AT ALL: `c` is pending at `<&s` in record 3 of one table, and in the only record of another, which has another bit set besides.
unfoldable lone : List ℕ
lone = header 1 ++ line 1 0x63 0 5 server

found_area : find_public (table_in area) 4 (0x63 ∷ []) ≡ Some 3
unfolding opened
found_area = rw area_table

found_lone : find_public (table_in lone) 1 (0x63 ∷ []) ≡ Some 1
unfolding opened lone
found_lone = refl

shown : SameShown (block_of (table_in area) 3) (block_of (table_in lone) 1)
unfolding opened area lone
shown = record { state = refl; pends = refl; server = refl }

found_alike : (seen : Seen) → read_sh (dialect_of (under_sh 3588) asked) asked ≡ fine seen
    → SameFound (table_in area) (table_in lone) (find_public (table_in area) 4 (identity_of seen)) (find_public (table_in lone) 1 (identity_of seen))
found_alike seen e = rw (named_so asked (0x63 ∷ []) named_c seen e, found_area, found_lone) shown

sees_alike : SameSight asked 3588 (table_in area) (table_in lone) 4 1
unfolding opened area lone
sees_alike = record { host = refl; realm = refl; found = found_alike }

met_neighbours_line : (answer_of (asking asked) 4 ≡ answer_of (lent asked lone [] [] 3588) 1)
    × ((told_of (asking asked) 4).verdict.place ≡ (told_of (lent asked lone [] [] 3588) 1).verdict.place)
met_neighbours_line = sh_neighbours_line asked 3588 area [] room lone [] [] 4 1 sees_alike
