-- An area that is longer than its table: behind the two records stand a stale record of the first subscription and a last piece. They stay, and do not matter.
use Rattle.std.specs.Prelude.{Ok}
use Rattle.octets.specs.Standard.{ℕ, ◌≡◌, refl, sym, ap, ◌∙◌, List, [], ◌∷◌, ◌++◌, true, inl, length, get_or, take, drop, drop_at, lit<}
use Rattle.blocks.specs.Blocks.{block_of}
use Rattle.table.specs.Area.{size_in, table_in, check_area}
use Rattle.table.specs.Check.{check_table}
use Rattle.table.proofs.Areas.{read_front, sound_size_in}
use Rattle.pen.specs.Bytes.{number_bytes}
use Rattle.requests.specs.Request.{under_cx}
use Rattle.calling.specs.Lent.{Lent, lent, holding, table_only}
use Rattle.calling.specs.Serve.{SameCall, serve_table, over_area, serve}
use Rattle.worked_examples.proofs.Sample.{person, room, answer, s}
use Rattle.demands.specs.Call.{turned_away}
use Rattle.demands.proofs.Demands.{promised_past, promised_stays, promised_alike, checked_alike, demand_1_kept, demand_2_others, demand_2_bytes}
use Rattle.demands.proofs.Demands.{demand_2_size, demand_2_sound}
use Rattle.instances.proofs.Asked.{table, removed, sar, asked, comes, all}
use Rattle.instances.proofs.Calls.{sound_table, removal}

behind : List ℕ
behind = person 1 0x61 0x70 1 s ++ (1 ∷ 2 ∷ 3 ∷ [])

area : List ℕ
area = table ++ behind

abbrev working : List ℕ → Lent
working req = lent req area [] [] room (under_cx 3588 0)

-- the table is read alone
table_in_lem : table_in area ≡ table
unfolding area
table_in_lem = read_front table behind (sound_size_in table 0 2 sound_table)

area_sound : check_area area 0 ≡ Ok 2
unfolding check_area
area_sound = ap (λ (t : List ℕ). check_table t 0) table_in_lem ∙ sound_table

only_table : (req : List ℕ) → table_only (working req) ≡ asked req
only_table req = ap (holding (working req)) table_in_lem

-- The removal rewrites record 1, and leaves what is behind the table.
past_table : drop (length (table_in area)) area ≡ behind
unfolding area
past_table = drop_at table behind (length (table_in area)) (sym (ap length table_in_lem))

removed_there : serve (working (sar s 5)) ≡ comes (removed ++ behind) (answer (number_bytes 268 2001) [])
unfolding all
removed_there =
    ap (λ (x : Lent). over_area area (serve_table x)) (only_table (sar s 5)) ∙ ap (over_area area) removal
    ∙ ap (λ (t : List ℕ). comes (removed ++ t) (answer (number_bytes 268 2001) [])) past_table

-- The theorems at it: a request of 19 bytes leaves the whole area; so does a call that leaves the table; of the removal the stale record, though it is of the
-- subscription asked about, every byte that is not to change, the area's length, and the bytes past the table.
turned : turned_away (table_only (working (take 19 (sar s 5)))) ≡ true
unfolding all room
turned = refl

met_1_kept : (serve (working (take 19 (sar s 5)))).table ≡ area
met_1_kept = (demand_1_kept (working (take 19 (sar s 5))) turned).0

met_stays : (serve (working (take 19 (sar s 5)))).table ≡ area
met_stays = promised_stays (working (take 19 (sar s 5))) (ap table_in met_1_kept)

met_2_others : block_of (serve (working (sar s 5))).table 3 ≡ block_of area 3
met_2_others = demand_2_others (working (sar s 5)) 2 area_sound 3 (inl (lit< tt))

met_2_bytes : get_or (block_of (serve (working (sar s 5))).table 3) 144 0 ≡ get_or (block_of area 3) 144 0
met_2_bytes = demand_2_bytes (working (sar s 5)) 2 area_sound 3 144 (lit< tt) refl

met_2_size : length (serve (working (sar s 5))).table ≡ length area
met_2_size = demand_2_size (working (sar s 5))

met_2_sound : check_area (serve (working (sar s 5))).table 0 ≡ Ok 2
met_2_sound = demand_2_sound (working (sar s 5)) 2 area_sound

met_past : drop (length (table_in area)) (serve (working (sar s 5))).table ≡ behind
met_past = promised_past (working (sar s 5)) ∙ past_table

-- It is served and checked as the table alone is.
same_front : take (size_in area) table ≡ take (size_in area) area
unfolding all area behind size_in
same_front = refl

met_alike : SameCall (serve (asked (sar s 5))) (serve (working (sar s 5)))
met_alike = (promised_alike (working (sar s 5)) table same_front).0

met_alike_table : table_in (serve (asked (sar s 5))).table ≡ table_in (serve (working (sar s 5))).table
met_alike_table = (promised_alike (working (sar s 5)) table same_front).1

met_checked_alike : check_area table 0 ≡ check_area area 0
met_checked_alike = checked_alike area table 0 same_front
