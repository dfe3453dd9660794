-- The two editions of the base standard, and areas longer than their table, of the Sh server: a request whose 260 has one Vendor-Id, one whose 260 has two.
use Rattle.std.specs.Prelude.{Ok}
use Rattle.octets.specs.Standard.{ℕ, ◌≡◌, refl, ◌≢◌, List, [], ◌∷◌, ◌++◌, some, set, false, lit≤, length}
use Rattle.table.specs.Area.{size_in, table_in}
use Rattle.table.specs.Check.{check_table}
use Rattle.table.proofs.Areas.{sound_size_in}
use Rattle.diameter.specs.AvpAt.{avp_at}
use Rattle.diameter.specs.Message.{body_of}
use Rattle.pen.specs.Bytes.{avp_bytes, number_bytes}
use Rattle.pen.specs.Groups.{failed}
use Rattle.requests.specs.Judged.{nothing}
use Rattle.requests.specs.Request.{sh, dialect_of, under_sh}
use Rattle.refusals.specs.Trial.{any_holds}
use Rattle.ndushavire.specs.Reads.{call_place}
use Rattle.ndushavire_sh.specs.Lent.{Lent, lent}
use Rattle.ndushavire_sh.specs.Serve.{sh_serve}
use Rattle.demands.specs.Place.{first, past_taken}
use Rattle.demands.specs.Peers.{vendor_ids, OneVendor, ComesTo}
use Rattle.demands.proofs.Editions.{one_vendor, one_says}
use Rattle.sh_example.proofs.Computed.{come, held, room, roomy, area, area_sound, area_table, asking, leaves}
use Rattle.sh_example.proofs.Sample.{table, line, request, identity, state, ask, reply, opened}
use Rattle.sh_example.proofs.Servers.{state_data}
use Rattle.sh_demands.specs.Call.{turned_away}
use Rattle.sh_demands.specs.Peers.{by_peer, over_area}
use Rattle.sh_demands.proofs.Peers.{sh_one_vendor, sh_second_told, sh_several_pass, sh_area, sh_behind}

-- one Vendor-Id: the same under both
just_one : OneVendor (body_of (ask 0x61 state))
unfolding opened one_vendor vendor_ids
just_one = one_says (body_of (ask 0x61 state)) refl

met_one_vendor : sh_serve (by_peer (asking (ask 0x61 state)) 6733) ≡ sh_serve (by_peer (asking (ask 0x61 state)) 3588)
met_one_vendor = sh_one_vendor (asking (ask 0x61 state)) just_one

-- two: the state of `a` under RFC 3588, and B5009 with the whole 260 and its place under RFC 6733
unfoldable two_ids : List ℕ
two_ids = avp_bytes 260 (number_bytes 266 10415 ++ (number_bytes 266 10415 ++ number_bytes 258 sh))

unfoldable doubled : List ℕ
doubled =
    request 306 1 (avp_bytes 263 (0x73 ∷ []) ++ (two_ids ++
    (number_bytes 277 1 ++ (avp_bytes 264 (0x63 ∷ []) ++ (avp_bytes 296 (0x72 ∷ []) ++ (avp_bytes 283 (0x72 ∷ []) ++ (identity 0x61 ++ state)))))))

older : sh_serve (by_peer (asking doubled) 3588) ≡ leaves 240 0 (reply (number_bytes 268 2001) (state_data 0x31))
unfolding opened two_ids doubled
older = come (asking doubled) roomy area_sound area_table refl

-- reading comes to it behind Session-Id, under both
met_comes : (peer : ℕ) → ComesTo (dialect_of (under_sh peer) doubled) doubled 32
unfolding opened two_ids doubled
met_comes peer =
    record {
      seen = set nothing 1 (some (avp_at doubled 20));
      reached = past_taken 20 nothing first refl refl;
      whole = refl;
      flags = refl;
      before = refl;
      second = record { kind = refl; right = refl; two = lit≤ tt };
    }

taken : turned_away (by_peer (asking doubled) 6733) ≡ false
unfolding opened two_ids doubled any_holds
taken = held (by_peer (asking doubled) 6733) roomy area_sound refl

met_second_told : sh_serve (by_peer (asking doubled) 6733) ≡ leaves 164 32 (reply (number_bytes 268 5009) (failed two_ids))
unfolding opened two_ids doubled area
met_second_told = sh_second_told (asking doubled) 32 (met_comes 6733) taken refl refl

met_several_pass : call_place (sh_serve (by_peer (asking doubled) 3588)).call ≢ 32
met_several_pass = sh_several_pass (asking doubled) 32 (met_comes 3588)

-- An area of the table alone, with a whole stale record of `a` and a last piece behind it: the same call, and the same as over any such area.
unfoldable behind : List ℕ
behind = line 5 0x61 2 0 [] ++ (1 ∷ 2 ∷ 3 ∷ [])

abbrev alone : Lent
alone = lent (ask 0x61 state) table [] room 3588

table_sound : check_table table 0 ≡ Ok 4
unfolding opened
table_sound = refl

table_exact : length table ≡ size_in table
table_exact = sound_size_in table 0 4 table_sound

met_behind : sh_serve (over_area alone (table ++ behind)) ≡ sh_serve alone
met_behind = sh_behind alone behind table_exact

same_front : table_in (table ++ behind) ≡ table_in area
unfolding opened area behind
same_front = refl

met_area : sh_serve (over_area (asking (ask 0x61 state)) (table ++ behind)) ≡ sh_serve (asking (ask 0x61 state))
met_area = sh_area (asking (ask 0x61 state)) (table ++ behind) same_front
