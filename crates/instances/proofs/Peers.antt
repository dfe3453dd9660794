-- The two editions of the base standard: the SAR, whose 260 has one Vendor-Id; one whose 260 has two; and a peer of another number.
use Rattle.octets.specs.Standard.{ℕ, ◌≡◌, refl, sym, ap, ◌∙◌, ◌⊎◌, inl, inr, ◌≢◌, List, [], ◌∷◌, ◌++◌, some, set, true, false, eqb, arith, lit≤}
use Rattle.diameter.specs.AvpAt.{avp_at}
use Rattle.diameter.specs.Message.{body_of}
use Rattle.diameter.specs.Put.{Piece}
use Rattle.pen.specs.Bytes.{number_bytes}
use Rattle.pen.specs.Groups.{failed}
use Rattle.requests.specs.Judged.{nothing}
use Rattle.requests.specs.Request.{dialect_of, under_cx}
use Rattle.calling.specs.Call.{Refused}
use Rattle.calling.specs.Lent.{Lent, lent, table_only}
use Rattle.calling.specs.Serve.{Served, serve}
use Rattle.calling.proofs.Areas.{serve_sound}
use Rattle.ndushavire.specs.Reads.{call_number, call_place}
use Rattle.worked_examples.proofs.Computed.{come, held, roomy, no_vectors}
use Rattle.worked_examples.proofs.Sample.{answer, s}
use Rattle.demands.specs.Call.{turned_away}
use Rattle.demands.specs.Insertion.{request_of, Quiet, Inserted, keep, put, put_before, place_now, placed}
use Rattle.demands.specs.Place.{first, past_taken, blaming}
use Rattle.demands.specs.Peers.{by_peer, vendor_ids, OneVendor, ComesTo, ToldApart}
use Rattle.demands.proofs.Demands.{demand_3_unmarked}
use Rattle.demands.proofs.Editions.{one_vendor, one_says}
use Rattle.demands.proofs.Peers.{one_vendor_lem, second_told, several_pass, peers_differ, peer_exactly, peer_refused}
use Rattle.instances.proofs.Asked.{removed, base, head, session, common, own, sar, asked, comes, blamed, plain, all, is_whole, all_whole, all_whole_lem}
use Rattle.instances.proofs.Asked.{kept, of_area}
use Rattle.instances.proofs.Calls.{sound_table}

-- one Vendor-Id: the same under both
just_one : OneVendor (body_of (sar s 5))
unfolding all one_vendor vendor_ids
just_one = one_says (body_of (sar s 5)) refl

met_one_vendor : serve (by_peer (asked (sar s 5)) 6733) ≡ serve (by_peer (asked (sar s 5)) 3588)
met_one_vendor = one_vendor_lem (asked (sar s 5)) just_one

-- two: the removal under RFC 3588, and B5009 with the whole 260 and its place under RFC 6733
two_ids : Piece
two_ids = base 260 (number_bytes 266 10415 ++ (number_bytes 266 10415 ++ number_bytes 258 16777216))

doubled : List ℕ
doubled = request_of head (session ∷ two_ids ∷ common ++ own s 5) []

older : serve (by_peer (asked doubled) 3588) ≡ comes removed (answer (number_bytes 268 2001) [])
unfolding all two_ids doubled
older = serve_sound (asked doubled) 2 sound_table ∙ come (asked doubled) roomy sound_table no_vectors refl

newer : serve (by_peer (asked doubled) 6733) ≡ blamed 32 (answer (number_bytes 268 5009) (failed two_ids.avp))
unfolding all two_ids doubled
newer = serve_sound (by_peer (asked doubled) 6733) 2 sound_table ∙ come (by_peer (asked doubled) 6733) roomy sound_table no_vectors refl

-- reading comes to it behind Session-Id, under both
met_comes : (peer : ℕ) → ComesTo (dialect_of (under_cx peer 0) doubled) doubled 32
unfolding all two_ids doubled
met_comes peer =
    record {
      seen = set nothing 1 (some session.avp);
      reached = past_taken 20 nothing first refl refl;
      whole = refl;
      flags = refl;
      before = refl;
      second = record { kind = refl; right = refl; two = lit≤ tt };
    }

taken : turned_away (table_only (by_peer (asked doubled) 6733)) ≡ false
unfolding all two_ids doubled
taken =
    of_area (by_peer (asked doubled) 6733) 2 sound_table (λ y. turned_away y ≡ false) (held (by_peer (asked doubled) 6733) roomy sound_table no_vectors refl)

met_second_told : serve (by_peer (asked doubled) 6733) ≡ blaming (by_peer (asked doubled) 6733) 5009 (avp_at doubled 32) 32
unfolding all two_ids doubled
met_second_told = second_told (asked doubled) 32 (met_comes 6733) taken refl refl

met_several_pass : call_place (serve (by_peer (asked doubled) 3588)).call ≢ 32
unfolding all two_ids doubled
met_several_pass = several_pass (asked doubled) 32 (met_comes 3588)

-- the theorem at it: they are told apart, and at that 260
apart : (serve (by_peer (asked doubled) 6733) ≡ serve (by_peer (asked doubled) 3588)) ⊎ ToldApart (asked doubled) → ToldApart (asked doubled)
unfolding all
apart (inl e) =
    let place : Served → ℕ = λ y. call_place y.call in
    let n : ◌≡◌ {A = ℕ} 32 0 = sym (ap place newer) ∙ ap place e ∙ ap place older in
    absurd (omega arith)
apart (inr t) = t

met_peers_differ : ToldApart (asked doubled)
met_peers_differ = apart (peers_differ (asked doubled))

met_place : met_peers_differ.place ≡ 32
unfolding all
met_place =
    let place : Served → ℕ = λ y. call_place y.call in
    sym (ap place met_peers_differ.comes) ∙ ap place newer

-- Demand 3 under RFC 6733: an AVP of an unknown kind before that 260, whose place is then 12 bytes later
quiet_plain : Quiet (dialect_of (under_cx 6733 0) head) plain
unfolding all
quiet_plain =
    record { foreign = record { whole = record { right = refl; exact = refl; filled = refl }; plain = refl; stranger = refl }; unmarked = refl }

put_plain : Inserted (Quiet (dialect_of (under_cx 6733 0) head)) (two_ids ∷ common ++ own s 5) (plain ∷ two_ids ∷ common ++ own s 5)
put_plain = put plain quiet_plain (kept (two_ids ∷ common ++ own s 5))

met_3_newer : serve (by_peer (asked (request_of head (session ∷ plain ∷ two_ids ∷ common ++ own s 5) [])) 6733)
    ≡ blamed 44 (answer (number_bytes 268 5009) (failed two_ids.avp))
unfolding all is_whole all_whole two_ids doubled put_plain put_before kept
met_3_newer =
    demand_3_unmarked head refl session (two_ids ∷ common ++ own s 5) (plain ∷ two_ids ∷ common ++ own s 5)
    (all_whole_lem (session ∷ two_ids ∷ common ++ own s 5) refl) [] refl (lit≤ tt) (by_peer (asked []) 6733) put_plain
    ∙ ap (placed (place_now (keep session put_plain))) newer

-- a peer of another number, with a request of no byte, over no table, with no buffer: 12 goes before all
stranger : Lent
stranger = lent [] [] [] [] [] (under_cx 6734 0)

met_peer_exactly : eqb (call_number (serve stranger).call) 12 ≡ true
unfolding stranger
met_peer_exactly = peer_exactly stranger

met_peer_refused : (serve stranger).call ≡ Refused 12 0
unfolding stranger
met_peer_refused = ap (λ (y : Served). y.call) (peer_refused stranger refl)
