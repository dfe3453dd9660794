-- 02 [10], "The newer base standard", as theorems about `serve`, which is what the exported call is promised to return and to leave (`promised` in
-- proofs/Demands), for anything lent. What the words below mean is in specs/Peers. Demand 3 (proofs/Demands) is over whatever the terms of the call are, and
-- so once over the edition.
use Rattle.octets.specs.Standard.{ℕ, [], Bool, true, false, ◌≡◌, refl, sym, ap, ◌∙◌, ◌⊎◌, inl, inr, ◌≢◌, arith, eqb}
use Rattle.diameter.specs.AvpAt.{avp_at}
use Rattle.diameter.specs.Message.{body_of, command_of}
use Rattle.reading.specs.Groups.{rfc3588, rfc6733}
use Rattle.requests.specs.Request.{header_fault, first_other, read_in}
use Rattle.failed.specs.Failing.{failed_of}
use Rattle.calling.specs.Call.{Refused}
use Rattle.calling.specs.Lent.{Lent, table_only, dialect_in}
use Rattle.refusals.specs.Trial.{any_holds}
use Rattle.refusals.specs.Early.{unknown_peer}
use Rattle.calling.specs.Serve.{Served, over_area, serve}
use Rattle.calling.proofs.Areas.{put_same}
use Rattle.ndushavire.specs.Reads.{call_number, call_place}
use Rattle.demands.specs.Call.{turned_away}
use Rattle.demands.specs.Place.{Blames, blaming}
use Rattle.demands.specs.Peers.{by_peer, OneVendor, ComesTo, ToldApart}
use Rattle.demands.proofs.Demands.{demand_1}
use Rattle.demands.proofs.Editions.{older, newer, Told, read_cases, newer_breaks, older_passes}
use Rattle.demands.proofs.Faults.{avp_own, reaches_least}
use Rattle.demands.proofs.PeerCalls.{reads_same, one_table, away_same, peer_served}
use Rattle.demands.proofs.Place.{place_answer, place_blames}

module _ (a : Lent) where
  -- "A MESSAGE WITH JUST ONE IS TREATED ALIKE UNDER BOTH". If none of the 260s among the request's AVPs up to its first length fault has two Vendor-Ids, the
  -- call comes to the same in both editions, and leaves the same area, vectors and buffer. Nothing else is asked of the request: it may have any faults.
  pub one_vendor_lem : OneVendor (body_of a.request) → serve (by_peer a rfc6733) ≡ serve (by_peer a rfc3588)
  one_vendor_lem o = ap (over_area a.table) (one_table (table_only a) o)

  -- "B5009 WITH THE WHOLE 260 AS FAILED-AVP UNDER RFC 6733 ..": it is that answer, with the place of the 260, wherever reading comes to one whose members are
  -- otherwise right and which has two Vendor-Ids or more; area and vectors are as they were.
  pub second_told : (place : ℕ) → ComesTo (dialect_in (by_peer a rfc6733)) a.request place → turned_away (table_only (by_peer a rfc6733)) ≡ false
      → header_fault (dialect_in (by_peer a rfc6733)) a.request ≡ 0 → first_other (body_of a.request) ≡ false
      → serve (by_peer a rfc6733) ≡ blaming (by_peer a rfc6733) 5009 (avp_at a.request place) place
  unfolding failed_of
  second_told place c t h f =
      let b : Blames (table_only (by_peer a rfc6733)) place =
      record {
        taken = t;
        result = 5009;
        fault = newer_breaks (command_of a.request) a.terms.application a.terms.features a.request place c h f;
      } in
      rw (avp_own a.request place c.whole) (place_answer (by_peer a rfc6733) place b)

  -- ".. ONLY", and "RFC 3588 ALLOWS SEVERAL": under RFC 3588 no call is answered with the place of such a 260, so it is not at fault.
  pub several_pass : (place : ℕ) → ComesTo (dialect_in (by_peer a rfc3588)) a.request place → call_place (serve (by_peer a rfc3588)).call ≢ place
  several_pass place c e =
      let l = reaches_least (dialect_in (by_peer a rfc3588)) a.request c.reached in
      let b = place_blames (by_peer a rfc3588) (λ z. omega (arith, e, z, l.0)) in
      older_passes (command_of a.request) a.terms.application a.terms.features a.request place c b.result
      (call_place (serve (by_peer a rfc3588)).call) b.fault e

  -- So the two are told apart by such a 260 and by nothing else: they are equal, or reading comes to one in both, and they are not.
  pub peers_differ : (serve (by_peer a rfc6733) ≡ serve (by_peer a rfc3588)) ⊎ ToldApart a
  peers_differ = go (read_cases (command_of a.request) a.terms.application a.terms.features a.request)
    where
      apart : Told (command_of a.request) a.terms.application a.terms.features a.request → (t : Bool)
          → turned_away (table_only (by_peer a rfc6733)) ≡ t
          → (serve (by_peer a rfc6733) ≡ serve (by_peer a rfc3588)) ⊎ ToldApart a
      apart f true t = inl (ap (over_area a.table) (away_same (table_only a) t))
      apart f false t =
          let place = f.apart.place in
          let s = second_told place f.apart.newly t f.header f.session in
          inr (record {
            place = place;
            newer = f.apart.newly;
            older = f.apart.before;
            comes = s;
            differ = λ e. several_pass place f.apart.before (ap (λ (y : Served). call_place y.call) (sym e ∙ s));
          })

      go : (read_in (newer (command_of a.request) a.terms.application a.terms.features) a.request
          ≡ read_in (older (command_of a.request) a.terms.application a.terms.features) a.request)
          ⊎ Told (command_of a.request) a.terms.application a.terms.features a.request
          → (serve (by_peer a rfc6733) ≡ serve (by_peer a rfc3588)) ⊎ ToldApart a
      go (inl e) = inl (ap (over_area a.table) (reads_same (table_only a) e))
      go (inr f) = apart f (turned_away (table_only (by_peer a rfc6733))) refl

  -- "A PEER EDITION OTHER THAN THE TWO IS NUMBER 12, BEFORE 1": exactly then, whatever else is lent, and nothing is altered.
  pub peer_exactly : eqb (call_number (serve a).call) 12 ≡ unknown_peer a.terms
  unfolding any_holds
  peer_exactly = (demand_1 a).given [] _ (record { holds = unknown_peer a.terms; number = 12; besides = 0 }) refl

  pub peer_refused : unknown_peer a.terms ≡ true
      → serve a ≡ record { call = Refused 12 0; table = a.table; vectors = a.vectors; buffer = a.buffer }
  peer_refused e = ap (over_area a.table) (peer_served (table_only a) e) ∙ rw (put_same a.table)
