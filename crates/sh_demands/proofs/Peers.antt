-- 02 [10], "The newer base standard", and 02 [8], the longer working area, for the Sh server, as theorems about `sh_serve`.
use Rattle.octets.specs.Standard.{ℕ, List, ◌++◌, false, ◌≡◌, refl, ap, ◌∙◌, ◌≢◌, arith, length}
use Rattle.table.specs.Area.{size_in, table_in, check_area}
use Rattle.table.specs.Check.{check_table}
use Rattle.table.proofs.Areas.{in_all, read_front}
use Rattle.diameter.specs.AvpAt.{avp_at}
use Rattle.diameter.specs.Message.{command_of, body_of}
use Rattle.reading.specs.Groups.{rfc3588, rfc6733}
use Rattle.requests.specs.Judged.{nothing}
use Rattle.requests.specs.Request.{sh, header_fault_sh, first_other, read_sh}
use Rattle.failed.specs.Failing.{failed_of}
use Rattle.refusals.specs.Early.{check_value}
use Rattle.envelope.specs.Front.{front_bytes}
use Rattle.sh.specs.Answer.{sh_body, sh_answer}
use Rattle.sh.specs.Tell.{tell_judged, tell}
use Rattle.ndushavire.specs.Reads.{call_place}
use Rattle.ndushavire_sh.specs.Lent.{Lent, dialect_in}
use Rattle.ndushavire_sh.specs.Serve.{trials_of, refused, told_of, answered, serve_checked, sh_serve}
use Rattle.demands.specs.Peers.{OneVendor, ComesTo}
use Rattle.demands.proofs.Dialects.{read_same_by}
use Rattle.demands.proofs.Editions.{walk_same, newer_breaks, older_passes}
use Rattle.demands.proofs.Faults.{avp_own, reaches_least}
use Rattle.demands.proofs.PeerCalls.{tried_same}
use Rattle.sh_demands.specs.Call.{turned_away}
use Rattle.sh_demands.specs.Insertion.{blaming}
use Rattle.sh_demands.specs.Peers.{by_peer, over_area}
use Rattle.sh_demands.specs.Place.{Blames}
use Rattle.sh_demands.proofs.Place.{sh_place_answer, sh_place_blames}

module _ (x : Lent) (one : OneVendor (body_of x.request)) where
  reads_same : read_sh (dialect_in (by_peer x rfc6733)) x.request ≡ read_sh (dialect_in (by_peer x rfc3588)) x.request
  unfolding read_sh header_fault_sh
  reads_same =
      read_same_by (command_of x.request) sh rfc6733 rfc3588 0 0 x.request
      (walk_same (command_of x.request) sh 0 20 (body_of x.request) nothing one) (header_fault_sh (dialect_in (by_peer x rfc3588)) x.request)

  told_same : (k : ℕ) → told_of (by_peer x rfc6733) k ≡ told_of (by_peer x rfc3588) k
  unfolding tell
  told_same k = ap (tell_judged x.request (table_in x.table) k) reads_same

  answered_same : (k : ℕ) → answered (by_peer x rfc6733) k ≡ answered (by_peer x rfc3588) k
  unfolding answered sh_answer sh_body front_bytes
  answered_same k = rw (told_same k)

  -- "A MESSAGE WITH JUST ONE IS TREATED ALIKE UNDER BOTH".
  pub sh_one_vendor : sh_serve (by_peer x rfc6733) ≡ sh_serve (by_peer x rfc3588)
  unfolding serve_checked refused
  sh_one_vendor =
      let c = check_area x.table (length x.profile) in
      tried_same (refused (by_peer x rfc6733)) (refused (by_peer x rfc3588)) _ _ (λ r. refl) (trials_of (by_peer x rfc6733) c)
      (λ e. answered_same (check_value c))

module _ (x : Lent) (place : ℕ) where
  -- "B5009 WITH THE WHOLE 260 AS FAILED-AVP UNDER RFC 6733 ..", with the place of the 260, wherever reading comes to one whose members are otherwise right and
  -- which has two Vendor-Ids or more ..
  pub sh_second_told : ComesTo (dialect_in (by_peer x rfc6733)) x.request place → turned_away (by_peer x rfc6733) ≡ false
      → header_fault_sh (dialect_in (by_peer x rfc6733)) x.request ≡ 0 → first_other (body_of x.request) ≡ false
      → sh_serve (by_peer x rfc6733) ≡ blaming (by_peer x rfc6733) 5009 (avp_at x.request place) place
  unfolding failed_of
  sh_second_told c t h f =
      let b : Blames (by_peer x rfc6733) place =
      record { taken = t; result = 5009; fault = newer_breaks (command_of x.request) sh 0 x.request place c h f } in
      rw (avp_own x.request place c.whole) (sh_place_answer (by_peer x rfc6733) place b)

  -- ".. ONLY": under RFC 3588 no call is answered with the place of such a 260.
  pub sh_several_pass : ComesTo (dialect_in (by_peer x rfc3588)) x.request place → call_place (sh_serve (by_peer x rfc3588)).call ≢ place
  sh_several_pass c e =
      let l = reaches_least (dialect_in (by_peer x rfc3588)) x.request c.reached in
      let b = sh_place_blames (by_peer x rfc3588) (λ z. omega (arith, e, z, l.0)) in
      older_passes (command_of x.request) sh 0 x.request place c b.result (call_place (sh_serve (by_peer x rfc3588)).call) b.fault e

-- "THE WORKING AREA MAY BE LONGER THAN THE TABLE": two areas with the same table in front come to the same; so whatever stands behind a table is not looked at.
module _ (x : Lent) (area : List ℕ) (e : table_in area ≡ table_in x.table) where
  answered_over : (k : ℕ) → answered (over_area x area) k ≡ answered x k
  unfolding answered
  answered_over k = rw e

  pub sh_area : sh_serve (over_area x area) ≡ sh_serve x
  unfolding check_area serve_checked refused
  sh_area =
      let c = check_area x.table (length x.profile) in
      ap (serve_checked (over_area x area)) (ap (λ (t : List ℕ). check_table t (length x.profile)) e)
      ∙ tried_same (refused (over_area x area)) (refused x) _ _ (λ r. refl) (trials_of x c) (λ h. answered_over (check_value c))

pub sh_behind : (x : Lent) (rest : List ℕ) → length x.table ≡ size_in x.table → sh_serve (over_area x (x.table ++ rest)) ≡ sh_serve x
sh_behind x rest e = sh_area x (x.table ++ rest) (read_front x.table rest e ∙ rw (in_all x.table (omega (arith, e))))
