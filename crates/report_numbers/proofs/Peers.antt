-- A report under the two editions of the base standard: the same, if no request of the file has a 260 with two Vendor-Ids.
use Rattle.octets.specs.Standard.{ℕ, List, [], ◌∷◌, ◌≡◌, refl, ap, ◌∙◌}
use Rattle.diameter.specs.Message.{body_of}
use Rattle.diameter.specs.Put.{All}
use Rattle.reading.specs.Groups.{rfc3588, rfc6733}
use Rattle.rewrite.specs.Change.{altered_up_to}
use Rattle.counting.specs.Event.{Event}
use Rattle.calling.specs.Call.{Call, Answered, Refused}
use Rattle.calling.specs.Lent.{Lent, asking, table_only}
use Rattle.refusals.specs.Early.{check_value}
use Rattle.calling.specs.Serve.{Served, check_of, serve_table}
use Rattle.demands.specs.Peers.{by_peer, OneVendor}
use Rattle.demands.proofs.PeerCalls.{one_table, one_result_lem}
use Rattle.reporting.specs.Row.{records_altered, event_by, event_of, next, row, left}
use Rattle.reporting.specs.Report.{requests_of, words_of, ran, reported_table, report_back, reported}

-- what a report makes of a call
event_same : (x : Lent) → OneVendor (body_of x.request) → event_of (by_peer x rfc6733) ≡ event_of (by_peer x rfc3588)
unfolding event_of
event_same x o = ap (λ (s : Served). event_by (by_peer x rfc6733) s.call) (one_table x o) ∙ by (serve_table (by_peer x rfc3588)).call
  where
    altered : records_altered (by_peer x rfc6733) ≡ records_altered (by_peer x rfc3588)
    altered = ap (λ (s : Served). altered_up_to x.table s.table (check_value (check_of x))) (one_table x o)

    by : (c : Call) → event_by (by_peer x rfc6733) c ≡ event_by (by_peer x rfc3588) c
    by (Answered a) = rw (one_result_lem x o, altered)
    by (Refused number besides) = refl

-- and leaves to the next one
next_same : (x : Lent) (p : List ℕ) → OneVendor (body_of p) → next (by_peer x rfc6733) p ≡ by_peer (next (by_peer x rfc3588) p) rfc6733
unfolding next
next_same x p o = rw (one_table (asking x p) o)

row_same : (x : Lent) (ps : List (List ℕ)) → All (λ (p : List ℕ). OneVendor (body_of p)) ps → row (by_peer x rfc6733) ps ≡ row (by_peer x rfc3588) ps
unfolding row next
row_same x [] o = refl
row_same x (p ∷ ps) o =
    rw (event_same (asking x p) o.0, next_same x p o.0)
    (ap (λ (es : List Event). event_of (asking (by_peer x rfc3588) p) ∷ es) (row_same (next (by_peer x rfc3588) p) ps o.1))

left_same : (x : Lent) (ps : List (List ℕ)) → All (λ (p : List ℕ). OneVendor (body_of p)) ps
    → left (by_peer x rfc6733) ps ≡ by_peer (left (by_peer x rfc3588) ps) rfc6733
unfolding left next
left_same x [] o = refl
left_same x (p ∷ ps) o = rw (next_same x p o.0) (left_same (next (by_peer x rfc3588) p) ps o.1)

table_same : (x : Lent) (area : List ℕ) → All (λ (p : List ℕ). OneVendor (body_of p)) (requests_of x)
    → reported_table (by_peer x rfc6733) area ≡ reported_table (by_peer x rfc3588) area
unfolding reported_table ran words_of
table_same x area o = rw (row_same x (requests_of x) o, left_same x (requests_of x) o)

pub reports_same : (x : Lent) (area : List ℕ) → All (λ (p : List ℕ). OneVendor (body_of p)) (requests_of x)
    → reported (by_peer x rfc6733) area ≡ reported (by_peer x rfc3588) area
reports_same x area o = ap (report_back x.table) (table_same (table_only x) area o)
