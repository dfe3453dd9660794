-- Calls over a table of its exact length under the two editions: the same, if what is read of the request is.
use Rattle.octets.specs.Standard.{List, [], ◌∷◌, Bool, true, false, cond, ◌||◌, true≢false, ◌≡◌, refl, sym, ap, ◌∙◌}
use Rattle.diameter.specs.Message.{body_of, command_of}
use Rattle.reading.specs.Groups.{rfc3588, rfc6733}
use Rattle.requests.specs.Features.{list_called}
use Rattle.requests.specs.Request.{header_fault, read_in}
use Rattle.envelope.specs.Front.{front_bytes}
use Rattle.reply.specs.Pieces.{list_bytes, top_bytes}
use Rattle.answering.specs.Answer.{body_bytes, answer_bytes}
use Rattle.deciding.specs.Decide.{Decision}
use Rattle.calling.specs.Call.{Refused}
use Rattle.calling.specs.Lent.{Lent}
use Rattle.refusals.specs.Trial.{Trial, tried, any_holds}
use Rattle.refusals.specs.Early.{unknown_peer, check_value}
use Rattle.calling.specs.Serve.{Served, check_of, trials, refused, answered, answered_by, decision, result_of}
use Rattle.calling.specs.Serve.{serve_found, serve_table_by, serve_table}
use Rattle.demands.specs.Call.{turned_away}
use Rattle.demands.specs.Peers.{by_peer, OneVendor}
use Rattle.demands.proofs.Editions.{older, newer, walk_same, read_same, decide_same}

-- the same refusals, and the same answer where none is given
pub tried_same : {X : Type 0} (give other : Trial → X) (o p : X) → ((r : Trial) → give r ≡ other r) → (rs : List Trial) → (any_holds rs ≡ false → o ≡ p)
    → tried give o rs ≡ tried other p rs
unfolding tried any_holds
tried_same give other o p same [] h = h refl
tried_same give other o p same (r ∷ rs) h = go r.holds h (λ k. tried_same give other o p same rs k)
  where
    go : (x : Bool) → ((x || any_holds rs) ≡ false → o ≡ p) → ((any_holds rs ≡ false → o ≡ p) → tried give o rs ≡ tried other p rs)
        → cond x (give r) (tried give o rs) ≡ cond x (other r) (tried other p rs)
    go true k next = same r
    go false k next = next k

module _ (x : Lent) where
  refused_same : (r : Trial) → refused (by_peer x rfc6733) r ≡ refused (by_peer x rfc3588) r
  unfolding refused
  refused_same r = refl

  answered_same : (d : Decision) → answered (by_peer x rfc6733) d ≡ answered (by_peer x rfc3588) d
  unfolding answered_by answer_bytes body_bytes top_bytes front_bytes list_bytes list_called header_fault
  answered_same d = refl

  -- calls over a table of its exact length that are answered with decisions that are equal, if at all
  calls_same : (turned_away (by_peer x rfc6733) ≡ false
      → decision (by_peer x rfc6733) (check_value (check_of x)) ≡ decision (by_peer x rfc3588) (check_value (check_of x)))
      → serve_table (by_peer x rfc6733) ≡ serve_table (by_peer x rfc3588)
  unfolding serve_table_by serve_found
  calls_same h =
      tried_same (refused (by_peer x rfc6733)) (refused (by_peer x rfc3588)) _ _ refused_same (trials (by_peer x rfc6733))
      (λ e. answered_same _ ∙ ap (answered (by_peer x rfc3588)) (h e))

  one_read : OneVendor (body_of x.request) → read_in (newer (command_of x.request) x.terms.application x.terms.features) x.request
      ≡ read_in (older (command_of x.request) x.terms.application x.terms.features) x.request
  one_read o =
      read_same (command_of x.request) x.terms.application x.terms.features x.request
      (walk_same (command_of x.request) x.terms.application x.terms.features 20 (body_of x.request) _ o)

  pub reads_same : read_in (newer (command_of x.request) x.terms.application x.terms.features) x.request
      ≡ read_in (older (command_of x.request) x.terms.application x.terms.features) x.request
      → serve_table (by_peer x rfc6733) ≡ serve_table (by_peer x rfc3588)
  reads_same e =
      calls_same (λ t.
      decide_same (command_of x.request) x.terms.application x.terms.features x.request x.table (check_value (check_of x)) x.vectors e)

  -- so with a request none of whose 260s has two Vendor-Ids
  pub one_table : OneVendor (body_of x.request) → serve_table (by_peer x rfc6733) ≡ serve_table (by_peer x rfc3588)
  one_table o = reads_same (one_read o)

  pub one_result_lem : OneVendor (body_of x.request) → result_of (by_peer x rfc6733) ≡ result_of (by_peer x rfc3588)
  one_result_lem o =
      ap (λ (d : Decision). d.given.verdict.result)
      (decide_same (command_of x.request) x.terms.application x.terms.features x.request x.table (check_value (check_of x)) x.vectors
      (one_read o))

  pub away_same : turned_away (by_peer x rfc6733) ≡ true → serve_table (by_peer x rfc6733) ≡ serve_table (by_peer x rfc3588)
  away_same t = calls_same (λ e. absurd (true≢false (sym t ∙ e)))

  pub peer_served : unknown_peer x.terms ≡ true → serve_table x ≡ record { call = Refused 12 0; table = x.table; vectors = x.vectors; buffer = x.buffer }
  unfolding serve_table_by serve_found tried refused
  peer_served e = rw e

  pub peer_call : unknown_peer x.terms ≡ true → (serve_table x).call ≡ Refused 12 0
  peer_call e = ap (λ (s : Served). s.call) (peer_served e)
