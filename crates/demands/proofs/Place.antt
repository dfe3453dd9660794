-- The place that a call returns beside the answer's length, as theorems about `serve`, which is what the exported call is promised to return and to leave
-- (`promised` in proofs/Demands), for anything lent. The table is lent at the front of an area that may be longer (02 [8]): bytes past it stay, and do not
-- matter; `table_only a` is what is lent, with the table alone. What the words below mean is in specs/Place.
use Rattle.octets.specs.Standard.{ℕ, ◌+◌, ◌≤◌, ◌<◌, List, true, true≢false, ◌≡◌, sym, ap, ◌∙◌, ◌≢◌, length, drop}
use Rattle.diameter.specs.Message.{body_of}
use Rattle.reading.specs.Rules.{Seen}
use Rattle.reading.specs.declared.Outcome.TheVariants.{Base, Experimental}
use Rattle.requests.specs.Judged.{fine}
use Rattle.requests.specs.Request.{header_fault, first_other, read_in}
use Rattle.failed.specs.Failing.{failed_of}
use Rattle.calling.specs.Lent.{Lent, table_only, dialect_in}
use Rattle.calling.specs.Serve.{Served, serve, result_of}
use Rattle.ndushavire.specs.Reads.{call_place, place_in}
use Rattle.ndushavire.specs.Promise.{DecidePromise}
use Rattle.demands.specs.Call.{turned_away}
use Rattle.demands.specs.Frame.{succeeds}
use Rattle.demands.specs.Place.{OfRules, Blames, blaming}
use Rattle.demands.proofs.Refusals.{word_reads, refused_nowhere}
use Rattle.demands.proofs.Fitting.{fits}
use Rattle.demands.proofs.Faults.{fault_least, fault_within, fault_number, rules_lack, rules_fail}
use Rattle.demands.proofs.Blaming.{blamed_over, blames_answer, place_blamed, unblamed, blames_result, read_unblamed, fault_bytes_lem, place_limit}
use Rattle.demands.proofs.Blaming.{base_experimental, base_number}

module _ (a : Lent) where
  -- Out of the word that the exported call returns, bits 32 to 47, the caller reads the place.
  pub place_word : {r : ℕ} {t' v' o' : List ℕ} → DecidePromise a r t' v' o' → place_in r ≡ call_place (serve a).call
  place_word p = rw p.word_is (word_reads (table_only a) (fits (table_only a))).place

  -- WHERE AN AVP IS AT FAULT. The call answers with the fault's result, Failed-AVP is made of the bytes at the place, and the place is returned; the whole
  -- area and the vectors stay.
  pub place_answer : (place : ℕ) (b : Blames (table_only a) place) → serve a ≡ blaming a b.result (failed_of b.result (drop place a.request)) place
  place_answer place b =
      blamed_over a b.result (failed_of b.result (drop place a.request)) place (blames_answer (table_only a) place b)

  -- So the place is that of the first AVP at fault; and where it is not 0, the AVP there is the first at fault.
  pub place_is : (place : ℕ) → Blames (table_only a) place → call_place (serve a).call ≡ place
  place_is place b = ap (λ (s : Served). call_place s.call) (place_answer place b)

  pub place_blames : call_place (serve a).call ≢ 0 → Blames (table_only a) (call_place (serve a).call)
  place_blames = place_blamed (table_only a)

  -- It is at least 20, and lies within the request.
  pub place_least : (place : ℕ) → Blames (table_only a) place → 20 ≤ place
  place_least place b = fault_least (dialect_in a) a.request b.result place b.fault

  pub place_within : (place : ℕ) → Blames (table_only a) place → place < length a.request
  place_within place b = fault_within (dialect_in a) a.request b.result place b.fault

  -- At least 4 bytes of the request stand there, the AVP's code.
  pub place_bytes : (place : ℕ) → Blames (table_only a) place → place + 4 ≤ length a.request
  place_bytes = fault_bytes_lem (table_only a)

  -- The result is one of (a), (c), (d), (f), (g) and (h).
  pub place_result : (place : ℕ) (b : Blames (table_only a) place) → (result_of (table_only a) ≡ Base b.result) × OfRules b.result
  place_result place b = (blames_result (table_only a) place b, fault_number (dialect_in a) a.request b.result place b.fault)

  -- WHERE NONE IS, the place is 0 ..
  pub place_none : ((place : ℕ) → Blames (table_only a) place → ⊥) → call_place (serve a).call ≡ 0
  place_none = unblamed (table_only a)

  -- .. for a refusal, by any of the seven, ..
  pub place_refused : turned_away (table_only a) ≡ true → call_place (serve a).call ≡ 0
  place_refused = refused_nowhere (table_only a)

  -- .. for a header fault, ..
  pub place_header : header_fault (dialect_in a) a.request ≢ 0 → call_place (serve a).call ≡ 0
  place_header n = place_none (λ p b. n b.fault.header)

  -- .. for a first AVP that is no Session-Id, (b), though an AVP stands there, ..
  pub place_first : first_other (body_of a.request) ≡ true → call_place (serve a).call ≡ 0
  place_first e = place_none (λ p b. true≢false (sym e ∙ b.fault.session))

  -- .. for whatever is decided of a request in which reading found no fault, a SAR's B5009 for its second identity too, ..
  pub place_decided : (seen : Seen) → read_in (dialect_in a) a.request ≡ fine seen → call_place (serve a).call ≡ 0
  place_decided seen e = place_none (read_unblamed (table_only a) seen e)

  -- .. for each B5005, reading's and a SAR's, ..
  pub place_missing : result_of (table_only a) ≡ Base 5005 → call_place (serve a).call ≡ 0
  place_missing e = place_none (λ p b. let r = place_result p b in rules_lack b.result r.1 (base_number (sym r.0 ∙ e)))

  -- .. for each X result, ..
  pub place_experimental : (n : ℕ) → result_of (table_only a) ≡ Experimental n → call_place (serve a).call ≡ 0
  place_experimental n e = place_none (λ p b. base_experimental (sym (place_result p b).0 ∙ e))

  -- .. and for each success.
  pub place_success : succeeds (result_of (table_only a)) ≡ true → call_place (serve a).call ≡ 0
  place_success e = place_none (λ p b. let r = place_result p b in rules_fail b.result r.1 (sym (ap succeeds r.0) ∙ e))

  -- It is never more than 16,380, and so stands in 16 bits.
  pub place_most : call_place (serve a).call ≤ 16380
  place_most = place_limit (table_only a)

-- Every place but 0 that the caller reads out of the word is so.
pub place_there : (a : Lent) {r : ℕ} {t' v' o' : List ℕ} → DecidePromise a r t' v' o' → place_in r ≢ 0
    → (20 ≤ place_in r) × (place_in r + 4 ≤ length a.request)
place_there a p n =
    let e = place_word a p in
    let b = place_blames a (λ z. n (e ∙ z)) in
    (rw e (place_least a (call_place (serve a).call) b), rw e (place_bytes a (call_place (serve a).call) b))
