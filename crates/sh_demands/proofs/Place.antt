-- The place that a call of the Sh server returns beside the answer's length, as theorems about `sh_serve`: as of the first server's call (02 [2]).
use Rattle.octets.specs.Standard.{ℕ, ◌+◌, ◌≤◌, ◌<◌, List, true, true≢false, ◌≡◌, sym, ap, ◌∙◌, ◌≢◌, length, drop}
use Rattle.diameter.specs.Message.{body_of}
use Rattle.reading.specs.Rules.{Seen}
use Rattle.reading.specs.declared.Outcome.TheVariants.{Base, Experimental}
use Rattle.requests.specs.Judged.{fine}
use Rattle.requests.specs.Request.{header_fault_sh, first_other, read_sh}
use Rattle.failed.specs.Failing.{failed_of}
use Rattle.ndushavire.specs.Reads.{call_place, place_in}
use Rattle.ndushavire_sh.specs.Lent.{Lent, dialect_in}
use Rattle.ndushavire_sh.specs.Promise.{ShDecidePromise}
use Rattle.ndushavire_sh.specs.Serve.{Served, sh_serve}
use Rattle.demands.specs.Frame.{succeeds}
use Rattle.demands.specs.Place.{OfRules}
use Rattle.demands.proofs.Blaming.{base_experimental, base_number}
use Rattle.demands.proofs.Faults.{fault_least, fault_within, fault_number, rules_lack, rules_fail}
use Rattle.sh_demands.specs.Call.{turned_away}
use Rattle.sh_demands.specs.Insertion.{blaming}
use Rattle.sh_demands.specs.Place.{Blames, result_of}
use Rattle.sh_demands.proofs.Blaming.{blames_answer, blames_result, place_blamed, unblamed, read_unblamed, refused_nowhere, fault_bytes_lem, place_limit}
use Rattle.sh_demands.proofs.Returning.{word_reads}

module _ (x : Lent) where
  -- Out of the word that the exported call returns, bits 32 to 47, the caller reads the place.
  pub sh_place_word : {r : ℕ} {o : List ℕ} → ShDecidePromise x r o → place_in r ≡ call_place (sh_serve x).call
  sh_place_word p = rw p.word_is (word_reads x).place

  -- WHERE AN AVP IS AT FAULT. The call answers with the fault's result, Failed-AVP is made of the bytes at the place, and the place is returned.
  pub sh_place_answer : (place : ℕ) (b : Blames x place) → sh_serve x ≡ blaming x b.result (failed_of b.result (drop place x.request)) place
  sh_place_answer = blames_answer x

  -- So the place is that of the first AVP at fault; and where it is not 0, the AVP there is the first at fault.
  pub sh_place_is : (place : ℕ) → Blames x place → call_place (sh_serve x).call ≡ place
  sh_place_is place b = ap (λ (s : Served). call_place s.call) (sh_place_answer place b)

  pub sh_place_blames : call_place (sh_serve x).call ≢ 0 → Blames x (call_place (sh_serve x).call)
  sh_place_blames = place_blamed x

  -- It is at least 20, lies within the request, and at least 4 bytes of the request stand there.
  pub sh_place_least : (place : ℕ) → Blames x place → 20 ≤ place
  sh_place_least place b = fault_least (dialect_in x) x.request b.result place b.fault

  pub sh_place_within : (place : ℕ) → Blames x place → place < length x.request
  sh_place_within place b = fault_within (dialect_in x) x.request b.result place b.fault

  pub sh_place_bytes : (place : ℕ) → Blames x place → place + 4 ≤ length x.request
  sh_place_bytes = fault_bytes_lem x

  -- The result is one of (a), (c), (d), (f), (g) and (h).
  pub sh_place_result : (place : ℕ) (b : Blames x place) → (result_of x ≡ Base b.result) × OfRules b.result
  sh_place_result place b = (blames_result x place b, fault_number (dialect_in x) x.request b.result place b.fault)

  -- WHERE NONE IS, the place is 0 ..
  pub sh_place_none : ((place : ℕ) → Blames x place → ⊥) → call_place (sh_serve x).call ≡ 0
  sh_place_none = unblamed x

  -- .. for a refusal, for a header fault, for a first AVP that is no Session-Id, ..
  pub sh_place_refused : turned_away x ≡ true → call_place (sh_serve x).call ≡ 0
  sh_place_refused = refused_nowhere x

  pub sh_place_header : header_fault_sh (dialect_in x) x.request ≢ 0 → call_place (sh_serve x).call ≡ 0
  sh_place_header n = sh_place_none (λ p b. n b.fault.header)

  pub sh_place_first : first_other (body_of x.request) ≡ true → call_place (sh_serve x).call ≡ 0
  sh_place_first e = sh_place_none (λ p b. true≢false (sym e ∙ b.fault.session))

  -- .. for whatever is told of a request in which reading found no fault, ..
  pub sh_place_told : (seen : Seen) → read_sh (dialect_in x) x.request ≡ fine seen → call_place (sh_serve x).call ≡ 0
  sh_place_told seen e = sh_place_none (read_unblamed x seen e)

  -- .. for each B5005, each X result and each success.
  pub sh_place_missing : result_of x ≡ Base 5005 → call_place (sh_serve x).call ≡ 0
  sh_place_missing e = sh_place_none (λ p b. let r = sh_place_result p b in rules_lack b.result r.1 (base_number (sym r.0 ∙ e)))

  pub sh_place_experimental : (n : ℕ) → result_of x ≡ Experimental n → call_place (sh_serve x).call ≡ 0
  sh_place_experimental n e = sh_place_none (λ p b. base_experimental (sym (sh_place_result p b).0 ∙ e))

  pub sh_place_success : succeeds (result_of x) ≡ true → call_place (sh_serve x).call ≡ 0
  sh_place_success e = sh_place_none (λ p b. let r = sh_place_result p b in rules_fail b.result r.1 (sym (ap succeeds r.0) ∙ e))

  -- It is never more than 16,380, and so stands in 16 bits.
  pub sh_place_most : call_place (sh_serve x).call ≤ 16380
  sh_place_most = place_limit x
