-- The Sh server's answer to an AVP at fault, and the place of a call, by what reading its request comes to.
use Rattle.octets.specs.Standard.{ℕ, ◌+◌, ◌≤◌, ◌<◌, List, some, Bool, true, false, true≢false, ◌≡◌, refl, sym, ap, ◌∙◌, ◌≢◌, arith, length, drop, eqb, eqb-true}
use Rattle.octets.specs.Standard.{eqb-false}
use Rattle.table.specs.Area.{table_in, check_area}
use Rattle.reading.specs.Rules.{Seen}
use Rattle.reading.specs.Verdicts.{fault_at}
use Rattle.reading.specs.declared.Outcome.TheVariants.{Base}
use Rattle.reading.specs.declared.Terms.{Terms}
use Rattle.requests.specs.Judged.{Judged, bad, fine}
use Rattle.requests.specs.Request.{header_fault_sh, read_sh}
use Rattle.failed.specs.Failing.{failed_of, failed_by}
use Rattle.refusals.specs.Early.{check_value}
use Rattle.envelope.specs.End.{end_bytes}
use Rattle.sh.specs.Answer.{told_bytes, sh_body, sh_answer}
use Rattle.sh.specs.Tell.{Telling, tell_none, tell_judged, tell}
use Rattle.sh.proofs.Tellings.{read_clear}
use Rattle.ndushavire.specs.Reads.{call_place}
use Rattle.ndushavire_sh.specs.Lent.{Lent, terms_in, dialect_in}
use Rattle.ndushavire_sh.specs.Serve.{told_of, refused, answered, sh_serve}
use Rattle.demands.proofs.Faults.{fine_bad, same_place, fault_read_by, read_fault_by, fault_least, fault_fours, fault_within}
use Rattle.demands.proofs.Moved.{failed_there}
use Rattle.sh_demands.specs.Call.{turned_away}
use Rattle.sh_demands.specs.Insertion.{fault_bytes, blaming}
use Rattle.sh_demands.specs.Place.{Blames, result_of}
use Rattle.sh_demands.proofs.Refusing.{any_call, answer_is}
use Rattle.sh_demands.proofs.Returning.{passed}

-- the bytes of such an answer
pub fault_bytes_are : (terms : Terms) (req t : List ℕ) (n place : ℕ) (shown : List ℕ) → failed_by req (fault_at n place) ≡ some shown
    → sh_answer terms req t (tell_none (fault_at n place)) ≡ fault_bytes terms req t n shown
unfolding sh_answer sh_body told_bytes end_bytes
fault_bytes_are terms req t n place shown is = rw is

-- The place is the verdict's, and 0 of a request that was read.
abbrev place_of : Judged → ℕ
place_of (bad v) = v.place
place_of (fine seen) = 0

module _ (x : Lent) where
  abbrev count : ℕ
  count = check_value (check_area x.table (length x.profile))

  abbrev reads : Judged
  reads = read_sh (dialect_in x) x.request

  abbrev place : ℕ
  place = call_place (sh_serve x).call

  told_place : (told_of x count).verdict.place ≡ place_of reads
  unfolding tell tell_judged
  told_place = go reads
    where
      go : (j : Judged) → (tell_judged x.request (table_in x.table) count j).verdict.place ≡ place_of j
      go (bad v) = refl
      go (fine seen) = (read_clear x.request (table_in x.table) count seen).0

  pub refused_nowhere : turned_away x ≡ true → place ≡ 0
  unfolding refused
  refused_nowhere = any_call x (λ b s. b ≡ true → call_place s.call ≡ 0) (λ r e. refl) (λ e. absurd (true≢false (sym e)))

  place_read : turned_away x ≡ false → place ≡ place_of reads
  unfolding answered
  place_read e = rw (answer_is x e) told_place

  fault_read : (p : ℕ) (b : Blames x p) → reads ≡ bad (fault_at b.result p)
  unfolding read_sh
  fault_read p b = fault_read_by (dialect_in x) x.request b.result p b.fault

  fault_told : (p : ℕ) (b : Blames x p) → told_of x count ≡ tell_none (fault_at b.result p)
  unfolding tell tell_judged
  fault_told p b = rw (fault_read p b)

  pub blames_answer : (p : ℕ) (b : Blames x p) → sh_serve x ≡ blaming x b.result (failed_of b.result (drop p x.request)) p
  unfolding answered
  blames_answer p b =
      let n = b.result in
      let h : 0 < p = omega (arith, fault_least (dialect_in x) x.request n p b.fault) in
      answer_is x b.taken
      ∙ rw (fault_told p b, fault_bytes_are (terms_in x) x.request (table_in x.table) n p _ (failed_there x.request n p h))

  pub blames_result : (p : ℕ) (b : Blames x p) → result_of x ≡ Base b.result
  blames_result p b = ap (λ (g : Telling). g.verdict.result) (fault_told p b)

  pub place_blamed : place ≢ 0 → Blames x place
  unfolding read_sh
  place_blamed n = go (turned_away x) refl
    where
      read : turned_away x ≡ false → (j : Judged) → reads ≡ j → Blames x place
      read e (bad v) r =
          let q : v.place ≡ place = sym (place_read e ∙ ap place_of r) in
          let f = read_fault_by (header_fault_sh (dialect_in x) x.request) (dialect_in x) x.request v (λ z. n (sym q ∙ z)) r in
          record { taken = e; result = f.number; fault = same_place (dialect_in x) x.request f.number q f.at }
      read e (fine seen) r = absurd (n (place_read e ∙ ap place_of r))

      go : (y : Bool) → turned_away x ≡ y → Blames x place
      go true e = absurd (n (refused_nowhere e))
      go false e = read e reads refl

  pub unblamed : ((p : ℕ) → Blames x p → ⊥) → place ≡ 0
  unblamed n = go (eqb place 0) refl
    where
      go : (y : Bool) → eqb place 0 ≡ y → place ≡ 0
      go true e = eqb-true place 0 e
      go false e = absurd (n place (place_blamed (eqb-false place 0 e)))

  pub read_unblamed : (seen : Seen) → reads ≡ fine seen → (p : ℕ) → Blames x p → ⊥
  read_unblamed seen e p b = fine_bad seen (fault_at b.result p) (sym e ∙ fault_read p b)

  -- places and lengths are multiples of 4, so that 4 bytes stand there, and the place is at most 16,380
  pub fault_bytes_lem : (p : ℕ) → Blames x p → p + 4 ≤ length x.request
  fault_bytes_lem p b =
      omega (
        arith,
        fault_within (dialect_in x) x.request b.result p b.fault,
        fault_fours (dialect_in x) x.request b.result p b.fault,
        (passed x b.taken).fours,
      )

  pub place_limit : place ≤ 16380
  place_limit = go (eqb place 0) refl
    where
      go : (y : Bool) → eqb place 0 ≡ y → place ≤ 16380
      go true e = omega (arith, eqb-true place 0 e)
      go false e = let b = place_blamed (eqb-false place 0 e) in omega (arith, fault_bytes_lem place b, (passed x b.taken).most)
