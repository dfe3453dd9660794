-- The answer to an AVP at fault, in which nothing is given but the verdict; and the place of a call, by what reading its request comes to.
use Rattle.octets.specs.Standard.{ℕ, ◌+◌, ◌≤◌, ◌<◌, List, some, Bool, true, false, ◌≡◌, refl, sym, ap, ◌∙◌, ◌≢◌, arith, length, drop, eqb, eqb-true}
use Rattle.octets.specs.Standard.{eqb-false}
use Rattle.octets.specs.Run.{over}
use Rattle.pen.specs.Bytes.{if_there}
use Rattle.pen.specs.Groups.{capabilities}
use Rattle.items.specs.Items.{sent_bytes}
use Rattle.reading.specs.Rules.{Seen}
use Rattle.reading.specs.Verdicts.{fault_at}
use Rattle.reading.specs.declared.Outcome.TheVariants.{Base, Experimental}
use Rattle.requests.specs.Features.{beyond_set}
use Rattle.requests.specs.Judged.{Judged, bad, fine}
use Rattle.reading.specs.declared.Dialect.{Dialect}
use Rattle.reading.specs.declared.Terms.{Terms}
use Rattle.requests.specs.Request.{read_in}
use Rattle.failed.specs.Failing.{failed_of, failed_by}
use Rattle.choices.specs.Given.{given_fault}
use Rattle.reply.specs.Pieces.{identity_bytes, name_bytes, data_bytes, given_bytes}
use Rattle.envelope.specs.End.{end_bytes}
use Rattle.answering.specs.Answer.{rest_bytes, body_bytes, answer_bytes}
use Rattle.deciding.specs.Rules.{in_force}
use Rattle.deciding.specs.Decide.{Decision, faulted, performed_by, judged_by, decide_by, decide}
use Rattle.deciding.proofs.Tests.{either}
use Rattle.calling.specs.Call.{Answered}
use Rattle.calling.specs.Lent.{Lent, table_only, dialect_in}
use Rattle.ndushavire.specs.Reads.{call_place}
use Rattle.refusals.specs.Early.{check_value}
use Rattle.calling.specs.Serve.{Served, check_of, answered, answered_by, serve_table, over_area, serve, result_of}
use Rattle.calling.proofs.Areas.{put_same}
use Rattle.refusals.proofs.Passing.{size_most, length_even}
use Rattle.demands.specs.Call.{turned_away}
use Rattle.demands.specs.Place.{Blames, fault_body, fault_bytes, blaming}
use Rattle.calling.proofs.Kept.{taken}
use Rattle.demands.proofs.Refusals.{refused_nowhere, answer_is}
use Rattle.demands.proofs.Faults.{fine_bad, same_place, fault_read, read_fault, fault_least, fault_fours, fault_within}
use Rattle.demands.proofs.Moved.{failed_there}

-- such an answer over a table of its exact length; over an area it is `blaming`
abbrev pub blaming_table : Lent → ℕ → List ℕ → ℕ → Served
blaming_table x n shown place =
    record {
      call = Answered (record { length = length (fault_bytes x.terms x.request x.table n shown); place = place });
      table = x.table;
      vectors = x.vectors;
      buffer = over (fault_bytes x.terms x.request x.table n shown) x.buffer;
    }

pub blaming_over : (a : Lent) (n : ℕ) (shown : List ℕ) (place : ℕ) → over_area a.table (blaming_table (table_only a) n shown place) ≡ blaming a n shown place
blaming_over a n shown place = rw (put_same a.table)

pub blamed_over : (a : Lent) (n : ℕ) (shown : List ℕ) (place : ℕ) → serve_table (table_only a) ≡ blaming_table (table_only a) n shown place
    → serve a ≡ blaming a n shown place
blamed_over a n shown place e = ap (over_area a.table) e ∙ blaming_over a n shown place

module _ (terms : Terms) (req : List ℕ) (n place : ℕ) (shown : List ℕ) (is : failed_by req (fault_at n place) ≡ some shown) where
  fault_body_lem : (t file v : List ℕ) → body_bytes terms req t file v (given_fault (fault_at n place)) ≡ fault_body terms req t n shown
  unfolding body_bytes rest_bytes given_bytes name_bytes identity_bytes sent_bytes data_bytes end_bytes capabilities if_there
  fault_body_lem t file v = rw is

  fault_whole : (t file v : List ℕ) → answer_bytes terms req t file v (given_fault (fault_at n place)) ≡ fault_bytes terms req t n shown
  unfolding answer_bytes
  fault_whole t file v = rw (fault_body_lem t file v)

fault_decides : (d : Dialect) (req : List ℕ) (n place : ℕ) → read_in d req ≡ bad (fault_at n place) → (t : List ℕ) (count : ℕ) (v : List ℕ)
    → decide d req t count v ≡ faulted t v (fault_at n place)
unfolding decide_by judged_by
fault_decides d req n place e t count v = rw e

pub fault_answered : (x : Lent) (n place : ℕ) (shown : List ℕ) → failed_by x.request (fault_at n place) ≡ some shown
    → read_in (dialect_in x) x.request ≡ bad (fault_at n place) → turned_away x ≡ false → serve_table x ≡ blaming_table x n shown place
unfolding answered_by
fault_answered x n place shown is e away =
    let count = check_value (check_of x) in
    answer_is x away
    ∙ ap (answered x) (fault_decides (dialect_in x) x.request n place e x.table count x.vectors)
    ∙ rw (fault_whole x.terms x.request n place shown is x.table x.profile x.vectors)

-- The place is the verdict's, and 0 of a request that was read.
abbrev place_of : Judged → ℕ
place_of (bad v) = v.place
place_of (fine seen) = 0

decide_place : (d : Dialect) (req t : List ℕ) (count : ℕ) (v : List ℕ) → (decide d req t count v).place ≡ place_of (read_in d req)
unfolding decide_by judged_by performed_by
decide_place d req t count v = go (read_in d req)
  where
    go : (j : Judged) → (judged_by in_force d req t count v j).place ≡ place_of j
    go (bad f) = refl
    go (fine seen) = either (λ (e : Decision). e.place ≡ 0) (beyond_set d.terms req) refl refl

module _ (x : Lent) where
  abbrev place : ℕ
  place = call_place (serve_table x).call

  place_read : turned_away x ≡ false → place ≡ place_of (read_in (dialect_in x) x.request)
  unfolding answered_by
  place_read e = rw (answer_is x e) (decide_place (dialect_in x) x.request x.table (check_value (check_of x)) x.vectors)

  pub blames_answer : (p : ℕ) (b : Blames x p) → serve_table x ≡ blaming_table x b.result (failed_of b.result (drop p x.request)) p
  blames_answer p b =
      let n = b.result in
      let h : 0 < p = omega (arith, fault_least (dialect_in x) x.request n p b.fault) in
      fault_answered x n p (failed_of n (drop p x.request)) (failed_there x.request n p h) (fault_read (dialect_in x) x.request n p b.fault)
      b.taken

  pub place_blamed : place ≢ 0 → Blames x place
  place_blamed n = go (turned_away x) refl
    where
      read : turned_away x ≡ false → (j : Judged) → read_in (dialect_in x) x.request ≡ j → Blames x place
      read e (bad v) r =
          let q : v.place ≡ place = sym (place_read e ∙ ap place_of r) in
          let f = read_fault (dialect_in x) x.request v (λ z. n (sym q ∙ z)) r in
          record { taken = e; result = f.number; fault = same_place (dialect_in x) x.request f.number q f.at }
      read e (fine seen) r = absurd (n (place_read e ∙ ap place_of r))

      go : (y : Bool) → turned_away x ≡ y → Blames x place
      go true e = absurd (n (refused_nowhere x e))
      go false e = read e (read_in (dialect_in x) x.request) refl

  pub unblamed : ((p : ℕ) → Blames x p → ⊥) → place ≡ 0
  unblamed n = go (eqb place 0) refl
    where
      go : (y : Bool) → eqb place 0 ≡ y → place ≡ 0
      go true e = eqb-true place 0 e
      go false e = absurd (n place (place_blamed (eqb-false place 0 e)))

  -- its result is one of the rules'
  pub blames_result : (p : ℕ) (b : Blames x p) → result_of x ≡ Base b.result
  blames_result p b =
      let n = b.result in
      ap (λ (d : Decision). d.given.verdict.result)
      (fault_decides (dialect_in x) x.request n p (fault_read (dialect_in x) x.request n p b.fault) x.table (check_value (check_of x)) x.vectors)

  pub read_unblamed : (seen : Seen) → read_in (dialect_in x) x.request ≡ fine seen → (p : ℕ) → Blames x p → ⊥
  read_unblamed seen e p b = fine_bad seen (fault_at b.result p) (sym e ∙ fault_read (dialect_in x) x.request b.result p b.fault)

  -- places and lengths are multiples of 4
  pub fault_bytes_lem : (p : ℕ) → Blames x p → p + 4 ≤ length x.request
  fault_bytes_lem p b =
      omega (
        arith,
        fault_within (dialect_in x) x.request b.result p b.fault,
        fault_fours (dialect_in x) x.request b.result p b.fault,
        length_even x.request (taken x b.taken).lengths,
      )

  -- so it is at most 16,380
  pub place_limit : place ≤ 16380
  place_limit = go (eqb place 0) refl
    where
      go : (y : Bool) → eqb place 0 ≡ y → place ≤ 16380
      go true e = omega (arith, eqb-true place 0 e)
      go false e =
          let b = place_blamed (eqb-false place 0 e) in
          let s = size_most x.request (taken x b.taken).size in
          let w = fault_within (dialect_in x) x.request b.result place b.fault in
          omega (arith, s, w, fault_fours (dialect_in x) x.request b.result place b.fault)

-- B and X "never stand for one another"
pub base_number : {m n : ℕ} → Base m ≡ Base n → m ≡ n
base_number e = cc

pub base_experimental : {m n : ℕ} → Base m ≡ Experimental n → ⊥
base_experimental e = let z : ◌≡◌ {A = ℕ} 0 1 = cc in omega arith
