-- What is told, by what reading a request found and what the table holds.
use Rattle.std.specs.Prelude.{Option, Some, None, Ok, Err}
use Rattle.octets.specs.Standard.{ℕ, ◌≤◌, List, Bool, true, false, cond, ◌≡◌, refl, ap, arith, length}
use Rattle.diameter.specs.Message.{body_of}
use Rattle.lookup.specs.Among.{Among}
use Rattle.lookup.specs.Find.{find_public}
use Rattle.lookup.proofs.Among.{public_among}
use Rattle.reading.specs.Kinds.{user_identity}
use Rattle.reading.specs.Places.{seen_of}
use Rattle.reading.specs.Rules.{Seen}
use Rattle.reading.specs.Verdicts.{fault_of}
use Rattle.reading.specs.declared.Dialect.{Dialect}
use Rattle.reading.specs.declared.Verdict.{Verdict}
use Rattle.requests.specs.Found.{judged_of, Walked}
use Rattle.requests.specs.Judged.{Judged, bad, fine}
use Rattle.requests.specs.Request.{read_sh, member_seen, identity_of}
use Rattle.requests.proofs.Faulting.{sh_placed}
use Rattle.requests.proofs.Requests.{judged_fine, judged_bad}
use Rattle.user_data.specs.declared.References.{References}
use Rattle.sh.specs.Referring.{references_of}
use Rattle.sh.specs.Replies.{Tells}
use Rattle.sh.specs.Tell.{Telling, tell_none, denial, denied, tell_record, tell_found, tell_read, tell_judged, tell}

-- Of a request that was read no AVP is at fault, and none is missing.
abbrev Clear : Telling → Type 0
Clear g = (g.verdict.place ≡ 0) × (g.verdict.lacks ≡ 0)

record_clear : (r : References) (k : ℕ) → Clear (tell_record r k)
unfolding tell_record
record_clear r k = go r.other
  where
    go : (x : Bool) → Clear (cond x (denied 5100) (record { verdict = fault_of 2001; block = k; asked = r }))
    go true = (refl, refl)
    go false = (refl, refl)

found_clear : (r : References) (f : Option ℕ) → Clear (tell_found r f)
unfolding tell_found
found_clear r (Some k) = record_clear r k
found_clear r None = (refl, refl)

pub read_clear : (req t : List ℕ) (count : ℕ) (seen : Seen)
    → ((tell_read req t count seen).verdict.place ≡ 0) × ((tell_read req t count seen).verdict.lacks ≡ 0)
unfolding tell_read
read_clear req t count seen = found_clear (references_of (body_of req)) (find_public t count (identity_of seen))

-- It is told of one of the records or of none.
record_within : (r : References) (count k : ℕ) → k ≤ count → (tell_record r k).block ≤ count
unfolding tell_record
record_within r count k h = go r.other
  where
    go : (x : Bool) → (cond x (denied 5100) (record { verdict = fault_of 2001; block = k; asked = r })).block ≤ count
    go true = omega arith
    go false = h

found_within : (r : References) (count : ℕ) (f : Option ℕ) → Among count f → (tell_found r f).block ≤ count
unfolding tell_found
found_within r count (Some k) a = record_within r count k (a.to k refl)
found_within r count None a = omega arith

-- The place that is told of any request lies in it.
pub tell_near : (d : Dialect) (req t : List ℕ) (count : ℕ) → 20 ≤ length req → length req ≤ 16384 → (tell d req t count).verdict.place ≤ 16384
unfolding tell tell_judged
tell_near d req t count least most = go (read_sh d req) refl
  where
    go : (j : Judged) → read_sh d req ≡ j → (tell_judged req t count j).verdict.place ≤ 16384
    go (bad v) e = omega (arith, (sh_placed d req v least e).within)
    go (fine seen) e = omega (arith, (read_clear req t count seen).0)

pub tell_bounds : (d : Dialect) (req t : List ℕ) (count : ℕ) → 20 ≤ length req → length req ≤ 16384
    → ((tell d req t count).block ≤ count) × ((tell d req t count).verdict.place ≤ 16384)
unfolding tell tell_judged tell_read
tell_bounds d req t count least most = (go (read_sh d req), tell_near d req t count least most)
  where
    go : (j : Judged) → (tell_judged req t count j).block ≤ count
    go (bad v) = omega arith
    go (fine seen) = found_within (references_of (body_of req)) count (find_public t count (identity_of seen)) (public_among t count (identity_of seen) refl)

-- What the code leaves of a request: at fault, or read; then its record is looked for, and what it asks.
module _ (d : Dialect) (req t places : List ℕ) (count : ℕ) (w : Walked) (is : judged_of req places w ≡ read_sh d req) (least : 20 ≤ length req)
    (most : length req ≤ 16384) where
  denies : (v : Verdict) → tell_none v ≡ tell d req t count → Tells d req t count (Err v)
  denies v e =
      record {
        telling_is = e;
        within = tt;
        near = omega (arith, ap (λ (g : Telling). g.verdict.place) e, tell_near d req t count least most);
      }

  pub fault_tells : (v : Verdict) → w ≡ Err v → Tells d req t count (Err v)
  unfolding tell tell_judged
  fault_tells v e = denies v (rw (judged_bad req places w (read_sh d req) is v e))

  module _ (u : Unit {0}) (e : w ≡ Ok u) (identity : List ℕ) (i : identity ≡ member_seen (seen_of req places) user_identity) (f : Option ℕ)
      (found : f ≡ find_public t count identity) where
    tells_found : tell d req t count ≡ tell_found (references_of (body_of req)) f
    unfolding tell tell_judged tell_read
    tells_found = rw (judged_fine req places w (read_sh d req) is u e, found, i)

    pub unknown_tells : {v : Verdict} → f ≡ None → v ≡ denial 5001 → Tells d req t count (Err v)
    unfolding tell_found
    unknown_tells n k = denies _ (rw (tells_found, n, k))

    module _ (k : ℕ) (at : f ≡ Some k) (r : References) (asked : r ≡ references_of (body_of req)) where
      pub other_tells : {v : Verdict} → r.other ≡ true → v ≡ denial 5100 → Tells d req t count (Err v)
      unfolding tell_found tell_record
      other_tells o z = denies _ (rw (tells_found, at, ← asked, o, z))

      pub known_tells : {v : Verdict} → v ≡ fault_of 2001 → r.other ≡ false → Tells d req t count (Ok (record { verdict = v; block = k; asked = r }))
      unfolding tell_found tell_record
      known_tells z o =
          let a = public_among t count identity found in
          rw z (record { telling_is = rw (tells_found, at, ← asked, o); within = a.to k at; near = omega arith })
