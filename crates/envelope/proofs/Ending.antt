-- How an answer ends: Failed-AVP, then every Proxy-Info.
use Rattle.octets.specs.Standard.{ℕ, ◌+◌, ◌≤◌, ◌<◌, ◌≡◌, refl, sym, List, length, drop, lt-ltb, le-ltb}
use Rattle.octets.specs.Run.{over, Wrote}
use Rattle.octets.proofs.Writes.{lent, back, then, named}
use Rattle.pen.specs.Groups.{failed}
use Rattle.reading.specs.Verdicts.{number_of}
use Rattle.diameter.specs.Message.{body_of}
use Rattle.failed.specs.Failing.{failed_of, example, failed_by}
use Rattle.reading.specs.declared.Verdict.{Verdict}
use Rattle.envelope.specs.End.{failed_part, proxies, end_bytes}

-- Failed-AVP: of a kind that is missing, of the AVP at a place, or none.
module _ (s : List ℕ) (v : Verdict) where
  lacking : 0 < v.lacks → failed_part (failed_by s v) ≡ failed (example v.lacks)
  unfolding failed_by
  lacking h = rw (lt-ltb 0 v.lacks h)

  placed : v.lacks ≤ 0 → 0 < v.place → failed_part (failed_by s v) ≡ failed (failed_of (number_of v.result) (drop v.place s))
  unfolding failed_by
  placed h k = rw (le-ltb 0 v.lacks h, lt-ltb 0 v.place k)

  pub lacking_room : {m : ℕ} → 0 < v.lacks → length (failed_part (failed_by s v)) ≤ m → length (failed (example v.lacks)) ≤ m
  lacking_room h r = rw (lacking h) at r

  pub wrote_lacking : {b xs : List ℕ} {r : ℕ} → 0 < v.lacks → Wrote (failed (example v.lacks)) b xs r → Wrote (failed_part (failed_by s v)) b xs r
  wrote_lacking h w = named (sym (lacking h)) refl w

  module _ (n : ℕ) (is : n ≡ number_of v.result) (h : v.lacks ≤ 0) (k : 0 < v.place) where
    pub placed_room : {m : ℕ} → length (failed_part (failed_by s v)) ≤ m → length (failed (failed_of n (drop v.place s))) ≤ m
    placed_room r = rw is (rw (placed h k) at r)

    pub wrote_placed : {b xs : List ℕ} {r : ℕ} → Wrote (failed (failed_of n (drop v.place s))) b xs r → Wrote (failed_part (failed_by s v)) b xs r
    wrote_placed w = named (rw is (sym (placed h k))) refl w

  pub wrote_no_failed : (b : List ℕ) → v.lacks ≤ 0 → v.place ≤ 0 → Wrote (failed_part (failed_by s v)) b b 0
  unfolding failed_by over
  wrote_no_failed b h k = rw (le-ltb 0 v.lacks h, le-ltb 0 v.place k) (record { count = refl; bytes = refl })

pub wrote_end : (req : List ℕ) (v : Verdict) {b xs ys : List ℕ} {n r : ℕ} → Wrote (failed_part (failed_by req v)) b xs n
    → Wrote (proxies (body_of req)) (lent n xs) ys r
    → Wrote (end_bytes req v) b (back n xs ys) (n + r)
unfolding end_bytes
wrote_end req v p q = then p q
