-- 02 [13], "A plain engine beside the quick one.", about the promise that `ndushavire_plain` and `ndushavire_decide` both make, for anything lent. How it reads
-- is in plain_reading: `plain_reads`, `places_most`.
use Rattle.octets.specs.Standard.{ℕ, ◌≡◌, List}
use Rattle.calling.specs.Lent.{Lent}
use Rattle.ndushavire.specs.Promise.{DecidePromise}
use Rattle.demands.proofs.Firm.{decide_unique}

-- "PROVE THAT IT RETURNS THE SAME, AND LEAVES THE SAME TABLE AND BUFFER, FOR EVERY INPUT, editions and features included": whatever the one returns and leaves
-- for what is lent, the vectors too, the other does.
pub plain_same : (a : Lent) {r s : ℕ} {t u v w o p : List ℕ} → DecidePromise a r t v o → DecidePromise a s u w p → (r ≡ s) × (t ≡ u) × (v ≡ w) × (o ≡ p)
plain_same a {r} {s} {t} {u} {v} {w} {o} {p} plain quick = decide_unique a r s t u v w o p plain quick
