-- Over the list of a request these are what its walk has.
use Rattle.octets.specs.Standard.{ℕ, suc, ◌-◌, ◌≤◌, ◌≡◌, refl, ap, ◌∙◌, List, [], none, some, Bool}
use Rattle.octets.specs.Standard.{arith, length, get_or, drop, ne_eqb}
use Rattle.diameter.specs.Message.{body_of}
use Rattle.diameter.specs.Walk.{Walk, ended, faulty, avp, some_avp, behind_first}
use Rattle.envelope.specs.End.{proxies}
use Rattle.reading.specs.Features.{asks_beyond, calls_list}
use Rattle.reading.specs.Places.{seen_of}
use Rattle.reading.specs.Rules.{Seen}
use Rattle.reading.specs.declared.Terms.{Terms}
use Rattle.requests.specs.Features.{beyond_set, list_called, wanted_of}
use Rattle.requests.specs.Request.{session_of}
use Rattle.plain_reading.specs.Listed.{places_of}
use Rattle.plain_reading.proofs.Each.{cut, cut_none}
use Rattle.plain_reading.proofs.Listing.{listed, listed_at}
use Rattle.plain_looks.specs.Looks.{session_in, whole, some_from, calls_at, asks_at, called_by, asks_by, wanted_by, proxies_from, proxies_by}

listed_all : (req : List ℕ) → seen_of req (places_of req) ≡ listed (body_of req)
unfolding places_of
listed_all req = listed_at req 20

-- Session-Id
session_walk : (w : Walk) → session_in (listed w) ≡ session_of w
unfolding session_in listed
session_walk ended = refl
session_walk (faulty t) = refl
session_walk (avp a w) = refl

pub session_same : (req : List ℕ) → session_in (seen_of req (places_of req)) ≡ session_of (body_of req)
session_same req = rw (listed_all req) (session_walk (body_of req))

-- what is left of the list is what is left of the walk
module _ (avps : Seen) (p : ℕ → Bool) (q : List ℕ → Bool) (from : ℕ)
    (at : (i : ℕ) → from ≤ i → p i ≡ whole q (get_or avps i none)) where
  some_walk : (w : Walk) (i : ℕ) → from ≤ i → drop i avps ≡ listed w → some_from p (length avps - i) i ≡ some_avp q w
  unfolding some_from listed some_avp
  some_walk ended i h l =
      let n : length avps - i ≡ 0 = omega (arith, cut_none avps i none l) in
      rw n
  some_walk (faulty t) i h l =
      let k = cut avps i none none [] l in
      let n : length avps - i ≡ suc (length avps - suc i) = omega (arith, k.low) in
      let m : length avps - suc i ≡ 0 = omega (arith, cut_none avps (suc i) none k.tail) in
      rw (n, at i h, k.head, m)
  some_walk (avp a w) i h l =
      let k = cut avps i none (some a) (listed w) l in
      let n : length avps - i ≡ suc (length avps - suc i) = omega (arith, k.low) in
      rw (n, at i h, k.head, some_walk w (suc i) (omega arith) k.tail)

from_all : (avps : Seen) (p : ℕ → Bool) → some_from p (length avps) 0 ≡ some_from p (length avps - 0) 0
from_all avps p = let n : length avps - 0 ≡ length avps = omega arith in rw n

asks_walk : (set : ℕ) (w : Walk) → asks_by set (listed w) ≡ some_avp (asks_beyond set) w
unfolding asks_at
asks_walk set w =
    from_all (listed w) (asks_at set (listed w))
    ∙ some_walk (listed w) (asks_at set (listed w)) (asks_beyond set) 0 (λ i h. refl) w 0 (omega arith) refl

calls_later : (avps : Seen) (i : ℕ) → 1 ≤ i → calls_at avps i ≡ whole calls_list (get_or avps i none)
unfolding calls_at
calls_later avps i h = rw (ne_eqb i 0 (λ e. omega arith))

called_walk : (w : Walk) → called_by (listed w) ≡ some_avp calls_list (behind_first w)
unfolding some_from listed some_avp calls_at
called_walk ended = refl
called_walk (faulty t) = refl
called_walk (avp a w) =
    let n : length (listed w) ≡ length (listed (avp a w)) - 1 = omega arith in
    ap (λ (k : ℕ). some_from (calls_at (listed (avp a w))) k 1) n
    ∙ some_walk (listed (avp a w)) (calls_at (listed (avp a w))) calls_list 1 (calls_later (listed (avp a w))) w 1 (omega arith) refl

-- Supported-Features
pub wanted_same : (terms : Terms) (req : List ℕ) → wanted_by terms req (seen_of req (places_of req)) ≡ wanted_of terms req
unfolding list_called beyond_set
wanted_same terms req = rw (listed_all req, asks_walk terms.features (body_of req), called_walk (body_of req))

-- Proxy-Info
proxies_walk : (avps : Seen) (w : Walk) (i : ℕ) → drop i avps ≡ listed w → proxies_from avps (length avps - i) i ≡ proxies w
unfolding proxies_from listed proxies
proxies_walk avps ended i l = let n : length avps - i ≡ 0 = omega (arith, cut_none avps i none l) in rw n
proxies_walk avps (faulty t) i l =
    let k = cut avps i none none [] l in
    let n : length avps - i ≡ suc (length avps - suc i) = omega (arith, k.low) in
    let m : length avps - suc i ≡ 0 = omega (arith, cut_none avps (suc i) none k.tail) in
    rw (n, k.head, m)
proxies_walk avps (avp a w) i l =
    let k = cut avps i none (some a) (listed w) l in
    let n : length avps - i ≡ suc (length avps - suc i) = omega (arith, k.low) in
    rw (n, k.head, proxies_walk avps w (suc i) k.tail)

pub proxies_same : (req : List ℕ) → proxies_by (seen_of req (places_of req)) ≡ proxies (body_of req)
proxies_same req =
    let avps = listed (body_of req) in
    let n : length avps ≡ length avps - 0 = omega arith in
    rw (listed_all req) (ap (λ (k : ℕ). proxies_from avps k 0) n ∙ proxies_walk avps (body_of req) 0 refl)
