-- From what the code has to what the definitions say: Session-Id, one AVP of the list, the loops over it.
use Rattle.std.specs.Prelude.{Result, Ok, Err}
use Rattle.std.specs.Result.{is_ok}
use Rattle.reading.specs.declared.Verdict.{Verdict}
use Rattle.requests.specs.Found.{Headed}
use Rattle.octets.specs.Standard.{zero, ◌||◌, or-true, or-false, true≢false, eqb-true, eqb-false, ne_eqb}
use Rattle.octets.specs.Standard.{ℕ, suc, ◌+◌, ◌-◌, ◌%◌, ◌≤◌, ◌<◌, add-one, ◌≡◌, refl, sym, ap, ◌∙◌, List, [], ◌∷◌, ◌++◌, none, Bool, true, false, not}
use Rattle.octets.specs.Standard.{◌&&◌, and_assoc, and-false, arith, length, length-append, length-take, length-drop, get_or, drop, eqb, mid_of, put_mid}
use Rattle.octets.specs.Run.{over, Wrote}
use Rattle.octets.proofs.Writes.{Going, going_more, going_end, going_none}
use Rattle.diameter.specs.Reader.{read_of, own_of}
use Rattle.diameter.specs.declared.Avp.{Avp}
use Rattle.diameter.proofs.Reading.{own_flags, read_here}
use Rattle.diameter.specs.Message.{body_of}
use Rattle.envelope.specs.End.{proxy, proxies}
use Rattle.reading.specs.Features.{asks, asks_beyond, passes, calls_list}
use Rattle.reading.specs.Kinds.{kind_of, session_id, supported_features}
use Rattle.reading.specs.Places.{seen_of}
use Rattle.reading.specs.Rules.{Seen}
use Rattle.reading.specs.declared.Dialect.{Dialect}
use Rattle.reading.specs.declared.Terms.{Terms}
use Rattle.requests.specs.Features.{wanted_of}
use Rattle.requests.specs.Request.{dialect_of, header_fault, session_of}
use Rattle.plain_reading.specs.Listed.{places_of}
use Rattle.plain_reading.proofs.Turns.{part_cut, part_whole, seen_length}
use Rattle.plain_looks.specs.Looks.{session_in, some_from, calls_at, asks_at, called_by, asks_by, proxy_by, proxies_from}
use Rattle.plain_looks.proofs.Same.{session_same, wanted_same, proxies_same}

-- Session-Id
pub session_empty : (s list : List ℕ) → length list ≡ 0 → [] ≡ session_in (seen_of s list)
unfolding session_in
session_empty s [] e = refl
session_empty s (p ∷ list) e = absurd (omega arith)

some_there : (list : List ℕ) → (length list ≡ 0 → ⊥) → 0 < length list
some_there [] h = absurd (h refl)
some_there (p ∷ list) h = omega arith

module _ (s list : List ℕ) (there : length list ≡ 0 → ⊥) (r : Result Avp ℕ)
    (e : r ≡ read_of (get_or list 0 0) (drop (get_or list 0 0) s)) where
  pub session_cut : {p : ℕ} → r ≡ Err p → [] ≡ session_in (seen_of s list)
  unfolding session_in
  session_cut d = rw (part_cut s list 0 (some_there list there) r e d)

  module _ (a : Avp) (k : ℕ) (d : r ≡ Ok a) (ek : k ≡ kind_of (own_of s a)) where
    pub session_there : (b : List ℕ) → (eqb k session_id && eqb (a.flags % 32) 0) ≡ true → b ≡ own_of s a → b ≡ session_in (seen_of s list)
    unfolding session_in
    session_there b t eb =
        eb ∙ rw (part_whole s list 0 (some_there list there) r e a d, ← ek, own_flags s a (read_here s (get_or list 0 0) r e a d), t)

    pub session_other : (eqb k session_id && eqb (a.flags % 32) 0) ≡ false → [] ≡ session_in (seen_of s list)
    unfolding session_in
    session_other t = rw (part_whole s list 0 (some_there list there) r e a d, ← ek, own_flags s a (read_here s (get_or list 0 0) r e a d), t)

-- over the request's list it is the walk's
pub session_as : (s list b : List ℕ) → list ≡ places_of s → b ≡ session_in (seen_of s list) → b ≡ session_of (body_of s)
session_as s list b e f = f ∙ rw e (session_same s)

-- one AVP of the list
module _ (s list : List ℕ) (i : ℕ) (low : i < length list) (r : Result Avp ℕ)
    (e : r ≡ read_of (get_or list i 0) (drop (get_or list i 0) s)) where
  module _ {p : ℕ} (d : r ≡ Err p) where
    pub calls_cut : false ≡ calls_at (seen_of s list) i
    unfolding calls_at
    calls_cut = rw (part_cut s list i low r e d) (sym (and-false (not (eqb i 0))))

    pub asks_cut : (set : ℕ) → false ≡ asks_at set (seen_of s list) i
    unfolding asks_at
    asks_cut set = rw (part_cut s list i low r e d)

    pub proxy_cut : (b : List ℕ) → Wrote (proxy_by (get_or (seen_of s list) i none)) b b 0
    unfolding over
    proxy_cut b = rw (part_cut s list i low r e d) (record { count = refl; bytes = refl })

  module _ (a : Avp) (d : r ≡ Ok a) where
    module _ (k : ℕ) (ek : k ≡ kind_of (own_of s a)) (x : Bool) where
      pub calls_whole : x ≡ passes (own_of s a) → ((not (eqb i 0) && eqb k supported_features) && x) ≡ calls_at (seen_of s list) i
      unfolding calls_at calls_list
      calls_whole ex = rw (part_whole s list i low r e a d, ← ek, ← ex) (and_assoc (not (eqb i 0)) (eqb k supported_features) x)

      pub asks_whole : (set : ℕ) → x ≡ asks set (own_of s a) → (eqb k supported_features && x) ≡ asks_at set (seen_of s list) i
      unfolding asks_at asks_beyond
      asks_whole set ex = rw (part_whole s list i low r e a d, ← ek, ← ex)

    pub room_whole : {m : ℕ} → length (proxy_by (get_or (seen_of s list) i none)) ≤ m → length (proxy (own_of s a)) ≤ m
    room_whole h = rw (part_whole s list i low r e a d) at h

    pub wrote_whole : {b xs : List ℕ} {n : ℕ} → Wrote (proxy (own_of s a)) b xs n → Wrote (proxy_by (get_or (seen_of s list) i none)) b xs n
    wrote_whole w = rw (part_whole s list i low r e a d) w

-- a scan for one that passes a test
module _ (p : ℕ → Bool) where
  some_yes : (n i j : ℕ) → i ≤ j → j < i + n → p j ≡ true → some_from p n i ≡ true
  unfolding some_from
  some_yes zero i j a b e = absurd (omega arith)
  some_yes (suc n) i j a b e = go (eqb i j) refl (λ c. some_yes n (suc i) j c (omega arith) e)
    where
      go : (x : Bool) → eqb i j ≡ x → (suc i ≤ j → some_from p n (suc i) ≡ true) → (p i || some_from p n (suc i)) ≡ true
      go true f r = let m : i ≡ j = eqb-true i j f in rw (m, e)
      go false f r = rw (r (omega (arith, eqb-false i j f)), or-true)

  some_no : (n i : ℕ) → ((j : ℕ) → i ≤ j → j < i + n → p j ≡ true → ⊥) → some_from p n i ≡ false
  unfolding some_from
  some_no zero i h = refl
  some_no (suc n) i h = rw (some_no n (suc i) (λ j a b. h j (omega arith) (omega arith)), or-false) (go (p i) refl)
    where
      go : (x : Bool) → p i ≡ x → p i ≡ false
      go true e = absurd (h i (omega arith) (omega arith) e)
      go false e = e

  -- a number shows as a place in a list: there the library's laws of ranges take it
  pub some_is : (list : List ℕ) (n : ℕ) {x : Bool} → (x ≡ true → (i : ℕ) × (i < n) × (p i ≡ true))
      → ((i : ℕ) → get_or list i 0 ≡ get_or list i 0 → i < n → p i ≡ true → x ≡ true) → x ≡ some_from p n 0
  some_is list n {x} f g = go x f (λ i. g i refl)
    where
      go : (x : Bool) → (x ≡ true → (i : ℕ) × (i < n) × (p i ≡ true)) → ((i : ℕ) → i < n → p i ≡ true → x ≡ true) → x ≡ some_from p n 0
      go true f g = let h = f refl in sym (some_yes n 0 h.0 (omega arith) (omega (arith, h.1)) h.2)
      go false f g = sym (some_no n 0 (λ j a b e. true≢false (sym (g j (omega arith) e))))

headed_ok : (r : Result (Unit {0}) Verdict) (n : ℕ) → Headed r n → is_ok r ≡ eqb n 0
headed_ok (Ok u) n h = rw h
headed_ok (Err v) n h = let z : n ≡ 0 → ⊥ = λ z. omega (arith, h.0) in rw (ne_eqb n 0 z)

pub wanted_as : (req list : List ℕ) (terms : Terms) (d : Dialect) (r : Result (Unit {0}) Verdict) (x y z : Bool) → list ≡ places_of req → d ≡ dialect_of terms req
    → Headed r (header_fault d req) → z ≡ is_ok r → x ≡ called_by (seen_of req list) → y ≡ asks_by terms.features (seen_of req list)
    → record { listed = z && x; beyond = y } ≡ wanted_of terms req
wanted_as req list terms d r x y z el ed en ez ex ey = rw (ez, headed_ok r (header_fault d req) en, ed, ex, ey, el) (wanted_same terms req)

-- every Proxy-Info
pub proxies_start : (s list b : List ℕ) → list ≡ places_of s → Going b b 0 (proxies_from (seen_of s list) (length list - 0) 0) (proxies (body_of s))
proxies_start s list b e =
    let n : length list - 0 ≡ length list = omega arith in
    rw (n, ← seen_length s list, e, proxies_same s) (going_none b (proxies (body_of s)))

module _ (avps : Seen) (m i : ℕ) {b xs all : List ℕ} {n : ℕ} (g : Going b xs n (proxies_from avps (m - i) i) all) where
  pub proxies_done : m ≤ i → Wrote all b xs n
  unfolding proxies_from
  proxies_done h = let z : m - i ≡ 0 = omega arith in going_end (rw z at g)

  module _ (low : i < m) where
    step : Going b xs n (proxy_by (get_or avps i none) ++ proxies_from avps (m - (i + 1)) (i + 1)) all
    unfolding proxies_from
    step = let z : m - i ≡ suc (m - (i + 1)) = omega arith in rw (add-one i) (rw (z, add-one i) at g)

    pub proxies_room : length all ≤ length b → length xs ≡ length b → length (proxy_by (get_or avps i none)) ≤ length (mid_of n (length xs - n) xs)
    proxies_room h k =
        let t = step in
        let w : length (t.done ++ (proxy_by (get_or avps i none) ++ proxies_from avps (m - (i + 1)) (i + 1))) ≡ length all = ap length t.whole in
        let c : n ≡ length t.done = t.wrote.count in
        simp (length-take, length-drop) (omega (arith, simp length-append at w))

    pub proxies_more : {ys : List ℕ} {k : ℕ} → Wrote (proxy_by (get_or avps i none)) (mid_of n (length xs - n) xs) ys k
        → Going b (put_mid n (length xs - n) xs ys) (n + k) (proxies_from avps (m - (i + 1)) (i + 1)) all
    proxies_more w = going_more step w
