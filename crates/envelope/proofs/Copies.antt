-- How long the copies out of a request are: Session-Id, every Proxy-Info, and what Failed-AVP holds.
use Rattle.octets.specs.Standard.{ℕ, zero, suc, pred, ◌+◌, ◌-◌, ◌%◌, ◌≤◌, ◌≡◌, refl, Bool, true, false, cond, ◌&&◌, List, [], ◌∷◌, arith, eqb, length}
use Rattle.octets.specs.Standard.{take, drop, length-append, length-drop, length-take-le, eqb-true, ne_eqb}
use Rattle.diameter.specs.Avp.{padded, avp_flags, avp_len, reserved, sound}
use Rattle.diameter.specs.Walk.{Walk, avp, on_sound, walk_from, walk}
use Rattle.diameter.proofs.Walks.{sound_says}
use Rattle.pen.specs.Bytes.{copied, copied_size, if_there}
use Rattle.pen.proofs.Sizes.{copied_length, there_length}
use Rattle.reading.specs.Kinds.{kind_of, session_id, proxy_info}
use Rattle.diameter.specs.Message.{body_of}
use Rattle.requests.specs.Request.{session_of}
use Rattle.envelope.specs.End.{proxy, proxies}

-- one AVP of a walk: it is Session-Id or Proxy-Info, and not both
session_or_proxy : (a : List ℕ) (w : Walk) → copied_size (length (session_of (avp a w))) + length (proxies (avp a w)) ≤ copied_size (length a) + length (proxies w)
unfolding proxies proxy if_there
session_or_proxy a w = simp length-append (go (eqb (kind_of a) session_id) (eqb (reserved (avp_flags a)) 0) refl)
  where
    go : (x y : Bool) → eqb (kind_of a) session_id ≡ x
        → copied_size (length (cond (x && y) a [])) + (length (if_there (eqb (kind_of a) proxy_info) (copied a)) + length (proxies w)) ≤ copied_size (length a)
        + length (proxies w)
    go true true e =
        let k : kind_of a ≡ session_id = eqb-true (kind_of a) session_id e in
        rw (ne_eqb (kind_of a) proxy_info (omega arith)) (omega arith)
    go true false e = omega (arith, there_length (eqb (kind_of a) proxy_info) (copied a), copied_length a)
    go false y e = omega (arith, there_length (eqb (kind_of a) proxy_info) (copied a), copied_length a)

-- a whole AVP at the front, and what is copied after it
first_room : (t : List ℕ) (m : ℕ) → sound t ≡ true → length t % 4 ≡ 0 → m ≤ length t - padded (avp_len t)
    → copied_size (length (take (avp_len t) t)) + m ≤ length t
unfolding padded
first_room t m s e h = let q = sound_says t s in rw (length-take-le (avp_len t) t q.within) (omega (arith, q.within))

module _ (x : ℕ) (t : List ℕ) (s : sound (x ∷ t) ≡ true) (e : length (x ∷ t) % 4 ≡ 0) where
  skip_within : pred (padded (avp_len (x ∷ t))) ≤ length t
  unfolding padded
  skip_within = let q = sound_says (x ∷ t) s in omega (arith, q.within)

  skip_even : (length t - pred (padded (avp_len (x ∷ t)))) % 4 ≡ 0
  unfolding padded
  skip_even = let q = sound_says (x ∷ t) s in omega (arith, q.within, q.eight, q.least)

  skip_left : (m : ℕ) → m ≤ length t - pred (padded (avp_len (x ∷ t))) → m ≤ length (x ∷ t) - padded (avp_len (x ∷ t))
  unfolding padded
  skip_left m h = let q = sound_says (x ∷ t) s in omega (arith, q.within, q.eight, q.least)

walked : (k : ℕ) (t : List ℕ) → k ≤ length t → (length t - k) % 4 ≡ 0 → length (proxies (walk_from k t)) ≤ length t - k
unfolding walk_from proxies proxy
walked k [] h e = omega arith
walked (suc k) (x ∷ t) h e = let d : length t - k ≡ length (x ∷ t) - suc k = omega arith in rw (← d) (walked k t (omega arith) (rw d e))
walked zero (x ∷ t) h e = go (sound (x ∷ t)) refl (walked (pred (padded (avp_len (x ∷ t)))) t)
  where
    k : ℕ
    k = pred (padded (avp_len (x ∷ t)))

    go : (b : Bool) → sound (x ∷ t) ≡ b → (k ≤ length t → (length t - k) % 4 ≡ 0 → length (proxies (walk_from k t)) ≤ length t - k)
        → length (proxies (on_sound b (x ∷ t) (walk_from k t))) ≤ length (x ∷ t) - 0
    go true s i =
        let a : List ℕ = take (avp_len (x ∷ t)) (x ∷ t) in
        let f : length (x ∷ t) % 4 ≡ 0 = omega arith in
        let r = first_room (x ∷ t) (length (proxies (walk_from k t))) s f (skip_left x t s f _ (i (skip_within x t s f) (skip_even x t s f))) in
        simp length-append (omega (arith, r, there_length (eqb (kind_of a) proxy_info) (copied a), copied_length a))
    go false s i = omega arith

-- Session-Id is the first AVP and no Proxy-Info: the two are copied from different AVPs.
session_walk : (t : List ℕ) → length t % 4 ≡ 0 → copied_size (length (session_of (walk t))) + length (proxies (walk t)) ≤ length t
unfolding walk walk_from proxies proxy
session_walk [] e = omega arith
session_walk (x ∷ t) e = go (sound (x ∷ t)) refl
  where
    w : Walk
    w = walk_from (pred (padded (avp_len (x ∷ t)))) t

    go : (b : Bool) → sound (x ∷ t) ≡ b → copied_size (length (session_of (on_sound b (x ∷ t) w))) + length (proxies (on_sound b (x ∷ t) w)) ≤ length (x ∷ t)
    go true s =
        let i = walked (pred (padded (avp_len (x ∷ t)))) t (skip_within x t s e) (skip_even x t s e) in
        omega (arith, session_or_proxy (take (avp_len (x ∷ t)) (x ∷ t)) w, first_room (x ∷ t) (length (proxies w)) s e (skip_left x t s e _ i))
    go false s = omega arith

pub session_proxies : (req : List ℕ) → 20 ≤ length req → length req % 4 ≡ 0
    → copied_size (length (session_of (body_of req))) + length (proxies (body_of req)) ≤ length req - 20
session_proxies req h e =
    let l : length (drop 20 req) ≡ length req - 20 = length-drop 20 req in
    rw l at (session_walk (drop 20 req) (rw l (omega arith)))
