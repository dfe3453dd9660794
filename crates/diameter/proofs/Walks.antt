-- The walk's laws: at the end, at a sound AVP, at a faulty one.
use Rattle.octets.specs.Standard.{ℕ, zero, suc, pred, ◌≤◌, ◌<◌, ◌≡◌, refl, List, [], ◌∷◌, Bool, true, false, cond, arith, length, take, drop, leb}
use Rattle.octets.specs.Standard.{leb-true, le-leb}
use Rattle.octets.proofs.All.{and_left, and_right}
use Rattle.diameter.specs.Avp.{padded, head_of, avp_head, avp_len, sound}
use Rattle.diameter.specs.Walk.{ended, faulty, avp, on_sound, walk_from, walk}

-- bytes still to be passed over are passed over
pub skipped : (k : ℕ) (t : List ℕ) → walk_from k t ≡ walk (drop k t)
unfolding walk walk_from
skipped zero [] = refl
skipped (suc k) [] = refl
skipped zero (x ∷ t) = refl
skipped (suc k) (x ∷ t) = skipped k t

pub walk_nil : walk [] ≡ ended
unfolding walk walk_from
walk_nil = refl

-- rule (a) kept, in numbers
pub record Sound (t : List ℕ) : Type 0 where
  pub eight : 8 ≤ avp_head t
  pub least : avp_head t ≤ avp_len t
  pub within : avp_len t ≤ length t

pub head_least : (n : ℕ) → 8 ≤ head_of n
unfolding head_of
head_least n = go (leb 128 n)
  where
    go : (b : Bool) → 8 ≤ cond b 12 8
    go true = omega arith
    go false = omega arith

pub head_most : (n : ℕ) → head_of n ≤ 12
unfolding head_of
head_most n = go (leb 128 n)
  where
    go : (b : Bool) → cond b 12 8 ≤ 12
    go true = omega arith
    go false = omega arith

pub sound_says : (t : List ℕ) → sound t ≡ true → Sound t
unfolding sound
sound_says t e =
    let p = and_right (leb (avp_head t) (length t)) _ (and_right (leb 8 (length t)) _ e) in
    let q = leb (avp_head t) (avp_len t) in
    record { eight = head_least _; least = leb-true _ _ (and_left q _ p); within = leb-true _ _ (and_right q _ p) }

pub sound_of : (t : List ℕ) → Sound t → sound t ≡ true
unfolding sound
sound_of t h =
    let a : 8 ≤ length t = omega (arith, h.eight, h.least, h.within) in
    let b : avp_head t ≤ length t = omega (arith, h.least, h.within) in
    simp (le-leb _ _ a, le-leb _ _ b, le-leb _ _ h.least, le-leb _ _ h.within)

pub not_sound : (t : List ℕ) → (Sound t → ⊥) → sound t ≡ false
not_sound t never = go (sound t) refl
  where
    go : (b : Bool) → sound t ≡ b → sound t ≡ false
    go true e = absurd (never (sound_says t e))
    go false e = e

pub padded_least : (n : ℕ) → n ≤ padded n
unfolding padded
padded_least n = omega arith

step : (x : ℕ) (t : List ℕ) (b : Bool) (n : ℕ) → b ≡ true → 0 < n
    → on_sound b (x ∷ t) (walk_from (pred n) t) ≡ avp (take (avp_len (x ∷ t)) (x ∷ t)) (walk (drop n (x ∷ t)))
step x t b zero e h = absurd (omega arith)
step x t b (suc n) e h = rw (e, skipped n t)

pub walk_sound : (t : List ℕ) → sound t ≡ true → walk t ≡ avp (take (avp_len t) t) (walk (drop (padded (avp_len t)) t))
unfolding walk walk_from
walk_sound [] e = let h = sound_says [] e in absurd (omega (arith, h.eight, h.least, h.within))
walk_sound (x ∷ t) e =
    let h = sound_says (x ∷ t) e in
    step x t (sound (x ∷ t)) (padded (avp_len (x ∷ t))) e (omega (arith, h.eight, h.least, padded_least (avp_len (x ∷ t))))

pub walk_faulty : (t : List ℕ) → sound t ≡ false → 0 < length t → walk t ≡ faulty t
unfolding walk walk_from
walk_faulty [] e h = absurd (omega arith)
walk_faulty (x ∷ t) e h = rw e
