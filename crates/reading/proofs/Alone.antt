-- A group of one member that comes once holds that AVP and nothing else.
use Rattle.octets.specs.Standard.{ℕ, suc, ◌≡◌, refl, sym, ap, List, [], ◌∷◌, Bool, true, false, not, cond, ◌&&◌, true≢false, arith, leb, eqb-true}
use Rattle.octets.specs.All.{all_below}
use Rattle.octets.proofs.All.{and_left, and_right}
use Rattle.diameter.specs.Walk.{Walk, ended, faulty, avp}
use Rattle.reading.specs.declared.Member.{Member}
use Rattle.reading.specs.Groups.{fits, unlike, only_of, members_fitting, enough, enough_at, gathers}

pub record Alone (m : Member) (w : Walk) : Type 0 where
  pub own : List ℕ
  pub walked : w ≡ avp own ended
  pub right : fits m own ≡ true

second : (x y z : Bool) → x ≡ false → cond x y z ≡ true → z ≡ true
second true y z e g = absurd (true≢false e)
second false y z e g = g

module _ (m : Member) where
  none_left : (w : Walk) → only_of (m ∷ []) w ≡ true → members_fitting m w ≡ 0 → w ≡ ended
  unfolding only_of members_fitting unlike all_below
  none_left ended o c = refl
  none_left (faulty t) o c = absurd (true≢false (sym o))
  none_left (avp a w) o c = go (fits m a) o c
    where
      go : (x : Bool) → (not (not x) && only_of (m ∷ []) w) ≡ true → cond x (suc (members_fitting m w)) (members_fitting m w) ≡ 0 → avp a w ≡ ended
      go true o c = absurd (omega arith)
      go false o c = absurd (true≢false (sym o))

  one_left : (w : Walk) → only_of (m ∷ []) w ≡ true → members_fitting m w ≡ 1 → Alone m w
  unfolding only_of members_fitting unlike all_below
  one_left ended o c = absurd (omega arith)
  one_left (faulty t) o c = absurd (true≢false (sym o))
  one_left (avp a w) o c = go (fits m a) refl o c
    where
      go : (x : Bool) → fits m a ≡ x → (not (not x) && only_of (m ∷ []) w) ≡ true → cond x (suc (members_fitting m w)) (members_fitting m w) ≡ 1
          → Alone m (avp a w)
      go true e o c = record { own = a; walked = ap (avp a) (none_left w o (omega arith)); right = e }
      go false e o c = absurd (true≢false (sym o))

  pub gathers_alone : (w : Walk) → m.many ≡ false → gathers (m ∷ []) w ≡ true → Alone m w
  unfolding gathers enough_at enough all_below
  gathers_alone w once g =
      one_left w (and_right (all_below (enough_at (m ∷ []) w) 1) _ g)
      (eqb-true _ _ (second m.many (leb 1 (members_fitting m w)) _ once (and_left (all_below (enough_at (m ∷ []) w) 1) _ g)))
