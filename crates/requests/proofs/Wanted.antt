-- The Supported-Features of a request: the turns of the walk over its AVPs.
use Rattle.std.specs.Prelude.{Result, Ok, Err, is_ok}
use Rattle.octets.specs.Standard.{ℕ, ◌≤◌, ◌<◌, ◌≡◌, refl, sym, ◌∙◌, List, Bool, true, false, not, cond, ◌&&◌, ◌||◌, or_assoc, or-false, arith}
use Rattle.octets.specs.Standard.{length, drop, eqb, ne_eqb}
use Rattle.diameter.specs.Message.{body_of}
use Rattle.diameter.specs.Reader.{read_of, own_of}
use Rattle.diameter.specs.Walk.{Walk, ended, faulty, avp, walk, some_avp}
use Rattle.diameter.specs.declared.Avp.{Avp}
use Rattle.diameter.proofs.Reading.{read_says, read_unsound, read_later, walk_past}
use Rattle.reading.specs.Features.{asks, asks_beyond, passes, calls_list}
use Rattle.reading.specs.Kinds.{kind_of, supported_features}
use Rattle.reading.specs.declared.Dialect.{Dialect}
use Rattle.reading.specs.declared.Terms.{Terms}
use Rattle.requests.specs.Features.{beyond_set, called_in, list_called, wanted_of}
use Rattle.requests.specs.Request.{dialect_of, spoken, header_fault_by, header_fault}
use Rattle.requests.specs.Found.{Walked, Headed}
use Rattle.requests.specs.declared.features.Wanted.{Wanted}
use Rattle.requests.proofs.Requests.{at_fault}

-- what is left of the walk from a place on: the first AVP of all, at 20, does not call for the list
abbrev pub called_from : ℕ → Walk → Bool
called_from at w = cond (eqb at 20) (called_in w) (some_avp calls_list w)

none_called : (at : ℕ) → called_from at ended ≡ false
unfolding some_avp
none_called at = go (eqb at 20)
  where
    go : (x : Bool) → cond x (called_in ended) (some_avp calls_list ended) ≡ false
    go true = refl
    go false = refl

cut_called : (at : ℕ) (t : List ℕ) → called_from at (faulty t) ≡ false
unfolding some_avp
cut_called at t = go (eqb at 20)
  where
    go : (x : Bool) → cond x (called_in (faulty t)) (some_avp calls_list (faulty t)) ≡ false
    go true = refl
    go false = refl

end_of : (x : Bool) {y whole : Bool} → y ≡ false → (x || y) ≡ whole → x ≡ whole
end_of x e h = sym (or-false x) ∙ rw e at h

-- one AVP more, the first or a later one
called_avp : (at next : ℕ) (a : List ℕ) (w : Walk) → 20 ≤ at → at < next
    → called_from at (avp a w) ≡ ((not (eqb at 20) && calls_list a) || called_from next w)
unfolding some_avp
called_avp at next a w h l = rw (ne_eqb next 20 (omega arith)) (go (eqb at 20))
  where
    go : (x : Bool) → cond x (some_avp calls_list w) (calls_list a || some_avp calls_list w) ≡ ((not x && calls_list a) || some_avp calls_list w)
    go true = refl
    go false = refl

module _ (s : List ℕ) (at : ℕ) (listed whole : Bool) (left : (listed || called_from at (walk (drop at s))) ≡ whole) where
  pub list_end : length s ≤ at → listed ≡ whole
  list_end h = end_of listed (rw (walk_past s at h) (none_called at)) left

  module _ (r : Result Avp ℕ) (e : r ≡ read_of at (drop at s)) where
    pub list_cut : {p : ℕ} → r ≡ Err p → listed ≡ whole
    list_cut d =
        end_of listed (sym (at_fault (called_from at) false (drop at s) (read_unsound s at r e d) (none_called at) (cut_called at (drop at s)))) left

    module _ (a : Avp) (d : r ≡ Ok a) (k : ℕ) (ek : k ≡ kind_of (own_of s a)) (reached : 20 ≤ at) where
      list_step : ((listed || (not (eqb at 20) && calls_list (own_of s a))) || called_from a.next (walk (drop a.next s))) ≡ whole
      list_step =
          let says = read_says s at r e a d in
          or_assoc listed (not (eqb at 20) && calls_list (own_of s a)) (called_from a.next (walk (drop a.next s)))
          ∙ (rw (says.walked, called_avp at a.next (own_of s a) (walk (drop a.next s)) reached says.later) at left)

      pub list_here : {x : Bool} → k ≡ supported_features → x ≡ passes (own_of s a)
          → ((listed || (not (eqb at 20) && x)) || called_from a.next (walk (drop a.next s))) ≡ whole
      unfolding calls_list
      list_here z ex = rw ex (rw (← ek, z) at list_step)

      pub list_other : (k ≡ supported_features → ⊥) → (listed || called_from a.next (walk (drop a.next s))) ≡ whole
      unfolding calls_list
      list_other z = go listed (not (eqb at 20)) (called_from a.next (walk (drop a.next s))) (rw (← ek, ne_eqb _ _ z) at list_step)
        where
          go : (x y z : Bool) → ((x || (y && false)) || z) ≡ whole → (x || z) ≡ whole
          go true true z e = e
          go true false z e = e
          go false true z e = e
          go false false z e = e

      pub next_reached : 20 ≤ a.next
      next_reached = omega (arith, reached, read_later at (drop at s) r e a d)

module _ (s : List ℕ) (at set : ℕ) (beyond whole : Bool) (left : (beyond || some_avp (asks_beyond set) (walk (drop at s))) ≡ whole) where
  pub set_end : length s ≤ at → beyond ≡ whole
  unfolding some_avp
  set_end h = end_of beyond (rw (walk_past s at h)) left

  module _ (r : Result Avp ℕ) (e : r ≡ read_of at (drop at s)) where
    pub set_cut : {p : ℕ} → r ≡ Err p → beyond ≡ whole
    unfolding some_avp
    set_cut d = end_of beyond (sym (at_fault (some_avp (asks_beyond set)) false (drop at s) (read_unsound s at r e d) refl refl)) left

    module _ (a : Avp) (d : r ≡ Ok a) (k : ℕ) (ek : k ≡ kind_of (own_of s a)) where
      set_step : ((beyond || asks_beyond set (own_of s a)) || some_avp (asks_beyond set) (walk (drop a.next s))) ≡ whole
      unfolding some_avp
      set_step =
          or_assoc beyond (asks_beyond set (own_of s a)) (some_avp (asks_beyond set) (walk (drop a.next s))) ∙ (rw (read_says s at r e a d).walked at left)

      pub set_here : {x : Bool} → k ≡ supported_features → x ≡ asks set (own_of s a)
          → ((beyond || x) || some_avp (asks_beyond set) (walk (drop a.next s))) ≡ whole
      unfolding asks_beyond
      set_here z ex = rw ex (rw (← ek, z) at set_step)

      pub set_other : (k ≡ supported_features → ⊥) → (beyond || some_avp (asks_beyond set) (walk (drop a.next s))) ≡ whole
      unfolding asks_beyond
      set_other z = rw (or-false beyond) at (rw (← ek, ne_eqb _ _ z) at set_step)

headed_none : (req : List ℕ) (d : Dialect) (has : Bool) (r : Walked) → has ≡ spoken d → Headed r (header_fault_by has d req)
    → is_ok r ≡ eqb (header_fault d req) 0
unfolding header_fault
headed_none req d has (Ok u) es h = rw (← es, h)
headed_none req d has (Err v) es h =
    let z : header_fault_by has d req ≡ 0 → ⊥ = λ z. omega (arith, h.0) in
    rw (← es, ne_eqb _ _ z)

pub wanted_whole : (req : List ℕ) (terms : Terms) (d : Dialect) (has x : Bool) (r : Walked) (found : Wanted) → d ≡ dialect_of terms req → has ≡ spoken d
    → Headed r (header_fault_by has d req) → x ≡ is_ok r
    → found.listed ≡ called_in (body_of req) → found.beyond ≡ some_avp (asks_beyond d.terms.features) (body_of req)
    → record { listed = x && found.listed; beyond = found.beyond } ≡ wanted_of terms req
unfolding list_called beyond_set
wanted_whole req terms d has x r found ed es h ex el eb = rw (ex, headed_none req d has r es h, el, eb, ed)
