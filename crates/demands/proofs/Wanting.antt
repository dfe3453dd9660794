-- What a request wants of features: the tests of the definitions, and what they say of its AVPs, in both directions.
use Rattle.octets.specs.Standard.{ℕ, List, Bool, true, false, not, ◌||◌, true≢false, ◌≡◌, refl, sym, ◌∙◌, ◌⊎◌, inl, inr, ◌≢◌}
use Rattle.octets.specs.Standard.{arith, eqb, eqb-true, eqb-false, eq-eqb, ne_eqb}
use Rattle.octets.specs.All.{all_below}
use Rattle.octets.proofs.All.{and_left, and_right, all_at}
use Rattle.diameter.specs.Avp.{avp_flags, data_of, marked}
use Rattle.diameter.specs.Message.{body_of}
use Rattle.diameter.specs.Walk.{Walk, ended, faulty, avp, walk, some_avp, behind_first}
use Rattle.reading.specs.Features.{is_features, bit_of, clear_or_in, bit_outside, asks_other, asks, asks_beyond, calls_list}
use Rattle.reading.specs.Kinds.{kind_of, use_of, is_unknown, sh, supported_features}
use Rattle.reading.specs.Rules.{Seen}
use Rattle.reading.specs.declared.Dialect.{Dialect}
use Rattle.requests.specs.Features.{beyond_set, list_called}
use Rattle.requests.specs.Judged.{fine}
use Rattle.requests.specs.Request.{header_fault, read_in}
use Rattle.requests.proofs.Featured.{passes_taken, taken_passes}
use Rattle.requests.proofs.Insert.{features_known}
use Rattle.requests.proofs.Kept.{header_spoken}
use Rattle.calling.specs.Lent.{Lent, dialect_in}
use Rattle.taking.proofs.Conditions.{all_fails}
use Rattle.demands.specs.Features.{Among, here, later, vendor_in, list_in, bits_in, Outside, Asks, Beyond, Called}

-- SOME AVP OF A WALK passes a test
pub record Some (p : List ℕ → Bool) (w : Walk) : Type 0 where
  pub one : List ℕ
  pub among : Among w one
  pub passes : p one ≡ true

pub some_says : (p : List ℕ → Bool) (w : Walk) → some_avp p w ≡ true → Some p w
unfolding some_avp
some_says p ended e = absurd (true≢false (sym e))
some_says p (faulty t) e = absurd (true≢false (sym e))
some_says p (avp a w) e = go (p a) refl e (some_says p w)
  where
    go : (x : Bool) → p a ≡ x → (x || some_avp p w) ≡ true → (some_avp p w ≡ true → Some p w) → Some p (avp a w)
    go true f g next = record { one = a; among = here a w; passes = f }
    go false f g next = let s = next g in record { one = s.one; among = later s.one a w s.among; passes = s.passes }

pub some_holds : (p : List ℕ → Bool) (w : Walk) (a : List ℕ) → Among w a → p a ≡ true → some_avp p w ≡ true
unfolding some_avp
some_holds p w a (here b v) e = rw e
some_holds p w a (later b c v m) e = go (p c) (some_holds p v a m e)
  where
    go : (x : Bool) → some_avp p v ≡ true → (x || some_avp p v) ≡ true
    go true h = refl
    go false h = h

-- BITS
outside_says : (wanted set : ℕ) → bit_outside wanted set ≡ true → Outside set wanted
unfolding bit_outside clear_or_in
outside_says wanted set e =
    let r = all_fails (clear_or_in wanted set) 32 (turn (all_below (clear_or_in wanted set) 32) e) in
    let b = both (bit_of wanted r.0) (bit_of set r.0) r.2 in
    record { bit = r.0; below = r.1; asked = b.0; lacking = b.1 }
  where
    turn : (x : Bool) → not x ≡ true → x ≡ false
    turn true h = absurd (true≢false (sym h))
    turn false h = refl

    both : (x y : Bool) → (not x || y) ≡ false → (x ≡ true) × (y ≡ false)
    both true true h = absurd (true≢false h)
    both true false h = (refl, refl)
    both false y h = absurd (true≢false h)

outside_holds : (wanted set : ℕ) → Outside set wanted → bit_outside wanted set ≡ true
unfolding bit_outside clear_or_in
outside_holds wanted set o = go (all_below (clear_or_in wanted set) 32) refl
  where
    fails : clear_or_in wanted set o.bit ≡ false
    fails = rw (o.asked, o.lacking)

    go : (x : Bool) → all_below (clear_or_in wanted set) 32 ≡ x → not x ≡ true
    go true e = absurd (true≢false (sym (all_at (clear_or_in wanted set) 32 e o.bit o.below) ∙ fails))
    go false e = refl

-- ONE 628
abbrev AsksOther : ℕ → List ℕ → Type 0
AsksOther set a = (vendor_in a ≢ 10415) ⊎ (list_in a ≢ 1) ⊎ Outside set (bits_in a)

other_says : (set : ℕ) (a : List ℕ) → asks_other set (walk (data_of a)) ≡ true → AsksOther set a
unfolding asks_other
other_says set a e = go (eqb (vendor_in a) 10415) (eqb (list_in a) 1) (bit_outside (bits_in a) set) refl refl refl e
  where
    go : (x y z : Bool) → eqb (vendor_in a) 10415 ≡ x → eqb (list_in a) 1 ≡ y → bit_outside (bits_in a) set ≡ z → (not x || not y || z) ≡ true → AsksOther set a
    go false y z f g h e = inl (eqb-false _ _ f)
    go true false z f g h e = inr (inl (eqb-false _ _ g))
    go true true true f g h e = inr (inr (outside_says (bits_in a) set h))
    go true true false f g h e = absurd (true≢false (sym e))

other_holds : (set : ℕ) (a : List ℕ) → AsksOther set a → asks_other set (walk (data_of a)) ≡ true
unfolding asks_other
other_holds set a (inl n) = rw (ne_eqb _ _ n)
other_holds set a (inr (inl n)) = rw (ne_eqb _ _ n) (go (eqb (vendor_in a) 10415) (bit_outside (bits_in a) set))
  where
    go : (x z : Bool) → (not x || true || z) ≡ true
    go true z = refl
    go false z = refl
other_holds set a (inr (inr o)) = rw (outside_holds (bits_in a) set o) (go (eqb (vendor_in a) 10415) (eqb (list_in a) 1))
  where
    go : (x y : Bool) → (not x || not y || true) ≡ true
    go true true = refl
    go true false = refl
    go false y = refl

asks_says : (set : ℕ) (a : List ℕ) → asks_beyond set a ≡ true → Asks set a
unfolding asks_beyond asks
asks_says set a e =
    let m = and_right (is_features a) _ e in
    record {
      kind = eqb-true _ _ (and_left (is_features a) _ e);
      mark = and_left (marked (avp_flags a)) _ m;
      beyond = other_says set a (and_right (marked (avp_flags a)) _ m);
    }

asks_holds : (set : ℕ) (a : List ℕ) → Asks set a → asks_beyond set a ≡ true
unfolding asks_beyond asks
asks_holds set a s = rw (eq-eqb _ _ s.kind, s.mark, other_holds set a s.beyond)

-- A REQUEST THAT ASKS FOR MORE
pub beyond_says : (a : Lent) (seen : Seen) → read_in (dialect_in a) a.request ≡ fine seen → beyond_set a.terms a.request ≡ true → Beyond a
unfolding beyond_set
beyond_says a seen r e =
    let s = some_says (asks_beyond a.terms.features) (body_of a.request) e in
    record { seen = seen; read = r; one = s.one; among = s.among; asks = asks_says a.terms.features s.one s.passes }

pub beyond_holds : (a : Lent) → Beyond a → beyond_set a.terms a.request ≡ true
unfolding beyond_set
beyond_holds a b = some_holds (asks_beyond a.terms.features) (body_of a.request) b.one b.among (asks_holds a.terms.features b.one b.asks)

-- In no command is it unknown: Sh knows it and does not name it.
pub never_unknown : (d : Dialect) (a : List ℕ) → kind_of a ≡ supported_features → is_unknown (use_of d a) ≡ false
never_unknown d a k = rw k (features_known d)

-- THE OWN LIST. A header without a fault is one of Cx.
pub of_cx_lem : (d : Dialect) (req : List ℕ) → header_fault d req ≡ 0 → d.terms.application ≡ sh → ⊥
of_cx_lem d req e s = omega (arith, s, (header_spoken d req e).0)

pub called_says : (a : Lent) → list_called a.terms a.request ≡ true → Called a
unfolding list_called calls_list
called_says a e =
    let s = some_says calls_list (behind_first (body_of a.request)) (and_right (eqb (header_fault (dialect_in a) a.request) 0) _ e) in
    let k : kind_of s.one ≡ supported_features = eqb-true _ _ (and_left (is_features s.one) _ s.passes) in
    let h : header_fault (dialect_in a) a.request ≡ 0 = eqb-true _ _ (and_left (eqb (header_fault (dialect_in a) a.request) 0) _ e) in
    record {
      header = h;
      one = s.one;
      among = s.among;
      kind = k;
      passes = passes_taken (dialect_in a) s.one k (of_cx_lem (dialect_in a) a.request h) (and_right (is_features s.one) _ s.passes);
    }

pub called_holds : (a : Lent) → Called a → Seen → list_called a.terms a.request ≡ true
unfolding list_called calls_list
called_holds a c seen =
    let t = taken_passes (dialect_in a) c.one c.kind (of_cx_lem (dialect_in a) a.request c.header) seen (c.passes seen) in
    let p : calls_list c.one ≡ true = rw (eq-eqb _ _ c.kind, t) in
    rw (eq-eqb _ _ c.header, some_holds calls_list (behind_first (body_of a.request)) c.one c.among p)
