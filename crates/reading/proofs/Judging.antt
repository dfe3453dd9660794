-- Rules (c) to (h): from what the code finds of one AVP to what the rules say of it.
use Rattle.std.specs.Prelude.{Result, Ok, Err, is_ok}
use Rattle.octets.specs.Standard.{arith, inl, inr, ◌⊎◌, eqb}
use Rattle.octets.specs.Standard.{ℕ, zero, suc, ◌+◌, ◌-◌, ◌/◌, ◌%◌, ◌<◌, not-suc-le-zero, le_of_suc-le-suc, ◌≡◌, refl, ◌∙◌, List, [], ◌∷◌, map, none}
use Rattle.octets.specs.Standard.{Bool, false, ◌&&◌, length, get_or, leb, eq-eqb, ne_eqb}
use Rattle.diameter.specs.Avp.{data_of, value_of}
use Rattle.diameter.specs.Walk.{walk}
use Rattle.diameter.specs.Reader.{own_of, Here}
use Rattle.diameter.specs.AvpAt.{part_at, present}
use Rattle.diameter.specs.declared.Avp.{Avp}
use Rattle.diameter.proofs.Parts.{counted, data_length}
use Rattle.diameter.proofs.Reading.{own_flags, own_avp_head}
use Rattle.reading.specs.declared.Content.{Content}
use Rattle.reading.specs.declared.Content.TheVariants.{Free, Number, Sized, Members}
use Rattle.reading.specs.declared.Dialect.{Dialect}
use Rattle.reading.specs.declared.group.Group.{Group}
use Rattle.reading.specs.declared.Kind.{Kind}
use Rattle.reading.specs.declared.Ruled.{Ruled}
use Rattle.reading.specs.declared.Ruled.TheVariants.{Taken, Skipped, Fault}
use Rattle.reading.specs.declared.Use.{Use}
use Rattle.reading.specs.declared.Use.TheVariants.{Unknown, Unnamed, Needed, Optional, Repeated, Several}
use Rattle.reading.specs.Kinds.{kind_of, row_of, use_in}
use Rattle.reading.specs.Contents.{fault_unless, number_fault, plain_fault}
use Rattle.reading.specs.Groups.{group_fault}
use Rattle.reading.specs.Rules.{content_fault, of_unknown, of_content, of_once, rule_by, rule}
use Rattle.reading.specs.Places.{seen_of}
use Rattle.reading.specs.Verdicts.{Faulted}

-- a fault, by its number
pub faulted : (m n : ℕ) → 0 < m → m ≡ n → Faulted (Err m) n
faulted m n h e = (omega arith, e)

-- no fault is number 0
pub faulted_not : (r : Result (Unit {0}) ℕ) (n : ℕ) → Faulted r n → is_ok r ≡ eqb n 0
faulted_not (Ok u) n f = rw f
faulted_not (Err m) n f = let h : n ≡ 0 → ⊥ = λ z. omega (arith, f.0) in rw (ne_eqb _ _ h)

-- (g), (h), by what the kind must hold
module _ (s : List ℕ) (a : Avp) (h : Here s a) where
  pub number_long : (least most : ℕ) → (a.len ≡ a.head + 4 → ⊥) → Faulted (Err 5014) (number_fault least most (own_of s a))
  unfolding number_fault
  number_long least most e =
      faulted 5014 (number_fault least most (own_of s a)) (omega arith) (rw (own_avp_head s a h, counted s a h, ne_eqb _ _ e))

  pub number_judged : (least most n : ℕ) (r : Result (Unit {0}) ℕ) → a.len ≡ a.head + 4 → n ≡ value_of (own_of s a)
      → Faulted r (fault_unless (leb least n && leb n most) 5004) → Faulted r (number_fault least most (own_of s a))
  unfolding number_fault
  number_judged least most n r e d m = rw (own_avp_head s a h, counted s a h, eq-eqb _ _ e, ← d) m

  pub plain_sized : (c : Content) (least most : ℕ) (r : Result (Unit {0}) ℕ) → c ≡ Sized least most
      → Faulted r (fault_unless (leb least (a.len - a.head) && leb (a.len - a.head) most) 5004) → Faulted r (plain_fault c (own_of s a))
  unfolding plain_fault
  plain_sized c least most r e m = rw (e, data_length s a h) m

pub plain_other : (c : Content) (a : List ℕ) → (c ≡ Free) ⊎ ((g : Group) × (c ≡ Members g)) → plain_fault c a ≡ 0
unfolding plain_fault
plain_other c a (inl e) = rw e
plain_other c a (inr (g, e)) = rw e

module _ (c : Content) (a : List ℕ) (r : Result (Unit {0}) ℕ) where
  pub plain_number_lem : (least most : ℕ) → c ≡ Number least most → Faulted r (number_fault least most a) → Faulted r (plain_fault c a)
  unfolding plain_fault
  plain_number_lem least most e m = rw e m

  pub content_group : (d : Dialect) (g : Group) → c ≡ Members g → Faulted r (group_fault d g (walk (data_of a))) → Faulted r (content_fault d c a)
  unfolding content_fault
  content_group d g e m = rw e m

pub content_plain : (c : Content) (a : List ℕ) (r : Result (Unit {0}) ℕ) (d : Dialect) → ((g : Group) → c ≡ Members g → ⊥) → Faulted r (plain_fault c a)
    → Faulted r (content_fault d c a)
unfolding content_fault
content_plain Free a r d h m = m
content_plain (Number least most) a r d h m = m
content_plain (Sized least most) a r d h m = m
content_plain (Members g) a r d h m = absurd (h g refl)

-- (d), (f), (g) and (h)
pub unknown_marked : (flags : ℕ) → flags / 64 % 2 ≡ 1 → Fault 5001 ≡ of_unknown flags
unknown_marked flags e = rw e

pub unknown_plain : (flags : ℕ) → (flags / 64 % 2 ≡ 1 → ⊥) → Skipped ≡ of_unknown flags
unknown_plain flags h = rw (ne_eqb _ _ h)

module _ (r : Result (Unit {0}) ℕ) where
  pub content_bad : (m : ℕ) → r ≡ Err m → (n : ℕ) → Faulted r n → Fault m ≡ of_content n
  content_bad m e n f =
      let g : Faulted (Err m) n = rw e at f in
      let h : m ≡ 0 → ⊥ = λ z. omega (arith, g.0, g.1) in
      rw (← g.1, ne_eqb _ _ h)

  pub content_good : (u : Unit {0}) → r ≡ Ok u → (n : ℕ) → Faulted r n → Taken ≡ of_content n
  content_good u e n f = let g : n ≡ 0 = rw e at f in rw g

pub once_first : (earlier : Bool) (fault : ℕ) (r : Ruled) → earlier ≡ false → r ≡ of_content fault → r ≡ of_once earlier fault
once_first earlier fault r e d = d ∙ rw e

module _ (u : Use) (earlier : Bool) (flags fault : ℕ) where
  pub rule_reserved : (flags % 32 ≡ 0 → ⊥) → Fault 3009 ≡ rule_by u earlier flags fault
  unfolding rule_by
  rule_reserved h = rw (ne_eqb _ _ h)

  module _ (plain : flags % 32 ≡ 0) where
    pub rule_unknown : (r : Ruled) → u ≡ Unknown → r ≡ of_unknown flags → r ≡ rule_by u earlier flags fault
    unfolding rule_by
    rule_unknown r e d = d ∙ rw (plain, e)

    pub rule_unnamed : u ≡ Unnamed → Skipped ≡ rule_by u earlier flags fault
    unfolding rule_by
    rule_unnamed e = rw (plain, e)

    pub rule_needed : (r : Ruled) → (u ≡ Needed) ⊎ (u ≡ Optional) → r ≡ of_once earlier fault → r ≡ rule_by u earlier flags fault
    unfolding rule_by
    rule_needed r (inl e) d = d ∙ rw (plain, e)
    rule_needed r (inr e) d = d ∙ rw (plain, e)

    pub rule_repeated : (r : Ruled) → (u ≡ Repeated) ⊎ (u ≡ Several) → r ≡ of_content fault → r ≡ rule_by u earlier flags fault
    unfolding rule_by
    rule_repeated r (inl e) d = d ∙ rw (plain, e)
    rule_repeated r (inr e) d = d ∙ rw (plain, e)

-- the AVP of a kind that stands at the kind's place
get_d_within : {X Y : Type 0} (f : X → Y) (l : List X) (i : ℕ) (d : Y) (e : X) → i < length l → get_or (map f l) i d ≡ f (get_or l i e)
get_d_within f [] i d e h = absurd (not-suc-le-zero h)
get_d_within f (y ∷ l) zero d e h = refl
get_d_within f (y ∷ l) (suc i) d e h = get_d_within f l i d e (le_of_suc-le-suc h)

pub seen_at : (s places : List ℕ) (k : ℕ) → k < length places → get_or (seen_of s places) k none ≡ part_at s (get_or places k 0)
seen_at s places k h = get_d_within (part_at s) places k none 0 h

pub rule_there : (s places : List ℕ) (d : Dialect) (a : Avp) (k : ℕ) (earlier : Bool) (row : Kind) (u : Use) (r : Ruled) → Here s a
    → k ≡ kind_of (own_of s a) → k < length places → earlier ≡ present (part_at s (get_or places k 0)) → row ≡ row_of k
    → u ≡ use_in d row → r ≡ rule_by u earlier a.flags (content_fault d row.content (own_of s a)) → r ≡ rule d (seen_of s places) (own_of s a)
unfolding rule
rule_there s places d a k earlier row u r h ek room eb er eu e = e ∙ rw (eu, er, ← ek, own_flags s a h, seen_at s places k room, ← eb)
