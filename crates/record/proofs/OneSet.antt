-- Sets: what it is to be of one set and to agree, as equations; each is symmetric and goes on from record to record.
use Rattle.octets.specs.Standard.{ℕ, ◌%◌, ◌<◌, Bool, true, false, ◌&&◌, ◌≡◌, refl, sym, ◌∙◌, List, eqb, ltb, eqb-true, eq-eqb, ltb-true, lt-ltb}
use Rattle.octets.specs.Name.{same}
use Rattle.octets.proofs.All.{and_left, and_right}
use Rattle.octets.proofs.Names.{same_eq, same_yes}
use Rattle.record.specs.Fields.{state_of, bits_of, private_of, server_of, set_of}
use Rattle.record.specs.Sets.{same_set, agreeing}

-- The test of two blocks, by what is read of them.
module _ (a b : List ℕ) {m n : ℕ} (first : m ≡ set_of a) (second : n ≡ set_of b) where
  pub set_named : {x y : List ℕ} {z : Bool} → (ltb 0 m && eqb m n) ≡ true → x ≡ private_of a → y ≡ private_of b → z ≡ same x y → z ≡ same_set a b
  unfolding same_set
  set_named h e f g = rw (← first, ← second, h, ← e, ← f) g

  pub set_apart : (ltb 0 m && eqb m n) ≡ false → false ≡ same_set a b
  unfolding same_set
  set_apart h = rw (← first, ← second, h)

-- Two records of one set.
pub record OneSet (a b : List ℕ) : Type 0 where
  pub numbered : 0 < set_of a
  pub number : set_of a ≡ set_of b
  pub private : private_of a ≡ private_of b

pub set_says : (a b : List ℕ) → same_set a b ≡ true → OneSet a b
unfolding same_set
set_says a b e =
    let f : (ltb 0 (set_of a) && eqb (set_of a) (set_of b)) ≡ true = and_left (ltb 0 (set_of a) && eqb (set_of a) (set_of b)) _ e in
    record {
      numbered = ltb-true _ _ (and_left (ltb 0 (set_of a)) _ f);
      number = eqb-true _ _ (and_right (ltb 0 (set_of a)) _ f);
      private = same_eq _ _ (and_right (ltb 0 (set_of a) && eqb (set_of a) (set_of b)) _ e);
    }

pub set_holds : (a b : List ℕ) → OneSet a b → same_set a b ≡ true
unfolding same_set
set_holds a b s = rw (lt-ltb 0 (set_of a) s.numbered, eq-eqb (set_of a) (set_of b) s.number, same_yes (private_of a) (private_of b) s.private)

pub set_sym : (a b : List ℕ) → same_set a b ≡ true → same_set b a ≡ true
set_sym a b e =
    let s : OneSet a b = set_says a b e in
    set_holds b a (record { numbered = rw s.number at s.numbered; number = sym s.number; private = sym s.private })

pub set_trans : (a b c : List ℕ) → same_set a b ≡ true → same_set b c ≡ true → same_set a c ≡ true
set_trans a b c e f =
    let s : OneSet a b = set_says a b e in
    let t : OneSet b c = set_says b c f in
    set_holds a c (record { numbered = s.numbered; number = s.number ∙ t.number; private = s.private ∙ t.private })

pub set_own : (a : List ℕ) → 0 < set_of a → same_set a a ≡ true
set_own a h = set_holds a a (record { numbered = h; number = refl; private = refl })

-- Blocks with the same numbers and private identities are of the same sets.
pub set_alike : (a b c d : List ℕ) → set_of a ≡ set_of c → private_of a ≡ private_of c → set_of b ≡ set_of d → private_of b ≡ private_of d → same_set a b ≡ same_set c d
unfolding same_set
set_alike a b c d e f g h = rw (e, f, g, h)

-- Two records that agree.
pub record Agree (a b : List ℕ) : Type 0 where
  pub state : state_of a ≡ state_of b
  pub pending : bits_of a % 2 ≡ bits_of b % 2
  pub server : server_of a ≡ server_of b

pub agree_says : (a b : List ℕ) → agreeing a b ≡ true → Agree a b
unfolding agreeing
agree_says a b e =
    let f : (eqb (state_of a) (state_of b) && eqb (bits_of a % 2) (bits_of b % 2)) ≡ true =
    and_left (eqb (state_of a) (state_of b) && eqb (bits_of a % 2) (bits_of b % 2)) _ e in
    record {
      state = eqb-true _ _ (and_left (eqb (state_of a) (state_of b)) _ f);
      pending = eqb-true _ _ (and_right (eqb (state_of a) (state_of b)) _ f);
      server = same_eq _ _ (and_right (eqb (state_of a) (state_of b) && eqb (bits_of a % 2) (bits_of b % 2)) _ e);
    }

pub agree_holds : (a b : List ℕ) → Agree a b → agreeing a b ≡ true
unfolding agreeing
agree_holds a b s =
    rw (eq-eqb (state_of a) (state_of b) s.state, eq-eqb (bits_of a % 2) (bits_of b % 2) s.pending, same_yes (server_of a) (server_of b) s.server)

pub agree_refl : (a : List ℕ) → agreeing a a ≡ true
agree_refl a = agree_holds a a (record { state = refl; pending = refl; server = refl })

pub agree_sym : (a b : List ℕ) → agreeing a b ≡ true → agreeing b a ≡ true
agree_sym a b e =
    let s : Agree a b = agree_says a b e in
    agree_holds b a (record { state = sym s.state; pending = sym s.pending; server = sym s.server })

pub agree_trans : (a b c : List ℕ) → agreeing a b ≡ true → agreeing b c ≡ true → agreeing a c ≡ true
agree_trans a b c e f =
    let s : Agree a b = agree_says a b e in
    let t : Agree b c = agree_says b c f in
    agree_holds a c (record { state = s.state ∙ t.state; pending = s.pending ∙ t.pending; server = s.server ∙ t.server })

-- All that sets ask of a record, the same of two blocks.
pub record SameMember (b c : List ℕ) : Type 0 where
  pub set : set_of c ≡ set_of b
  pub private : private_of c ≡ private_of b
  pub state : state_of c ≡ state_of b
  pub bits : bits_of c ≡ bits_of b
  pub server : server_of c ≡ server_of b

module _ (a b c d : List ℕ) (first : SameMember a c) (second : SameMember b d) where
  pub member_set : same_set c d ≡ same_set a b
  unfolding same_set
  member_set = rw (first.set, first.private, second.set, second.private)

  pub member_agrees : agreeing c d ≡ agreeing a b
  unfolding agreeing
  member_agrees = rw (first.state, first.bits, first.server, second.state, second.bits, second.server)
