-- The first five refusals, in their order, and what they let pass.
use Rattle.octets.specs.Standard.{ℕ, ◌≤◌, ◌<◌, ◌%◌, List, Bool, true, false, cond, not, ◌||◌, true≢false, ◌≡◌, refl, sym, ◌∙◌, arith, length, get_or}
use Rattle.octets.specs.Standard.{eqb, ltb, lt-ltb, le-ltb, eqb-true, ltb-false}
use Rattle.octets.specs.Number.{be24_at}
use Rattle.reading.specs.declared.Terms.{Terms}
use Rattle.refusals.specs.Early.{unknown_peer, small_buffer, wrong_size, wrong_length, no_request, early}
use Rattle.refusals.specs.Passed.{Passed}
use Rattle.refusals.specs.Trial.{tried}

pub length_all : (req : List ℕ) {n : ℕ} → n ≡ be24_at req 1 → (not (eqb n (length req)) || not (eqb (length req % 4) 0)) ≡ wrong_length req
unfolding wrong_length
length_all req e = rw e

-- a length that is not wrong is a multiple of 4
pub length_even : (req : List ℕ) → wrong_length req ≡ false → length req % 4 ≡ 0
unfolding wrong_length
length_even req e = go (eqb (be24_at req 1) (length req)) (eqb (length req % 4) 0) refl e
  where
    go : (a b : Bool) → eqb (length req % 4) 0 ≡ b → (not a || not b) ≡ false → length req % 4 ≡ 0
    go a true g h = eqb-true (length req % 4) 0 g
    go true false g h = absurd (true≢false h)
    go false false g h = absurd (true≢false h)

-- two tests that fail
pub neither : (a b : Bool) → (a || b) ≡ false → (a ≡ false) × (b ≡ false)
neither true b e = absurd (true≢false e)
neither false b e = (refl, e)

-- a size that is not wrong
size_within : (req : List ℕ) → wrong_size req ≡ false → (20 ≤ length req) × (length req ≤ 16384)
size_within req e =
    let both = neither (ltb (length req) 20) (ltb 16384 (length req)) e in
    (ltb-false (length req) 20 both.0, ltb-false 16384 (length req) both.1)

pub size_least : (req : List ℕ) → wrong_size req ≡ false → 20 ≤ length req
size_least req e = (size_within req e).0

pub size_most : (req : List ℕ) → wrong_size req ≡ false → length req ≤ 16384
size_most req e = (size_within req e).1

pub size_flags : (req : List ℕ) → wrong_size req ≡ false → 4 < length req
size_flags req e = omega (arith, size_least req e)

-- The first five, in their order.
module _ (terms : Terms) (req o : List ℕ) where
  pub early_peer : unknown_peer terms ≡ true → 12 ≡ early terms req o
  unfolding early tried
  early_peer a = rw a

  pub early_buffer : unknown_peer terms ≡ false → length o < 36864 → 1 ≡ early terms req o
  unfolding early tried
  early_buffer peer a = rw (peer, lt-ltb (length o) 36864 a)

  module _ (peer : unknown_peer terms ≡ false) (room : 36864 ≤ length o) where
    pub early_size : wrong_size req ≡ true → 2 ≡ early terms req o
    unfolding early tried
    early_size a = rw (peer, le-ltb (length o) 36864 room, a)

    module _ (fits : wrong_size req ≡ false) {w : Bool} (is : w ≡ wrong_length req) where
      pub early_length : w ≡ true → 3 ≡ early terms req o
      unfolding early tried
      early_length a = rw (peer, le-ltb (length o) 36864 room, fits, sym is ∙ a)

      pub early_answer : w ≡ false → get_or req 4 0 < 128 → 4 ≡ early terms req o
      unfolding early tried
      early_answer a b = rw (peer, le-ltb (length o) 36864 room, fits, sym is ∙ a, lt-ltb (get_or req 4 0) 128 b)

      pub early_none : w ≡ false → 128 ≤ get_or req 4 0 → 0 ≡ early terms req o
      unfolding early tried
      early_none a b = rw (peer, le-ltb (length o) 36864 room, fits, sym is ∙ a, le-ltb (get_or req 4 0) 128 b)

-- what it says where none holds
pub record Lets (terms : Terms) (req o : List ℕ) : Type 0 where
  pub peer : unknown_peer terms ≡ false
  pub room : small_buffer o ≡ false
  pub size : wrong_size req ≡ false
  pub long : wrong_length req ≡ false
  pub asks : no_request req ≡ false

pub lets : (terms : Terms) (req o : List ℕ) → early terms req o ≡ 0 → Lets terms req o
unfolding early tried
lets terms req o e = go (unknown_peer terms) (small_buffer o) (wrong_size req) (wrong_length req) (no_request req) refl refl refl refl refl e
  where
    go : (u a b c d : Bool) → unknown_peer terms ≡ u → small_buffer o ≡ a → wrong_size req ≡ b → wrong_length req ≡ c → no_request req ≡ d
        → ◌≡◌ {A = ℕ} (cond u 12 (cond a 1 (cond b 2 (cond c 3 (cond d 4 0))))) 0 → Lets terms req o
    go true a b c d p f g h i z = absurd (omega (arith, z))
    go false true b c d p f g h i z = absurd (omega (arith, z))
    go false false true c d p f g h i z = absurd (omega (arith, z))
    go false false false true d p f g h i z = absurd (omega (arith, z))
    go false false false false true p f g h i z = absurd (omega (arith, z))
    go false false false false false p f g h i z = record { peer = p; room = f; size = g; long = h; asks = i }

pub none : {n m : ℕ} → n ≡ m → n ≤ 0 → m ≡ 0
none e h = omega (arith, e)

pub passes : (terms : Terms) (req o : List ℕ) {n : ℕ} → n ≡ early terms req o → n ≤ 0 → Passed req o
passes terms req o e h =
    let l = lets terms req o (none e h) in
    let s = size_within req l.size in
    record { least = s.0; most = s.1; fours = length_even req l.long; room = ltb-false (length o) 36864 l.room }
