-- Each look-up as the scan that it is, and the scan of the visited networks.
use Rattle.std.specs.Prelude.{Option, Some, None, MatchOption}
use Rattle.std.specs.Option.{is_some, is_none}
use Rattle.octets.specs.Standard.{ℕ, zero, suc, ◌+◌, ◌-◌, ◌<◌, ◌≤◌, ◌/◌, ◌%◌, ◌^◌, Bool, true, false, ◌&&◌, not, ◌≡◌, refl, sym, ◌∙◌, List, arith, eqb}
use Rattle.octets.specs.Standard.{lt-ltb, le-ltb}
use Rattle.octets.specs.Standard.{get_or, take, drop}
use Rattle.octets.specs.Name.{same}
use Rattle.record.specs.Fields.{networks_of, roaming_of, bits_of, barred}
use Rattle.record.specs.Networks.{place_at, network_of}
use Rattle.blocks.specs.Blocks.{block_of}
use Rattle.table.specs.SoundTable.{SoundTable}
use Rattle.table.proofs.Sound.{sound_networks_lem, sound_place_lem}
use Rattle.lookup.specs.Find.{first_from, is_at, find_free}
use Rattle.lookup.specs.Find.{barred_alone}
use Rattle.lookup.specs.Network.{network_is, seek, network_number, roams_in, may_roam}
use Rattle.lookup.proofs.First.{first_next, first_nothing}

-- The last turn of the scan.
pub first_last : (p : ℕ → Bool) (count k : ℕ) {x : Bool} {whole : Option ℕ} → whole ≡ first_from p (count + 1 - k) k → k ≤ count → count ≤ k → x ≡ p k → x ≡ false
    → None ≡ whole
first_last p count k left h l e f = first_nothing p count (k + 1) (first_next p count k left h e f) (omega arith)

-- An answer that is there.
pub some_at : (o : Option ℕ) → is_some o ≡ is_at o
some_at (Some k) = refl
some_at None = refl

pub none_at : (o : Option ℕ) → is_none o ≡ not (is_at o)
none_at (Some k) = refl
none_at None = refl

pub alone : (t : List ℕ) (count : ℕ) (b : List ℕ) {x y : Bool} {f : Option ℕ} → x ≡ barred (bits_of b) → f ≡ find_free t count b → y ≡ is_none f
    → (x && y) ≡ barred_alone t count b
unfolding barred_alone
alone t count b {x} {y} {f} e g h = rw (e, h, none_at f, g)

-- A network's name in its place.
module _ (t : List ℕ) (count : ℕ) (sound : SoundTable t count) (h : List ℕ) (eh : h ≡ block_of t 0) (i at size : ℕ) (low : i < networks_of (block_of t 0))
    (place : at ≡ place_at i) (is : size ≡ get_or h at 0) where
  pub name_room : i < 8 → at + 1 + size ≤ 512
  name_room l = let m : get_or h (place_at i) 0 ≤ 31 = sound_place_lem t count sound eh i (rw eh low) in omega (arith, rw place at is)

  pub name_lent : take (at + 1 + size - (at + 1)) (drop (at + 1) h) ≡ network_of (block_of t 0) i
  unfolding network_of
  name_lent = let n : at + 1 + size - (at + 1) ≡ size = omega arith in rw (n, is, place, eh)

-- The turns of the scan: what is left from network i on gives the number of the whole.
pub networks_few : (t : List ℕ) (count : ℕ) → SoundTable t count → {h : List ℕ} {n : ℕ} → h ≡ block_of t 0 → n ≡ networks_of h → n ≤ 8
networks_few t count s e f = rw f (sound_networks_lem t count s e)

pub networks_are : (t : List ℕ) {h : List ℕ} {n : ℕ} → h ≡ block_of t 0 → n ≡ networks_of h → n ≡ networks_of (block_of t 0)
networks_are t e f = rw (← e) f

-- The first network that has the name, by the search for it. A number shows as a place in a list: there the library's laws of ranges take it.
module _ (b name : List ℕ) (n : ℕ) (few : n ≤ 8) (is : n ≡ networks_of b) where
  seek_turn : (k : ℕ) → k < n → network_is b name k ≡ false → seek (network_is b name) (n - k) k ≡ seek (network_is b name) (n - suc k) (suc k)
  unfolding seek
  seek_turn k h q = let e : n - k ≡ suc (n - suc k) = omega arith in rw (e, q)

  seek_down : (k : ℕ) → k ≤ n → ((j : ℕ) → j < k → network_is b name j ≡ false)
      → network_number b n name ≡ seek (network_is b name) (n - k) k
  unfolding network_number
  seek_down zero h f = let m : n - 0 ≡ n = omega arith in rw m refl
  seek_down (suc k) h f = seek_down k (omega arith) (λ j l. f j (omega arith)) ∙ seek_turn k (omega arith) (f k (omega arith))

  pub network_found : (r : Option ℕ)
      → (r ≡ None → (j : ℕ) → get_or name j 0 ≡ get_or name j 0 → j < n → same (network_of b j) name ≡ false)
      → ((k : ℕ) → r ≡ Some k → (k < n) × (same (network_of b k) name ≡ true)
      × ((j : ℕ) → get_or name j 0 ≡ get_or name j 0 → j < k → same (network_of b j) name ≡ false))
      → MatchOption r (network_number b (networks_of b) name ≡ networks_of b)
      (λ i. (i ≡ network_number b (networks_of b) name) × (i < networks_of b) × (i < 8))
  unfolding network_is seek
  network_found None f g =
      let m : n - n ≡ 0 = omega arith in
      rw (← is) (seek_down n (omega arith) (λ j l. f refl j refl l) ∙ rw m)
  network_found (Some k) f g =
      let h = g k refl in
      let m : n - k ≡ suc (n - (k + 1)) = omega (arith, h.0) in
      rw (← is) (sym (seek_down k (omega (arith, h.0)) (λ j l. h.2 j refl l) ∙ rw (m, h.1)), h.0, omega (arith, h.0))

-- A record's bit for a network that has the name; none has it.
module _ (t b name : List ℕ) where
  pub roams : (n : ℕ) {roaming : ℕ} → n ≡ network_number (block_of t 0) (networks_of (block_of t 0)) name → n < networks_of (block_of t 0)
      → roaming ≡ roaming_of b → eqb (roaming / 2 ^ n % 2) 1 ≡ may_roam (block_of t 0) b name
  unfolding may_roam roams_in
  roams n e h f = rw (← e, lt-ltb _ _ h, f)

  pub roams_nowhere : network_number (block_of t 0) (networks_of (block_of t 0)) name ≡ networks_of (block_of t 0) → false ≡ may_roam (block_of t 0) b name
  unfolding may_roam roams_in
  roams_nowhere e = let h : networks_of (block_of t 0) ≤ networks_of (block_of t 0) = omega arith in rw (e, le-ltb _ _ h)
