-- What a sound table says, and that a table that says so is sound.
use Rattle.std.specs.Prelude.{Ok, Err}
use Rattle.octets.specs.Standard.{ℕ, suc, ◌+◌, ◌-◌, ◌*◌, ◌<◌, ◌≤◌, Bool, true, false, ◌&&◌, ◌||◌, not, cond, true≢false, ◌≡◌, refl, sym, ◌∙◌, ap}
use Rattle.octets.specs.Standard.{List, arith, length, get_or, leb, ltb, eqb, eqb-true, leb-true, ltb-true, lt-leb, le-leb, eq-eqb, ne_eqb, lt-ltb}
use Rattle.octets.specs.Name.{order_of}
use Rattle.std.specs.declared.cmp.Ordering.{Ordering}
use Rattle.std.specs.declared.cmp.Ordering.TheVariants.{Less, Equal, Greater}
use Rattle.octets.specs.All.{all_below}
use Rattle.octets.proofs.All.{and_left, and_right, all_at}
use Rattle.record.specs.Fields.{networks_of, state_of, bits_of, public_size, server_size, pending}
use Rattle.record.specs.HeaderBlock.{header_of, sound_header}
use Rattle.record.specs.declared.header.Header.{Header}
use Rattle.record.specs.Networks.{place_at, used_place, sound_place, sound_networks}
use Rattle.record.specs.RecordBlock.{record_of, sound_record}
use Rattle.record.specs.Sets.{same_set, agreeing}
use Rattle.record.proofs.Tests.{RecordTests, record_says, Limits, limits_say, HeaderTests, header_says}
use Rattle.blocks.specs.Blocks.{block_of}
use Rattle.table.specs.Named.{public_at}
use Rattle.table.specs.Check.{is_less, rises_at, stands_at, agrees_at, sound_at, check_records, check_table}
use Rattle.table.specs.SoundTable.{SoundTable}
use Rattle.table.proofs.Agreement.{agrees_says}
use Rattle.blocks.proofs.First.{bad_sound, good_each, good_count, all_good}

-- The tests of a table, taken out of the check once.
pub record TableTests (t : List ℕ) (file count : ℕ) : Type 0 where
  pub size : length t ≡ 512 * (count + 1)
  pub counted : (header_of (block_of t 0)).count ≡ count
  pub header : sound_header (block_of t 0) ≡ true
  pub each : (k : ℕ) → 1 ≤ k → k ≤ count → sound_at t (header_of (block_of t 0)) file k ≡ true

pub table_says : (t : List ℕ) (file count : ℕ) → check_table t file ≡ Ok count → TableTests t file count
unfolding check_table check_records
table_says t file count e = go (leb 512 (length t) && sound_header (block_of t 0) && eqb (length t) (512 * ((header_of (block_of t 0)).count + 1))) refl e
  where
    good : ℕ → Bool
    good = sound_at t (header_of (block_of t 0)) file

    go : (x : Bool) → (leb 512 (length t) && sound_header (block_of t 0) && eqb (length t) (512 * ((header_of (block_of t 0)).count + 1))) ≡ x
        → cond x (check_records t (header_of (block_of t 0)) file) (Err 0) ≡ Ok count → TableTests t file count
    go false f g = bad_sound (Err 0) 0 count refl g
    go true f g =
        let n : (header_of (block_of t 0)).count ≡ count = good_count good (header_of (block_of t 0)).count count (header_of (block_of t 0)).count 1 g in
        let l : length t ≡ 512 * ((header_of (block_of t 0)).count + 1) = eqb-true _ _ (and_right (leb 512 (length t) && sound_header (block_of t 0)) _ f) in
        record {
          size = omega arith;
          counted = n;
          header = and_right (leb 512 (length t)) _ (and_left (leb 512 (length t) && sound_header (block_of t 0)) _ f);
          each = λ k a b. good_each good (header_of (block_of t 0)).count count (header_of (block_of t 0)).count 1 g k a (omega arith);
        }

pub table_holds : (t : List ℕ) (file count : ℕ) → TableTests t file count → check_table t file ≡ Ok count
unfolding check_table check_records
table_holds t file count s = go ∙ ap Ok s.counted
  where
    h : Header
    h = header_of (block_of t 0)

    long : length t ≡ 512 * (h.count + 1)
    long = rw s.counted s.size

    go : check_table t file ≡ Ok h.count
    go =
        rw (s.header, le-leb 512 (length t) (omega (arith, s.size)), eq-eqb (length t) (512 * (h.count + 1)) long)
        (all_good (sound_at t h file) h.count h.count 1 (λ j a b. s.each j a (omega (arith, s.counted))))

-- What they say of each record.
module _ (t : List ℕ) (file count : ℕ) (was : TableTests t file count) (k : ℕ) (a : 1 ≤ k) (b : k ≤ count) where
  abbrev first : Header
  first = header_of (block_of t 0)

  tests_stands : stands_at t first file k ≡ true
  unfolding sound_at
  tests_stands = and_left (stands_at t first file k) (agrees_at t k) (was.each k a b)

  pub tests_agrees : agrees_at t k ≡ true
  unfolding sound_at
  tests_agrees = and_right (stands_at t first file k) (agrees_at t k) (was.each k a b)

  pub tests_sound : sound_record (block_of t k) k first file ≡ true
  unfolding stands_at
  tests_sound = and_left (sound_record (block_of t k) k first file) (rises_at t k) tests_stands

  pub tests_rises : rises_at t k ≡ true
  unfolding stands_at
  tests_rises = and_right (sound_record (block_of t k) k first file) (rises_at t k) tests_stands

  pub tests_record : RecordTests (block_of t k) k first file
  tests_record = record_says (block_of t k) k first file tests_sound

  pub tests_limits : Limits (record_of (block_of t k))
  tests_limits = limits_say (record_of (block_of t k)) tests_record.limits

drop_false : (x : Bool) {y : Bool} → (x && false || y) ≡ true → y ≡ true
drop_false true e = e
drop_false false e = e

is_less_lem : (o : Ordering) → is_less o ≡ true → o ≡ Less
is_less_lem Less e = refl
is_less_lem Equal e = absurd (true≢false (sym e))
is_less_lem Greater e = absurd (true≢false (sym e))

-- The names of the networks of a sound header have room.
place_room : (b : List ℕ) (n : ℕ) → n ≤ 8 → sound_networks b n ≡ true → (i : ℕ) → i < n → get_or b (place_at i) 0 ≤ 31
unfolding sound_networks sound_place used_place
place_room b n h e i l =
    let g : sound_place b n i ≡ true = all_at (sound_place b n) 8 (and_left (all_below (sound_place b n) 8) _ e) i (omega arith) in
    let u : used_place b i ≡ true = rw (lt-ltb i n l) at g in
    leb-true _ _ (and_right (leb 1 (get_or b (place_at i) 0)) _ (and_left (leb 1 (get_or b (place_at i) 0) && leb (get_or b (place_at i) 0) 31) _ u))

module _ (t : List ℕ) (count : ℕ) (s : SoundTable t count) where
  pub sound_tests : TableTests t s.file count
  sound_tests = table_says t s.file count s.checked

  -- how long it is, and where its blocks end
  pub sound_size : length t ≡ 512 * (count + 1)
  sound_size = sound_tests.size

  pub sound_first : 512 * 0 + 512 ≤ length t
  sound_first = omega (arith, sound_size)

  pub sound_block : (k : ℕ) → k ≤ count → 512 * k + 512 ≤ length t
  sound_block k h = omega (arith, sound_size)

  -- what its header says
  pub sound_header_lem : HeaderTests (block_of t 0)
  sound_header_lem = header_says (block_of t 0) sound_tests.header

  pub sound_few : count ≤ 4096
  sound_few = rw sound_tests.counted at sound_header_lem.count

  module _ {h : List ℕ} (e : h ≡ block_of t 0) where
    pub sound_networks_lem : networks_of h ≤ 8
    unfolding header_of
    sound_networks_lem = rw e sound_header_lem.networks

    pub sound_place_lem : (i : ℕ) → i < networks_of h → get_or h (place_at i) 0 ≤ 31
    unfolding header_of
    sound_place_lem = rw e (place_room (block_of t 0) (networks_of (block_of t 0)) sound_header_lem.networks sound_header_lem.places)

  -- what each record says
  pub sound_record_lem : (k : ℕ) → 1 ≤ k → k ≤ count → sound_record (block_of t k) k (header_of (block_of t 0)) s.file ≡ true
  sound_record_lem = tests_sound t s.file count sound_tests

  -- the records of each of its sets agree
  pub sound_agrees : (j k : ℕ) → 1 ≤ j → j < k → k ≤ count → same_set (block_of t j) (block_of t k) ≡ true → agreeing (block_of t j) (block_of t k) ≡ true
  sound_agrees j k a b c = agrees_says t k (tests_agrees t s.file count sound_tests k (omega arith) c) j a b

  pub sound_limits_lem : (k : ℕ) → 1 ≤ k → k ≤ count → Limits (record_of (block_of t k))
  sound_limits_lem = tests_limits t s.file count sound_tests

  pub sound_public : (k : ℕ) → 1 ≤ k → k ≤ count → public_size (block_of t k) ≤ 128
  unfolding record_of
  sound_public k a b = (sound_limits_lem k a b).public

  -- "State 1 or 2 needs a server name": a registered line has one
  pub sound_served : (k : ℕ) → 1 ≤ k → k ≤ count → 0 < state_of (block_of t k) → 0 < server_size (block_of t k)
  unfolding record_of
  sound_served k a b l =
      go (eqb (server_size (block_of t k)) 0) refl
      (rw (ne_eqb (state_of (block_of t k)) 0 (omega arith)) at (tests_record t s.file count sound_tests k a b).server)
    where
      go : (x : Bool) → eqb (server_size (block_of t k)) 0 ≡ x
          → (x && (false && not (pending (bits_of (block_of t k))))
          || ltb 0 (server_size (block_of t k)) && (ltb 0 (state_of (block_of t k)) || pending (bits_of (block_of t k)))) ≡ true
          → 0 < server_size (block_of t k)
      go x e f = ltb-true 0 (server_size (block_of t k)) (and_left (ltb 0 (server_size (block_of t k))) _ (drop_false x f))

  -- its public identities rise
  pub sound_rises : (k : ℕ) → 1 ≤ k → k < count → order_of (public_at t k) (public_at t (suc k)) ≡ Less
  unfolding rises_at
  sound_rises k a b =
      let g : rises_at t (suc k) ≡ true = tests_rises t s.file count sound_tests (suc k) (omega arith) (omega arith) in
      let l : 1 < suc k = omega arith in
      let q : suc k - 1 ≡ k = omega arith in
      is_less_lem _ (rw (lt-leb _ _ l, q) at g)
