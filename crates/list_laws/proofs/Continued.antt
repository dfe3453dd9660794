-- A list whose first records could stand in an export: one that begins with them. Each record that follows has the name right above that before it.
use Rattle.octets.specs.Standard.{ℕ, zero, suc, ◌+◌, ◌-◌, ◌*◌, ◌<◌, ◌≤◌, Bool, true, false, ◌&&◌, cond, ◌≡◌, refl, sym, ◌∙◌, arith}
use Rattle.octets.specs.Standard.{leb, le-leb, lt-leb, leb-true, leb-false, List, [], ◌++◌, length, length-take, drop}
use Rattle.octets.specs.Name.{order_of}
use Rattle.std.specs.declared.cmp.Ordering.TheVariants.{Less}
use Rattle.octets.proofs.All.{and_left, and_right}
use Rattle.octets.proofs.Chains.{◌also◌}
use Rattle.octets.proofs.Numbers.{Bytes, word_lt}
use Rattle.record.specs.Fields.{count_of, issue_of, public_of, private_of}
use Rattle.record.specs.HeaderBlock.{header_of}
use Rattle.record.specs.RecordBlock.{record_of, sound_record}
use Rattle.record.proofs.Tests.{header_says, record_says, Limits, limits_say}
use Rattle.blocks.specs.Blocks.{block_of, table_of}
use Rattle.blocks.proofs.Blocks.{table_length, table_block}
use Rattle.blocks.proofs.First.{all_good}
use Rattle.table.specs.Check.{is_less, sound_at, stands_at, rises_at, agrees_at}
use Rattle.table.specs.Named.{public_at}
use Rattle.table.proofs.Areas.{sound_same}
use Rattle.table.proofs.Leading.{setless_agrees}
use Rattle.table.proofs.Sound.{table_holds}
use Rattle.quoting.specs.Quoted.{listable}
use Rattle.rows.specs.Block.{block_from}
use Rattle.rows.proofs.Lines as line
use Rattle.rows.proofs.Blocks.{said_length}
use Rattle.rows.proofs.Octets.{Octets, append_bytes, said_bytes}
use Rattle.listing.specs.ListOf.{first_line, lines_of, listable_at, first_unlisted}
use Rattle.importing.specs.Above.{strings_of, above}
use Rattle.importing.specs.Said.{place_of, said_at, table_said, enough_at, holds_at, is_titled}
use Rattle.importing.specs.Import.{fit_header}
use Rattle.importing.proofs.Accepts as accepts
use Rattle.importing.proofs.Accepts.{FitHeader}
use Rattle.importing.proofs.Given.{Exportable}
use Rattle.importing.proofs.Importing.{said_at_bytes}
use Rattle.importing.proofs.Next.{next, next_above, next_less, next_listed, next_length}
use Rattle.saying.proofs.Reading.{said_whole}
use Rattle.list_laws.proofs.Fresh.{fresh, fresh_fits, fresh_sound, fresh_set, fresh_public, fresh_private, fresh_server}

module _ (list header : List ℕ) (file m : ℕ) (bytes : Bytes header) (fits : fit_header header ≡ true) (few : m ≤ count_of header)
    (each : (k : ℕ) → 1 ≤ k → k ≤ m → holds_at list header file k ≡ true) where
  fit : FitHeader header
  fit = accepts.header_fits header fits

  abbrev count : ℕ
  count = count_of header

  abbrev said : List ℕ
  said = table_said list header

  count_few : count ≤ 4096
  unfolding header_of
  count_few = (header_says header fit.sound).count

  sound_each : (k : ℕ) → 1 ≤ k → k ≤ m → sound_at said (header_of header) file k ≡ true
  unfolding holds_at
  sound_each k a b = and_left (sound_at said (header_of header) file k) (enough_at said count k) (each k a b)

  -- the last name that is kept
  last_name : ℕ → List ℕ
  last_name zero = []
  last_name (suc n) = public_at said (suc n)

  record Good (name : List ℕ) (left : ℕ) : Type 0 where
    listed : listable name ≡ true
    size : length name ≤ 128
    enough : left ≤ above 128 name

  -- above the empty string there are more than a table has records
  many_names : 4096 ≤ above 128 []
  unfolding above strings_of
  many_names = leb-true 4096 (above 128 []) refl

  last_good : (n : ℕ) → n ≤ m → ((k : ℕ) → 1 ≤ k → k ≤ n → holds_at list header file k ≡ true) → Good (last_name n) (count - n)
  unfolding last_name listable holds_at enough_at public_at public_of record_of listable_at
  last_good zero h e = record { listed = refl; size = omega arith; enough = omega (arith, count_few, many_names) }
  last_good (suc n) h e =
      let s : sound_at said (header_of header) file (suc n) ≡ true = sound_each (suc n) (omega arith) h in
      let r : sound_record (block_of said (suc n)) (suc n) (header_of header) file ≡ true = accepts.record_good list header fit file n s in
      let l : Limits (record_of (block_of said (suc n))) = limits_say _ (record_says _ _ _ _ r).limits in
      let names = accepts.names_here list header fit file n (omega arith) r in
      record {
        listed =
            and_left (listable (public_of (block_of said (suc n)))) _
            (and_left (listable (public_of (block_of said (suc n))) && listable (private_of (block_of said (suc n)))) _ names);
        size = simp length-take (omega (arith, l.public));
        enough =
            leb-true (count - suc n) (above 128 (public_at said (suc n)))
            (and_right (sound_at said (header_of header) file (suc n)) _ (e (suc n) (omega arith) (omega arith)));
      }

  -- the names from there on
  names : ℕ → List ℕ
  names zero = last_name m
  names (suc i) = next 128 (names i)

  names_good : (i : ℕ) → i ≤ count - m → Good (names i) (count - m - i)
  unfolding names
  names_good zero h = let z : count - m - 0 ≡ count - m = omega arith in rw z (last_good m (omega arith) each)
  names_good (suc i) h =
      let g : Good (names i) (count - m - i) = names_good i (omega arith) in
      let some_left : 0 < above 128 (names i) = omega (arith, g.enough) in
      record {
        listed = next_listed 128 (names i) g.listed g.size some_left;
        size = (next_length 128 (names i) g.size some_left).1;
        enough = omega (arith, next_above 128 (names i) g.listed g.size some_left, g.enough);
      }

  names_some : (i : ℕ) → suc i ≤ count - m → 1 ≤ length (names (suc i))
  unfolding names
  names_some i h =
      let g : Good (names i) (count - m - i) = names_good i (omega arith) in
      (next_length 128 (names i) g.size (omega (arith, g.enough))).0

  names_rise : (i : ℕ) → suc i ≤ count - m → order_of (names i) (names (suc i)) ≡ Less
  unfolding names
  names_rise i h =
      let g : Good (names i) (count - m - i) = names_good i (omega arith) in
      next_less 128 (names i) g.listed g.size (omega (arith, g.enough))

  -- the blocks
  block : ℕ → List ℕ
  block k = cond (leb k m) (said_at list header k) (block_from (issue_of header) k (fresh (names (k - m))))

  block_kept : (k : ℕ) → k ≤ m → block k ≡ said_at list header k
  unfolding block
  block_kept k h = rw (le-leb k m h)

  block_new : (k : ℕ) → m < k → block k ≡ block_from (issue_of header) k (fresh (names (k - m)))
  unfolding block
  block_new k h = rw (lt-leb k m h)

  new_fits : (k : ℕ) → k ≤ count → line.Fitting (fresh (names (k - m)))
  new_fits k h = let g : Good (names (k - m)) (count - m - (k - m)) = names_good (k - m) (omega arith) in fresh_fits (names (k - m)) g.listed g.size

  block_whole : (k : ℕ) → k ≤ count → length (block k) ≡ 512
  block_whole k h = go (leb k m) refl
    where
      go : (x : Bool) → leb k m ≡ x → length (block k) ≡ 512
      go true e = rw (block_kept k (leb-true k m e)) (said_whole list header k fit.size)
      go false e = rw (block_new k (leb-false k m e)) (said_length (issue_of header) k (fresh (names (k - m))) (new_fits k h))

  block_octets : (k : ℕ) → k ≤ count → Octets (block k)
  block_octets k h = go (leb k m) refl
    where
      go : (x : Bool) → leb k m ≡ x → Octets (block k)
      go true e = rw (block_kept k (leb-true k m e)) (said_at_bytes list header file bytes fits k)
      go false e = rw (block_new k (leb-false k m e)) (said_bytes (issue_of header) k (fresh (names (k - m))) (new_fits k h))

  pub table : List ℕ
  table = table_of block (suc count)

  table_at : (k : ℕ) → k ≤ count → block_of table k ≡ block k
  unfolding table
  table_at k h = table_block block (suc count) (λ j i. block_whole j (omega arith)) k (omega arith)

  pub kept : (k : ℕ) → k ≤ m → block_of table k ≡ block_of said k
  kept k h = table_at k (omega arith) ∙ block_kept k h ∙ sym (accepts.said_block list header fit k (omega arith))

  size_is : length table ≡ 512 * (count + 1)
  unfolding table
  size_is = table_length block (suc count) (λ k h. block_whole k (omega arith)) ∙ omega arith

  header_is : block_of table 0 ≡ header
  unfolding said_at
  header_is = table_at 0 (omega arith) ∙ block_kept 0 (omega arith)

  table_octets : (n : ℕ) → n ≤ suc count → Octets (table_of block n)
  unfolding table_of
  table_octets zero h = record { each = λ i. omega arith }
  table_octets (suc n) h = append_bytes (table_of block n) (block n) (table_octets n (omega arith)) (block_octets n (omega arith))

  -- a record behind the last that is kept
  module _ (k : ℕ) (a : m < k) (b : k ≤ count) where
    good : Good (names (k - m)) (count - m - (k - m))
    good = names_good (k - m) (omega arith)

    before : suc (k - 1 - m) ≡ k - m
    before = omega arith

    some_name : 1 ≤ length (names (k - m))
    some_name = rw before at (names_some (k - 1 - m) (omega arith))

    word : issue_of header ≤ 4294967295
    word = omega (arith, word_lt header 408 bytes)

    new_is : block_of table k ≡ block_from (issue_of header) k (fresh (names (k - m)))
    new_is = table_at k b ∙ block_new k a

    new_public : public_at table k ≡ names (k - m)
    unfolding public_at
    new_public =
        rw new_is (fresh_public (issue_of header) k (names (k - m)) good.listed some_name good.size (omega (arith, count_few)) word)

    new_sound : sound_record (block_of table k) k (header_of header) file ≡ true
    unfolding header_of
    new_sound =
        rw new_is
        (fresh_sound (issue_of header) k (names (k - m)) good.listed some_name good.size (omega (arith, count_few)) word (header_of header) file
        fit.edition refl)

    new_agrees : agrees_at table k ≡ true
    new_agrees =
        setless_agrees table k
        (rw new_is (fresh_set (issue_of header) k (names (k - m)) good.listed some_name good.size (omega (arith, count_few)) word))

    new_listed : listable_at table k ≡ true
    unfolding listable_at listable
    new_listed =
        rw (
          new_is,
          fresh_public (issue_of header) k (names (k - m)) good.listed some_name good.size (omega (arith, count_few)) word,
          fresh_private (issue_of header) k (names (k - m)) good.listed some_name good.size (omega (arith, count_few)) word,
          fresh_server (issue_of header) k (names (k - m)) good.listed some_name good.size (omega (arith, count_few)) word,
          good.listed,
        )

  -- the name before
  public_is_lem : (k : ℕ) → 1 ≤ k → m ≤ k → k ≤ count → public_at table k ≡ names (k - m)
  unfolding public_at names last_name
  public_is_lem k a h b = go (leb k m) refl
    where
      first : (n : ℕ) → 1 ≤ n → public_at said n ≡ last_name n
      first zero g = absurd (omega arith)
      first (suc n) g = refl

      go : (x : Bool) → leb k m ≡ x → public_at table k ≡ names (k - m)
      go true e =
          let l : k ≤ m = leb-true k m e in
          let q : k ≡ m = omega arith in
          let z : k - m ≡ 0 = omega arith in
          rw (z, kept k l, q) (first m (omega arith))
      go false e = new_public k (leb-false k m e) b

  new_rises : (k : ℕ) → m < k → k ≤ count → rises_at table k ≡ true
  unfolding rises_at
  new_rises k a b = go (leb k 1) refl
    where
      go : (x : Bool) → leb k 1 ≡ x → cond x true (is_less (order_of (public_at table (k - 1)) (public_at table k))) ≡ true
      go true e = refl
      go false e =
          let l : 1 < k = leb-false k 1 e in
          let o : order_of (names (k - 1 - m)) (names (suc (k - 1 - m))) ≡ Less = names_rise (k - 1 - m) (omega arith) in
          rw (public_is_lem (k - 1) (omega arith) (omega arith) (omega arith), public_is_lem k (omega arith) (omega arith) b, rw (before k a b) at o)

  sound_all : (k : ℕ) → 1 ≤ k → k ≤ count → sound_at table (header_of header) file k ≡ true
  unfolding sound_at stands_at
  sound_all k a b = go (leb k m) refl
    where
      go : (x : Bool) → leb k m ≡ x → sound_at table (header_of header) file k ≡ true
      go true e =
          let l : k ≤ m = leb-true k m e in
          sound_same table said (header_of header) file k (λ j h. kept j (omega arith)) ∙ sound_each k a l
      go false e = let l : m < k = leb-false k m e in (new_sound k l b also new_rises k l b) also new_agrees k l b

  listed_all : (k : ℕ) → 1 ≤ k → k ≤ count → listable_at table k ≡ true
  unfolding listable_at
  listed_all k a b = go (leb k m) refl
    where
      old : (n : ℕ) → 1 ≤ n → n ≤ m → listable_at said n ≡ true
      old zero g h = absurd (omega arith)
      old (suc n) g h =
          accepts.names_here list header fit file n (omega arith) (accepts.record_good list header fit file n (sound_each (suc n) (omega arith) h))

      go : (x : Bool) → leb k m ≡ x → listable_at table k ≡ true
      go true e = let l : k ≤ m = leb-true k m e in rw (kept k l) (old k a l)
      go false e = new_listed k (leb-false k m e) b

  pub exportable : Exportable header file table
  unfolding table header_of first_unlisted
  exportable =
      record {
        bytes = (table_octets (suc count) (omega arith)).each;
        count = count;
        checked =
            table_holds table file count
            (record { size = size_is; counted = rw header_is; header = rw header_is fit.sound; each = λ k a b. rw header_is (sound_all k a b) });
        header_block = header_is;
        edition = fit.edition;
        listed = all_good (listable_at table) count count 1 (λ k a b. listed_all k a (omega arith));
      }

  -- its list begins as the one that it continues
  lines_same : (n : ℕ) → n ≤ m → lines_of table n ≡ lines_of said n
  unfolding lines_of
  lines_same zero h = refl
  lines_same (suc n) h = rw (kept (suc n) h, lines_same n (omega arith))

  pub begins : is_titled list ≡ true → list ≡ (first_line ++ lines_of table m) ++ drop (place_of list m) list
  begins t = rw (lines_same m (omega arith)) (accepts.front list header fit file m few sound_each t m (omega arith))
