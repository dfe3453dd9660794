-- Records that are the same apart from block number, issue, check word and profile start show a request the same; so do such headers.
use Rattle.octets.specs.Standard.{ℕ, ◌+◌, ◌≤◌, ◌<◌, Bool, true, false, cond, and-false, ◌≡◌, refl, sym, ◌∙◌, List, [], ◌∷◌, map, arith, leb, length, get_or, take}
use Rattle.octets.specs.Standard.{drop, lt-leb}
use Rattle.octets.specs.Name.{same}
use Rattle.octets.proofs.Parts.{part_alike}
use Rattle.record.specs.Fields.{host_of, realm_of, networks_of}
use Rattle.record.specs.HeaderBlock.{header_of}
use Rattle.record.specs.Networks.{place_at, network_of}
use Rattle.record.proofs.Alike.{SameRun, run_half, SameFields, fields_same}
use Rattle.blocks.specs.Blocks.{block_of}
use Rattle.blocks.proofs.Blocks.{block_length}
use Rattle.table.specs.SoundTable.{SoundTable}
use Rattle.table.proofs.Sound.{sound_block, sound_limits_lem, sound_first, sound_header_lem, sound_networks_lem, sound_place_lem}
use Rattle.diameter.specs.Put.{All}
use Rattle.seen_alike.specs.Shown.{SameHeader, SameRecord, numbers_up_to, Each}
use Rattle.seen_alike.proofs.Together.{Ranged, numbers_ranged}
use Rattle.neighbour.specs.Seen.{header_apart, record_apart, SameApart, SameLine, records, having}
use Rattle.neighbour.proofs.Records.{Roomy, having_numbers}

-- bytes that are compared
early : (i : ℕ) → 8 ≤ i → i < 400 → record_apart i ≡ false
early i a b = rw (lt-leb i 7 (omega arith), lt-leb 408 i (omega arith), lt-leb 508 i (omega arith), lt-leb 400 i (omega arith), and-false (leb 4 i))

late : (i : ℕ) → 404 ≤ i → i < 408 → record_apart i ≡ false
late i a b =
    rw (
      lt-leb i 7 (omega arith),
      lt-leb 408 i (omega arith),
      lt-leb 508 i (omega arith),
      lt-leb i 403 (omega arith),
      and-false (leb 4 i),
      and-false (leb 400 i),
    )

ahead : (i : ℕ) → 12 ≤ i → i < 400 → header_apart i ≡ false
ahead i a b = rw (lt-leb i 11 (omega arith), lt-leb 408 i (omega arith), lt-leb 508 i (omega arith), and-false (leb 8 i))

module _ (file other b c : List ℕ) (line : SameLine file other b c) (first : Roomy b) (second : Roomy c) where
  front : SameRun b c 8 400
  front = record { size = second.whole ∙ sym first.whole; bytes = λ i h k. sym (line.block.bytes i (omega arith) (early i h k)) }

  back : SameRun b c 404 408
  back = record { size = second.whole ∙ sym first.whole; bytes = λ i h k. sym (line.block.bytes i (omega arith) (late i h k)) }

  pub line_shows : SameRecord file other b c
  line_shows =
      let f : SameFields b c = fields_same b c front first.limits in
      record {
        state = sym f.state;
        bits = sym f.bits;
        roaming = sym f.roaming;
        size = line.block.bytes 15 (omega arith) (early 15 (omega arith) (omega arith));
        public = sym f.public;
        private = sym f.private;
        server = sym f.server;
        mandatory = sym f.mandatory;
        optional = sym f.optional;
        profile = line.profile;
        set = sym (run_half b c back 406 (omega arith) (omega arith));
      }

-- what is left of two such rows by a name in a field that they show
module _ (file other : List ℕ) (field : List ℕ → List ℕ) (shows : (b c : List ℕ) → SameRecord file other b c → field b ≡ field c) (name : List ℕ) where
  pub having_lines : (bs cs : List (List ℕ)) → All Roomy bs → All Roomy cs → Each (SameLine file other) bs cs
      → Each (SameLine file other) (having field name bs) (having field name cs)
  unfolding having
  having_lines [] [] l r e = tt
  having_lines [] (c ∷ cs) l r e = absurd e
  having_lines (b ∷ bs) [] l r e = absurd e
  having_lines (b ∷ bs) (c ∷ cs) l r e =
      rw (← shows b c (line_shows file other b c e.0 l.0 r.0)) (go (same (field b) name) (having_lines bs cs l.1 r.1 e.1))
    where
      go : (x : Bool) → Each (SameLine file other) (having field name bs) (having field name cs)
          → Each (SameLine file other) (cond x (b ∷ having field name bs) (having field name bs)) (cond x (c ∷ having field name cs) (having field name cs))
      go true next = (e.0, next)
      go false next = next

-- Headers.
module _ (b c : List ℕ) (size : length b ≡ length c) (like : SameApart header_apart b c) where
  byte : (i : ℕ) → 12 ≤ i → i < 400 → get_or b i 0 ≡ get_or c i 0
  byte i l h = like.bytes i (omega arith) (ahead i l h)

  -- a name whose length stands in byte n
  name_same : (n at : ℕ) → 12 ≤ n → n < 400 → 12 ≤ at → at + get_or b n 0 ≤ 400 → take (get_or b n 0) (drop at b) ≡ take (get_or c n 0) (drop at c)
  name_same n at k l h m = rw (← byte n k l) (part_alike b c at (get_or b n 0) size (λ i u v. byte i (omega arith) (omega arith)))

pub header_shows : (t u : List ℕ) (count many : ℕ) → SoundTable t count → SoundTable u many → SameApart header_apart (block_of t 0) (block_of u 0)
    → SameHeader (block_of t 0) (block_of u 0)
unfolding header_of host_of realm_of network_of
header_shows t u count many first second like =
    let h : List ℕ = block_of t 0 in
    let g : List ℕ = block_of u 0 in
    let size : length h ≡ length g = block_length t 0 (sound_first t count first) ∙ sym (block_length u 0 (sound_first u many second)) in
    let few : networks_of h ≤ 8 = sound_networks_lem t count first refl in
    record {
      keep = byte h g size like 12 (omega arith) (omega arith);
      host = name_same h g size like 13 16 (omega arith) (omega arith) (omega arith) (omega (arith, (sound_header_lem t count first).host));
      realm = name_same h g size like 14 80 (omega arith) (omega arith) (omega arith) (omega (arith, (sound_header_lem t count first).realm));
      networks = byte h g size like 15 (omega arith) (omega arith);
      names =
          λ i l.
          name_same h g size like (place_at i) (place_at i + 1) (omega arith) (omega arith) (omega arith) (omega (arith, sound_place_lem t count first refl i l));
    }

-- A sound record, by its number; and two tables' records with a name in a field, by their numbers: each pair is one line.
pub line_roomy : (t : List ℕ) (count : ℕ) → SoundTable t count → (k : ℕ) → Ranged count k → Roomy (block_of t k)
line_roomy t count sound k r =
    record { whole = block_length t k (sound_block t count sound k r.1); limits = sound_limits_lem t count sound k r.0 r.1 }

module _ (t u file other : List ℕ) (count many : ℕ) where
  abbrev pub LineAt : ℕ → ℕ → Type 0
  LineAt j k = Ranged count j × Ranged many k × SameLine file other (block_of t j) (block_of u k)

  lines_at : (js ks : List ℕ) → All (Ranged count) js → All (Ranged many) ks
      → Each (SameLine file other) (map (block_of t) js) (map (block_of u) ks) → Each LineAt js ks
  lines_at [] [] l r e = tt
  lines_at [] (k ∷ ks) l r e = absurd e
  lines_at (j ∷ js) [] l r e = absurd e
  lines_at (j ∷ js) (k ∷ ks) l r e = ((l.0, r.0, e.0), lines_at js ks l.1 r.1 e.1)

  pub line_rows : (field : List ℕ → List ℕ) (name : List ℕ)
      → Each (SameLine file other) (having field name (records t count)) (having field name (records u many))
      → Each LineAt (numbers_up_to (λ k. same (field (block_of t k)) name) count) (numbers_up_to (λ k. same (field (block_of u k)) name) many)
  line_rows field name e =
      let js = numbers_up_to (λ k. same (field (block_of t k)) name) count in
      let ks = numbers_up_to (λ k. same (field (block_of u k)) name) many in
      lines_at js ks (numbers_ranged count _ count (omega arith)) (numbers_ranged many _ many (omega arith))
      (rw (having_numbers field name t count, having_numbers field name u many) at e)
