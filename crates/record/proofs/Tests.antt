-- What a sound block says, a field for each test of it.
use Rattle.octets.specs.Standard.{ℕ, ◌+◌, ◌*◌, ◌≤◌, Bool, true, ◌≡◌, List, [], ◌∷◌, eqb, leb, eqb-true, leb-true, eq-eqb, le-leb}
use Rattle.octets.specs.Run.{zero_between}
use Rattle.octets.specs.Sum.{sum_words}
use Rattle.octets.proofs.Chains.{chain_says, ◌also◌}
use Rattle.record.specs.HeaderBlock.{header_of, sound_counts, sound_edition, is_header, sound_numbers, sound_header_rest, sound_header}
use Rattle.record.specs.Networks.{sound_networks}
use Rattle.record.specs.RecordBlock.{record_of, is_record, sound_set, sound_limits, sound_server, sound_roaming, sound_profile, past_names}
use Rattle.record.specs.RecordBlock.{past_capabilities, sound_rest, sound_record}
use Rattle.record.specs.declared.header.Header.{Header}
use Rattle.record.specs.declared.subscriber.Record.{Record}

-- A record block: its tests, its limits, and what is zero in it.
pub record RecordTests (b : List ℕ) (k : ℕ) (h : Header) (file : ℕ) : Type 0 where
  pub sum : sum_words b 128 ≡ 0
  pub head : is_record (record_of b) k h ≡ true
  pub set : sound_set (record_of b) ≡ true
  pub limits : sound_limits (record_of b) ≡ true
  pub server : sound_server (record_of b) ≡ true
  pub roaming : sound_roaming (record_of b) h.networks ≡ true
  pub profile : sound_profile (record_of b) file ≡ true
  pub rest : sound_rest b (record_of b) ≡ true

module _ (b : List ℕ) (k : ℕ) (h : Header) (file : ℕ) where
  pub record_says : sound_record b k h file ≡ true → RecordTests b k h file
  unfolding sound_record
  record_says e =
      let s = chain_says _ (_ ∷ _ ∷ _ ∷ _ ∷ _ ∷ _ ∷ _ ∷ []) e in
      record { sum = eqb-true _ _ (s 0); head = s 1; set = s 2; limits = s 3; server = s 4; roaming = s 5; profile = s 6; rest = s 7 }

  pub record_holds : RecordTests b k h file → sound_record b k h file ≡ true
  unfolding sound_record
  record_holds p = eq-eqb _ _ p.sum also p.head also p.set also p.limits also p.server also p.roaming also p.profile also p.rest

pub record Limits (r : Record) : Type 0 where
  pub state : r.state ≤ 2
  pub bits : r.bits ≤ 7
  pub mandatory : r.mandatory ≤ 4
  pub optional : r.optional ≤ 4
  pub public_some : 1 ≤ r.public
  pub public : r.public ≤ 128
  pub private_some : 1 ≤ r.private
  pub private : r.private ≤ 128
  pub server : r.server ≤ 96
  pub size : r.size ≤ 4096

pub limits_say : (r : Record) → sound_limits r ≡ true → Limits r
limits_say r e =
    let s = chain_says _ (_ ∷ _ ∷ _ ∷ _ ∷ _ ∷ _ ∷ _ ∷ _ ∷ _ ∷ []) e in
    record {
      state = leb-true _ _ (s 0);
      bits = leb-true _ _ (s 1);
      mandatory = leb-true _ _ (s 2);
      optional = leb-true _ _ (s 3);
      public_some = leb-true _ _ (s 4);
      public = leb-true _ _ (s 5);
      private_some = leb-true _ _ (s 6);
      private = leb-true _ _ (s 7);
      server = leb-true _ _ (s 8);
      size = leb-true _ _ (s 9);
    }

pub limits_hold : (r : Record) → Limits r → sound_limits r ≡ true
limits_hold r l =
    le-leb _ _ l.state also le-leb _ _ l.bits also le-leb _ _ l.mandatory also le-leb _ _ l.optional also le-leb _ _ l.public_some
    also le-leb _ _ l.public also le-leb _ _ l.private_some also le-leb _ _ l.private also le-leb _ _ l.server also le-leb _ _ l.size

pub record Zeros (b : List ℕ) (r : Record) : Type 0 where
  pub blank : zero_between b 2 4 ≡ true
  pub public : zero_between b (16 + r.public) 144 ≡ true
  pub private : zero_between b (144 + r.private) 272 ≡ true
  pub server : zero_between b (272 + r.server) 368 ≡ true
  pub mandatory : zero_between b (368 + 4 * r.mandatory) 384 ≡ true
  pub optional : zero_between b (384 + 4 * r.optional) 400 ≡ true
  pub last : zero_between b 412 508 ≡ true

module _ (b : List ℕ) (r : Record) where
  pub rest_says : sound_rest b r ≡ true → Zeros b r
  rest_says e =
      let s = chain_says (zero_between b 2 4) (past_names b r ∷ past_capabilities b r ∷ _ ∷ []) e in
      let n = chain_says (zero_between b (16 + r.public) 144) (_ ∷ _ ∷ []) (s 1) in
      let c = chain_says (zero_between b (368 + 4 * r.mandatory) 384) (_ ∷ []) (s 2) in
      record { blank = s 0; public = n 0; private = n 1; server = n 2; mandatory = c 0; optional = c 1; last = s 3 }

  pub rest_holds : Zeros b r → sound_rest b r ≡ true
  rest_holds p = p.blank also (p.public also p.private also p.server) also (p.mandatory also p.optional) also p.last

-- The header block: its tests, and what its numbers are within.
pub record HeaderTests (b : List ℕ) : Type 0 where
  pub counts : sound_counts (header_of b) ≡ true
  pub sum : sum_words b 128 ≡ 0
  pub head : is_header (header_of b) ≡ true
  pub numbers : sound_numbers (header_of b) ≡ true
  pub rest : sound_header_rest b (header_of b) ≡ true
  pub count : (header_of b).count ≤ 4096
  pub networks : (header_of b).networks ≤ 8
  pub keep : (header_of b).keep ≤ 1
  pub host : (header_of b).host ≤ 64
  pub realm : (header_of b).realm ≤ 64
  pub edition : sound_edition (header_of b) ≡ true
  pub places : sound_networks b (header_of b).networks ≡ true

pub header_says : (b : List ℕ) → sound_header b ≡ true → HeaderTests b
unfolding sound_header
header_says b e =
    let two = chain_says (sound_counts (header_of b)) (_ ∷ []) e in
    let c = chain_says _ (_ ∷ []) (two 0) in
    let tests : List Bool = is_header (header_of b) ∷ sound_numbers (header_of b) ∷ sound_header_rest b (header_of b) ∷ sound_networks b (header_of b).networks ∷ [] in
    let s = chain_says (eqb (sum_words b 128) 0) tests (two 1) in
    let n = chain_says (leb (header_of b).keep 1) (_ ∷ _ ∷ _ ∷ _ ∷ []) (s 2) in
    let i = chain_says (eqb (header_of b).kind 1) (_ ∷ _ ∷ []) (s 1) in
    record {
      counts = two 0;
      sum = eqb-true _ _ (s 0);
      head = s 1;
      numbers = s 2;
      rest = s 3;
      count = leb-true _ _ (c 0);
      networks = leb-true _ _ (c 1);
      keep = leb-true _ _ (n 0);
      host = leb-true _ _ (n 2);
      realm = leb-true _ _ (n 4);
      edition = i 1;
      places = s 4;
    }
