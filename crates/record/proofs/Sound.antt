-- The tests of a header together, those of a record, what a sound header says of its counts, and the bits.
use Rattle.octets.specs.Standard.{ℕ, ◌+◌, ◌*◌, ◌≤◌, Bool, true, false, ◌&&◌, and-true, and-false, and_assoc, ◌≡◌, refl, sym, ◌∙◌, List, [], ◌∷◌}
use Rattle.octets.specs.Standard.{bit_or, eqb, leb, leb-true}
use Rattle.octets.specs.Number.{be16_at}
use Rattle.octets.specs.Run.{zero_between}
use Rattle.octets.specs.Sum.{sum_words}
use Rattle.octets.proofs.Chains.{chain_says}
use Rattle.octets.proofs.Runs.{or_zero, pair_zero}
use Rattle.record.specs.Fields.{bits_of, barred, unregistered_services}
use Rattle.record.specs.HeaderBlock.{header_of, sound_counts, is_header, sound_numbers, sound_header_rest, sound_header}
use Rattle.record.specs.Networks.{sound_networks}
use Rattle.record.specs.RecordBlock.{record_of, is_record, sound_set, sound_limits, sound_server, sound_roaming, sound_profile, sound_rest, sound_record}
use Rattle.record.specs.RecordBlock.{past_names, past_capabilities}
use Rattle.record.specs.declared.header.Header.{Header}
use Rattle.record.specs.declared.subscriber.Record.{Record}
use Rattle.record.proofs.Tests.{Limits, limits_say, HeaderTests, header_says}

-- A header's numbers are tested first, and its bytes only where the numbers are within their limits.
module _ (q : Header) (c t n : Bool) (en : n ≡ sound_numbers q) (good : (c && t && n) ≡ true) where
  numbers : sound_numbers q ≡ true
  numbers = sym en ∙ chain_says c (t ∷ n ∷ []) good 2

  pub host_within : q.host ≤ 64
  host_within = leb-true _ _ (chain_says (leb q.keep 1) (_ ∷ _ ∷ _ ∷ _ ∷ []) numbers 2)

  pub realm_within : q.realm ≤ 64
  realm_within = leb-true _ _ (chain_says (leb q.keep 1) (_ ∷ _ ∷ _ ∷ _ ∷ []) numbers 4)

module _ (b : List ℕ) (q : Header) (c t n : Bool) (eq : q ≡ header_of b) (ec : c ≡ sound_counts q) (et : t ≡ is_header q) (en : n ≡ sound_numbers q) where
  header_whole : ((c && t && n) && (eqb (sum_words b 128) 0 && sound_header_rest b q && sound_networks b q.networks)) ≡ sound_header b
  unfolding sound_header
  header_whole = ordered c t n (eqb (sum_words b 128) 0) (sound_header_rest b q) (sound_networks b q.networks) ∙ rw (en, et, ec, eq)
    where
      ordered : (c t n s r w : Bool) → ((c && t && n) && (s && r && w)) ≡ (c && (s && t && n && r && w))
      ordered false t n s r w = refl
      ordered true t n false r w = rw and-false
      ordered true t n true r w = simp and_assoc

  pub header_bytes_lem : (s : ℕ) (r w : Bool) → (c && t && n) ≡ true → s ≡ sum_words b 128 → r ≡ sound_header_rest b q → w ≡ sound_networks b q.networks
      → (eqb s 0 && r && w) ≡ sound_header b
  header_bytes_lem s r w g es er ew = rw (es, er, ew) (rw g at header_whole)

  pub header_refused : (c && t && n) ≡ false → false ≡ sound_header b
  header_refused g = rw g at header_whole

-- What is to be zero in a header, and in a record.
pub header_rest : (b : List ℕ) (h : Header) (z c d e f : ℕ) → z ≡ be16_at b 2 → eqb c 0 ≡ zero_between b (16 + h.host) 80
    → eqb d 0 ≡ zero_between b (80 + h.realm) 144 → eqb e 0 ≡ zero_between b 400 408 → eqb f 0 ≡ zero_between b 412 508
    → eqb (bit_or (bit_or (bit_or (bit_or z c) d) e) f) 0 ≡ sound_header_rest b h
header_rest b h z c d e f ez ec ed ee ef = simp or_zero (rw (ez, pair_zero b 2, ec, ed, ee, ef))

module _ (b : List ℕ) (r : Record) where
  pub names_past : (c d e : ℕ) → eqb c 0 ≡ zero_between b (16 + r.public) 144 → eqb d 0 ≡ zero_between b (144 + r.private) 272
      → eqb e 0 ≡ zero_between b (272 + r.server) 368 → eqb (bit_or (bit_or c d) e) 0 ≡ past_names b r
  names_past c d e ec ed ee = simp or_zero (rw (ec, ed, ee))

  pub capabilities_past : (c d : ℕ) → eqb c 0 ≡ zero_between b (368 + 4 * r.mandatory) 384 → eqb d 0 ≡ zero_between b (384 + 4 * r.optional) 400
      → eqb (bit_or c d) 0 ≡ past_capabilities b r
  capabilities_past c d ec ed = simp or_zero (rw (ec, ed))

  pub record_rest : (z c d e : ℕ) → z ≡ be16_at b 2 → eqb c 0 ≡ past_names b r → eqb d 0 ≡ past_capabilities b r → eqb e 0 ≡ zero_between b 412 508
      → eqb (bit_or (bit_or (bit_or z c) d) e) 0 ≡ sound_rest b r
  record_rest z c d e ez ec ed ee = simp or_zero (rw (ez, pair_zero b 2, ec, ed, ee))

-- A record's numbers come first likewise.
module _ (q : Record) (h t l n r w : Bool) (el : l ≡ sound_limits q) (good : (h && t && l && n && r && w) ≡ true) where
  limits : Limits q
  limits = limits_say q (sym el ∙ chain_says h (t ∷ l ∷ n ∷ r ∷ w ∷ []) good 2)

  pub public_within : q.public ≤ 128
  public_within = limits.public

  pub private_within : q.private ≤ 128
  private_within = limits.private

  pub server_within : q.server ≤ 96
  server_within = limits.server

  pub mandatory_within : q.mandatory ≤ 4
  mandatory_within = limits.mandatory

  pub optional_within : q.optional ≤ 4
  optional_within = limits.optional

module _ (b : List ℕ) (k : ℕ) (x : Header) (file : ℕ) (q : Record) (h t l n r w : Bool) (eq : q ≡ record_of b) (eh : h ≡ is_record q k x) (et : t ≡ sound_set q)
    (el : l ≡ sound_limits q) (en : n ≡ sound_server q) (er : r ≡ sound_roaming q x.networks) (ew : w ≡ sound_profile q file) where
  record_whole : (eqb (sum_words b 128) 0 && (h && t && l && n && r && w) && sound_rest b q) ≡ sound_record b k x file
  unfolding sound_record
  record_whole = first (eqb (sum_words b 128) 0) h t l n r w (sound_rest b q) ∙ rw (ew, er, en, el, et, eh, eq)
    where
      first : (s h t l n r w z : Bool) → (s && (h && t && l && n && r && w) && z) ≡ (s && h && t && l && n && r && w && z)
      first true h t l n r w z = refl
      first false h t l n r w z = refl

  pub record_bytes_lem : (s : ℕ) (z : Bool) → (h && t && l && n && r && w) ≡ true → s ≡ sum_words b 128 → z ≡ sound_rest b q
      → (eqb s 0 && z) ≡ sound_record b k x file
  record_bytes_lem s z g es ez = rw (es, ez) (rw (g, and-true) at record_whole)

  pub record_refused : (h && t && l && n && r && w) ≡ false → false ≡ sound_record b k x file
  record_refused g = rw (g, and-false) at record_whole

module _ (b : List ℕ) (h : Header) {x : Bool} (is : h ≡ header_of b) (e : x ≡ sound_header b) (good : x ≡ true) where
  says : HeaderTests b
  says = header_says b (sym e ∙ good)

  pub header_count : h.count ≤ 4096
  header_count = rw is says.count

  pub header_networks : h.networks ≤ 8
  header_networks = rw is says.networks

-- A bit of a record that was read is the block's.
module _ (b : List ℕ) (r : Record) (is : r ≡ record_of b) where
  pub bits_barred : {x : Bool} → x ≡ barred r.bits → x ≡ barred (bits_of b)
  unfolding record_of
  bits_barred e = e ∙ rw is

  pub bits_services : {x : Bool} → x ≡ unregistered_services r.bits → x ≡ unregistered_services (bits_of b)
  unfolding record_of
  bits_services e = e ∙ rw is
