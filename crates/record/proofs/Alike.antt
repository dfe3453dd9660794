-- Two blocks that are the same in a run of bytes are the same in every field that stands there.
use Rattle.octets.specs.Standard.{ℕ, ◌+◌, ◌*◌, ◌<◌, ◌≤◌, Bool, ◌||◌, not, ◌≡◌, ap, List, arith, leb, length, get_or, take, drop}
use Rattle.octets.specs.Number.{be16_at, be32_at}
use Rattle.octets.specs.Run.{zero_between}
use Rattle.octets.proofs.All.{all_alike}
use Rattle.octets.proofs.Numbers.{be16_alike, be32_alike}
use Rattle.octets.proofs.Parts.{part_alike}
use Rattle.octets.proofs.Runs.{zero_alike}
use Rattle.record.specs.Fields.{host_size, realm_size, host_of, realm_of, state_of, bits_of, roaming_of, mandatory_count, optional_count, server_size}
use Rattle.record.specs.Fields.{public_of, private_of, server_of, mandatory_of, optional_of, profile_of, set_of}
use Rattle.record.specs.Networks.{place_at, network_of, used_place, sound_place, same_byte, other_place, new_place, sound_networks}
use Rattle.record.specs.RecordBlock.{record_of}
use Rattle.record.proofs.OneSet.{SameMember}
use Rattle.record.proofs.Tests.{Limits}

pub record SameRun (b c : List ℕ) (from to : ℕ) : Type 0 where
  pub size : length c ≡ length b
  pub bytes : (i : ℕ) → from ≤ i → i < to → get_or c i 0 ≡ get_or b i 0

module _ (b c : List ℕ) {from to : ℕ} (same : SameRun b c from to) where
  pub run_within : (at end : ℕ) → from ≤ at → end ≤ to → SameRun b c at end
  run_within at end h l = record { size = same.size; bytes = λ i u v. same.bytes i (omega arith) (omega arith) }

  pub run_half : (at : ℕ) → from ≤ at → at + 2 ≤ to → be16_at c at ≡ be16_at b at
  run_half at h l = be16_alike c b at at (λ j m. same.bytes (at + j) (omega arith) (omega arith))

  pub run_word : (at : ℕ) → from ≤ at → at + 4 ≤ to → be32_at c at ≡ be32_at b at
  run_word at h l = be32_alike c b at at (λ j m. same.bytes (at + j) (omega arith) (omega arith))

  pub run_zeros : (at end : ℕ) → from ≤ at → end ≤ to → zero_between c at end ≡ zero_between b at end
  run_zeros at end h l = zero_alike c b at end (λ i u v. same.bytes i (omega arith) (omega arith))

  run_part : (at n : ℕ) → from ≤ at → at + n ≤ to → take n (drop at c) ≡ take n (drop at b)
  run_part at n h l = part_alike c b at n same.size (λ i u v. same.bytes i (omega arith) (omega arith))

  -- a name whose length stands in byte n
  run_name : (n at : ℕ) → from ≤ n → n < to → from ≤ at → at + get_or b n 0 ≤ to → take (get_or c n 0) (drop at c) ≡ take (get_or b n 0) (drop at b)
  run_name n at u v h l = rw (same.bytes n u v) (run_part at (get_or b n 0) h l)

-- What a record says of its subscriber and its state stands in bytes 8 to 399; its number stands before, its profile and its set stand after.
pub record SameFields (b c : List ℕ) : Type 0 where
  pub state : state_of c ≡ state_of b
  pub bits : bits_of c ≡ bits_of b
  pub roaming : roaming_of c ≡ roaming_of b
  pub public : public_of c ≡ public_of b
  pub private : private_of c ≡ private_of b
  pub server : server_of c ≡ server_of b
  pub mandatory : mandatory_of c ≡ mandatory_of b
  pub optional : optional_of c ≡ optional_of b

module _ (b c : List ℕ) (same : SameRun b c 8 400) where
  pub server_same : server_size b ≤ 96 → server_of c ≡ server_of b
  unfolding server_of
  server_same h = run_name b c same 15 272 (omega arith) (omega arith) (omega arith) (omega arith)

  -- the names and the counts are within their limits
  pub fields_same : Limits (record_of b) → SameFields b c
  unfolding public_of private_of mandatory_of optional_of record_of
  fields_same l =
      record {
        state = same.bytes 8 (omega arith) (omega arith);
        bits = same.bytes 9 (omega arith) (omega arith);
        roaming = same.bytes 10 (omega arith) (omega arith);
        public = run_name b c same 13 16 (omega arith) (omega arith) (omega arith) (omega (arith, l.public));
        private = run_name b c same 14 144 (omega arith) (omega arith) (omega arith) (omega (arith, l.private));
        server = server_same l.server;
        mandatory =
            rw (same.bytes 11 (omega arith) (omega arith))
            (run_part b c same 368 (4 * mandatory_count b) (omega arith) (omega (arith, l.mandatory)));
        optional =
            rw (same.bytes 12 (omega arith) (omega arith))
            (run_part b c same 384 (4 * optional_count b) (omega arith) (omega (arith, l.optional)));
      }

pub member_same : (b c : List ℕ) → SameFields b c → set_of c ≡ set_of b → SameMember b c
member_same b c f e = record { set = e; private = f.private; state = f.state; bits = f.bits; server = f.server }

pub profile_same : (b c : List ℕ) → SameRun b c 400 406 → (file : List ℕ) → profile_of c file ≡ profile_of b file
unfolding profile_of
profile_same b c same file = rw (run_word b c same 400 (omega arith) (omega arith), run_half b c same 404 (omega arith) (omega arith))

-- A header's names and its places of networks stand there too.
module _ (b c : List ℕ) (same : SameRun b c 8 400) where
  pub host_same : host_size b ≤ 64 → host_of c ≡ host_of b
  unfolding host_of
  host_same h = run_name b c same 13 16 (omega arith) (omega arith) (omega arith) (omega arith)

  pub realm_same : realm_size b ≤ 64 → realm_of c ≡ realm_of b
  unfolding realm_of
  realm_same h = run_name b c same 14 80 (omega arith) (omega arith) (omega arith) (omega arith)

  pub network_same : (i : ℕ) → i < 8 → get_or b (place_at i) 0 ≤ 31 → network_of c i ≡ network_of b i
  unfolding network_of
  network_same i h l = run_name b c same (place_at i) (place_at i + 1) (omega arith) (omega arith) (omega arith) (omega arith)

  place_byte : (i j : ℕ) → i < 8 → j < 32 → get_or c (place_at i + j) 0 ≡ get_or b (place_at i + j) 0
  place_byte i j h l = same.bytes (place_at i + j) (omega arith) (omega arith)

  place_same : (n i : ℕ) → i < 8 → sound_place c n i ≡ sound_place b n i
  unfolding sound_place used_place
  place_same n i h =
      rw (
        same.bytes (place_at i) (omega arith) (omega arith),
        run_zeros b c same (place_at i + 1 + get_or b (place_at i) 0) (place_at i + 32) (omega arith) (omega arith),
        run_zeros b c same (place_at i) (place_at i + 32) (omega arith) (omega arith),
      )

  other_same : (j i : ℕ) → j < 8 → i < 8 → other_place c j i ≡ other_place b j i
  unfolding other_place same_byte
  other_same j i h l = ap not (all_alike _ _ 32 (λ x m. rw (place_byte i x l m, place_byte j x h m)))

  new_same : (n j : ℕ) → j < 8 → new_place c n j ≡ new_place b n j
  unfolding new_place
  new_same n j h = ap (λ (x : Bool). leb n j || x) (all_alike (other_place c j) (other_place b j) j (λ i l. other_same j i h (omega arith)))

  pub networks_same : (n : ℕ) → sound_networks c n ≡ sound_networks b n
  unfolding sound_networks
  networks_same n = rw (all_alike (sound_place c n) (sound_place b n) 8 (place_same n), all_alike (new_place c n) (new_place b n) 8 (new_same n))
