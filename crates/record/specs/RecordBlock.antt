-- "Record: 0 kind 2; 1 edition 1; 4-7 block number; 8 state; 9 bits; 10 roaming; 11, 12 counts of mandatory and optional capabilities;
-- 13, 14, 15 lengths of public identity, private identity, server name; 16-143, 144-271, 272-367 these names; 368-383, 384-399 capabilities;
-- 400-403 and 404-405 profile start and length"; 02 [5]: edition 2, with the set number in bytes 406-407 and the issue number in bytes 408-411
use Rattle.std.specs.Prelude.{ℕ, ◌+◌, ◌*◌, ◌^◌, Bool, ◌&&◌, ◌||◌, not, List, get_or, eqb, leb, ltb}
use Rattle.octets.specs.Number.{be32_at}
use Rattle.octets.specs.Run.{zero_between}
use Rattle.octets.specs.Sum.{sum_words}
use Rattle.record.specs.Fields.{edition_of, state_of, bits_of, roaming_of, mandatory_count, optional_count, public_size, private_size, server_size, profile_start}
use Rattle.record.specs.Fields.{profile_size, set_of, issue_of, pending}
use Rattle.record.specs.declared.header.Header.{Header}
use Rattle.record.specs.declared.subscriber.Record.{Record}

unfoldable pub record_of : List ℕ → Record
record_of b =
    record {
      kind = get_or b 0 0;
      edition = edition_of b;
      number = be32_at b 4;
      state = state_of b;
      bits = bits_of b;
      roaming = roaming_of b;
      mandatory = mandatory_count b;
      optional = optional_count b;
      public = public_size b;
      private = private_size b;
      server = server_size b;
      start = profile_start b;
      size = profile_size b;
      set = set_of b;
      issue = issue_of b;
    }

-- "0 kind 2; 1 edition ..; 4-7 block number"; "a table that mixes editions or issue numbers is unsound": each block has its header's
abbrev pub is_record : Record → ℕ → Header → Bool
is_record r k h = eqb r.kind 2 && eqb r.edition h.edition && eqb r.number k && eqb r.issue h.issue

-- "Edition 1 remains readable, with every set 0": it names no set, and those bytes are zero
abbrev pub sound_set : Record → Bool
sound_set r = eqb r.set 0 || eqb r.edition 2

-- state 0 to 2; bits 0 to 2 and no others; capabilities "0 to 4 each"; identities "1 to 128", server name "0 to 96"; profile length "at most 4,096"
abbrev pub sound_limits : Record → Bool
sound_limits r =
    leb r.state 2 && leb r.bits 7 && leb r.mandatory 4 && leb r.optional 4 && leb 1 r.public && leb r.public 128 && leb 1 r.private
    && leb r.private 128 && leb r.server 96 && leb r.size 4096

-- "State 1 or 2 needs a server name; state 0 has one exactly if pending is set."
abbrev pub server_fits : ℕ → ℕ → ℕ → Bool
server_fits size state bits = eqb size 0 && (eqb state 0 && not (pending bits)) || ltb 0 size && (ltb 0 state || pending bits)

abbrev pub sound_server : Record → Bool
sound_server r = server_fits r.server r.state r.bits

-- "roaming, bit n for network n, none past the last"
abbrev pub sound_roaming : Record → ℕ → Bool
sound_roaming r networks = ltb r.roaming (2 ^ networks)

-- "start + length within the profile file"
abbrev pub sound_profile : Record → ℕ → Bool
sound_profile r file = leb (r.start + r.size) file

-- "Bytes not named are zero, and so are unused places in a field."
abbrev pub past_names : List ℕ → Record → Bool
past_names b r = zero_between b (16 + r.public) 144 && zero_between b (144 + r.private) 272 && zero_between b (272 + r.server) 368

abbrev pub past_capabilities : List ℕ → Record → Bool
past_capabilities b r = zero_between b (368 + 4 * r.mandatory) 384 && zero_between b (384 + 4 * r.optional) 400

abbrev pub sound_rest : List ℕ → Record → Bool
sound_rest b r = zero_between b 2 4 && past_names b r && past_capabilities b r && zero_between b 412 508

-- block k is a sound record, under a header and beside a profile file of such a length
unfoldable pub sound_record : List ℕ → ℕ → Header → ℕ → Bool
sound_record b k h file =
    eqb (sum_words b 128) 0 && is_record (record_of b) k h && sound_set (record_of b) && sound_limits (record_of b) && sound_server (record_of b)
    && sound_roaming (record_of b) h.networks && sound_profile (record_of b) file && sound_rest b (record_of b)
