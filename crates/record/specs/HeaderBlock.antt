-- "Header: 0 kind 1; 1 edition 1; 4-7 block number 0; 8-11 count; 12 keep (0 or 1); 13, 14 lengths of host and realm (1 to 64);
-- 15 networks (0 to 8); 16-79 host; 80-143 realm; 144-399 eight places of 32"; 02 [5]: edition 2, with the issue number in bytes 408-411
use Rattle.std.specs.Prelude.{ℕ, ◌+◌, Bool, ◌&&◌, ◌||◌, List, get_or, eqb, leb}
use Rattle.octets.specs.Number.{be32_at}
use Rattle.octets.specs.Run.{zero_between}
use Rattle.octets.specs.Sum.{sum_words}
use Rattle.record.specs.Fields.{edition_of, count_of, keep_of, host_size, realm_size, networks_of, issue_of}
use Rattle.record.specs.Networks.{sound_networks}
use Rattle.record.specs.declared.header.Header.{Header}

unfoldable pub header_of : List ℕ → Header
header_of b =
    record {
      kind = get_or b 0 0;
      edition = edition_of b;
      number = be32_at b 4;
      count = count_of b;
      keep = keep_of b;
      host = host_size b;
      realm = realm_size b;
      networks = networks_of b;
      issue = issue_of b;
    }

-- "0 to 4,096" records; networks "0 to 8"
abbrev pub sound_counts : Header → Bool
sound_counts h = leb h.count 4096 && leb h.networks 8

-- edition 1 names no issue number: those bytes are zero
abbrev pub sound_edition : Header → Bool
sound_edition h = eqb h.edition 1 && eqb h.issue 0 || eqb h.edition 2

-- "0 kind 1; 1 edition ..; 4-7 block number 0"
abbrev pub is_header : Header → Bool
is_header h = eqb h.kind 1 && sound_edition h && eqb h.number 0

abbrev pub sound_numbers : Header → Bool
sound_numbers h = leb h.keep 1 && leb 1 h.host && leb h.host 64 && leb 1 h.realm && leb h.realm 64

-- "Bytes not named are zero, and so are unused places in a field."
abbrev pub sound_header_rest : List ℕ → Header → Bool
sound_header_rest b h =
    zero_between b 2 4 && zero_between b (16 + h.host) 80 && zero_between b (80 + h.realm) 144 && zero_between b 400 408 && zero_between b 412 508

-- a sound header block; the counts stand first, since the check of the records rests on them
unfoldable pub sound_header : List ℕ → Bool
sound_header b =
    sound_counts (header_of b)
    && (eqb (sum_words b 128) 0 && is_header (header_of b) && sound_numbers (header_of b) && sound_header_rest b (header_of b)
    && sound_networks b (header_of b).networks)
