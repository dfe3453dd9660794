-- What a request can see of a block is the same of one that is alike, as long as the names keep to their places; in a sound table they do.
use Rattle.octets.specs.Standard.{ℕ, ◌<◌, ◌≤◌, ◌≡◌, sym, ◌∙◌, List, arith, get_or}
use Rattle.record.specs.Fields.{host_size, realm_size, networks_of, server_size, server_of}
use Rattle.record.specs.Networks.{place_at}
use Rattle.record.specs.RecordBlock.{record_of}
use Rattle.record.proofs.Alike.{SameRun, run_within, run_half, SameFields, fields_same, server_same, profile_same, host_same, realm_same}
use Rattle.record.proofs.Alike.{network_same}
use Rattle.record.proofs.Tests.{Limits}
use Rattle.seen_alike.specs.Alike.{Alike}
use Rattle.seen_alike.specs.Shown.{SameHeader, SameRecord}

module _ (b c : List ℕ) (alike : Alike b c) where
  run : SameRun b c 2 408
  run = record { size = alike.other_whole ∙ sym alike.whole; bytes = λ i h k. sym (alike.bytes i h k) }

  fields : SameRun b c 8 400
  fields = run_within b c run 8 400 (omega arith) (omega arith)

  pub server_alike : server_size b ≤ 96 → server_of b ≡ server_of c
  server_alike h = sym (server_same b c fields h)

  pub header_same : host_size b ≤ 64 → realm_size b ≤ 64 → networks_of b ≤ 8 → ((i : ℕ) → i < networks_of b → get_or b (place_at i) 0 ≤ 31) → SameHeader b c
  header_same host realm few room =
      record {
        keep = alike.bytes 12 (omega arith) (omega arith);
        host = sym (host_same b c fields host);
        realm = sym (realm_same b c fields realm);
        networks = alike.bytes 15 (omega arith) (omega arith);
        names = λ i l. sym (network_same b c fields i (omega arith) (room i l));
      }

  pub record_same : (file : List ℕ) → Limits (record_of b) → SameRecord file file b c
  record_same file l =
      let f : SameFields b c = fields_same b c fields l in
      record {
        state = sym f.state;
        bits = sym f.bits;
        roaming = sym f.roaming;
        size = alike.bytes 15 (omega arith) (omega arith);
        public = sym f.public;
        private = sym f.private;
        server = sym f.server;
        mandatory = sym f.mandatory;
        optional = sym f.optional;
        profile = sym (profile_same b c (run_within b c run 400 406 (omega arith) (omega arith)) file);
        set = sym (run_half b c run 406 (omega arith) (omega arith));
      }
