use Rattle.record.proofs.Sound.{header_count, header_networks}
use Rattle.table.proofs.Verdict.{table_short, table_header, table_length, table_records}
use Rattle.octets.specs.Standard.{rules}
use Rattle.table.proofs.check.Goals as goal
use Rattle.table.proofs.check.Goals.{then-not-sound-via-then-not-sound, then-not-sound-via-else-not-sound+then-t-h}

pub returns-then-t-lt-BLOCK : goal.returns-then-t-lt-BLOCK
returns-then-t-lt-BLOCK c = search (rules, table_short)

pub records-requires : goal.records-requires
records-requires c = search (rules, header_count, header_networks)

pub returns-then-not-sound : goal.returns-then-not-sound
returns-then-not-sound c =
    elim c.then-not-sound.branch [
      | then-not-sound-via-then-not-sound w ↦ search (rules, table_header)
      | then-not-sound-via-else-not-sound+then-t-h w ↦ search (rules, table_length)
    ]

pub returns : goal.returns
returns c = search (rules, table_records)
