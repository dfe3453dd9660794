use Rattle.blocks.proofs.First.{first_bad_lem, first_more, first_none, below_stop, past_stop}
use Rattle.plain_table.proofs.Tables.{table_refused, table_count, table_networks, table_size, table_starts, table_room}
use Rattle.octets.specs.Standard.{◌+◌, rules, arith}
use Rattle.table.specs.Check.{sound_at}
use Rattle.plain_table.proofs.check.Goals as goal

pub returns-then-not-header_sound : goal.returns-then-not-header_sound
returns-then-not-header_sound c = search (rules, table_refused)

pub block-requires : goal.block-requires
block-requires c = search (rules, table_room)

pub loop-k-init : goal.loop-k-init
loop-k-init c = (
  search (rules, table_count),
  search rules,
  search (rules, table_networks),
  search (rules, table_size),
  search (rules, table_starts),
)

pub returns-then-not-record_sound : goal.returns-then-not-record_sound
returns-then-not-record_sound c = search (rules, first_bad_lem, below_stop)

pub loop-k-preserved : goal.loop-k-preserved
loop-k-preserved c = search (rules, first_more, below_stop)

pub returns-else-not-record_sound : goal.returns-else-not-record_sound
returns-else-not-record_sound c =
    first_none (sound_at c.args.t.now c.read-h.result c.args.file) c.read-h.result.count (c.read-h.result.count + 1) (c.loop-k.k + 1) (search (rules, first_more, below_stop)) (omega arith)

pub returns-else-not-header_sound : goal.returns-else-not-header_sound
returns-else-not-header_sound c = search (rules, first_none, past_stop)
